-- A change of the tree under a root, stated without a witness: by roots and the trees computed from them.
use Rattle.bforest_core.proofs.Words.{◌≡◌, ℕ, ◌<◌, ◌≢◌, IsTrue, List, [], ◌∷◌, ◌++◌, refl, sym, subst, append-nil, arith, Changes, flat, sizes_of, flat_map}
use Rattle.bforest_core.proofs.{Words.{Table, Tree, count, root_of, numbers_of, tree_of, is_root, IsUnion, OthersKeep, Frees, Draws}, table.Tables.count-same}
use Rattle.bforest_core.proofs.{table.Trading.apart_from, union.Exchange.{IsPlanted, Traded, traded, exchange-trees, others-keep, roots-gone}}
use Rattle.bforest_core.proofs.{union.Forests.tree-back, union.Unions.rooted}

-- a root occurs in the list of itself
pub one_root : (root : ℕ) → 0 < count root (root ∷ [])
one_root root = omega (arith, count-same root [])

module _ {K V : Type 0} where
  -- the tree under a root was replaced by another, perhaps under another root
  pub record Exchanged (most : ℕ) (old new : Table K V) (root : ℕ) (tree' : Tree K V) : Type 0 where
    pub union : IsUnion most new
    pub root_is : IsTrue (is_root new.nodes (root_of tree'))
    pub tree_is : tree_of new.nodes (root_of tree') ≡ tree'
    pub others : OthersKeep old.nodes new.nodes root (root_of tree')
    pub old_gone : root ≢ root_of tree' → ¬ IsTrue (is_root new.nodes root)
    pub new_came : root ≢ root_of tree' → ¬ IsTrue (is_root old.nodes (root_of tree'))

  -- the numbers of a list of one tree
  pub one_tree : (tree : Tree K V) → numbers_of tree ≡ flat_map numbers_of (tree ∷ [])
  one_tree tree = sym (append-nil (numbers_of tree))

  exchanged_by : {most : ℕ} (old new : Table K V) (root : ℕ) {tree' : Tree K V} → IsUnion most old → IsTrue (is_root old.nodes root) → IsPlanted most new.nodes tree' → Traded old new (numbers_of (tree_of old.nodes root)) (numbers_of tree') → Exchanged most old new root tree'
  exchanged_by {most} old new root {tree'} union is p t = let r = rooted most old root union is in let tree = tree_of old.nodes root in
      let one = rw (one_tree tree) at (subst (Traded old new (numbers_of tree)) (one_tree tree') t) in
      let g = exchange-trees r.before (tree ∷ []) (tree' ∷ []) r.after r.forest (p, tt) one in
      let back = tree-back r.before tree' r.after (root_of tree') g refl refl in rw (← r.root_is) (record {
        union = (r.before ++ tree' ∷ r.after, g);
        root_is = back.1;
        tree_is = back.0;
        others = λ other ne ne'. others-keep r.before (tree ∷ []) (tree' ∷ []) r.after r.forest g other (apart_from other (root_of tree) ne) (apart_from other (root_of tree') ne');
        old_gone = λ ne. roots-gone r.before (tree ∷ []) (tree' ∷ []) r.after r.forest g (root_of tree) (one_root (root_of tree)) (apart_from (root_of tree) (root_of tree') ne);
        new_came = λ ne. roots-gone r.before (tree' ∷ []) (tree ∷ []) r.after g r.forest (root_of tree') (one_root (root_of tree')) (apart_from (root_of tree') (root_of tree) (λ e. ne (sym e)));
      })

  -- the tree after an insertion under a root
  pub exchanged : {most : ℕ} {old new : Table K V} (root : ℕ) {tree' : Tree K V} {taken : List ℕ} → IsUnion most old → IsTrue (is_root old.nodes root) → IsPlanted most new.nodes tree' →
      Draws old new (numbers_of (tree_of old.nodes root)) (numbers_of tree') taken → Exchanged most old new root tree'
  exchanged {old = old} {new} root union is p d = exchanged_by old new root union is p (traded new.chain union.1.free (rooted _ old root union is).apart (sym d.chain_is) refl d)

  -- the tree after a removal under a root
  pub exchanged-freed : {most : ℕ} {old new : Table K V} (root : ℕ) {tree' : Tree K V} {freed : List ℕ} → IsUnion most old → IsTrue (is_root old.nodes root) → IsPlanted most new.nodes tree' →
      Frees old new (numbers_of (tree_of old.nodes root)) (numbers_of tree') freed → Exchanged most old new root tree'
  exchanged-freed {old = old} {new} root union is p d = exchanged_by old new root union is p (traded old.chain union.1.free (rooted _ old root union is).apart refl d.chain_is d)

  -- a replaced tree as a change of the table
  pub exchanged-changes : {most old new root root' tree' : _} → Exchanged most old new root tree' → root_of tree' ≡ root' → new.limit ≡ old.limit → Changes most old new root root' (flat tree'.leaves) (sizes_of tree')
  exchanged-changes e is limit_is = rw (← is) (record {
    union = e.union;
    root_is = e.root_is;
    list_is = cc;
    sizes_are = cc;
    others = e.others;
    old_gone = e.old_gone;
    new_came = e.new_came;
    limit_is = limit_is;
  })

  -- the root whose tree lost all its entries is no root
  pub uprooted-union : (most : ℕ) {old new : Table K V} (root : ℕ) {freed : _} → IsUnion most old → IsTrue (is_root old.nodes root) → Frees old new (numbers_of (tree_of old.nodes root)) [] freed →
      IsUnion most new × (¬ IsTrue (is_root new.nodes root)) × OthersKeep old.nodes new.nodes root root
  uprooted-union most {old} {new} root union is frees = let r = rooted most old root union is in let tree = tree_of old.nodes root in
      let t = traded old.chain union.1.free r.apart refl frees.chain_is frees in
      let g = exchange-trees r.before (tree ∷ []) [] r.after r.forest tt (rw (← one_tree tree) t) in (
        (r.before ++ r.after, g),
        rw (← r.root_is) (roots-gone r.before (tree ∷ []) [] r.after r.forest g (root_of tree) (one_root (root_of tree)) refl),
        rw (← r.root_is) (λ other ne ne'. others-keep r.before (tree ∷ []) [] r.after r.forest g other (apart_from other (root_of tree) ne) refl),
      )
