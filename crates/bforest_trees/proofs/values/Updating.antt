-- Replacing the value of a key: the answers of `update`, and of `update_or_insert_under` where the key is there.
use Rattle.bforest_core.proofs.union.Updating.{key-used, updated, valued-here}
use Rattle.bforest_core.proofs.union.Written.{keys-written, place-written}
use Rattle.bforest_core.proofs.walks.LeafSearch.{some-mapped}
use Rattle.bforest_core.specs.Leaves.{LooksInLeaf}
use Rattle.bforest_core.specs.Levels.{flat}
use Rattle.bforest_core.specs.Paths.{list_under}
use Rattle.bforest_core.specs.Place.{IsAt}
use Rattle.bforest_core.specs.Table.{IsEntryAt, IsUsed, with_value_at}
use Rattle.bforest_core.specs.Trees.{IsUnion, is_root, tree_of}
use Rattle.bforest_core.specs.Updates.{UpdatesUnder}
use Rattle.bforest_nodes.proofs.Found.{put-present}
use Rattle.bforest_nodes.specs.Entries.{IsIncreasing, place, put, value_for}
use Rattle.bforest_trees.proofs.Changed.{becomes, list-root, live-root, root-live, sizes-new, sizes-root}
use Rattle.bforest_trees.specs.Calls.{Updates}
use Rattle.bforest_trees.proofs.LookedUp.{found-put, others-put}
use Rattle.bforest_trees.specs.Forest.{Becomes, Forest, list_at, sizes_at}
use Rattle.std.proofs.Common.{IsTrue, List, None, Option, Some, [], ap, length, refl, subst, sym, ◌∙◌, ◌≡◌, ◌≢◌, ℕ}
use Rattle.std.specs.Cmp.{IsTotalOrder}
use Rattle.std.specs.Fn.{FnOnceReturns, Once}
use Rattle.std.specs.List.Sorted.{IsStrictlySortedBy}
use Rattle.std.specs.Map.{keys_of}
use Rattle.std.specs.Option.{is_some}
use Rattle.std.specs.declared.cmp.Ordering.{Ordering}

module _ {F K X : Type 0} {g : Once F (X × Unit {0}) X} {most : ℕ} {cmp : K → K → Ordering} {f f' : Forest K X} {n : ℕ} {k : K} {q : F} where
  -- what a call that replaces a value leaves is a union of trees
  pub updated-union : {result : Option X} → IsUnion most f → UpdatesUnder g most cmp f f' n k q result → IsUnion most f'
  updated-union {result = Some w} union u = u.written.union
  updated-union {result = None} union u = subst (IsUnion most) (sym (u.same refl)) union

  -- what a call that replaces a value returns and leaves, where the handle has this root
  pub updates : {result : Option X} → IsUnion most f → IsTrue (is_root f.nodes n) → IsTotalOrder cmp → IsIncreasing cmp (list_at f n) → UpdatesUnder g most cmp f f' n k q result → Updates g cmp f (Some n) k q result f' (Some n)
  updates {result = Some w} union root total up u = let es = flat (tree_of f.nodes n).leaves in let keys : keys_of (list_at f' n) ≡ keys_of (list_at f n) =
      ap keys_of (list-root f' n u.written.root_is ∙ u.written.list_is ∙ put-present cmp es k w (sym (some-mapped (λ (e : K × X). e.1) _) ∙ ap is_some u.called.1))
      ∙ keys-written es (place cmp es k) w ∙ ap keys_of (sym (list-root f n root)) in
      let put : Becomes f (Some n) f' (Some n) (put cmp (list_at f n) k w) = rw (list-root f n root) (becomes most f f' n n _ _ u.written) in record {
        called = rw (list-root f n root) u.called;
        put = put;
        found = found-put total _ up k w put.list;
        others = others-put total _ up k w put.list;
        handle = refl;
        sizes = sizes-new most f f' n n _ _ u.written ∙ sym (sizes-root f n root);
        slots = u.slots;
        free = ap length u.chain;
        memory = u.memory;
        absent = λ none. absurd cc;
        absent_forest = λ none. absurd cc;
        live = root-live most f' n u.written.union u.written.root_is;
        increasing = λ order rises. subst (IsStrictlySortedBy order) (sym keys) rises;
      }
  updates {result = None} union root total up u = let same = u.same refl in record {
    called = tt;
    put = tt;
    found = tt;
    others = λ q ne. ap (λ z. value_for cmp (list_at z n) q) same;
    handle = refl;
    sizes = ap (λ z. sizes_at z n) same;
    slots = u.slots;
    free = ap length u.chain;
    memory = u.memory;
    absent = λ none. rw (list-root f n root) (u.absent refl);
    absent_forest = λ none. same;
    live = subst (λ z. list_at z n ≢ []) (sym same) (root-live most f n union root);
    increasing = λ order rises. subst (λ z. IsIncreasing order (list_at z n)) (sym same) rises;
  }

-- the leaf in which a search for a key ends was searched for it, and has this value
module _ {K X : Type 0} (most : ℕ) (cmp : K → K → Ordering) {f : Forest K X} (union : IsUnion most f) {n : ℕ} (live : list_at f n ≢ []) {k : K} {leaf : ℕ} {path indices : List ℕ} {size : ℕ} {found : ℕ × Option X}
    (looked : LooksInLeaf cmp f n k leaf path indices size found) {v : X} (is : found.1 ≡ Some v) where
  abbrev root : IsTrue (is_root f.nodes n)
  root = live-root f n live

  value : value_for cmp (list_under f n) k ≡ Some v
  value = sym looked.value ∙ is

  entry : IsAt (tree_of f.nodes n).leaves leaf found.0 (place cmp (list_under f n) k)
  entry = looked.present (valued-here cmp (list_under f n) k value)

  -- the value that was found is the key's value in the list
  pub is-value : value_for cmp (list_at f n) k ≡ Some v
  is-value = rw (list-root f n root) value

  -- the leaf has an entry there
  pub entry-there : IsUsed f leaf × IsEntryAt f.nodes leaf found.0
  entry-there = key-used cmp union n root k value entry

  -- a value that is written there leaves a union of trees
  pub written-there : (w : X) → IsUnion most (with_value_at f leaf found.0 w)
  written-there w = (place-written _ union root entry w).0.union

  -- what a call of `q` with the value returned is written there
  pub updates-there : {F : Type 0} {g : Once F (X × Unit {0}) X} {q : F} {w : X} → IsTotalOrder cmp → IsIncreasing cmp (list_at f n) → FnOnceReturns g q (v, tt) w → Updates g cmp f (Some n) k q (Some w) (with_value_at f leaf found.0 w) (Some n)
  updates-there total up says = updates union root total up (updated cmp union n root k value entry says)
