-- The effect of a removal from the tree under a root on the table.
use Rattle.bforest_core.proofs.Words.{[], length-remove, IsTrue, ◌≡◌, ℕ, suc, ◌<◌, Option, Some, None, IfSome, List, ◌++◌, length, refl, sym, ap, ◌∙◌, subst}
use Rattle.bforest_core.proofs.Words.{inl, inr, append_assoc, length-append, arith, eqb_tells, length-map, Table, flat, sizes, Tree, sizes_of, count}
use Rattle.bforest_core.proofs.Words.{root_of, numbers_of, Stands, tree_of, IsUnion, is_root, Shrinks, StandsUnder, node_count, StandsIn, Removed, Emptied, Changes, Reduced}
use Rattle.bforest_core.proofs.Words.{◌∷◌, node, leaf_of, without_next}
use Rattle.bforest_core.specs.{Change.{GivesInOrder, GivesNodes}, Paths.RemovesNext}
use Rattle.std.specs.Prelude.{◌↔◌, ◌≢◌}
use Rattle.bforest_core.proofs.{Words.{IsPathAt, OnEntry, Path, RemovesHere}, union.Roots.{exchanged-changes, exchanged-freed, uprooted-union}}
use Rattle.bforest_core.proofs.{union.Account.{length-same, nodes-count}, union.Forests.root-among, union.Exchange.IsPlanted, union.Unions.rooted}
use Rattle.bforest_core.proofs.{rows.LevelRows.flat-append, table.Tables.count-append}

-- an implication, applied to the value of an option, if any
pub if_some : {A : Type 0} (P Q : A → Type 0) (found : Option A) → ((x : A) → P x → Q x) → IfSome found P → IfSome found Q
if_some P Q None h p = p
if_some P Q (Some x) h p = h x p

module _ {K V : Type 0} where
  -- a path under a root stands in its tree, which is in the table
  abbrev pub stands_in : (most : ℕ) (table : Table K V) {root place path indices size : _} → IsUnion most table → StandsUnder table.nodes root path indices size place → StandsIn most table path indices size (tree_of table.nodes root) place
  stands_in most table union s =
      let r = rooted _ _ _ union s.root_is in record { fit = r.fit; inside = r.inside; apart = r.apart; low = r.low; stands = s.stands }

  -- the place where a path stands is that of an entry
  pub place_low : (path indices size : _) (tree : Tree K V) (place : ℕ) → Stands path indices size tree place → place < length (flat tree.leaves)
  place_low path indices size tree place s = let at = s.leaf in rw at.row_is (simp (flat-append, length-append) (omega arith))

  -- the tree under a root became this one, which has this list and these sizes, under a root of its own
  pub record Replaced (most : ℕ) (old new : Table K V) (path : List ℕ) (root : ℕ) (list : List (K × V)) (after : List (List ℕ)) (tree' : Tree K V) (root' : ℕ) : Type 0 where
    pub changes : Changes most old new root root' list after
    pub account : GivesNodes (sizes_of (tree_of old.nodes root)) after old new
    pub same_root : (root' ≡ root) ↔ (length after ≡ length (sizes_of (tree_of old.nodes root)))
    pub order : GivesInOrder path (sizes_of (tree_of old.nodes root)) after old new
    pub freed_root : root' ≢ root → 0 < count root new.chain
    pub tree_is : tree_of new.nodes root' ≡ tree'

  -- the effect of a removal on the table and the path, with the root that is left, if any
  pub record Said (most : ℕ) (old new : Table K V) (path : List ℕ) (root place : ℕ) (Now : Tree K V → Type 0) (found : Option ℕ) : Type 0 where
    pub shrinks : Shrinks most old new path root place found
    pub at : IfSome found (λ root'. IsTrue (is_root new.nodes root') × Now (tree_of new.nodes root'))

  module _ (most old new : _) {root place path indices size : _} (Now : Tree K V → Type 0) (union : IsUnion most old) (s : StandsUnder old.nodes root path indices size place) where
    -- the tree with another list
    pub replaced : {list : List (K × V)} {after : List (List ℕ)} {root' : ℕ} (i : Reduced most old new path (tree_of old.nodes root) list after root') → Replaced most old new path root list after i.tree' root'
    replaced {list} {after} i = let tree = tree_of old.nodes root in let r = rooted most old root union s.root_is in
        let planted : IsPlanted most new.nodes i.tree' = record { fit = i.fit; inside = i.inside; some = i.some; low = omega arith } in
        let e = exchanged-freed root union s.root_is planted i.frees in
        let levels : length after ≡ suc (length i.tree'.above) = omega (arith, ap length i.sizes_are, length-map i.tree'.above sizes) in
        let levels_were : length (sizes_of tree) ≡ suc (length tree.above) = omega (arith, length-map tree.above sizes) in
        let rooted_is = λ (z : root_of i.tree' ≡ root). ap (λ w. count w i.freed) (z ∙ sym r.root_is) in
        subst (λ z. Replaced most old new path root list after i.tree' z) i.root_is (record {
          changes = rw (← i.flat_is, ← i.sizes_are) (exchanged-changes e refl i.frees.limit_is);
          same_root = (
            λ same. elim (eqb_tells (length i.tree'.above) (length tree.above)) [
              | inl w ↦ omega arith
              | inr w ↦ absurd (omega (arith, rooted_is same, i.frees.numbers_are (root_of i.tree'), r.apart (root_of i.tree'), count-append, root-among most new.nodes i.tree' i.fit i.inside i.some))
            ],
            λ same. cc (i.same_root (omega arith)),
          );
          account = record {
            given = i.freed;
            chain_is = i.frees.chain_is;
            slots = i.frees.slots_are;
            memory_is = i.frees.memory_is;
            count_is = omega (arith, length-same (i.freed ++ numbers_of i.tree') (numbers_of tree) i.frees.numbers_are, length-append i.freed (numbers_of i.tree'), nodes-count tree, nodes-count i.tree' ∙ ap (λ z. node_count z) i.sizes_are);
          };
          order = record {
            roots = i.order.roots;
            up = i.order.up;
            chain_is = cc (append_assoc _ _ _);
            roots_are = omega arith;
          };
          freed_root = λ ne. elim (eqb_tells (length i.tree'.above) (length tree.above)) [
            | inl w ↦ absurd (ne (i.root_is ∙ i.same_root w.1 ∙ r.root_is))
            | inr w ↦ omega (arith, ap (λ z. count z i.freed) r.root_is, ap (λ z. count root z) i.frees.chain_is, count-append root i.freed old.chain)
          ];
          tree_is = e.tree_is;
        })

    -- removing an entry of a tree that has others
    pub removal : {root' : ℕ} → Removed most old new path Now (tree_of old.nodes root) place root' → Said most old new path root place Now (Some root')
    removal i = let tree = tree_of old.nodes root in let p = replaced i.shrunk in
        record {
          at = (p.changes.root_is, subst Now (sym p.tree_is) i.at);
          shrinks = record {
            changes = p.changes;
            same_root = p.same_root;
            account = p.account;
            order = p.order;
            last = (λ is. absurd cc, λ one. absurd (let low = place_low _ _ _ tree place s.stands in omega (arith, length-remove (flat tree.leaves) place low, ap length i.flat_is)));
            ended = λ is. absurd cc;
            none_left = λ is. absurd cc;
            freed_root = λ ne. p.freed_root (λ is. ne (ap Some is));
          };
        }

    -- the effect of a removal, from the answer of the call for a leaf of one entry
    pub outcome : (found : _) → IfSome found (λ root'. Removed most old new path Now (tree_of old.nodes root) place root') →
        (found ≡ None → Emptied most old new (tree_of old.nodes root) place) → Said most old new path root place Now found
    outcome None removed emptied = let i = emptied refl in let tree = tree_of old.nodes root in let r = rooted _ _ _ union s.root_is in let u =
        uprooted-union _ _ union s.root_is i.frees in
        let among = root-among _ _ _ r.fit r.inside r.some in
        record {
          at = tt;
          shrinks = record {
            changes = tt;
            same_root = tt;
            account = record {
              given = i.freed;
              chain_is = i.frees.chain_is;
              slots = i.frees.slots_are;
              memory_is = i.frees.memory_is;
              count_is = omega (arith, length-same (i.freed ++ []) _ i.frees.numbers_are, length-append i.freed [], nodes-count tree, ap (λ z. node_count z) i.none_left);
            };
            order = record { roots = i.freed; up = 0; chain_is = i.frees.chain_is; roots_are = omega (arith, ap length i.levels_are, ap length i.none_left) };
            last = (λ is. i.single, λ is. refl);
            ended = λ is. record { union = u.0; root_gone = u.1; others = u.2; limit_is = i.frees.limit_is };
            none_left = λ is. i.none_left;
            freed_root = λ ne. omega (arith, ap (λ z. count z (numbers_of tree)) r.root_is, i.frees.numbers_are root, ap (λ z. count root z) i.frees.chain_is, count-append);
          };
        }
    outcome (Some root') removed emptied = removal removed

  -- what the removal of the leaf behind the path's leaves
  pub removes_next : {most : ℕ} {old new : Table K V} {path path' : Path K V most} (union : IsUnion most old) (at : OnEntry old path) {rest : _} {root' : ℕ}
      (r : Reduced most old new path.node (tree_of old.nodes at.root) (flat (at.on.stands.leaf.before ++ node (leaf_of path) at.on.stands.leaf.entries ∷ rest)) (without_next (length at.on.stands.leaf.before) (sizes_of (tree_of old.nodes at.root))) root') →
      Stands path'.node path'.entry path'.size r.tree' at.place → RemovesNext old new path path' at rest root'
  removes_next {path' = path'} union at r st = let p = replaced _ _ _ (λ z. Unit {0}) union at.on r in
      record {
        removed = p.changes;
        account = p.account;
        same_root = p.same_root;
        order = p.order;
        freed_root = p.freed_root;
        stands = record { root_is = p.changes.root_is; stands = subst (λ z. Stands path'.node path'.entry path'.size z at.place) (sym p.tree_is) st };
      }

  -- what is said of a removal, at each entry where the path stands
  pub removes : {most : ℕ} {old new : Table K V} {path path' : Path K V most} {result : Option ℕ} →
      ((at : OnEntry old path) → Said most old new path.node at.root at.place (λ now. IsPathAt path'.node path'.entry path'.size now at.place) result)
      → (result ≡ None → path'.size ≡ 0) → RemovesHere old new path path' result
  removes {result = result} said end = record {
    removed = λ at. (said at).shrinks.changes;
    account = λ at. (said at).shrinks.account;
    order = λ at. (said at).shrinks.order;
    stands = λ at. if_some _ _ result (λ root' r. record { root_is = r.0; at = r.1 }) (said at).at;
    same_root = λ at. (said at).shrinks.same_root;
    last = λ at. (said at).shrinks.last;
    ended = λ none at. (said at).shrinks.ended none;
    end = end;
    none_left = λ none at. (said at).shrinks.none_left none;
    freed_root = λ at. (said at).shrinks.freed_root;
  }
