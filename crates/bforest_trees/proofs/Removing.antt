-- What a removal by a key answers and leaves, where the key is present and where it is absent.
use Rattle.bforest_trees.proofs.Cutting.{shrunk, IsTaken, becomes-same, without-absent, without-present}
use Rattle.bforest_trees.proofs.Changed.{list-root, live-root}
use Rattle.bforest_core.proofs.removal.Removal.{place_low}
use Rattle.bforest_core.specs.Paths.{list_under}
use Rattle.bforest_trees.specs.Forest.{Becomes, Forest, IsLive, list_at, list_of}
use Rattle.bforest_core.specs.Change.{EntryTaken, Shrinks}
use Rattle.bforest_core.specs.Leaves.{TakesFromLeaf}
use Rattle.bforest_core.specs.Trees.{IsUnion, tree_of}
use Rattle.bforest_nodes.proofs.Found.{cut-absent, cut-present}
use Rattle.bforest_nodes.proofs.Ordered.{IsIncreasing-cut}
use Rattle.bforest_nodes.specs.Entries.{IsIncreasing, place, value_for}
use Rattle.bforest_trees.proofs.LookedUp.{gone-cut, others-cut}
use Rattle.bforest_trees.proofs.Putting.{absent-none, present-some}
use Rattle.bforest_trees.specs.Calls.{Removes}
use Rattle.std.proofs.Common.{List, None, Option, Some, [], ap, option_map, refl, set, subst, sym, ◌∙◌, ◌≡◌, ◌≢◌, ℕ}
use Rattle.std.specs.Cmp.{IsTotalOrder}
use Rattle.std.specs.declared.cmp.Ordering.{Ordering}

module _ {K X : Type 0} (most : ℕ) (cmp : K → K → Ordering) (f : Forest K X) (h : Option ℕ) (k : K) (live : IsLive f h) (total : IsTotalOrder cmp) (increasing : IsIncreasing cmp (list_of f h)) where
  abbrev entries : List (K × X)
  entries = list_of f h

  removes : (f' : Forest K X) (o : Option ℕ) (v : X) → value_for cmp entries k ≡ Some v → IsTaken most f f' h (place cmp entries k) o → Removes most cmp f h k (Some v) f' o
  removes f' o v found t =
      let here = present-some cmp entries k v found in
      let list = cut-present cmp entries k here in
      record {
        value = sym found;
        cut = subst (λ (l : List (K × X)). Becomes f h f' o l) (sym list) t.removed;
        gone = gone-cut total entries increasing k (t.removed.list ∙ sym list);
        others = others-cut total entries increasing k (t.removed.list ∙ sym list);
        sizes = t.sizes ∙ sym (without-present most cmp f h k here);
        same_levels = t.lowers.same_levels;
        account = t.account;
        increasing = subst (IsIncreasing cmp) (sym (t.removed.list ∙ sym list)) (IsIncreasing-cut cmp entries k increasing);
        absent_forest = λ none. absurd (cc);
        absent_handle = λ none. absurd (cc);
      }

  -- `remove` of a key that is absent changes nothing
  pub removes-none : value_for cmp entries k ≡ None → Removes most cmp f h k None f h
  removes-none none =
      let gone = absent-none cmp entries k none in
      record {
        value = sym none;
        cut = subst (λ (l : List (K × X)). Becomes f h f h l) (sym (cut-absent cmp entries k gone)) (becomes-same f h live);
        gone = none;
        others = λ q ne. refl;
        sizes = sym (without-absent most cmp f h k gone);
        same_levels = (λ same. refl, λ same. refl);
        account = record { slots = refl; free = refl; memory = refl };
        increasing = increasing;
        absent_forest = λ is. refl;
        absent_handle = λ is. refl;
      }

module _ {K X : Type 0} {most : ℕ} {cmp : K → K → Ordering} {f : Forest K X} {n : ℕ} {k : K} (live : list_at f n ≢ []) (increasing : IsIncreasing cmp (list_at f n))
    {path indices : List ℕ} {size : ℕ} {found : Option (ℕ × X)} {mid : Forest K X} (t : TakesFromLeaf cmp f n k most path indices size found mid) where
  abbrev at : ℕ
  at = place cmp (list_under f n) k

  list : list_at f n ≡ list_under f n
  list = list-root f n (live-root f n live)

  value-is : value_for cmp (list_at f n) k ≡ option_map (λ e. e.1) found
  value-is = ap (λ z. value_for cmp z k) list ∙ sym t.value

  -- the key is absent, and the table is the old one
  pub removes-absent : IsTotalOrder cmp → found ≡ None → Removes most cmp f (Some n) k None mid (Some n)
  removes-absent total is = rw (t.absent is) (removes-none most cmp f (Some n) k live total increasing (value-is ∙ ap (option_map (λ e. e.1)) is))

  module _ {e : ℕ × X} (is : found ≡ Some e) where
    -- the path stood on the key's entry, which its leaf lost
    pub lost : EntryTaken most f mid n at path (set indices 0 e.0) size
    lost = rw is at t.taken

    module _ {f' : Forest K X} {path' : List ℕ} {o : Option ℕ} (s : Shrinks most f f' path' n at o) where
      left : IsTaken most f f' (Some n) at o
      left = let l = lost in shrunk most f f' n at l.stood.root_is (place_low path (set indices 0 e.0) size (tree_of f.nodes n) at l.stood.stands) path' o s

      -- the trees are a union again
      pub removed-union : IsUnion most f'
      removed-union = left.union

      -- the effect of the removal
      pub removes-present : IsTotalOrder cmp → Removes most cmp f (Some n) k (Some e.1) f' o
      removes-present total = removes most cmp f (Some n) k live total increasing f' o e.1 (value-is ∙ ap (option_map (λ w. w.1)) is)
          (subst (λ (l : List (K × X)). IsTaken most f f' (Some n) (place cmp l k) o) (sym list) left)
