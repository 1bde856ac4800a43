-- The entry at a place of a list, taken out.
use Rattle.bforest_nodes.proofs.Ordered.{IsIncreasing-remove}
use Rattle.bforest_nodes.specs.Entries.{IsIncreasing, value_for}
use Rattle.bforest_trees.specs.Calls.{Pops, RemovesAt}
use Rattle.bforest_trees.proofs.Changed.{list-root, live-root}
use Rattle.bforest_trees.proofs.Cutting.{IsTaken, shrunk}
use Rattle.bforest_trees.proofs.LookedUp.{gone-removed, others-removed}
use Rattle.bforest_trees.proofs.Taking.{removes-end, removes-here}
use Rattle.bforest_trees.specs.Forest.{Forest, list_at, list_of}
use Rattle.bforest_core.specs.Change.{Shrinks}
use Rattle.bforest_core.specs.Paths.{list_under}
use Rattle.bforest_core.specs.Trees.{IsUnion}
use Rattle.std.proofs.Common.{IfSome, List, None, Option, Some, [], ap, arith, false, length, refl, remove, slice_get, subst, sym, ◌-◌, ◌∙◌, ◌≡◌, ◌≢◌, ℕ}
use Rattle.std.proofs.lemmas.Option.{slice_get_within}
use Rattle.std.specs.Cmp.{IsTotalOrder}
use Rattle.std.specs.Ordering.{is_eq}
use Rattle.std.specs.declared.cmp.Ordering.{Ordering}

module _ {K X : Type 0} (most : ℕ) (f : Forest K X) (h : Option ℕ) (p : ℕ) where
  module _ {order : K → K → Ordering} (total : IsTotalOrder order) (up : IsIncreasing order (list_of f h)) (f' : Forest K X) (h' : Option ℕ) (left : list_of f' h' ≡ remove (list_of f h) p) where
    -- the key of the entry that was taken out has no value, and all others have the values that they had
    left-gone : (result : Option (K × X)) → result ≡ slice_get (list_of f h) p → IfSome result (λ e. value_for order (list_of f' h') e.0 ≡ None)
    left-gone None is = tt
    left-gone (Some e) is = gone-removed total (list_of f h) up p (sym is) left

    left-others : (result : Option (K × X)) → result ≡ slice_get (list_of f h) p → IfSome result (λ e. (q : K) → is_eq (order e.0 q) ≡ false → value_for order (list_of f' h') q ≡ value_for order (list_of f h) q)
    left-others None is = tt
    left-others (Some e) is = others-removed total (list_of f h) up p (sym is) left

  -- what a removal at a path answers and leaves, for a caller that uses no path
  pub pops : (result : Option (K × X)) (f' : Forest K X) (h' : Option ℕ) → result ≡ slice_get (list_of f h) p → RemovesAt most f h p f' h' → Pops most f h p result f' h'
  pops result f' h' entry r = record {
    entry = entry;
    removed = r;
    gone = λ total up. left-gone total up f' h' r.removed.list result entry;
    others = λ total up. left-others total up f' h' r.removed.list result entry;
    increasing = λ order up. subst (IsIncreasing order) (sym r.removed.list) (IsIncreasing-remove order (list_of f h) p up);
  }

-- the entry at a place of the tree under a root, taken out
module _ {K X : Type 0} {most : ℕ} {f : Forest K X} {n : ℕ} (live : list_at f n ≢ []) {p : ℕ} {x : K × X} (entry : slice_get (list_under f n) p ≡ Some x)
    {f' : Forest K X} {path : List ℕ} {o : Option ℕ} (s : Shrinks most f f' path n p o) where
  its-list : list_at f n ≡ list_under f n
  its-list = list-root f n (live-root f n live)

  taken-out : IsTaken most f f' (Some n) p o
  taken-out = shrunk most f f' n p (live-root f n live) (slice_get_within (list_under f n) p x entry) path o s

  pub popped : Pops most f (Some n) p (Some x) f' o
  popped = let t = taken-out in pops most f (Some n) p (Some x) f' o (sym (ap (λ z. slice_get z p) its-list ∙ entry))
      (removes-here most f (Some n) p f' o (omega (arith, slice_get_within (list_under f n) p x entry, ap length its-list)) t.removed t.sizes t.lowers.same_levels t.account)

  -- the last entry
  pub popped-last : p ≡ length (list_under f n) - 1 → Pops most f (Some n) (length (list_of f (Some n)) - 1) (Some x) f' o
  popped-last last = subst (λ z. Pops most f (Some n) z (Some x) f' o) (last ∙ ap (λ z. length z - 1) (sym its-list)) popped

  pub popped-union : IsUnion most f'
  popped-union = taken-out.union

-- nothing is taken out of an empty handle
pub popped-none : {K X : Type 0} (most : ℕ) (f : Forest K X) → Pops most f None 0 None f None
popped-none most f = pops most f None 0 None f None refl (removes-end most f None 0 tt (omega arith))
