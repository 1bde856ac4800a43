-- What `retain` keeps of a list that increases, and its answer as a change of a forest.
use Rattle.bforest_trees.proofs.Changed.{becomes, list-root, sizes-root}
use Rattle.bforest_trees.proofs.Cutting.{becomes-ended, gives}
use Rattle.bforest_trees.specs.Calls.{Filters}
use Rattle.bforest_trees.specs.Forest.{Becomes, Forest, Gives, list_at, list_of, sizes_at, sizes_of as forest_sizes}
use Rattle.bforest_trees.specs.Retain.{AsksEach, Retained, RetainedNone, Retains, kept_by, sizes_by}
use Rattle.bforest_core.specs.Levels.{flat, sizes_of}
use Rattle.bforest_core.specs.Trees.{IsUnion, tree_of}
use Rattle.bforest_nodes.specs.Entries.{IsIncreasing}
use Rattle.std.proofs.Common.{Bool, IfSome, List, None, Option, Some, [], ap, arith, false, length, refl, subst, suc, sym, true, ◌∙◌, ◌∷◌, ◌≡◌, ◌↔◌, ◌≤◌, ℕ}
use Rattle.std.specs.List.Sorted.{IsStrictlySortedBy}
use Rattle.std.specs.List.{AllByRecursion}
use Rattle.std.specs.Map.{keys_of}
use Rattle.std.specs.declared.cmp.Ordering.TheVariants.{Less}
use Rattle.std.specs.declared.cmp.Ordering.{Ordering}

module _ {K X : Type 0} where
  -- what holds of all keys holds of those that stay
  all_kept : (P : K → Type 0) (es : List (K × X)) (answers : List (Bool × X)) → AllByRecursion P (keys_of es) → AllByRecursion P (keys_of (kept_by es answers))
  all_kept P [] answers a = tt
  all_kept P (e ∷ es) [] a = tt
  all_kept P (e ∷ es) ((true, w) ∷ answers) a = (a.0, all_kept P es answers a.1)
  all_kept P (e ∷ es) ((false, w) ∷ answers) a = all_kept P es answers a.1

  -- what stays of a list that increases, increases
  pub IsIncreasing-kept : (cmp : K → K → Ordering) (es : List (K × X)) (answers : List (Bool × X)) → IsIncreasing cmp es → IsIncreasing cmp (kept_by es answers)
  unfolding IsStrictlySortedBy
  IsIncreasing-kept cmp [] answers up = tt
  IsIncreasing-kept cmp (e ∷ es) [] up = tt
  IsIncreasing-kept cmp (e ∷ es) ((true, w) ∷ answers) up = (all_kept (λ y. cmp e.0 y ≡ Less) es answers up.0, IsIncreasing-kept cmp es answers up.1)
  IsIncreasing-kept cmp (e ∷ es) ((false, w) ∷ answers) up = IsIncreasing-kept cmp es answers up.1

  -- at most as many entries stay as the list has
  kept_fewer : (es : List (K × X)) (answers : List (Bool × X)) → length (kept_by es answers) ≤ length es
  kept_fewer [] answers = omega arith
  kept_fewer (e ∷ es) [] = omega arith
  kept_fewer (e ∷ es) ((true, w) ∷ answers) = omega (arith, kept_fewer es answers)
  kept_fewer (e ∷ es) ((false, w) ∷ answers) = omega (arith, kept_fewer es answers)

-- where all entries stay, the sizes stay
pub all-stay : {F K X : Type 0} (step : F → K → X → Bool → X → F → Type 0) (most : ℕ) (f : F) (place : ℕ) (es : List (K × X)) (answers : List (Bool × X)) (sizes : List (List ℕ)) → AsksEach step f es answers → length (kept_by es answers) ≡ length es → sizes_by most place answers sizes ≡ sizes
all-stay step most f place [] [] sizes asked all = refl
all-stay step most f place [] (a ∷ answers) sizes asked all = absurd (cc)
all-stay step most f place (e ∷ es) [] sizes asked all = absurd asked
all-stay step most f place (e ∷ es) ((true, w) ∷ answers) sizes (f', t, asked) all = all-stay step most f' (suc place) es answers sizes asked (omega (arith, all))
all-stay step most f place (e ∷ es) ((false, w) ∷ answers) sizes asked all = absurd (omega (arith, all, kept_fewer es answers))

module _ {F K X : Type 0} (step : F → K → X → Bool → X → F → Type 0) (most : ℕ) (f f' : Forest K X) (r : ℕ) (q : F) where
  abbrev list_was : List (K × X)
  list_was = flat (tree_of f.nodes r).leaves

  abbrev sizes_was : List (List ℕ)
  sizes_was = sizes_of (tree_of f.nodes r)

  -- the table is a union of trees, whether a root or none is answered
  pub union-kept : (o : Option ℕ) → IfSome o (λ r'. Retained most step f f' r r' q) → (o ≡ None → RetainedNone most step f f' r q) → IsUnion most f'
  union-kept None c e = (e refl).ended.union
  union-kept (Some r') c e = c.changes.union

  -- the list and sizes of the answered handle are those that the predicate retains
  pub list-kept : (o : Option ℕ) → IfSome o (λ r'. Retained most step f f' r r' q) → (o ≡ None → RetainedNone most step f f' r q) → Retains step most q list_was sizes_was (list_of f' o) (forest_sizes f' o)
  list-kept None c e = (e refl).retains
  list-kept (Some r') c e =
      subst (λ (z : List (List ℕ)). Retains step most q list_was sizes_was (list_of f' (Some r')) z) (sym (sizes-root f' r' c.changes.root_is ∙ c.changes.sizes_are))
      (subst (λ (z : List (K × X)). Retains step most q list_was sizes_was z c.sizes) (sym (list-root f' r' c.changes.root_is ∙ c.changes.list_is)) c.retains)

  -- the answered handle becomes the list that stays
  pub becomes-kept : (o : Option ℕ) → IfSome o (λ r'. Retained most step f f' r r' q) → (o ≡ None → RetainedNone most step f f' r q) → Becomes f (Some r) f' o (list_of f' o)
  becomes-kept None c e = becomes-ended most f f' r (e refl).ended
  becomes-kept (Some r') c e =
      subst (λ (z : List (K × X)). Becomes f (Some r) f' (Some r') z) (sym (list-root f' r' c.changes.root_is ∙ c.changes.list_is)) (becomes most f f' r r' c.list c.sizes c.changes)

  some_same : (n p : ℕ) → Some n ≡ Some p → n ≡ p
  some_same n p e = cc

  -- the handle keeps its number exactly where the number of levels stays
  pub same-kept : (o : Option ℕ) → IfSome o (λ r'. Retained most step f f' r r' q) → (o ≡ Some r) ↔ (length (forest_sizes f' o) ≡ length sizes_was)
  same-kept None c = (λ e. absurd (cc), λ e. absurd (omega (arith, e)))
  same-kept (Some r') c =
      let n = ap length (sizes-root f' r' c.changes.root_is ∙ c.changes.sizes_are) in
      (λ e. n ∙ c.same_root.0 (some_same r' r e), λ e. ap Some (c.same_root.1 (sym n ∙ e)))

  -- the nodes that the kept entries do not need are free
  pub gives-kept : (o : Option ℕ) → IfSome o (λ r'. Retained most step f f' r r' q) → (o ≡ None → RetainedNone most step f f' r q) → Gives sizes_was (forest_sizes f' o) f f'
  gives-kept None c e = gives f f' sizes_was [] (e refl).gives
  gives-kept (Some r') c e = subst (λ (z : List (List ℕ)). Gives sizes_was z f f') (sym (sizes-root f' r' c.changes.root_is ∙ c.changes.sizes_are)) (gives f f' sizes_was c.sizes c.gives)

  -- `retain` at a handle, as one record
  pub filters : (o : Option ℕ) → list_was ≡ list_at f r → sizes_was ≡ sizes_at f r → IfSome o (λ r'. Retained most step f f' r r' q) → (o ≡ None → RetainedNone most step f f' r q) → Filters most step f (Some r) q f' o
  filters o list sizes c e =
      let kept = subst (λ (z : List (List ℕ)). Retains step most q (list_at f r) z (list_of f' o) (forest_sizes f' o)) sizes
      (subst (λ (l : List (K × X)). Retains step most q l sizes_was (list_of f' o) (forest_sizes f' o)) list (list-kept o c e)) in
      let same = subst (λ (z : List (List ℕ)). (o ≡ Some r) ↔ (length (forest_sizes f' o) ≡ length z)) sizes (same-kept o c) in
      record {
        kept = kept;
        changed = becomes-kept o c e;
        same_levels = same;
        all_stay = λ all. same.1 (ap length (kept.sizes_are ∙ all-stay step most q 0 (list_at f r) kept.answers (sizes_at f r) kept.asked (sym (ap length kept.kept_is) ∙ all)));
        account = subst (λ (z : List (List ℕ)). Gives z (forest_sizes f' o) f f') sizes (gives-kept o c e);
        increasing = λ cmp up. subst (IsIncreasing cmp) (sym kept.kept_is) (IsIncreasing-kept cmp (list_at f r) kept.answers up);
      }
