-- The keys of a tree stay in order after an insertion and after a removal.
use Rattle.std.proofs.Common.{ap, ◌≡◌, ℕ, ◌∙◌, Result, Ok, Err, IfOk, IfSome, List, [], ◌∷◌, Option, None, Some, refl, remove, subst, sym, true}
use Rattle.std.specs.Option.{is_some, option_map}
use Rattle.std.specs.Ordering.{nat_cmp}
use Rattle.std.specs.List.Sorted.{IsStrictlySortedBy}
use Rattle.std.proofs.lemmas.Cmp.{nat_cmp_total}
use Rattle.bforest_core.specs.Change.{Changes, Ends}
use Rattle.bforest_nodes.specs.Entries.{entry_for, is_present, put, value_for, IsIncreasing}
use Rattle.bforest_core.specs.Paths.{list_under}
use Rattle.bforest_core.specs.Table.{Table}
use Rattle.bforest_core.specs.Trees.{IsUnion}
use Rattle.bforest_nodes.proofs.Ordered.{IsIncreasing-put, IsIncreasing-remove}
use Rattle.tree_cases.specs.Ordered.{IsOrderedAt}

-- a key with a value is present
pub has-value : (es : List (ℕ × ℕ)) (key : ℕ) → is_some (value_for nat_cmp es key) ≡ is_present nat_cmp es key
has-value es key = go (entry_for nat_cmp es key)
  where
    go : (o : Option (ℕ × ℕ)) → is_some (option_map (λ e. e.1) o) ≡ is_some o
    go None = refl
    go (Some e) = refl

-- a list of one entry increases
increasing-one : (key value : ℕ) → IsIncreasing nat_cmp ((key, value) ∷ [])
unfolding IsStrictlySortedBy
increasing-one key value = (tt, tt)

-- a tree of one entry is ordered
pub ordered-one : (n : ℕ) (old new : Table ℕ ℕ) (root root' key value : ℕ) (sizes : List (List ℕ)) → Changes n old new root root' ((key, value) ∷ []) sizes → IsUnion n new × IsOrderedAt new root'
ordered-one n old new root root' key value sizes changes = (
  changes.union,
  record {
    root_is = changes.root_is;
    increasing = subst (IsIncreasing nat_cmp) (sym changes.list_is) (increasing-one key value);
  },
)

-- a tree stays ordered after an insertion
pub ordered-put : (n : ℕ) (old new : Table ℕ ℕ) (root root' key value : ℕ) (list : List (ℕ × ℕ)) (sizes : List (List ℕ)) → IsOrderedAt old root → Changes n old new root root' list sizes → put nat_cmp (list_under old root) key value ≡ list → IsUnion n new × IsOrderedAt new root'
ordered-put n old new root root' key value list sizes ordered changes is = (
  changes.union,
  record {
    root_is = changes.root_is;
    increasing = subst (IsIncreasing nat_cmp) (is ∙ sym changes.list_is) (IsIncreasing-put nat_cmp nat_cmp_total (list_under old root) key value ordered.increasing);
  },
)

-- what follows from a property of each success
pub if_ok_weaker : {T E : Type 0} {P Q : T → Type 0} (r : Result T E) → ((x : T) → P x → Q x) → IfOk r P → IfOk r Q
if_ok_weaker (Ok x) f h = f x h
if_ok_weaker (Err x) f h = h

-- a tree stays ordered after a removal
pub ordered-left : (n : ℕ) (old new : Table ℕ ℕ) (root root' place : ℕ) (sizes : List (List ℕ)) → IsOrderedAt old root → Changes n old new root root' (remove (list_under old root) place) sizes → IsOrderedAt new root'
ordered-left n old new root root' place sizes ordered changes = record {
  root_is = changes.root_is;
  increasing = subst (IsIncreasing nat_cmp) (sym changes.list_is) (IsIncreasing-remove nat_cmp (list_under old root) place ordered.increasing);
}

-- the tree that a removal leaves, if it leaves one, is ordered
pub left-ordered : (n : ℕ) (old new : Table ℕ ℕ) (root place : ℕ) (sizes : List (List ℕ)) (answer : Option ℕ) → IsOrderedAt old root → IfSome answer (λ root'. Changes n old new root root' (remove (list_under old root) place) sizes) →
    IfSome answer (λ root'. IsOrderedAt new root')
left-ordered n old new root place sizes None ordered changes = tt
left-ordered n old new root place sizes (Some root') ordered changes = ordered-left n old new root root' place sizes ordered changes

-- the pool that a removal leaves is a union of trees
pub left-union : (n : ℕ) (old new : Table ℕ ℕ) (root : ℕ) (list : List (ℕ × ℕ)) (sizes : List (List ℕ)) (answer : Option ℕ) → IfSome answer (λ root'. Changes n old new root root' list sizes) → (answer ≡ None → Ends n old new root) → IsUnion n new
left-union n old new root list sizes None changes ends = (ends refl).union
left-union n old new root list sizes (Some root') changes ends = changes.union

-- a key that is found is present
pub found-present : (es : List (ℕ × ℕ)) (key value : ℕ) (r : Option ℕ) → r ≡ value_for nat_cmp es key → r ≡ Some value → is_present nat_cmp es key ≡ true
found-present es key value r value_is some = sym (has-value es key) ∙ ap is_some (sym value_is ∙ some)
