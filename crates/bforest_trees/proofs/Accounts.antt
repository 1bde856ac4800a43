-- The free slots and the nodes of all trees, in the words of a forest.
use Rattle.bforest_trees.specs.Forest.{Forest, IsAccounted, nodes_at, numbers_below, sizes_at}
use Rattle.bforest_core.proofs.union.Account.{account, nodes-count}
use Rattle.bforest_core.proofs.rows.Counts.{upto}
use Rattle.bforest_core.specs.Levels.{sizes_of}
use Rattle.bforest_core.specs.Place.{numbers_of}
use Rattle.bforest_core.specs.Trees.{IsUnion, is_root, tree_of}
use Rattle.std.proofs.Common.{Bool, List, [], ap, false, if◌then◌else◌, length, refl, suc, true, zero, ◌+◌, ◌++◌, ◌∙◌, ◌∷◌, ◌≡◌, ℕ}
use Rattle.std.specs.List.{sum_by}

-- the two definitions of the numbers below n agree
upto-is : (n : ℕ) → upto n ≡ numbers_below n
upto-is zero = refl
upto-is (suc n) = ap (λ z. z ++ n ∷ []) (upto-is n)

module _ {K X : Type 0} (f : Forest K X) where
  -- the number of nodes of a number's tree, where the number is a root
  nodes-is : (n : ℕ) → (if is_root f.nodes n then length (numbers_of (tree_of f.nodes n)) else 0) ≡ nodes_at f n
  unfolding sizes_at
  nodes-is n = by (is_root f.nodes n)
    where
      by : (b : Bool) → (if b then length (numbers_of (tree_of f.nodes n)) else 0) ≡ sum_by (λ (level : List ℕ). length level) (if b then sizes_of (tree_of f.nodes n) else [])
      by true = nodes-count (tree_of f.nodes n)
      by false = refl

  -- in a union of trees the free slots and the nodes add up to the slots
  pub accounted : (most : ℕ) → IsUnion most f → IsAccounted f
  accounted most union =
      account f union ∙ (λ j. length f.chain + sum_by (λ n. nodes-is n j) (upto-is (length f.nodes) j))
