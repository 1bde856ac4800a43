-- The number of leaves and levels of a tree, where a leaf has at least 4 entries.
use Rattle.bforest_trees.specs.Forest.{first_level}
use Rattle.bforest_core.specs.Levels.{LevelNode, Tree, flat, node, sizes, sizes_of}
use Rattle.std.proofs.Math.Nat.{pow-succ'}
use Rattle.std.proofs.Common.{List, [], ap, arith, length, subst, suc, sym, refl, zero, ◌*◌, ◌+◌, ◌-◌, ◌/◌, ◌^◌, ◌<◌, ◌∷◌, ◌≡◌, ◌≤◌, ℕ}

-- the bound on the entries of a tree of at least two levels, as one power of 4
pub depth-four : (levels n : ℕ) → 2 ≤ levels → 4 * 4 ^ (levels - 2) < n → 4 ^ (levels - 1) < n
depth-four zero n two h = absurd (omega (arith, two))
depth-four (suc zero) n two h = absurd (omega (arith, two))
depth-four (suc (suc q)) n two h =
    let two_less : suc (suc q) - 2 ≡ q = omega arith in
    let one_less : suc (suc q) - 1 ≡ suc q = omega arith in
    subst (λ (z : ℕ). 4 ^ z < n) (sym one_less) (subst (λ (z : ℕ). z < n) (sym (pow-succ' 4 q)) (subst (λ (z : ℕ). 4 * 4 ^ z < n) two_less h))

module _ {K V : Type 0} where
  -- a row has as many sizes as nodes
  pub length-sizes : (row : List (LevelNode K V)) → length (sizes row) ≡ length row
  length-sizes [] = refl
  length-sizes (node number entries ∷ row) = ap suc (length-sizes row)

  -- a bound on the number of leaves is one on the first level's sizes
  pub leaves-sizes : (half : ℕ) (tree : Tree K V) → length tree.leaves ≤ (length (flat tree.leaves) + (half - 1)) / half → length (first_level (sizes_of tree)) ≤ (length (flat tree.leaves) + (half - 1)) / half
  leaves-sizes half tree h = subst (λ (z : ℕ). z ≤ (length (flat tree.leaves) + (half - 1)) / half) (sym (length-sizes tree.leaves)) h
