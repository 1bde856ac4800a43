-- The sizes of each number's tree are those of a fit tree of its list.
use Rattle.bforest_trees.specs.Forest.{Forest, list_at, sizes_at, slots_of}
use Rattle.bforest_core.proofs.union.Forests.{root-among}
use Rattle.bforest_core.proofs.union.Unions.{rooted}
use Rattle.bforest_core.proofs.rows.LevelRows.{some_leaf}
use Rattle.bforest_core.proofs.walks.RowNodes.{fit_full}
use Rattle.bforest_core.specs.Levels.{FitRow, LevelNode, Stacked, Topped, flat, half_of, heads, node, sizes, sizes_of}
use Rattle.bforest_core.specs.Place.{count, numbers_of}
use Rattle.bforest_core.specs.Sizes.{IsFitAbove, IsFitFor, IsFitLevel}
use Rattle.bforest_core.specs.Trees.{IsUnion, is_root, tree_of}
use Rattle.std.proofs.Common.{Bool, IsTrue, List, [], ap, arith, false, if◌then◌else◌, length, length-append, map, refl, subst, sym, true, ◌+◌, ◌<◌, ◌∙◌, ◌∷◌, ◌≡◌, ◌≢◌, ℕ}
use Rattle.std.proofs.lemmas.List.Sums.{sum_by-cons}
use Rattle.std.specs.List.{sum_by}

module _ {K X : Type 0} where
  -- the sizes of a row add up to its entries
  sizes-sum : (row : List (LevelNode K X)) → sum_by (λ (size : ℕ). size) (sizes row) ≡ length (flat row)
  sizes-sum [] = refl
  sizes-sum (node m es ∷ row) = sum_by-cons (λ (size : ℕ). size) (length es) (sizes row) ∙ ap (λ z. length es + z) (sizes-sum row) ∙ sym (length-append es (flat row))

  -- a row has as many sizes as nodes
  sizes-count : (row : List (LevelNode K X)) → length (sizes row) ≡ length row
  sizes-count [] = refl
  sizes-count (node m es ∷ row) = omega (arith, sizes-count row)

  -- a fit row has fit sizes
  sizes-fit : (half most : ℕ) (row : List (LevelNode K X)) → FitRow half most row → IsFitLevel half most (sizes row)
  sizes-fit half most [] f = tt
  sizes-fit half most (node m es ∷ []) f = (f.0, f.1, tt)
  sizes-fit half most (node m es ∷ node n xs ∷ row) f = (f.0, f.1, sizes-fit half most (node n xs ∷ row) f.2)

-- stacked rows over a list of nodes have fit sizes
above-fit : {K : Type 0} (list : List (K × ℕ)) (rows : List (List (LevelNode K ℕ))) (count : ℕ) → length list ≡ count → Stacked list rows → Topped list rows → IsFitAbove count (map sizes rows)
above-fit list [] count is s t = sym is ∙ s
above-fit list (row ∷ rows) count is s t = (
  omega (arith, is, t.0),
  sizes-sum row ∙ ap length s.0 ∙ is,
  sizes-fit 4 8 row s.1,
  above-fit (heads row) rows (length (sizes row)) (fit_full 4 8 (omega arith) row s.1 ∙ sym (sizes-count row)) s.2 t.1,
)

module _ {K X : Type 0} (most : ℕ) (f : Forest K X) (union : IsUnion most f) (n : ℕ) where
  fit-root : IsTrue (is_root f.nodes n) → IsFitFor most (length (flat (tree_of f.nodes n).leaves)) (sizes_of (tree_of f.nodes n))
  fit-root root =
      let r = rooted most f n union root in
      let leaves = (tree_of f.nodes n).leaves in (
        sizes-sum leaves,
        sizes-fit (half_of most) most leaves r.fit.leaves_fit,
        above-fit (heads leaves) (tree_of f.nodes n).above (length (sizes leaves)) (fit_full (half_of most) most (some_leaf union.1.capacity) leaves r.fit.leaves_fit ∙ sym (sizes-count leaves)) r.fit.stacked r.fit.topped,
      )

  -- the sizes of a number are fit for its list
  pub fit-at : IsFitFor most (length (list_at f n)) (sizes_at f n)
  unfolding list_at sizes_at
  fit-at = by (is_root f.nodes n) (λ root. fit-root root)
    where
      by : (b : Bool) → (IsTrue b → IsFitFor most (length (flat (tree_of f.nodes n).leaves)) (sizes_of (tree_of f.nodes n))) → IsFitFor most (length (if b then flat (tree_of f.nodes n).leaves else [])) (if b then sizes_of (tree_of f.nodes n) else [])
      by true fit = fit refl
      by false fit = refl

  -- a number with a list is the number of a slot
  pub below-slots : list_at f n ≢ [] → n < slots_of f
  unfolding list_at
  below-slots some = by (is_root f.nodes n) (λ root. within root) some
    where
      within : IsTrue (is_root f.nodes n) → n < slots_of f
      within root =
          let r = rooted most f n union root in
          r.within n (subst (λ (z : ℕ). 0 < count z (numbers_of (tree_of f.nodes n))) r.root_is (root-among most f.nodes (tree_of f.nodes n) r.fit r.inside r.some))

      by : (b : Bool) → (IsTrue b → n < slots_of f) → (if b then flat (tree_of f.nodes n).leaves else []) ≢ [] → n < slots_of f
      by true low some = low refl
      by false low some = absurd (some refl)
