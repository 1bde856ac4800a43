-- The sizes of a packed tree with the fewest nodes fit its list, and the number of entries tells them.
use Rattle.bforest.specs.Calls.{Loads}
use Rattle.bforest.specs.Forest.{Forest, list_of, nodes_of, sizes_of}
use Rattle.bforest_core.specs.Change.{node_count}
use Rattle.bforest_core.specs.Levels.{LevelNode, flat, half_of, heads, node, sizes, sizes_of as tree_sizes}
use Rattle.bforest_core.specs.Packed.{ArePacked, ArePackedLevels, IsPackedLevel, fewest, nodes_over}
use Rattle.bforest_core.specs.Sizes.{IsFitAbove, IsFitFor, IsFitLevel}
use Rattle.bforest_core.specs.Trees.{inner_row, inner_rows, leaf_row, is_root, levels_below, slot, tree_from, tree_of}
use Rattle.bforest_nodes.specs.Content.{Content, children_of}
use Rattle.bforest_trees.specs.Forest.{list_at, sizes_at}
use Rattle.std.proofs.Common.{Bool, List, None, Ok, Option, Some, if◌then◌else◌, [], ap, arith, drop, false, inl, inr, length, map, nat_lt, refl, subst, suc, sym, take, true, zero, ◌%◌, ◌*◌, ◌+◌, ◌<◌, ◌∙◌, ◌∷◌, ◌≡◌, ◌≤◌, ℕ}
use Rattle.std.proofs.lemmas.Bool.{cases_lt}
use Rattle.std.proofs.lemmas.Grind.{div_ceil_times}
use Rattle.std.proofs.lemmas.List.Sums.{sum_by-cons}
use Rattle.std.proofs.lemmas.List.{length-append, length-drop, length-take-le}
use Rattle.std.specs.Int.{div_ceil}
use Rattle.std.specs.List.{flat_map, sum_by}

-- the entries or children of a level's nodes
abbrev total : List ℕ → ℕ
total level = sum_by (λ size. size) level

-- a packed level has at least its nodes, and at most as many entries as full ones
packed-some : (most : ℕ) → 1 ≤ most → (size : ℕ) (level : List ℕ) → IsPackedLevel most (size ∷ level) → 1 ≤ total (size ∷ level)
packed-some most one size [] p = omega (arith, p.0, sum_by-cons (λ (n : ℕ). n) size [])
packed-some most one size (next ∷ level) p = omega (arith, p.0, one, sum_by-cons (λ (n : ℕ). n) size (next ∷ level))

packed-bounds : (most : ℕ) → 1 ≤ most → (level : List ℕ) → IsPackedLevel most level → (total level ≤ length level * most) × (length level * most < total level + most)
packed-bounds most one [] p = (omega arith, omega (arith, one))
packed-bounds most one (size ∷ []) p = let s = sum_by-cons (λ (n : ℕ). n) size [] in (omega (arith, p.1, s), omega (arith, p.0, s))
packed-bounds most one (size ∷ next ∷ level) p =
    let rest = packed-bounds most one (next ∷ level) p.1 in
    let s = sum_by-cons (λ (n : ℕ). n) size (next ∷ level) in
    let e : suc (length (next ∷ level)) * most ≡ most + length (next ∷ level) * most = omega arith in
    (omega (arith, rest.0, s, e, p.0), omega (arith, rest.1, s, e, p.0))

-- a number is found by its bounds
rounded : (b a c d : ℕ) → a ≤ c * b → c * b < a + b → a ≤ d * b → d * b < a + b → c ≡ d
rounded b a c d c-low c-high d-low d-high = grind (arith, c-low, c-high, d-low, d-high)

-- a packed level has the fewest nodes
packed-count : (most : ℕ) → 1 ≤ most → (level : List ℕ) → IsPackedLevel most level → length level ≡ div_ceil (total level) most
packed-count most one level p =
    let b = packed-bounds most one level p in let d = div_ceil_times (total level) most (omega (arith, one)) in
    rounded most (total level) (length level) (div_ceil (total level) most) b.0 b.1 d.0 d.1

packed-fits : (half most : ℕ) → half ≤ most → (level : List ℕ) → IsPackedLevel most level → IsFitLevel half most level
packed-fits half most low [] p = tt
packed-fits half most low (size ∷ []) p = (p.0, p.1, tt)
packed-fits half most low (size ∷ next ∷ level) p = (omega (arith, p.0, low), omega (arith, p.0), packed-fits half most low (next ∷ level) p.1)

module _ {K X : Type 0} where
  many-sizes : (row : List (LevelNode K X)) → length (sizes row) ≡ length row
  many-sizes [] = refl
  many-sizes (node n es ∷ row) = ap suc (many-sizes row)

  -- the sizes of a row are those of its entries
  total-sizes : (row : List (LevelNode K X)) → total (sizes row) ≡ length (flat row)
  total-sizes [] = refl
  total-sizes (node n es ∷ row) = omega (arith, sum_by-cons (λ (n : ℕ). n) (length es) (sizes row), total-sizes row, length-append es (flat row))

  -- a packed row has as many heads as nodes
  packed-heads : (most : ℕ) → 1 ≤ most → (row : List (LevelNode K X)) → IsPackedLevel most (sizes row) → length (heads row) ≡ length row
  packed-heads most one [] p = refl
  packed-heads most one (node m [] ∷ []) p = absurd (omega (arith, p.0))
  packed-heads most one (node m (e ∷ es) ∷ []) p = refl
  packed-heads most one (node m [] ∷ (node k fs ∷ row)) p = absurd (omega (arith, p.0, one))
  packed-heads most one (node m (e ∷ es) ∷ (node k fs ∷ row)) p = ap suc (packed-heads most one (node k fs ∷ row) p.1)

module _ {K V : Type 0} (slots : List (Content K V)) where
  abbrev below : List ℕ → List ℕ
  below level = flat_map (λ number. children_of (slot slots number)) level

  -- each level has a node, its children are the level below it, and the highest level is one node
  Linked : List ℕ → List (List ℕ) → Type 0
  Linked level [] = length level ≡ 1
  Linked level (above ∷ levels) = (1 ≤ length level) × (below above ≡ level) × Linked above levels

  LinkedAll : List (List ℕ) → Type 0
  LinkedAll [] = ⊥
  LinkedAll (level ∷ levels) = Linked level levels

  linked-some : (level : List ℕ) (levels : List (List ℕ)) → Linked level levels → 1 ≤ length level
  unfolding Linked
  linked-some level [] l = omega (arith, l)
  linked-some level (above ∷ levels) l = l.0

  linked-below : (count : ℕ) (level : List ℕ) (above : List (List ℕ)) → Linked level above → LinkedAll (levels_below slots count level above)
  unfolding Linked LinkedAll
  linked-below zero level above l = l
  linked-below (suc count) level above l = by (below level) refl (linked-below count)
    where
      by : (under : List ℕ) → below level ≡ under → ((ms : List ℕ) (up : List (List ℕ)) → Linked ms up → LinkedAll (levels_below slots count ms up))
          → LinkedAll (levels_below slots (suc count) level above)
      by [] e deeper = rw (e, levels_below) l
      by (first ∷ rest) e deeper = rw (e, levels_below) (deeper (first ∷ rest) (level ∷ above) (omega arith, e, l))

  row-many : (level : List ℕ) (list : List (K × ℕ)) → length (inner_row slots list level) ≡ length level
  row-many [] list = refl
  row-many (n ∷ level) list = ap suc (row-many level (drop (length (children_of (slot slots n))) list))

  -- a level that takes its entries from a list of as many as its children takes all of them
  row-total : (level : List ℕ) (list : List (K × ℕ)) → length (below level) ≡ length list → total (sizes (inner_row slots list level)) ≡ length list
  row-total [] list e = e
  row-total (n ∷ level) list e =
      let c = length (children_of (slot slots n)) in
      let all = length-append (children_of (slot slots n)) (below level) in
      let within : c ≤ length list = omega (arith, all, e) in
      let rest = length-drop c list in
      let taken = length-take-le c list within in
      let more = row-total level (drop c list) (omega (arith, all, e, rest)) in
      omega (arith, sum_by-cons (λ (m : ℕ). m) (length (take c list)) (sizes (inner_row slots (drop c list) level)), more, rest, taken, within)

  over-none : (fuel count : ℕ) → count ≤ 1 → nodes_over fuel count ≡ 0
  over-none zero count low = refl
  over-none (suc fuel) count low = let e : nat_lt 1 count ≡ false = grind arith in rw e refl

  over-more : (fuel count : ℕ) → 1 < count → nodes_over (suc fuel) count ≡ div_ceil count 8 + nodes_over fuel (div_ceil count 8)
  over-more fuel count many = let e : nat_lt 1 count ≡ true = grind arith in rw e refl

  counted : (row : List ℕ) (levels : List (List ℕ)) → node_count (row ∷ levels) ≡ length row + node_count levels
  counted row levels = sum_by-cons (λ (level : List ℕ). length level) row levels

  -- packed levels over a list of nodes fit it, where they have the fewest nodes
  above-fits : (fuel : ℕ) (list : List (K × ℕ)) (level : List ℕ) (levels : List (List ℕ)) → length list ≡ length level → Linked level levels
      → ArePackedLevels (map sizes (inner_rows slots list levels)) → node_count (map sizes (inner_rows slots list levels)) ≡ nodes_over fuel (length list)
      → IsFitAbove (length list) (map sizes (inner_rows slots list levels))
  unfolding Linked
  above-fits fuel list level [] same l p few = same ∙ l
  above-fits zero list level (next ∷ levels) same l p few =
      absurd (omega (
        arith,
        few,
        counted (sizes (inner_row slots list next)) (map sizes (inner_rows slots (heads (inner_row slots list next)) levels)),
        many-sizes (inner_row slots list next),
        row-many next list,
        linked-some next levels l.2,
      ))
  above-fits (suc fuel) list level (next ∷ levels) same l p few =
      let row = inner_row slots list next in
      let count = counted (sizes row) (map sizes (inner_rows slots (heads row) levels)) in
      let one = linked-some next levels l.2 in
      let whole = row-total next list (ap length l.1 ∙ sym same) in
      let size = many-sizes row in
      let named = row-many next list in
      elim (cases_lt 1 (length list)) [
        | inl many ↦
            let ceil = packed-count 8 (omega arith) (sizes row) p.0 in
            let is : length (sizes row) ≡ div_ceil (length list) 8 = ceil ∙ ap (λ n. div_ceil n 8) whole in
            let tops : length (heads row) ≡ length (sizes row) = packed-heads 8 (omega arith) row p.0 ∙ sym size in
            let over = over-more fuel (length list) many in
            let rest : node_count (map sizes (inner_rows slots (heads row) levels)) ≡ nodes_over fuel (length (heads row)) =
            omega (arith, few, over, count, is) ∙ ap (nodes_over fuel) (sym is ∙ sym tops) in (
              many,
              whole,
              packed-fits 4 8 (omega arith) (sizes row) p.0,
              subst (λ n. IsFitAbove n (map sizes (inner_rows slots (heads row) levels))) tops (above-fits fuel (heads row) next levels (tops ∙ size ∙ named) l.2 p.1 rest),
            )
        | inr low ↦ absurd (omega (arith, few, over-none (suc fuel) (length list) low, count, size, named, one))
      ]

  -- the sizes of a tree that is computed from linked levels, where they are packed and have the fewest nodes, fit its list
  tree-fits : (most : ℕ) → 1 ≤ most → half_of most ≤ most → (levels : List (List ℕ)) → LinkedAll levels → ArePacked most (tree_sizes (tree_from slots levels))
      → node_count (tree_sizes (tree_from slots levels)) ≡ fewest most (length (flat (tree_from slots levels).leaves))
      → IsFitFor most (length (flat (tree_from slots levels).leaves)) (tree_sizes (tree_from slots levels))
  unfolding LinkedAll
  tree-fits most one half [] l p few = absurd l
  tree-fits most one half (level ∷ levels) l p few =
      let row = leaf_row slots level in
      let upper = map sizes (inner_rows slots (heads row) levels) in
      let whole = total-sizes row in
      let size = many-sizes row in
      let ceil : length (sizes row) ≡ div_ceil (length (flat row)) most = packed-count most one (sizes row) p.0 ∙ ap (λ n. div_ceil n most) whole in
      let tops : length (heads row) ≡ length (sizes row) = packed-heads most one row p.0 ∙ sym size in
      let count = counted (sizes row) upper in
      let rest : node_count upper ≡ nodes_over (length (flat row)) (length (heads row)) =
      omega (arith, few, count, ceil) ∙ ap (nodes_over (length (flat row))) (sym ceil ∙ sym tops) in (
        whole,
        packed-fits (half_of most) most half (sizes row) p.0,
        subst (λ n. IsFitAbove n upper) tops (above-fits (length (flat row)) (heads row) level levels (tops ∙ size ∙ leaf-many level) l p.1 rest),
      )
    where
      leaf-many : (level : List ℕ) → length (leaf_row slots level) ≡ length level
      leaf-many [] = refl
      leaf-many (n ∷ level) = ap suc (leaf-many level)

-- a leaf has room
room : (most : ℕ) → most % 2 ≡ 1 → 1 ≤ most
room zero odd = absurd (cc)
room (suc most) odd = omega arith

half-within : (most : ℕ) → most % 2 ≡ 1 → half_of most ≤ most
half-within most odd = omega (arith, room most odd)

module _ {K V : Type 0} (most : ℕ) (odd : most % 2 ≡ 1) where
  -- the tree of a handle, where it is packed and has the fewest nodes
  packed-tree : (f : Forest K V) (h : Option ℕ) → ArePacked most (sizes_of f h) → nodes_of f h ≡ fewest most (length (list_of f h))
      → IsFitFor most (length (list_of f h)) (sizes_of f h)
  unfolding Linked list_at sizes_at tree_of
  packed-tree f None p few = refl
  packed-tree f (Some n) p few = by (is_root f.nodes n) p few
    where
      by : (root : Bool) → ArePacked most (if root then tree_sizes (tree_of f.nodes n) else [])
          → node_count (if root then tree_sizes (tree_of f.nodes n) else []) ≡ fewest most (length (if root then flat (tree_of f.nodes n).leaves else []))
          → IsFitFor most (length (if root then flat (tree_of f.nodes n).leaves else [])) (if root then tree_sizes (tree_of f.nodes n) else [])
      by true p few = tree-fits f.nodes most (room most odd) (half-within most odd) (levels_below f.nodes 17 (n ∷ []) []) (linked-below f.nodes 17 (n ∷ []) [] refl) p few
      by false p few = refl

  -- a tree that was loaded
  pub loaded-fits : (f f' : Forest K V) (es : List (K × V)) (h : Option ℕ) → Loads most f es (Ok h) f' → IsFitFor most (length es) (sizes_of f' h)
  loaded-fits f f' es h l =
      subst (λ xs. IsFitFor most (length xs) (sizes_of f' h)) l.loaded.list (packed-tree f' h l.packed (l.nodes ∙ ap (λ xs. fewest most (length xs)) (sym l.loaded.list)))

-- packed levels of one sum are one level
level-same : (most : ℕ) → 1 ≤ most → (a b : List ℕ) → IsPackedLevel most a → IsPackedLevel most b → total a ≡ total b → a ≡ b
level-same most one [] [] p q e = refl
level-same most one [] (y ∷ b) p q e = absurd (omega (arith, e, packed-some most one y b q))
level-same most one (x ∷ a) [] p q e = absurd (omega (arith, e, packed-some most one x a p))
level-same most one (x ∷ []) (y ∷ []) p q e =
    let is : x ≡ y = omega (arith, e, sum_by-cons (λ (n : ℕ). n) x [], sum_by-cons (λ (n : ℕ). n) y []) in ap (λ n. n ∷ []) is
level-same most one (x ∷ []) (y ∷ z ∷ b) p q e =
    absurd (omega (arith, e, sum_by-cons (λ (n : ℕ). n) x [], sum_by-cons (λ (n : ℕ). n) y (z ∷ b), packed-some most one z b q.1, p.1, q.0))
level-same most one (x ∷ z ∷ a) (y ∷ []) p q e =
    absurd (omega (arith, e, sum_by-cons (λ (n : ℕ). n) y [], sum_by-cons (λ (n : ℕ). n) x (z ∷ a), packed-some most one z a p.1, q.1, p.0))
level-same most one (x ∷ z ∷ a) (y ∷ w ∷ b) p q e =
    let is : x ≡ y = omega (arith, p.0, q.0) in
    let rest = level-same most one (z ∷ a) (w ∷ b) p.1 q.1 (omega (arith, e, sum_by-cons (λ (n : ℕ). n) x (z ∷ a), sum_by-cons (λ (n : ℕ). n) y (w ∷ b), is)) in
    λ j. is j ∷ rest j

levels-same : (count : ℕ) (a b : List (List ℕ)) → ArePackedLevels a → ArePackedLevels b → IsFitAbove count a → IsFitAbove count b → a ≡ b
levels-same count [] [] p q f g = refl
levels-same count [] (l ∷ b) p q f g = absurd (omega (arith, f, g.0))
levels-same count (l ∷ a) [] p q f g = absurd (omega (arith, g, f.0))
levels-same count (l ∷ a) (m ∷ b) p q f g =
    let is = level-same 8 (omega arith) l m p.0 q.0 (f.1 ∙ sym g.1) in
    λ j. is j ∷ levels-same (length m) a b p.1 q.1 (subst (λ x. IsFitAbove (length x) a) is f.3) g.3 j

none-above : (levels : List (List ℕ)) → IsFitAbove 0 levels → ⊥
none-above [] f = absurd (cc)
none-above (level ∷ levels) f = absurd (omega (arith, f.0))

-- packed trees of as many entries have nodes of the same sizes
pub packed-same : (most n : ℕ) → most % 2 ≡ 1 → (a b : List (List ℕ)) → ArePacked most a → ArePacked most b → IsFitFor most n a → IsFitFor most n b → a ≡ b
packed-same most n odd [] [] p q f g = refl
packed-same most n odd [] ([] ∷ b) p q f g = absurd (none-above b g.2)
packed-same most n odd [] ((y ∷ l) ∷ b) p q f g = absurd (omega (arith, f, g.0, packed-some most (room most odd) y l q.0))
packed-same most n odd ((x ∷ l) ∷ a) [] p q f g = absurd (omega (arith, g, f.0, packed-some most (room most odd) x l p.0))
packed-same most n odd ([] ∷ a) [] p q f g = absurd (none-above a f.2)
packed-same most n odd (l ∷ a) (m ∷ b) p q f g =
    let is = level-same most (room most odd) l m p.0 q.0 (f.0 ∙ sym g.0) in
    λ j. is j ∷ levels-same (length m) a b p.1 q.1 (subst (λ x. IsFitAbove (length x) a) is f.2) g.2 j
