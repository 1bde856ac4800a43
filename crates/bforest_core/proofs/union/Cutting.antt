-- Cutting what is below a node at a path: a leaf, and an inner node after the child through which the path goes.
use Rattle.bforest_core.proofs.Words.{◌≡◌, ◌≢◌, ℕ, zero, suc, ◌+◌, ◌-◌, ◌≤◌, ◌<◌, ◌↔◌, List, [], ◌∷◌, ◌++◌, length, take, drop, get_or, slice_get, Some, refl, sym, ap, subst, ◌∙◌, arith}
use Rattle.bforest_core.proofs.Words.{cases_lt, inl, inr, append-nil, append_assoc, length-append, length-map, IsAt, IsLeafCapacity, StandsTo, Row, Rows, RowsIn, Heads, Under, Content, Table, flat_map, flat_map-append}
use Rattle.bforest_core.proofs.Words.{Distinct, Frees, IsUsed, count, entry_count, entry_items, entry_keys, flat, half_of, heads, inner_content, leaf_content, node, numbers, numbers_under, with_freed, with_node}
use Rattle.bforest_core.proofs.rows.{LevelRows.{flat-append, numbers-append, some_leaf}, Zipper.{Cut, cut}}
use Rattle.bforest_core.proofs.table.{Stored.slice_get_at, Tables.{count-append, count-same, is_used, row-join, row-same, rows-same}, Trading.{frees-one, frees-then, puts, trades-wider}}
use Rattle.bforest_core.proofs.union.{Joining.{beside, numbers-beside, rows-in-beside, rows-in-over}, Opened.{UnderCut, one_node, under-cut}, Sweep.under-same}
use Rattle.bforest_core.proofs.union.{Fronts.{front-in, fronts-more, height-fronts, length-front, numbers-none, some-front, tops, tops-few, tops-none, tops-some}, Narrowing.{below-left, below-right, path-left, path-right, stands-less}}
use Rattle.bforest_core.proofs.walks.{LeafSearch.items-read, RowNodes.fit_full, TopNode.{InnerUnder, LeafUnder, inner_at, leaf_at, node_over}}
use Rattle.bforest_core.specs.Cut.{Between, LeavesFront, OnBranch, front_row, front_rows}
use Rattle.bforest_nodes.specs.Content.{first_part}
use Rattle.std.proofs.lemmas.List.{take-map}

-- the only node of a row
only-at : {K X : Type 0} (before : Row K X) (n : ℕ) (entries : List (K × X)) (after : Row K X) (m : ℕ) (es : List (K × X)) → node m es ∷ [] ≡ before ++ node n entries ∷ after → (before ≡ []) × (entries ≡ es)
only-at [] n entries after m es e = (refl, cc)
only-at (z ∷ before) n entries after m es e = absurd (omega (arith, ap length e, length-append before (node n entries ∷ after)))

-- a place in a row of one node
pub place-only : {K X : Type 0} {row : Row K X} {m : ℕ} {es : List (K × X)} {number index place : ℕ} → row ≡ node m es ∷ [] → (at : IsAt row number index place) → (place ≡ index) × (index < length es)
place-only {m = m} {es} {number} row_is at = let o = only-at at.before number at.entries at.after m es (sym row_is ∙ at.row_is) in
    (omega (arith, at.place_is, ap (λ z. length (flat z)) o.0), omega (arith, at.within, ap length o.1))

-- a place where a path stands is that of an entry
pub at-low : {K X : Type 0} {row : Row K X} {number index place : ℕ} → IsAt row number index place → place < length (flat row)
at-low {number = number} at = omega (arith, at.within, at.place_is, ap (λ z. length (flat z)) at.row_is, ap length (flat-append at.before (node number at.entries ∷ at.after)), length-append (flat at.before) (at.entries ++ flat at.after), length-append at.entries (flat at.after))

take-none : {A : Type 0} (n : ℕ) → take {A = A} n [] ≡ []
take-none zero = refl
take-none (suc n) = refl

-- the first keys but one
drop-take : {A : Type 0} (n : ℕ) (xs : List A) → 0 < n → take (n - 1) (drop 1 xs) ≡ drop 1 (take n xs)
drop-take zero xs some = absurd (omega arith)
drop-take (suc n) [] some = take-none (suc n - 1)
drop-take (suc n) (x ∷ xs) some = let less : suc n - 1 ≡ n = omega arith in ap (λ z. take z xs) less

module _ {K V : Type 0} where
  pub first-entries : (n : ℕ) (es : List (K × V)) → first_part n (leaf_content es) ≡ leaf_content (take n es)
  first-entries n es = cc (take-map (λ (e : K × V). e.0) n es, take-map (λ (e : K × V). e.1) n es)

  pub first-children : (n : ℕ) (es : Heads K) → 0 < n → first_part {V = V} n (inner_content es) ≡ inner_content (take n es)
  first-children n es some = cc (drop-take n (entry_keys es) some, take-map (λ (e : K × ℕ). e.0) n es, take-map (λ (e : K × ℕ). e.1) n es)

  pub rows-in-none : (slots : List (Content K V)) (rows : Rows K) → RowsIn slots rows → RowsIn slots (rows ++ [] ∷ [])
  rows-in-none slots [] i = (tt, tt)
  rows-in-none slots (row ∷ rows) i = (i.0, rows-in-none slots rows i.1)

  pub rows-in-fronts : (slots : List (Content K V)) (rows : Rows K) → RowsIn slots (front_rows 0 rows)
  rows-in-fronts slots [] = tt
  rows-in-fronts slots (row ∷ rows) = (tt, rows-in-fronts slots rows)

-- what is said of the nodes that are left, from how many entries are
pub answered : (count r : ℕ) → (count ≡ 0 → r ≡ 0) → (count ≢ 0 → r ≡ 1) → (r ≡ 0) ↔ (count ≡ 0)
answered count r none some = (λ e. elim (cases_lt 0 count) [ inl more ↦ absurd (omega (arith, some (λ z. omega (arith, z, more)), e)) | inr not ↦ omega arith ], λ e. none e)

module _ {K V : Type 0} {most : ℕ} (capacity : IsLeafCapacity most) {old : Table K V} {path indices : List ℕ} {level number : ℕ} {leaves : Row K V} {lower : Rows K} {place : ℕ} (b : OnBranch most old path indices level number leaves lower place) where
  -- the node is a leaf
  module _ (at_leaf : level ≡ 0) where
    pub leaf : LeafUnder (node_over lower [] b.first number [] b.under)
    leaf = leaf_at capacity (node_over lower [] b.first number [] b.under) (omega (arith, b.height))

    pub leaf-row : leaves ≡ node number (leaf.e ∷ leaf.es) ∷ []
    leaf-row = one_node most (some_leaf capacity) leaf.at

    pub leaf-place : (place ≡ get_or indices level 0) × (get_or indices level 0 < length (leaf.e ∷ leaf.es))
    leaf-place = let p = place-only leaf-row b.leaf in let here = ap (λ z. get_or indices z 0) at_leaf in (omega arith, omega arith)

    pub leaf-within : get_or indices level 0 ≤ length (entry_keys (leaf.e ∷ leaf.es))
    leaf-within = omega (arith, leaf-place.1, length-map (leaf.e ∷ leaf.es) (λ (e : K × V). e.0))

    pub leaf-counts : (m : ℕ) → count m (numbers_under leaves lower) ≡ count m (number ∷ [])
    leaf-counts m = omega (arith, count-append m (numbers leaves) (flat_map numbers lower), ap (λ z. count m (numbers z)) leaf-row, ap (λ z. count m (flat_map numbers z)) leaf.lower_is)

    pub leaf-used : IsUsed old number
    leaf-used = is_used old number _ leaf.slot_is (omega (arith, b.apart number, leaf-counts number, count-append number (numbers_under leaves lower) old.chain, count-same number []))

    -- all its entries go
    leaf-none : {new : Table K V} → place ≡ 0 → new ≡ with_freed old number → LeavesFront old new leaves lower place
    leaf-none {new} none freed = rw none (record {
      leaves_in = tt;
      rows_in = rows-in-fronts new.nodes lower;
      given = number ∷ [];
      frees = trades-wider (numbers_under leaves lower) ([] ++ flat_map numbers (front_rows 0 lower)) (λ m. omega (arith, leaf-counts m, ap (count m) (numbers-none lower))) (frees-one old new number leaf.slot_is freed);
    })

    -- the first entries stay
    leaf-some : {new : Table K V} → place ≢ 0 → new ≡ with_node old number (first_part place (leaf_content (leaf.e ∷ leaf.es))) → LeavesFront old new leaves lower place
    leaf-some {new} some put =
        let es = leaf.e ∷ leaf.es in let few = leaf-place in let p = puts old new number _ _ leaf.slot_is put in
        let front_is : front_row place leaves ≡ node number (take place es) ∷ [] = ap (front_row place) leaf-row ∙ front-in place number es [] (omega (arith, some)) (omega arith) in
        record {
          leaves_in = rw front_is (p.here ∙ ap Some (first-entries place es), tt);
          rows_in = rw leaf.lower_is tt;
          given = [];
          frees = trades-wider (numbers_under leaves lower) _ (λ m. omega (arith, leaf-counts m, count-append m (numbers (front_row place leaves)) (flat_map numbers (front_rows (length (front_row place leaves)) lower)), ap (λ z. count m (numbers z)) front_is, ap (λ z. count m (flat_map numbers (front_rows (length (front_row place leaves)) z))) leaf.lower_is)) p.frees;
        }

    -- the entries in front of the path's index stay
    pub leaf-left : {new : Table K V} (r : ℕ) → (get_or indices level 0 ≡ 0 → (r ≡ 0) × (new ≡ with_freed old number)) →
        (get_or indices level 0 ≢ 0 → (content : Content K V) → slice_get old.nodes number ≡ Some content → (r ≡ 1) × (new ≡ with_node old number (first_part (get_or indices level 0) content))) →
        LeavesFront old new leaves lower place × ((r ≡ 0) ↔ (place ≡ 0))
    leaf-left {new} r none some = let is = leaf-place.0 in let shown = answered (get_or indices level 0) r (λ e. (none e).0) (λ ne. (some ne _ leaf.slot_is).0) in
        let at = λ (z : place ≡ 0). sym is ∙ z in (
          elim (cases_lt 0 place) [
            | inl more ↦ leaf-some (λ z. omega (arith, z, more)) (subst (λ z. new ≡ with_node old number (first_part z (leaf_content (leaf.e ∷ leaf.es)))) (sym is) (some (λ z. omega (arith, z, more, is)) _ leaf.slot_is).1)
            | inr not ↦ leaf-none (omega arith) (none (omega arith)).1
          ],
          (λ e. is ∙ shown.0 e, λ z. shown.1 (at z)),
        )

  -- the node is an inner node
  module _ (above : level ≢ 0) where
    pub inner : InnerUnder (node_over lower [] b.first number [] b.under)
    inner = inner_at capacity (node_over lower [] b.first number [] b.under) (λ none. above (omega (arith, b.height)))

    abbrev pub children : Heads K
    children = inner.e ∷ inner.es

    pub inner-row : inner.row ≡ node number children ∷ []
    inner-row = one_node 8 (omega arith) inner.at

    -- how the path goes on below the node
    pub below : (q : ℕ) × StandsTo path indices 1 inner.rows (length b.leaf.before) q × (at : IsAt inner.row (get_or path level 0) (get_or indices level 0) q) × (length at.before ≡ 0)
    below = stands-less path indices 1 inner.rows inner.row (length b.leaf.before) 0 level (omega (arith, b.height, inner.count_is)) (rw (← inner.lower_is) b.up)

    pub index-is : (below.0 ≡ get_or indices level 0) × (get_or indices level 0 < length children)
    index-is = place-only inner-row below.2

    -- the child through which it goes, and those beside
    pub here : Cut children (get_or indices level 0)
    here = cut children (get_or indices level 0) index-is.1

    pub under-children : Under most old.nodes leaves inner.rows ((here.l ++ here.x ∷ []) ++ here.r)
    under-children = subst (Under most old.nodes leaves inner.rows) (ap flat inner-row ∙ append-nil children ∙ here.es_is ∙ sym (append_assoc here.l (here.x ∷ []) here.r)) inner.under

    -- what is below the child and those before it, and what is below those behind
    pub outer : UnderCut most old.nodes leaves inner.rows (here.l ++ here.x ∷ []) here.r
    outer = under-cut most old.nodes (some_leaf capacity) (here.l ++ here.x ∷ []) here.r under-children

    -- what is below the children before it, and what is below the child
    pub parts : UnderCut most old.nodes outer.leaves_left outer.lower_left here.l (here.x ∷ [])
    parts = under-cut most old.nodes (some_leaf capacity) here.l (here.x ∷ []) outer.left

    -- the path below the child
    pub outer-path : (at : IsAt outer.leaves_left (get_or path 0 0) (get_or indices 0 0) place) × StandsTo path indices 1 outer.lower_left (length at.before) below.0 × (place < length (flat outer.leaves_left))
    outer-path = path-left capacity outer path indices b.leaf below.1 (omega (arith, index-is.0, here.place_is, length-append here.l (here.x ∷ [])))

    abbrev pub front-count : ℕ
    front-count = length (flat parts.leaves_left)

    pub child-path : (at : IsAt parts.leaves_right (get_or path 0 0) (get_or indices 0 0) (place - front-count)) × StandsTo path indices 1 parts.lower_right (length at.before) (below.0 - length here.l) × (front-count ≤ place)
    child-path = path-right capacity parts path indices outer-path.0 outer-path.1 (omega (arith, index-is.0, here.place_is))

    abbrev pub own-place : ℕ
    own-place = place - front-count

    -- how often a number occurs
    pub parts-count : (m : ℕ) → count m (numbers_under leaves lower) ≡ count m (numbers_under parts.leaves_left parts.lower_left) + count m (numbers_under parts.leaves_right parts.lower_right)
        + count m (numbers_under outer.leaves_right outer.lower_right) + count m (number ∷ [])
    parts-count m = omega (
      arith,
      outer.counted m,
      parts.counted m,
      count-append m (numbers leaves) (flat_map numbers lower),
      count-append m (numbers leaves) (flat_map numbers inner.rows),
      ap (λ z. count m (flat_map numbers z)) inner.lower_is,
      ap (count m) (flat_map-append numbers inner.rows (inner.row ∷ [])),
      count-append m (flat_map numbers inner.rows) (numbers inner.row ++ []),
      count-append m (numbers inner.row) [],
      ap (λ z. count m (numbers z)) inner-row,
    )

    pub once : (m : ℕ) → count m (numbers_under parts.leaves_left parts.lower_left) + count m (numbers_under parts.leaves_right parts.lower_right)
        + count m (numbers_under outer.leaves_right outer.lower_right) + count m (number ∷ []) + count m old.chain ≤ 1
    once m = omega (arith, b.apart m, parts-count m, count-append m (numbers_under leaves lower) old.chain)

    pub one : 0 < count number (number ∷ [])
    one = omega (arith, count-same number [])

    pub child-is : slice_get (entry_items children) (get_or indices level 0) ≡ Some here.x.1
    child-is = let found = slice_get_at here.l here.x here.r (get_or indices level 0) here.place_is in let is = here.es_is in let read = items-read children (get_or indices level 0) in cc

    pub child-within : get_or indices level 0 < length (entry_items children)
    child-within = omega (arith, index-is.1, length-map children (λ (e : K × ℕ). e.1))

    -- the path goes on below the child
    pub child-on : {mid : Table K V} → Under most mid.nodes parts.leaves_right parts.lower_right (here.x ∷ []) → Distinct (numbers_under parts.leaves_right parts.lower_right ++ mid.chain) →
        {child : ℕ} → here.x.1 ≡ child → OnBranch most mid path indices (level - 1) child parts.leaves_right parts.lower_right own-place
    child-on {mid} under apart is = record {
      first = here.x.0;
      under = subst (λ z. Under most mid.nodes parts.leaves_right parts.lower_right ((here.x.0, z) ∷ [])) is under;
      leaf = child-path.0;
      up = (let none : below.0 - length here.l ≡ 0 = omega (arith, index-is.0, here.place_is) in subst (StandsTo path indices 1 parts.lower_right (length child-path.0.before)) none child-path.1);
      height = omega (arith, parts.right_height, outer.left_height, inner.count_is, b.height);
      apart = apart;
    }

    pub behind-asks : {to : ℕ} → to ≡ entry_count {V = V} (inner_content children) → level ≤ 16 → Between most old number (get_or indices level 0 + 1) to outer.leaves_right outer.lower_right here.r
    behind-asks to_is high = record {
      before = here.l ++ here.x ∷ [];
      after = [];
      slot_is = inner.slot_is ∙ ap (λ z. Some (inner_content z)) (here.es_is ∙ sym (append_assoc here.l (here.x ∷ []) here.r) ∙ ap (λ z. (here.l ++ here.x ∷ []) ++ z) (sym (append-nil here.r)));
      from_is = omega (arith, here.place_is, length-append here.l (here.x ∷ []));
      to_is = omega (arith, to_is, length-map children (λ (e : K × ℕ). e.1), ap length here.es_is, length-append here.l (here.x ∷ here.r), here.place_is);
      under = outer.right;
      low = omega (arith, high, b.height, inner.count_is, outer.right_height);
      outside = omega (arith, once number, one);
      apart = λ m. omega (arith, once m, count-append m (numbers_under outer.leaves_right outer.lower_right) old.chain);
    }

    abbrev pub kept-leaves : Row K V
    kept-leaves = front_row own-place parts.leaves_right

    abbrev pub kept-rows : Rows K
    kept-rows = front_rows (length kept-leaves) parts.lower_right

    -- what is in front of the path, where so many nodes of the child stay
    module _ (kept : ℕ) (none : (kept ≡ 0) ↔ (own-place ≡ 0)) (few : kept ≤ 1) where
      -- as many of the children as the code counts stay
      pub kept-tops : tops (length kept-leaves) parts.lower_right ≡ kept
      kept-tops = let full = fit_full (half_of most) most (some_leaf capacity) parts.leaves_right parts.right.leaves_fit in let low = length-front parts.leaves_right own-place in
          elim (cases_lt 0 own-place) [
            | inl some ↦ (
                let high = tops-few (heads parts.leaves_right) parts.lower_right (here.x ∷ []) (length kept-leaves) parts.right.stacked (omega (arith, full, low)) in
                let least = tops-some (heads parts.leaves_right) parts.lower_right (here.x ∷ []) (length kept-leaves) parts.right.stacked (some-front parts.leaves_right own-place some (omega (arith, at-low child-path.0))) (omega (arith, full, low)) in
                elim (cases_lt 0 kept) [ inl more ↦ omega (arith, high, least, few) | inr not ↦ absurd (omega (arith, none.0 (omega arith), some)) ]
                )
            | inr not ↦ (let zero_is : own-place ≡ 0 = omega arith in ap (λ z. tops (length (front_row z parts.leaves_right)) parts.lower_right) zero_is ∙ tops-none parts.lower_right ∙ sym (none.1 zero_is))
          ]

      outer-front : (front_row place leaves ≡ front_row place outer.leaves_left)
          × (front_rows (length (front_row place leaves)) inner.rows ≡ front_rows (length (front_row place outer.leaves_left)) outer.lower_left)
          × (tops (length (front_row place leaves)) inner.rows ≡ tops (length (front_row place outer.leaves_left)) outer.lower_left)
      outer-front = below-left capacity outer place (omega (arith, outer-path.2))

      parts-front : (front_row place outer.leaves_left ≡ parts.leaves_left ++ kept-leaves)
          × (front_rows (length (front_row place outer.leaves_left)) outer.lower_left ≡ beside parts.lower_left kept-rows)
          × (tops (length (front_row place outer.leaves_left)) outer.lower_left ≡ length here.l + tops (length kept-leaves) parts.lower_right)
      parts-front = below-right capacity parts place own-place (omega (arith, child-path.2))

      pub tops-are : tops (length (front_row place leaves)) inner.rows ≡ get_or indices level 0 + kept
      tops-are = omega (arith, outer-front.2, parts-front.2, kept-tops, here.place_is)

      pub within : get_or indices level 0 + kept ≤ length children
      within = omega (arith, index-is.1)

      pub kept-within : get_or indices level 0 + kept ≤ length (entry_items children)
      kept-within = omega (arith, within, length-map children (λ (e : K × ℕ). e.1))

      pub place-none : (get_or indices level 0 + kept ≡ 0) ↔ (place ≡ 0)
      place-none = (
        λ e. elim (cases_lt 0 place) [
          | inl some ↦ (
              let full = fit_full (half_of most) most (some_leaf capacity) leaves b.under.leaves_fit in
              absurd (omega (
                arith,
                e,
                tops-are,
                tops-some (heads leaves) inner.rows ((here.l ++ here.x ∷ []) ++ here.r) (length (front_row place leaves)) under-children.stacked
                    (some-front leaves place some (omega (arith, at-low b.leaf))) (omega (arith, full, length-front leaves place)),
              ))
              )
          | inr not ↦ omega arith
        ],
        λ e. sym tops-are ∙ ap (λ z. tops (length (front_row z leaves)) inner.rows) e ∙ tops-none inner.rows,
      )

      lower-are : front_rows (length (front_row place leaves)) lower ≡ beside parts.lower_left kept-rows ++ front_row (get_or indices level 0 + kept) (node number children ∷ []) ∷ []
      lower-are = ap (front_rows (length (front_row place leaves))) inner.lower_is ∙ fronts-more inner.rows inner.row (length (front_row place leaves)) ∙ cc (outer-front.1, parts-front.1, tops-are, inner-row)

      -- the node has become this row
      module _ (row : Row K ℕ) (row-is : front_row (get_or indices level 0 + kept) (node number children ∷ []) ≡ row) where
        pub leaves-are : front_row place leaves ≡ parts.leaves_left ++ kept-leaves
        leaves-are = outer-front.0 ∙ parts-front.0

        pub all-are : front_rows (length (front_row place leaves)) lower ≡ beside parts.lower_left kept-rows ++ row ∷ []
        all-are = lower-are ∙ ap (λ z. beside parts.lower_left kept-rows ++ z ∷ []) row-is

        pub left-count : (m : ℕ) → count m (numbers_under (front_row place leaves) (front_rows (length (front_row place leaves)) lower))
            ≡ count m (numbers_under parts.leaves_left parts.lower_left) + count m (numbers_under kept-leaves kept-rows) + count m (numbers row)
        left-count m = let rows = beside parts.lower_left kept-rows in omega (
          arith,
          count-append m (numbers (front_row place leaves)) (flat_map numbers (front_rows (length (front_row place leaves)) lower)),
          ap (λ z. count m (numbers z)) leaves-are,
          ap (count m) (numbers-append parts.leaves_left kept-leaves),
          count-append m (numbers parts.leaves_left) (numbers kept-leaves),
          ap (λ z. count m (flat_map numbers z)) all-are,
          ap (count m) (flat_map-append numbers rows (row ∷ [])),
          count-append m (flat_map numbers rows) (numbers row ++ []),
          count-append m (numbers row) [],
          numbers-beside parts.lower_left kept-rows (omega (arith, parts.left_height, parts.right_height, height-fronts parts.lower_right (length kept-leaves))) m,
          count-append m (numbers parts.leaves_left) (flat_map numbers parts.lower_left),
          count-append m (numbers kept-leaves) (flat_map numbers kept-rows),
        )

    -- what is behind the child is freed
    module _ {mid : Table K V} {gone : List ℕ} (swept : Frees old mid (numbers_under outer.leaves_right outer.lower_right) [] gone) where
      mid-chain : (m : ℕ) → count m mid.chain ≡ count m (numbers_under outer.leaves_right outer.lower_right) + count m old.chain
      mid-chain m = omega (arith, swept.numbers_are m, ap (count m) swept.chain_is, count-append m gone old.chain, count-append m gone [])

      pub child-asks : {child : ℕ} → here.x.1 ≡ child → OnBranch most mid path indices (level - 1) child parts.leaves_right parts.lower_right own-place
      child-asks = child-on (under-same mid.nodes (λ m some. swept.others m (omega (arith, once m))) parts.right)
          (λ m. omega (arith, once m, mid-chain m, count-append m (numbers_under parts.leaves_right parts.lower_right) mid.chain))

      -- what is below the child is cut
      module _ {last : Table K V} (cuts : LeavesFront mid last parts.leaves_right parts.lower_right own-place) where
        unchanged : (m : ℕ) → count m (numbers_under parts.leaves_right parts.lower_right) ≡ 0 → count m (numbers_under outer.leaves_right outer.lower_right) ≡ 0 → slice_get last.nodes m ≡ slice_get old.nodes m
        unchanged m none none' = cuts.frees.others m (omega arith) ∙ swept.others m (omega arith)

        pub slot-is : slice_get last.nodes number ≡ Some (inner_content children)
        slot-is = unchanged number (omega (arith, once number, one)) (omega (arith, once number, one)) ∙ inner.slot_is

        pub used-asks : IsUsed last number
        used-asks = is_used last number _ slot-is (omega (arith, once number, one, mid-chain number, cuts.frees.numbers_are number, ap (count number) cuts.frees.chain_is, count-append))

        module _ (kept : ℕ) (none : (kept ≡ 0) ↔ (own-place ≡ 0)) (few : kept ≤ 1) where
          -- the node is cut too, and has become this row
          module _ {new : Table K V} (row : Row K ℕ) (gone' : List ℕ) (row-is : front_row (get_or indices level 0 + kept) (node number children ∷ []) ≡ row)
              (frees : Frees last new (number ∷ []) (numbers row) gone') (over : (rows : Rows K) → RowsIn new.nodes rows → RowsIn new.nodes (rows ++ row ∷ [])) where
            kept-count : (m : ℕ) → count m (numbers_under kept-leaves kept-rows) ≤ count m (numbers_under parts.leaves_right parts.lower_right)
            kept-count m = omega (arith, cuts.frees.numbers_are m, count-append m cuts.given (numbers_under kept-leaves kept-rows))

            beside-same : (m : ℕ) → 0 < count m (numbers_under parts.leaves_left parts.lower_left) → slice_get new.nodes m ≡ slice_get old.nodes m
            beside-same m some = frees.others m (omega (arith, once m)) ∙ unchanged m (omega (arith, once m)) (omega (arith, once m))

            kept-same : (m : ℕ) → 0 < count m (numbers_under kept-leaves kept-rows) → slice_get new.nodes m ≡ slice_get last.nodes m
            kept-same m some = frees.others m (omega (arith, once m, kept-count m))

            closes : LeavesFront old new leaves lower place
            closes = record {
              leaves_in = rw (leaves-are kept none few row row-is) (row-join leaf_content new.nodes parts.leaves_left kept-leaves
                  (row-same leaf_content old.nodes new.nodes parts.leaves_left (λ m some. beside-same m (omega (arith, count-append m (numbers parts.leaves_left) (flat_map numbers parts.lower_left)))) parts.left.leaves_in)
                  (row-same leaf_content last.nodes new.nodes kept-leaves (λ m some. kept-same m (omega (arith, count-append m (numbers kept-leaves) (flat_map numbers kept-rows)))) cuts.leaves_in));
              rows_in = rw (all-are kept none few row row-is) (over (beside parts.lower_left kept-rows) (rows-in-beside new.nodes parts.lower_left kept-rows
                  (rows-same old.nodes new.nodes parts.lower_left (λ m some. beside-same m (omega (arith, count-append m (numbers parts.leaves_left) (flat_map numbers parts.lower_left)))) parts.left.rows_in)
                  (rows-same last.nodes new.nodes kept-rows (λ m some. kept-same m (omega (arith, count-append m (numbers kept-leaves) (flat_map numbers kept-rows)))) cuts.rows_in)));
              given = gone' ++ (cuts.given ++ gone);
              frees = frees-then (numbers_under leaves lower) (numbers_under (front_row place leaves) (front_rows (length (front_row place leaves)) lower))
                  (λ m. omega (arith, left-count kept none few row row-is m, parts-count m, count-append m (numbers_under outer.leaves_right outer.lower_right) (numbers_under parts.leaves_right parts.lower_right)))
                  b.apart
                  (frees-then (numbers_under outer.leaves_right outer.lower_right ++ numbers_under parts.leaves_right parts.lower_right) (numbers_under kept-leaves kept-rows)
                  (λ m. omega (arith, count-append m (numbers_under outer.leaves_right outer.lower_right) (numbers_under parts.leaves_right parts.lower_right)))
                  (λ m. omega (arith, once m, count-append m (numbers_under outer.leaves_right outer.lower_right) (numbers_under parts.leaves_right parts.lower_right), count-append m (numbers_under outer.leaves_right outer.lower_right ++ numbers_under parts.leaves_right parts.lower_right) old.chain)) swept cuts.frees)
                  frees;
            }

          -- no child is left
          inner-none : {new : Table K V} → get_or indices level 0 + kept ≡ 0 → new ≡ with_freed last number → LeavesFront old new leaves lower place
          inner-none {new} none' freed = closes [] (number ∷ []) (ap (λ z. front_row z (node number children ∷ [])) none') (frees-one last new number slot-is freed) (rows-in-none new.nodes)

          -- the first children stay
          inner-some : {new : Table K V} → get_or indices level 0 + kept ≢ 0 → new ≡ with_node last number (first_part (get_or indices level 0 + kept) (inner_content children)) → LeavesFront old new leaves lower place
          inner-some {new} some put = let p = puts last new number _ _ slot-is put in
              closes (node number (take (get_or indices level 0 + kept) children) ∷ []) [] (front-in (get_or indices level 0 + kept) number children [] (omega (arith, some)) (within kept none few)) p.frees
              (λ rows i. rows-in-over new.nodes rows number (take (get_or indices level 0 + kept) children) i (p.here ∙ ap Some (first-children (get_or indices level 0 + kept) children (omega (arith, some)))))

          -- the children in front of the path's index stay, and the child there if something is left of it
          pub inner-left : {new : Table K V} (r : ℕ) → (get_or indices level 0 + kept ≡ 0 → (r ≡ 0) × (new ≡ with_freed last number)) →
              (get_or indices level 0 + kept ≢ 0 → (content : Content K V) → slice_get last.nodes number ≡ Some content → (r ≡ 1) × (new ≡ with_node last number (first_part (get_or indices level 0 + kept) content))) →
              LeavesFront old new leaves lower place × ((r ≡ 0) ↔ (place ≡ 0))
          inner-left r none' some' = let shown = answered (get_or indices level 0 + kept) r (λ e. (none' e).0) (λ ne. (some' ne _ slot-is).0) in (
            elim (cases_lt 0 (get_or indices level 0 + kept)) [
              | inl more ↦ (let ne : get_or indices level 0 + kept ≢ 0 = λ z. omega (arith, z, more) in inner-some ne (some' ne _ slot-is).1)
              | inr not ↦ (let zero_is : get_or indices level 0 + kept ≡ 0 = omega arith in inner-none zero_is (none' zero_is).1)
            ],
            (λ e. (place-none kept none few).0 (shown.0 e), λ z. shown.1 ((place-none kept none few).1 z)),
          )
