-- Detaching what is behind a place below a node of a path, or freeing what is in front of it: a leaf, and an inner node from the child through
-- which the path goes.
use Rattle.bforest_core.proofs.Words.{◌≡◌, ◌≢◌, ℕ, zero, suc, ◌+◌, ◌-◌, ◌≤◌, ◌<◌, ◌↔◌, List, [], ◌∷◌, ◌++◌, length, take, drop, get_or, slice_get, Some, refl, sym, ap, subst, ◌∙◌, arith}
use Rattle.bforest_core.proofs.Words.{Bool, true, false, nat_eq, eqb_tells, cases_lt, inl, inr, append-nil, length-append, length-map, map-append, IsLeafCapacity, Heads, Row, Rows, RowsIn, StackedTo, Content, Table, flat_map, flat_map-append}
use Rattle.bforest_core.proofs.Words.{Draws, Frees, IsFree, IsInner, IsUsed, count, entry_count, entry_items, entry_keys, flat, half_of, heads, inner_content, leaf_content, node, node_count, numbers, numbers_under, sizes, with_node}
use Rattle.bforest_core.proofs.rows.Zipper.{Cut, cut}
use Rattle.bforest_core.proofs.rows.LevelRows.{flat-append, heads-append, numbers-append, sizes-append, some_leaf}
use Rattle.bforest_core.proofs.table.{Stored.some_same, Tables.{count-append, is_used, row-join, row-same, rows-same}, Trading.{apart_from, draws-after, draws-then, frees-then, puts, trades-none, trades-wider}}
use Rattle.bforest_core.proofs.union.{Account.{length-same, nodes-count}, Backs.{aside, back-in, back-length, back-some, backs-more, behind-left, behind-right, gones-low, gones_under, sizes-beside}, Joining.{beside, numbers-beside, piled-beside, piled-over, rows-in-beside, rows-in-over}, Sweep.under-same}
use Rattle.bforest_core.proofs.union.{Cutting.{all-are, at-low, child-is, child-on, child-path, child-within, children, first-children, first-entries, here, index-is, inner, inner-row, kept-leaves, kept-rows, leaf, leaf-counts, leaf-place, leaf-row, leaves-are, left-count, once, one, outer, outer-path, own-place, parts, parts-count, place-none, rows-in-fronts, within}}
use Rattle.bforest_core.proofs.union.{Fronts.{front-in, numbers-none, sizes-front, sizes-fronts}}
use Rattle.bforest_core.proofs.{removal.Collapse.length-sizes, walks.RowNodes.fit_full}
use Rattle.bforest_core.specs.{Cut.{Between, OnBranch, front_row, front_rows}, Detach.{IsBehind, LeavesBehind, Parts, Severs, row_sizes}, Packed.{Piled}, Sizes.{back, backs, fronts}}
use Rattle.bforest_nodes.specs.Content.{last_part, with_child_at}
use Rattle.std.proofs.Math.Seq.{drop-append-add, drop-append_seam}
use Rattle.std.proofs.lemmas.List.{drop-append-le, drop-map}
use Rattle.std.proofs.lemmas.List.Sums.{sum_by-append, sum_by-cons}

-- what a comparison of two numbers tells
pub eq-told : {r : Bool} (a b : ℕ) → r ≡ nat_eq a b → r ≡ true → a ≡ b
eq-told a b is told = elim (eqb_tells a b) [ inl w ↦ w.1 | inr w ↦ absurd (let e = w.0 in cc) ]

pub ne-told : {r : Bool} (a b : ℕ) → r ≡ nat_eq a b → r ≡ false → a ≢ b
ne-told a b is told = elim (eqb_tells a b) [ inl w ↦ absurd (let e = w.0 in cc) | inr w ↦ w.1 ]

module _ {K : Type 0} where
  keys-behind : (l : Heads K) (x : K × ℕ) (r : Heads K) → drop (length l) (drop 1 (entry_keys (l ++ x ∷ r))) ≡ entry_keys r
  keys-behind [] x r = refl
  keys-behind (y ∷ []) x r = refl
  keys-behind (y ∷ (z ∷ l)) x r = keys-behind (z ∷ l) x r

  items-behind : (l : Heads K) (x : K × ℕ) (r : Heads K) → drop (length l) (entry_items (l ++ x ∷ r)) ≡ x.1 ∷ entry_items r
  items-behind [] x r = refl
  items-behind (y ∷ l) x r = items-behind l x r

  pub piled-stacked : (list : Heads K) (rows : Rows K) (top : Heads K) → StackedTo list rows top → Piled list rows top
  piled-stacked list [] top s = s
  piled-stacked list (row ∷ rows) top s = (s.0, piled-stacked (heads row) rows top s.2)

module _ {K V : Type 0} where
  -- the children from one on, whatever key is named for the first
  pub last-children : (l : Heads K) (x : K × ℕ) (r : Heads K) (k : K) → last_part {V = V} (length l) (inner_content (l ++ x ∷ r)) ≡ inner_content ((k, x.1) ∷ r)
  last-children l x r k = cc (keys-behind l x r, items-behind l x r)

  last-entries : (n : ℕ) (es : List (K × V)) → last_part n (leaf_content es) ≡ leaf_content (drop n es)
  last-entries n es = cc (drop-map (λ (e : K × V). e.0) n es, drop-map (λ (e : K × V). e.1) n es)

  -- the sizes of what is in front of a place, as those of its rows
  pub front-sizes : (place : ℕ) (leaves : Row K V) (lower : Rows K) → fronts place (row_sizes leaves lower) ≡ row_sizes (front_row place leaves) (front_rows (length (front_row place leaves)) lower)
  front-sizes place leaves lower = let here = sizes-front leaves place in let len = length-sizes (front_row place leaves) in cc (here, len, sizes-fronts lower (length (front_row place leaves)))

  -- the nodes of some leaves and rows, counted by levels
  pub size-count : (leaves : Row K V) (lower : Rows K) → length (numbers_under leaves lower) ≡ node_count (row_sizes leaves lower)
  size-count leaves lower = nodes-count (record { leaves = leaves; above = lower })

length-numbers : {K X : Type 0} (row : Row K X) → length (numbers row) ≡ length row
length-numbers [] = refl
length-numbers (node n es ∷ row) = ap suc (length-numbers row)

pub backs-none : (levels : List (List ℕ)) → backs 0 levels ≡ levels
backs-none [] = refl
backs-none (level ∷ levels) = let none : length level - length level ≡ 0 = omega arith in ap (λ z. level ∷ z) (ap (λ z. backs z levels) none ∙ backs-none levels)

pub backs-length : (gone : ℕ) (levels : List (List ℕ)) → length (backs gone levels) ≡ length levels
backs-length gone [] = refl
backs-length gone (level ∷ levels) = ap suc (backs-length (length level - length (back gone level)) levels)

count-more : (level : List ℕ) (levels : List (List ℕ)) → node_count (level ∷ levels) ≡ length level + node_count levels
count-more level levels = sum_by-cons (λ (z : List ℕ). length z) level levels

count-aside : (a b : List (List ℕ)) → length a ≡ length b → node_count (aside a b) ≡ node_count a + node_count b
count-aside [] [] same = refl
count-aside [] (level ∷ b) same = absurd (omega arith)
count-aside (level ∷ a) [] same = absurd (omega arith)
count-aside (level ∷ a) (other ∷ b) same = omega (arith, length-append level other, count-aside a b (omega arith), count-more level a, count-more other b, count-more (level ++ other) (aside a b))

whole-tally : {K V : Type 0} (leaves : Row K V) (lower : Rows K) (place : ℕ) → place ≡ 0 → node_count (fronts place (row_sizes leaves lower)) + node_count (backs place (row_sizes leaves lower)) ≡ node_count (row_sizes leaves lower)
whole-tally {V = V} leaves lower place none =
    subst (λ z. node_count (fronts z (row_sizes leaves lower)) + node_count (backs z (row_sizes leaves lower)) ≡ node_count (row_sizes leaves lower)) (sym none)
    (omega (arith, ap node_count (front-sizes 0 leaves lower), size-count {V = V} [] (front_rows 0 lower), ap length (numbers-none lower), ap node_count (backs-none (row_sizes leaves lower))))

back-one : (gone size : ℕ) → gone < size → back gone (size ∷ []) ≡ (size - gone) ∷ []
back-one zero size low = let same : size ≡ size - 0 = omega arith in ap (λ z. z ∷ []) same
back-one (suc gone) size low = back-in (suc gone) size [] (omega arith) low

module _ {K V : Type 0} {most : ℕ} {old : Table K V} {path indices : List ℕ} {level number : ℕ} {leaves : Row K V} {lower : Rows K} {place : ℕ} (b : OnBranch most old path indices level number leaves lower place) where
  none-front : (m : ℕ) → count m (numbers_under {K = K} {V = V} [] (front_rows 0 lower)) ≡ 0
  none-front m = ap (count m) (numbers-none lower)

  -- nothing is in front
  pub whole : place ≡ 0 → Parts old old leaves lower place number
  whole none = subst (λ z. Parts old old leaves lower z number) (sym none) (record {
    leaves_in = tt;
    rows_in = rows-in-fronts old.nodes lower;
    rest = record {
      tail = leaves;
      above = lower;
      first = b.first;
      tail_in = b.under.leaves_in;
      above_in = b.under.rows_in;
      tail_is = refl;
      piled = piled-stacked (heads leaves) lower ((b.first, number) ∷ []) b.under.stacked;
      sizes_are = sym (backs-none (row_sizes leaves lower));
    };
    taken = [];
    draws = trades-wider (numbers_under leaves lower) (numbers_under {V = V} [] (front_rows 0 lower) ++ numbers_under leaves lower)
        (λ m. omega (arith, none-front m, count-append m (numbers_under {V = V} [] (front_rows 0 lower)) (numbers_under leaves lower))) (trades-none old []);
  })

module _ {K V : Type 0} {most : ℕ} (capacity : IsLeafCapacity most) {old : Table K V} {path indices : List ℕ} {level number : ℕ} {leaves : Row K V} {lower : Rows K} {place : ℕ} (b : OnBranch most old path indices level number leaves lower place) where
  -- the node is a leaf
  module _ (at_leaf : level ≡ 0) where
    abbrev es : List (K × V)
    es = (leaf capacity b at_leaf).e ∷ (leaf capacity b at_leaf).es

    few : (place ≡ get_or indices level 0) × (get_or indices level 0 < length es)
    few = leaf-place capacity b at_leaf

    bare : lower ≡ []
    bare = (leaf capacity b at_leaf).lower_is

    -- the entries from the place on, of which there is one
    behind-es : Cut es place
    behind-es = cut es place (omega (arith, few.0, few.1))

    -- a leaf has them
    abbrev leaf-rest : {new : Table K V} {r : ℕ} → slice_get new.nodes r ≡ Some (last_part place (leaf_content es)) → IsBehind new leaves lower place r
    leaf-rest {new} {r} there =
        let row = leaf-row capacity b at_leaf in let c = behind-es in
        let at : place ≡ length c.l = omega (arith, c.place_is) in
        let drop_is : drop place es ≡ c.x ∷ c.r = ap (λ z. drop z es) at ∙ ap (drop (length c.l)) c.es_is ∙ drop-append_seam c.l (c.x ∷ c.r) in
        let many : length es - place ≡ suc (length c.r) = omega (arith, ap length c.es_is, length-append c.l (c.x ∷ c.r), at) in
        record {
          tail = node r (c.x ∷ c.r) ∷ [];
          above = [];
          first = c.x.0;
          tail_in = (there ∙ ap Some (last-entries place es ∙ ap leaf_content drop_is), tt);
          above_in = tt;
          tail_is = append-nil (c.x ∷ c.r) ∙ sym (ap (λ z. drop place (flat z)) row ∙ ap (drop place) (append-nil es) ∙ drop_is);
          piled = refl;
          sizes_are = sym (ap (λ z. backs place (row_sizes leaves z)) bare ∙ ap (λ z. back place (sizes z) ∷ []) row ∙ ap (λ z. z ∷ []) (back-one place (length es) (omega (arith, few.0, few.1))) ∙ ap (λ z. (z ∷ []) ∷ []) many);
        }

    -- the leaf is parted
    leaf-parted : {new : Table K V} {r : ℕ} → place ≢ 0 → Severs old new number place place (leaf_content es) r → Parts old new leaves lower place r
    leaf-parted {new} {r} some s =
        let row = leaf-row capacity b at_leaf in let q = leaf-rest s.there in
        let front_is : front_row place leaves ≡ node number (take place es) ∷ [] = ap (front_row place) row ∙ front-in place number es [] (omega (arith, some)) (omega (arith, few.0, few.1)) in
        record {
          leaves_in = rw front_is (s.here ∙ ap Some (first-entries place es), tt);
          rows_in = rw bare tt;
          rest = q;
          taken = r ∷ [];
          draws = trades-wider (numbers_under leaves lower) (numbers_under (front_row place leaves) (front_rows (length (front_row place leaves)) lower) ++ numbers_under q.tail q.above)
              (λ m. omega (
                arith,
                leaf-counts capacity b at_leaf m,
                count-append m (numbers_under (front_row place leaves) (front_rows (length (front_row place leaves)) lower)) (numbers_under q.tail q.above),
                count-append m (numbers (front_row place leaves)) (flat_map numbers (front_rows (length (front_row place leaves)) lower)),
                ap (λ z. count m (numbers z)) front_is,
                ap (λ z. count m (flat_map numbers (front_rows (length (front_row place leaves)) z))) bare,
                count-append m (number ∷ []) (r ∷ []),
              )) s.draws;
        }

    -- the entries in front of the path's index go
    pub leaf-behind : {new : Table K V} → ((content : Content K V) → slice_get old.nodes number ≡ Some content → new ≡ with_node old number (last_part (get_or indices level 0) content)) →
        LeavesBehind old new leaves lower place number
    leaf-behind {new} put =
        let slot = (leaf capacity b at_leaf).slot_is in let q = puts old new number _ _ slot (put _ slot) in
        let there : slice_get new.nodes number ≡ Some (last_part place (leaf_content es)) = q.here ∙ ap (λ z. Some (last_part z (leaf_content es))) (sym few.0) in
        let rest = leaf-rest there in
        record { rest = rest; given = []; frees = trades-wider (numbers_under leaves lower) (numbers_under rest.tail rest.above) (λ m. omega (arith, leaf-counts capacity b at_leaf m)) q.frees }

    pub leaf-low : get_or indices level 0 < length (entry_keys es)
    leaf-low = omega (arith, few.1, length-map es (λ (e : K × V). e.0))

    pub leaf-tally : place ≢ 0 → node_count (fronts place (row_sizes leaves lower)) + node_count (backs place (row_sizes leaves lower)) ≡ suc (node_count (row_sizes leaves lower))
    leaf-tally some = let Says = λ (ls : Row K V) (rs : Rows K). node_count (fronts place (row_sizes ls rs)) + node_count (backs place (row_sizes ls rs)) ≡ suc (node_count (row_sizes ls rs)) in
        let front_is = sym (sizes-front (node number es ∷ []) place) ∙ ap sizes (front-in place number es [] (omega (arith, some)) (omega (arith, few.0, few.1))) in
        let behind_is = back-one place (length es) (omega (arith, few.0, few.1)) in
        let only : Says (node number es ∷ []) [] = omega (arith, ap (λ z. node_count (z ∷ [])) front_is, ap (λ z. node_count (z ∷ [])) behind_is) in
        subst (λ z. Says z lower) (sym (leaf-row capacity b at_leaf)) (subst (λ z. Says (node number es ∷ []) z) (sym bare) only)

    pub leaf-room : (free : ℕ) → node_count (fronts place (row_sizes leaves lower)) + node_count (backs place (row_sizes leaves lower)) ≤ node_count (row_sizes leaves lower) + free → get_or indices level 0 ≢ 0 → 0 < free
    leaf-room free room some = omega (arith, room, leaf-tally (λ z. some (sym few.0 ∙ z)))

    pub leaf-parts : {new : Table K V} (r : ℕ) → (get_or indices level 0 ≡ 0 → (r ≡ number) × (new ≡ old)) →
        (get_or indices level 0 ≢ 0 → (content : Content K V) → slice_get old.nodes number ≡ Some content → (r ≢ number) × Severs old new number (get_or indices level 0) (get_or indices level 0) content r) →
        Parts old new leaves lower place r × (place ≡ 0 → (r ≡ number) × (new ≡ old)) × (place ≢ 0 → r ≢ number)
    leaf-parts {new} r none some = let at = few.0 in let slot = (leaf capacity b at_leaf).slot_is in
        let parted : (ne : place ≢ 0) → (r ≢ number) × Severs old new number place place (leaf_content es) r =
        λ ne. subst (λ z. (r ≢ number) × Severs old new number z z (leaf_content es) r) (sym at) (some (λ z. ne (at ∙ z)) (leaf_content es) slot) in (
          elim (cases_lt 0 place) [
            | inl more ↦ (let ne : place ≢ 0 = λ z. omega (arith, z, more) in leaf-parted ne (parted ne).1)
            | inr not ↦ (let zero_is : place ≡ 0 = omega arith in let n = none (sym at ∙ zero_is) in rw (n.0, n.1) (whole b zero_is))
          ],
          (λ z. none (sym at ∙ z)),
          (λ ne. (parted ne).0),
        )

  -- the node is an inner node
  module _ (high : level ≢ 0) where
    abbrev left-leaves : Row K V
    left-leaves = (parts capacity b high).leaves_left

    abbrev left-rows : Rows K
    left-rows = (parts capacity b high).lower_left

    abbrev own-leaves : Row K V
    own-leaves = (parts capacity b high).leaves_right

    abbrev own-rows : Rows K
    own-rows = (parts capacity b high).lower_right

    abbrev right-leaves : Row K V
    right-leaves = (outer capacity b high).leaves_right

    abbrev right-rows : Rows K
    right-rows = (outer capacity b high).lower_right

    abbrev own : ℕ
    own = own-place capacity b high

    abbrev index : ℕ
    index = get_or indices level 0

    abbrev right-top : Heads K
    right-top = (here capacity b high).r

    index-at : length (here capacity b high).l ≡ index
    index-at = (here capacity b high).place_is

    own-low : own < length (flat own-leaves)
    own-low = at-low (child-path capacity b high).0

    place-is : place ≡ length (flat left-leaves) + own
    place-is = omega (arith, (child-path capacity b high).2)

    pub child-branch : {child : ℕ} → (here capacity b high).x.1 ≡ child → OnBranch most old path indices (level - 1) child own-leaves own-rows own
    child-branch = child-on capacity b high (parts capacity b high).right (λ m. omega (arith, once capacity b high m, count-append m (numbers_under own-leaves own-rows) old.chain))

    -- none of the child's level is in front but those before it
    own-gones : gones_under own own-leaves own-rows ≡ 0
    own-gones = let u = (parts capacity b high).right in omega (
      arith,
      gones-low (heads own-leaves) own-rows ((here capacity b high).x ∷ []) (length (sizes own-leaves) - length (back own (sizes own-leaves))) u.stacked
          (omega (arith, back-some own-leaves own own-low, back-length own-leaves own, length-sizes own-leaves, fit_full (half_of most) most (some_leaf capacity) own-leaves u.leaves_fit)),
    )

    -- the sizes of what is behind the place below the node
    behind-is : backs place (row_sizes leaves lower) ≡ aside (backs own (row_sizes own-leaves own-rows)) (row_sizes right-leaves right-rows) ++ (suc (length right-top) ∷ []) ∷ []
    behind-is =
        let i = inner capacity b high in
        let l = behind-left (some_leaf capacity) (outer capacity b high) place (omega (arith, (outer-path capacity b high).2)) in
        let r = behind-right (some_leaf capacity) (parts capacity b high) place own place-is in
        let at : gones_under place leaves i.rows ≡ index = omega (arith, l.1, r.1, own-gones, index-at) in
        let many : length (children capacity b high) - index ≡ suc (length right-top) =
        omega (arith, ap length (here capacity b high).es_is, length-append (here capacity b high).l ((here capacity b high).x ∷ right-top), index-at) in
        let more = ap (λ z. back place (sizes leaves) ∷ z) (backs-more i.rows i.row (length (sizes leaves) - length (back place (sizes leaves)))) in
        let top : back (gones_under place leaves i.rows) (sizes i.row) ≡ suc (length right-top) ∷ [] =
        ap (λ z. back z (sizes i.row)) at ∙ ap (λ z. back index (sizes z)) (inner-row capacity b high) ∙ back-one index (length (children capacity b high)) (index-is capacity b high).1 ∙ ap (λ z. z ∷ []) many in
        ap (λ z. backs place (row_sizes leaves z)) i.lower_is ∙ more
        ∙ ap (λ z. backs place (row_sizes leaves i.rows) ++ z ∷ []) top ∙ ap (λ z. z ++ (suc (length right-top) ∷ []) ∷ []) (l.0 ∙ ap (λ z. aside z (row_sizes right-leaves right-rows)) r.0)

    -- what is below the child from the path on is below a node, and another node has that one and the children behind the child
    module _ {mid : Table K V} {first : ℕ} (behind : ℕ) (p : IsBehind mid own-leaves own-rows own first) where
      heights : length p.above ≡ length right-rows
      heights = omega (
        arith,
        ap length p.sizes_are,
        backs-length own (row_sizes own-leaves own-rows),
        length-map p.above sizes,
        length-map own-rows sizes,
        (parts capacity b high).right_height,
        (outer capacity b high).left_height,
        (outer capacity b high).right_height,
      )

      abbrev tail-top : Heads K
      tail-top = (p.first, first) ∷ right-top

      abbrev tail : Row K V
      tail = p.tail ++ right-leaves

      abbrev above : Rows K
      above = beside p.above right-rows ++ (node behind tail-top ∷ []) ∷ []

      tail-count : (m : ℕ) → count m (numbers_under tail above) ≡ count m (numbers_under p.tail p.above) + count m (numbers_under right-leaves right-rows) + count m (behind ∷ [])
      tail-count m = omega (
        arith,
        count-append m (numbers tail) (flat_map numbers above),
        ap (count m) (numbers-append p.tail right-leaves),
        count-append m (numbers p.tail) (numbers right-leaves),
        ap (count m) (flat_map-append numbers (beside p.above right-rows) ((node behind tail-top ∷ []) ∷ [])),
        count-append m (flat_map numbers (beside p.above right-rows)) ((behind ∷ []) ++ []),
        numbers-beside p.above right-rows heights m,
        count-append m (numbers p.tail) (flat_map numbers p.above),
        count-append m (numbers right-leaves) (flat_map numbers right-rows),
      )

      flat-is : flat leaves ≡ (flat left-leaves ++ flat own-leaves) ++ flat right-leaves
      flat-is = ap flat (outer capacity b high).leaves_are ∙ flat-append (outer capacity b high).leaves_left right-leaves
          ∙ ap (λ z. z ++ flat right-leaves) (ap flat (parts capacity b high).leaves_are ∙ flat-append left-leaves own-leaves)

      tail-is : flat tail ≡ drop place (flat leaves)
      tail-is = flat-append p.tail right-leaves ∙ ap (λ z. z ++ flat right-leaves) (p.tail_is ∙ sym (drop-append-add (flat left-leaves) (flat own-leaves) own) ∙ ap (λ z. drop z (flat left-leaves ++ flat own-leaves)) (sym place-is))
          ∙ sym (ap (drop place) flat-is ∙ drop-append-le place (flat left-leaves ++ flat own-leaves) (flat right-leaves) (omega (arith, place-is, own-low, length-append (flat left-leaves) (flat own-leaves))))

      sizes-are : row_sizes tail above ≡ backs place (row_sizes leaves lower)
      sizes-are = let here : row_sizes tail above ≡ aside (row_sizes p.tail p.above) (row_sizes right-leaves right-rows) ++ (suc (length right-top) ∷ []) ∷ [] =
          cc (sizes-append p.tail right-leaves, map-append sizes (beside p.above right-rows) ((node behind tail-top ∷ []) ∷ []), sizes-beside p.above right-rows) in
          here ∙ ap (λ z. aside z (row_sizes right-leaves right-rows) ++ (suc (length right-top) ∷ []) ∷ []) p.sizes_are ∙ sym behind-is

      abbrev inner-rest : {new : Table K V} → ((m : ℕ) → 0 < count m (numbers_under p.tail p.above) → slice_get new.nodes m ≡ slice_get mid.nodes m) →
          ((m : ℕ) → 0 < count m (numbers_under right-leaves right-rows) → slice_get new.nodes m ≡ slice_get old.nodes m) →
          slice_get new.nodes behind ≡ Some (inner_content tail-top) → IsBehind new leaves lower place behind
      inner-rest {new} still outside there = record {
        tail = tail;
        above = above;
        first = p.first;
        tail_in = row-join leaf_content new.nodes p.tail right-leaves
            (row-same leaf_content mid.nodes new.nodes p.tail (λ m some. still m (omega (arith, some, count-append m (numbers p.tail) (flat_map numbers p.above)))) p.tail_in)
            (row-same leaf_content old.nodes new.nodes right-leaves (λ m some. outside m (omega (arith, some, count-append m (numbers right-leaves) (flat_map numbers right-rows)))) (outer capacity b high).right.leaves_in);
        above_in = rows-in-over new.nodes (beside p.above right-rows) behind tail-top (rows-in-beside new.nodes p.above right-rows
            (rows-same mid.nodes new.nodes p.above (λ m some. still m (omega (arith, some, count-append m (numbers p.tail) (flat_map numbers p.above)))) p.above_in)
            (rows-same old.nodes new.nodes right-rows (λ m some. outside m (omega (arith, some, count-append m (numbers right-leaves) (flat_map numbers right-rows)))) (outer capacity b high).right.rows_in)) there;
        tail_is = tail-is;
        piled = rw (heads-append p.tail right-leaves) (piled-over (heads p.tail ++ heads right-leaves) right-top (beside p.above right-rows) behind (p.first, first)
            (piled-beside (heads p.tail) (heads right-leaves) ((p.first, first) ∷ []) right-top p.above right-rows heights p.piled (piled-stacked (heads right-leaves) right-rows right-top (outer capacity b high).right.stacked)));
        sizes_are = sizes-are;
      }

    -- what is below the child is parted, so many nodes of it are in front, and the node has become this row and another node
    module _ {mid new : Table K V} {first : ℕ} (behind : ℕ) (p : Parts old mid own-leaves own-rows own first) (kept : ℕ) (none : (kept ≡ 0) ↔ (own ≡ 0)) (few' : kept ≤ 1)
        (row : Row K ℕ) (row-is : front_row (index + kept) (node number (children capacity b high) ∷ []) ≡ row) {taken : List ℕ} (top : Draws mid new (number ∷ []) (numbers row ++ behind ∷ []) taken)
        (over : (rows : Rows K) → RowsIn new.nodes rows → RowsIn new.nodes (rows ++ row ∷ [])) (there : slice_get new.nodes behind ≡ Some (inner_content ((p.first, first) ∷ right-top))) where
      chains : (m : ℕ) → (count m p.taken + count m mid.chain ≡ count m old.chain) × (count m taken + count m new.chain ≡ count m mid.chain)
      chains m = (omega (arith, ap (count m) p.draws.chain_is, count-append m p.taken mid.chain), omega (arith, ap (count m) top.chain_is, count-append m taken new.chain))

      halves : (m : ℕ) → count m (numbers_under (kept-leaves capacity b high) (kept-rows capacity b high)) + count m (numbers_under p.tail p.above) ≡ count m p.taken + count m (numbers_under own-leaves own-rows)
      halves m = omega (
        arith,
        p.draws.numbers_are m,
        count-append m (numbers_under (kept-leaves capacity b high) (kept-rows capacity b high)) (numbers_under p.tail p.above),
        count-append m p.taken (numbers_under own-leaves own-rows),
      )

      still : (m : ℕ) → 0 < count m (numbers_under (kept-leaves capacity b high) (kept-rows capacity b high)) + count m (numbers_under p.tail p.above) → slice_get new.nodes m ≡ slice_get mid.nodes m
      still m some = top.others m (omega (arith, some, halves m, chains m, once capacity b high m, count-append m taken (number ∷ [])))

      outside : (m : ℕ) → 0 < count m (numbers_under left-leaves left-rows) + count m (numbers_under right-leaves right-rows) → slice_get new.nodes m ≡ slice_get old.nodes m
      outside m some = top.others m (omega (arith, some, chains m, once capacity b high m, count-append m taken (number ∷ [])))
          ∙ p.draws.others m (omega (arith, some, chains m, once capacity b high m, count-append m p.taken (numbers_under own-leaves own-rows)))

      closes : Parts old new leaves lower place behind
      closes = record {
        leaves_in = rw (leaves-are capacity b high kept none few' row row-is) (row-join leaf_content new.nodes left-leaves (kept-leaves capacity b high)
            (row-same leaf_content old.nodes new.nodes left-leaves (λ m some. outside m (omega (arith, some, count-append m (numbers left-leaves) (flat_map numbers left-rows)))) (parts capacity b high).left.leaves_in)
            (row-same leaf_content mid.nodes new.nodes (kept-leaves capacity b high) (λ m some. still m (omega (arith, some, count-append m (numbers (kept-leaves capacity b high)) (flat_map numbers (kept-rows capacity b high))))) p.leaves_in));
        rows_in = rw (all-are capacity b high kept none few' row row-is) (over (beside left-rows (kept-rows capacity b high)) (rows-in-beside new.nodes left-rows (kept-rows capacity b high)
            (rows-same old.nodes new.nodes left-rows (λ m some. outside m (omega (arith, some, count-append m (numbers left-leaves) (flat_map numbers left-rows)))) (parts capacity b high).left.rows_in)
            (rows-same mid.nodes new.nodes (kept-rows capacity b high) (λ m some. still m (omega (arith, some, count-append m (numbers (kept-leaves capacity b high)) (flat_map numbers (kept-rows capacity b high))))) p.rows_in)));
        rest = inner-rest behind p.rest (λ m some. still m (omega (arith, some))) (λ m some. outside m (omega (arith, some))) there;
        taken = p.taken ++ taken;
        draws = draws-then (numbers_under leaves lower) (numbers_under (front_row place leaves) (front_rows (length (front_row place leaves)) lower) ++ numbers_under (tail behind p.rest) (above behind p.rest))
            (λ m. omega (
              arith,
              parts-count capacity b high m,
              halves m,
              left-count capacity b high kept none few' row row-is m,
              tail-count behind p.rest m,
              count-append m (numbers_under (front_row place leaves) (front_rows (length (front_row place leaves)) lower)) (numbers_under (tail behind p.rest) (above behind p.rest)),
              count-append m (numbers_under (kept-leaves capacity b high) (kept-rows capacity b high)) (numbers_under p.tail p.above),
              count-append m (numbers row) (behind ∷ []),
            )) p.draws top;
      }

    -- what the slot of the second part holds, whatever key is named for its first child
    rest-is : (k : K) → last_part {V = V} index (inner_content (children capacity b high)) ≡ inner_content ((k, (here capacity b high).x.1) ∷ right-top)
    rest-is k = let h = here capacity b high in ap (λ z. last_part {V = V} index (inner_content z)) h.es_is ∙ ap (λ z. last_part {V = V} z (inner_content (h.l ++ h.x ∷ h.r))) (sym index-at) ∙ last-children h.l h.x h.r k

    -- the children in front of the path, and what is below them
    pub front-asks : level ≤ 16 → Between most old number 0 index left-leaves left-rows (here capacity b high).l
    front-asks low' = record {
      before = [];
      after = (here capacity b high).x ∷ right-top;
      slot_is = (inner capacity b high).slot_is ∙ ap (λ z. Some (inner_content z)) (here capacity b high).es_is;
      from_is = refl;
      to_is = omega (arith, index-at);
      under = (parts capacity b high).left;
      low = omega (arith, low', b.height, (inner capacity b high).count_is, (parts capacity b high).left_height, (outer capacity b high).left_height);
      outside = omega (arith, once capacity b high number, one capacity b high);
      apart = λ m. omega (arith, once capacity b high m, count-append m (numbers_under left-leaves left-rows) old.chain);
    }

    -- what is below the children in front of the path is freed
    module _ {mid : Table K V} {gone : List ℕ} (swept : Frees old mid (numbers_under left-leaves left-rows) [] gone) where
      swept-chain : (m : ℕ) → count m mid.chain ≡ count m (numbers_under left-leaves left-rows) + count m old.chain
      swept-chain m = omega (arith, swept.numbers_are m, ap (count m) swept.chain_is, count-append m gone old.chain, count-append m gone [])

      pub swept-branch : {child : ℕ} → (here capacity b high).x.1 ≡ child → OnBranch most mid path indices (level - 1) child own-leaves own-rows own
      swept-branch = child-on capacity b high (under-same mid.nodes (λ m some. swept.others m (omega (arith, some, once capacity b high m))) (parts capacity b high).right)
          (λ m. omega (arith, once capacity b high m, swept-chain m, count-append m (numbers_under own-leaves own-rows) mid.chain))

      -- what is in front of the path below the child is freed too
      module _ {last : Table K V} {child : ℕ} (is : (here capacity b high).x.1 ≡ child) (p : LeavesBehind mid last own-leaves own-rows own child) where
        left-over : (m : ℕ) → (count m (numbers_under own-leaves own-rows) ≡ count m p.given + count m (numbers_under p.tail p.above)) × (count m last.chain ≡ count m p.given + count m mid.chain)
        left-over m = (omega (arith, p.frees.numbers_are m, count-append m p.given (numbers_under p.tail p.above)), omega (arith, ap (count m) p.frees.chain_is, count-append m p.given mid.chain))

        still-inner : slice_get last.nodes number ≡ Some (inner_content (children capacity b high))
        still-inner = let o = once capacity b high number in let n = one capacity b high in p.frees.others number (omega (arith, o, n)) ∙ swept.others number (omega (arith, o, n)) ∙ (inner capacity b high).slot_is

        pub back-asks : IsUsed last number × ((content : Content K V) × (slice_get last.nodes number ≡ Some content) × (¬ IsFree content) × (index < entry_count content))
        back-asks = (
          is_used last number _ still-inner (omega (arith, once capacity b high number, one capacity b high, swept-chain number, left-over number)),
          (_, still-inner, (λ free. free), child-within capacity b high),
        )

        -- the node keeps its children from the path on
        pub inner-behind : {new : Table K V} → ((content : Content K V) → slice_get last.nodes number ≡ Some content → new ≡ with_node last number (last_part index content)) →
            LeavesBehind old new leaves lower place number
        inner-behind {new} put =
            let q = puts last new number _ _ still-inner (put _ still-inner) in
            let other : (m : ℕ) → count m (numbers_under own-leaves own-rows) + count m (numbers_under left-leaves left-rows) ≡ 0 → slice_get last.nodes m ≡ slice_get old.nodes m =
            λ m none. p.frees.others m (omega (arith, none)) ∙ swept.others m (omega (arith, none)) in
            record {
              rest = inner-rest number p.rest (λ m some. q.others m (omega (arith, some, once capacity b high m, left-over m)))
                  (λ m some. q.others m (omega (arith, some, once capacity b high m)) ∙ other m (omega (arith, some, once capacity b high m)))
                  (q.here ∙ ap Some (rest-is p.first ∙ ap (λ z. inner_content ((p.first, z) ∷ right-top)) is));
              given = p.given ++ gone;
              frees = frees-then (numbers_under leaves lower) (numbers_under (tail number p.rest) (above number p.rest))
                  (λ m. omega (arith, parts-count capacity b high m, tail-count number p.rest m, count-append m (numbers_under left-leaves left-rows) (numbers_under own-leaves own-rows)))
                  b.apart
                  (frees-then (numbers_under left-leaves left-rows ++ numbers_under own-leaves own-rows) (numbers_under p.tail p.above)
                  (λ m. omega (arith, count-append m (numbers_under left-leaves left-rows) (numbers_under own-leaves own-rows)))
                  (λ m. omega (arith, once capacity b high m, count-append m (numbers_under left-leaves left-rows) (numbers_under own-leaves own-rows), count-append m (numbers_under left-leaves left-rows ++ numbers_under own-leaves own-rows) old.chain)) swept p.frees)
                  q.frees;
            }

    -- the node is parted, and nothing below the path's child is in front
    pub inner-severed : {new : Table K V} {behind : ℕ} → own ≡ 0 → index ≢ 0 → Severs old new number index index (inner_content (children capacity b high)) behind → Parts old new leaves lower place behind
    inner-severed {new} {behind} none some s =
        let p = whole (child-branch refl) none in let low = (index-is capacity b high).1 in
        let here-is : slice_get new.nodes number ≡ Some (inner_content (take index (children capacity b high))) = s.here ∙ ap Some (first-children index (children capacity b high) (omega (arith, some))) in
        let row-is : front_row (index + 0) (node number (children capacity b high) ∷ []) ≡ node number (take index (children capacity b high)) ∷ [] =
        (let same : index + 0 ≡ index = omega arith in ap (λ z. front_row z (node number (children capacity b high) ∷ [])) same) ∙ front-in index number (children capacity b high) [] (omega (arith, some)) (omega (arith, low)) in
        closes behind p 0 (λ e. none, λ e. refl) (omega arith) (node number (take index (children capacity b high)) ∷ []) row-is s.draws
        (λ rows i. rows-in-over new.nodes rows number (take index (children capacity b high)) i here-is)
        (s.there ∙ ap Some (rest-is p.first))

    -- the node is parted, and its child was, whose second part takes its place behind
    pub inner-parted : {mid last new : Table K V} {first behind : ℕ} → own ≢ 0 → Parts old mid own-leaves own-rows own first →
        Severs mid last number index (index + 1) (inner_content (children capacity b high)) behind → behind ≢ number →
        ((content : Content K V) → slice_get last.nodes behind ≡ Some content → new ≡ with_node last behind (with_child_at content 0 first)) → Parts old new leaves lower place behind
    inner-parted {mid} {last} {new} {first} {behind} some p s ne put =
        let h = here capacity b high in let low = (index-is capacity b high).1 in
        let was = s.there ∙ ap Some (rest-is p.first) in
        let q = puts last new behind (inner_content ((p.first, first) ∷ h.r)) (inner_content ((p.first, h.x.1) ∷ h.r)) was (put (inner_content ((p.first, h.x.1) ∷ h.r)) was) in
        let here-is : slice_get new.nodes number ≡ Some (inner_content (take (index + 1) (children capacity b high))) =
        q.others number (apart_from number behind (λ e. ne (sym e))) ∙ s.here ∙ ap Some (first-children (index + 1) (children capacity b high) (omega arith)) in
        closes behind p 1 (λ e. absurd (omega (arith, e)), λ e. absurd (some e)) (omega arith) (node number (take (index + 1) (children capacity b high)) ∷ [])
        (front-in (index + 1) number (children capacity b high) [] (omega arith) (omega (arith, low)))
        (draws-after (number ∷ []) (number ∷ behind ∷ []) (λ m. omega (arith, count-append m (number ∷ []) (behind ∷ []))) s.draws q.frees)
        (λ rows i. rows-in-over new.nodes rows number (take (index + 1) (children capacity b high)) i here-is) q.here

    -- the nodes that both parts of the tree have, by those that both parts of what is below the child have
    pub tally : (kept : ℕ) (none : (kept ≡ 0) ↔ (own ≡ 0)) → kept ≤ 1 →
        node_count (fronts place (row_sizes leaves lower)) + node_count (backs place (row_sizes leaves lower)) + node_count (row_sizes own-leaves own-rows)
        ≡ node_count (fronts own (row_sizes own-leaves own-rows)) + node_count (backs own (row_sizes own-leaves own-rows)) + node_count (row_sizes leaves lower) + length (front_row (index + kept) (node number (children capacity b high) ∷ []))
    tally kept none few' =
        let row = front_row (index + kept) (node number (children capacity b high) ∷ []) in
        let kl = kept-leaves capacity b high in let kr = kept-rows capacity b high in
        let all = length-same (numbers_under leaves lower) (numbers_under left-leaves left-rows ++ (numbers_under own-leaves own-rows ++ (numbers_under right-leaves right-rows ++ number ∷ [])))
        (λ m. omega (
          arith,
          parts-count capacity b high m,
          count-append m (numbers_under left-leaves left-rows) (numbers_under own-leaves own-rows ++ (numbers_under right-leaves right-rows ++ number ∷ [])),
          count-append m (numbers_under own-leaves own-rows) (numbers_under right-leaves right-rows ++ number ∷ []),
          count-append m (numbers_under right-leaves right-rows) (number ∷ []),
        )) in
        let ahead = length-same (numbers_under (front_row place leaves) (front_rows (length (front_row place leaves)) lower)) (numbers_under left-leaves left-rows ++ (numbers_under kl kr ++ numbers row))
        (λ m. omega (
          arith,
          left-count capacity b high kept none few' row refl m,
          count-append m (numbers_under left-leaves left-rows) (numbers_under kl kr ++ numbers row),
          count-append m (numbers_under kl kr) (numbers row),
        )) in
        let rest = ap node_count behind-is ∙ sum_by-append (λ (z : List ℕ). length z) (aside (backs own (row_sizes own-leaves own-rows)) (row_sizes right-leaves right-rows)) ((suc (length right-top) ∷ []) ∷ []) in
        let both = count-aside (backs own (row_sizes own-leaves own-rows)) (row_sizes right-leaves right-rows)
        (omega (arith, backs-length own (row_sizes own-leaves own-rows), length-map own-rows sizes, length-map right-rows sizes, (parts capacity b high).right_height, (outer capacity b high).left_height, (outer capacity b high).right_height)) in
        omega (
          arith,
          all,
          ahead,
          rest,
          both,
          length-append (numbers_under left-leaves left-rows) (numbers_under own-leaves own-rows ++ (numbers_under right-leaves right-rows ++ number ∷ [])),
          length-append (numbers_under own-leaves own-rows) (numbers_under right-leaves right-rows ++ number ∷ []),
          length-append (numbers_under right-leaves right-rows) (number ∷ []),
          length-append (numbers_under left-leaves left-rows) (numbers_under kl kr ++ numbers row),
          length-append (numbers_under kl kr) (numbers row),
          length-numbers row,
          size-count leaves lower,
          size-count left-leaves left-rows,
          size-count own-leaves own-rows,
          size-count right-leaves right-rows,
          size-count kl kr,
          ap node_count (front-sizes own own-leaves own-rows),
          size-count (front_row place leaves) (front_rows (length (front_row place leaves)) lower),
          ap node_count (front-sizes place leaves lower),
        )

    top-row : (count : ℕ) → count ≢ 0 → count ≤ length (children capacity b high) → length (front_row count (node number (children capacity b high) ∷ [])) ≡ 1
    top-row count some low = ap length (front-in count number (children capacity b high) [] (omega (arith, some)) low)

    -- how many nodes of the child are in front
    pub stays : (kept : ℕ) × ((kept ≡ 0) ↔ (own ≡ 0)) × (kept ≤ 1)
    stays = elim (cases_lt 0 own) [
      | inl some ↦ (1, (λ e. absurd (omega (arith, e)), λ e. absurd (omega (arith, e, some))), omega arith)
      | inr none ↦ (0, (λ e. omega arith, λ e. refl), omega arith)
    ]

    -- free nodes that suffice for the node suffice for what is below its child
    pub own-room : (free : ℕ) → node_count (fronts place (row_sizes leaves lower)) + node_count (backs place (row_sizes leaves lower)) ≤ node_count (row_sizes leaves lower) + free →
        node_count (fronts own (row_sizes own-leaves own-rows)) + node_count (backs own (row_sizes own-leaves own-rows)) ≤ node_count (row_sizes own-leaves own-rows) + free
    own-room free room = omega (arith, room, tally stays.0 stays.1 stays.2)

    -- nothing below the child is in front: the parts of what is below it have the nodes that it had
    own-whole : own ≡ 0 → node_count (fronts own (row_sizes own-leaves own-rows)) + node_count (backs own (row_sizes own-leaves own-rows)) ≡ node_count (row_sizes own-leaves own-rows)
    own-whole none = whole-tally own-leaves own-rows own none

    pub node-used : IsUsed old number
    node-used = is_used old number _ (inner capacity b high).slot_is (omega (arith, once capacity b high number, one capacity b high))

    severed-room : (free : ℕ) → node_count (fronts place (row_sizes leaves lower)) + node_count (backs place (row_sizes leaves lower)) ≤ node_count (row_sizes leaves lower) + free → own ≡ 0 → index ≢ 0 → 0 < free
    severed-room free room none some = omega (
      arith,
      room,
      own-whole none,
      tally 0 (λ e. none, λ e. refl) (omega arith),
      (let same : index + 0 ≡ index = omega arith in ap (λ z. length (front_row z (node number (children capacity b high) ∷ []))) same),
      top-row index some (omega (arith, (index-is capacity b high).1)),
    )

    -- what is below the child was parted
    module _ {mid : Table K V} {first : ℕ} (p : Parts old mid own-leaves own-rows own first) where
      off : (m : ℕ) → count m p.taken ≤ count m old.chain
      off m = omega (arith, ap (count m) p.draws.chain_is, count-append m p.taken mid.chain)

      pub node-is : slice_get mid.nodes number ≡ Some (inner_content (children capacity b high))
      node-is = p.draws.others number (omega (arith, off number, once capacity b high number, one capacity b high, count-append number p.taken (numbers_under own-leaves own-rows))) ∙ (inner capacity b high).slot_is

      pub mid-used : IsUsed mid number
      mid-used = is_used mid number _ node-is (omega (arith, once capacity b high number, one capacity b high, ap (count number) p.draws.chain_is, count-append number p.taken mid.chain))

      pub parted-room : node_count (fronts place (row_sizes leaves lower)) + node_count (backs place (row_sizes leaves lower)) ≤ node_count (row_sizes leaves lower) + length old.chain → own ≢ 0 → 0 < length mid.chain
      parted-room room some =
          let kl = kept-leaves capacity b high in let kr = kept-rows capacity b high in
          let same = length-same ([] ++ (numbers_under kl kr ++ numbers_under p.tail p.above)) (p.taken ++ numbers_under own-leaves own-rows) p.draws.numbers_are in omega (
            arith,
            room,
            same,
            length-append (numbers_under kl kr) (numbers_under p.tail p.above),
            length-append p.taken (numbers_under own-leaves own-rows),
            ap length p.draws.chain_is,
            length-append p.taken mid.chain,
            size-count kl kr,
            size-count p.tail p.above,
            size-count own-leaves own-rows,
            ap node_count p.sizes_are,
            ap node_count (front-sizes own own-leaves own-rows),
            tally 1 (λ e. absurd (omega (arith, e)), λ e. absurd (some e)) (omega arith),
            top-row (index + 1) (λ e. omega (arith, e)) (omega (arith, (index-is capacity b high).1)),
          )

      -- the second part of the node is an inner node
      pub rest-inner : {last : Table K V} {behind : ℕ} → Severs mid last number index (index + 1) (inner_content (children capacity b high)) behind →
          slice_get last.nodes behind ≡ Some (inner_content ((p.first, (here capacity b high).x.1) ∷ right-top))
      rest-inner s = s.there ∙ ap Some (rest-is p.first)

    -- how many nodes up to the node have entries or children on both sides, where so many up to the child have
    module _ {below : ℕ} (count-is : below + node_count (row_sizes own-leaves own-rows) ≡ node_count (fronts own (row_sizes own-leaves own-rows)) + node_count (backs own (row_sizes own-leaves own-rows)))
        (none-is : (below ≡ 0) ↔ (own ≡ 0)) where
      pub severed-none : below ≡ 0 → index ≡ 0 →
          (0 + node_count (row_sizes leaves lower) ≡ node_count (fronts place (row_sizes leaves lower)) + node_count (backs place (row_sizes leaves lower))) × (place ≡ 0)
      severed-none bare first = let p = place-none capacity b high 0 (λ e. none-is.0 bare, λ e. refl) (omega arith) in let zero_is = p.0 (omega (arith, first)) in
          (omega (arith, whole-tally leaves lower place zero_is), zero_is)

      pub severed-some : (below ≡ 0 → index ≢ 0) →
          (below + 1 + node_count (row_sizes leaves lower) ≡ node_count (fronts place (row_sizes leaves lower)) + node_count (backs place (row_sizes leaves lower))) × (place ≢ 0)
      severed-some some = let p = place-none capacity b high stays.0 stays.1 stays.2 in
          let ne : index + stays.0 ≢ 0 = λ z. some (none-is.1 (stays.1.0 (omega (arith, z)))) (omega (arith, z)) in (
            omega (arith, count-is, tally stays.0 stays.1 stays.2, top-row (index + stays.0) ne (within capacity b high stays.0 stays.1 stays.2)),
            λ z. ne (p.1 z),
          )

    -- what a call below the child, which is a node with this number, returned and left
    pub record Below (mid : Table K V) (child first : ℕ) : Type 0 where
      pub parts_are : Parts old mid own-leaves own-rows own first
      pub whole_is : own ≡ 0 → (first ≡ child) × (mid ≡ old)
      pub parted_is : own ≢ 0 → first ≢ child

    pub told : {mid : Table K V} {child first : ℕ} → slice_get (entry_items (children capacity b high)) index ≡ Some child →
        ((ls : Row K V) (rs : Rows K) (q : ℕ) → OnBranch most old path indices (level - 1) child ls rs q → Parts old mid ls rs q first) →
        ((ls : Row K V) (rs : Rows K) (q : ℕ) → OnBranch most old path indices (level - 1) child ls rs q → q ≡ 0 → (first ≡ child) × (mid ≡ old)) →
        ((ls : Row K V) (rs : Rows K) (q : ℕ) → OnBranch most old path indices (level - 1) child ls rs q → q ≢ 0 → first ≢ child) → Below mid child first
    told read parts_are whole_is parted_is = let asks = child-branch (some_same (sym (child-is capacity b high) ∙ read)) in
        record { parts_are = parts_are own-leaves own-rows own asks; whole_is = whole_is own-leaves own-rows own asks; parted_is = parted_is own-leaves own-rows own asks }

    module _ {mid : Table K V} {child first : ℕ} (t : Below mid child first) where
      -- the child is whole
      module _ (same : first ≡ child) where
        none : own ≡ 0
        none = elim (cases_lt 0 own) [ inl more ↦ absurd (t.parted_is (λ z. omega (arith, z, more)) same) | inr not ↦ omega arith ]

        unchanged : mid ≡ old
        unchanged = (t.whole_is none).1

        pub whole-asks : node_count (fronts place (row_sizes leaves lower)) + node_count (backs place (row_sizes leaves lower)) ≤ node_count (row_sizes leaves lower) + length old.chain →
            IsUsed mid number × ((content : Content K V) × (slice_get mid.nodes number ≡ Some content) × (¬ IsFree content) × (index < entry_count content) × (index ≤ entry_count content)) × (index ≢ 0 → 0 < length mid.chain)
        whole-asks room = rw unchanged (
          node-used,
          (_, (inner capacity b high).slot_is, (λ free. free), child-within capacity b high, omega (arith, child-within capacity b high)),
          λ some. severed-room (length old.chain) room none some,
        )

        at-first : (index ≡ 0) ↔ (place ≡ 0)
        at-first = let p = place-none capacity b high 0 (λ e. none, λ e. refl) (omega arith) in (λ e. p.0 (omega (arith, e)), λ e. omega (arith, p.1 e))

        pub whole-parts : {new : Table K V} (r : ℕ) → (index ≡ 0 → (r ≡ number) × (new ≡ mid)) →
            (index ≢ 0 → (content : Content K V) → slice_get mid.nodes number ≡ Some content → (r ≢ number) × Severs mid new number index index content r) →
            Parts old new leaves lower place r × (place ≡ 0 → (r ≡ number) × (new ≡ old)) × (place ≢ 0 → r ≢ number)
        whole-parts {new} r stay go = let slot = (inner capacity b high).slot_is in
            let parted : (ne : index ≢ 0) → (r ≢ number) × Severs old new number index index (inner_content (children capacity b high)) r =
            λ ne. subst (λ z. (r ≢ number) × Severs z new number index index (inner_content (children capacity b high)) r) unchanged (go ne _ (ap (λ z. slice_get z.nodes number) unchanged ∙ slot)) in (
              elim (cases_lt 0 index) [
                | inl more ↦ (let ne : index ≢ 0 = λ z. omega (arith, z, more) in inner-severed none ne (parted ne).1)
                | inr not ↦ (let zero_is : index ≡ 0 = omega arith in let n = stay zero_is in rw (n.0, n.1, unchanged) (whole b (at-first.0 zero_is)))
              ],
              (λ z. (let n = stay (at-first.1 z) in (n.0, n.1 ∙ unchanged))),
              (λ ne. (parted (λ z. ne (at-first.0 z))).0),
            )

      -- the child was parted
      module _ (other : first ≢ child) where
        some : own ≢ 0
        some z = other (t.whole_is z).0

        pub parted-asks : node_count (fronts place (row_sizes leaves lower)) + node_count (backs place (row_sizes leaves lower)) ≤ node_count (row_sizes leaves lower) + length old.chain →
            IsUsed mid number × ((content : Content K V) × (slice_get mid.nodes number ≡ Some content) × (¬ IsFree content) × (index < entry_count content) × (index + 1 ≤ entry_count content)) × (0 < length mid.chain)
        parted-asks room = (
          mid-used t.parts_are,
          (_, node-is t.parts_are, (λ free. free), child-within capacity b high, omega (arith, child-within capacity b high)),
          parted-room t.parts_are room some,
        )

        module _ {last : Table K V} {behind : ℕ}
            (go : index + 1 ≢ 0 → (content : Content K V) → slice_get mid.nodes number ≡ Some content → (behind ≢ number) × Severs mid last number index (index + 1) content behind) where
          severed : (behind ≢ number) × Severs mid last number index (index + 1) (inner_content (children capacity b high)) behind
          severed = go (λ z. omega (arith, z)) _ (node-is t.parts_are)

          pub rest-asks : (content : Content K V) × (slice_get last.nodes behind ≡ Some content) × IsInner content × (0 < entry_count content)
          rest-asks = (_, rest-inner t.parts_are severed.1, tt, omega arith)

          pub parted-parts : {new : Table K V} → ((content : Content K V) → slice_get last.nodes behind ≡ Some content → new ≡ with_node last behind (with_child_at content 0 first)) →
              Parts old new leaves lower place behind × (place ≡ 0 → (behind ≡ number) × (new ≡ old)) × (place ≢ 0 → behind ≢ number)
          parted-parts put = (
            inner-parted some t.parts_are severed.1 severed.0 put,
            (λ z. absurd (some (omega (arith, place-is, z)))),
            (λ ne. severed.0),
          )
