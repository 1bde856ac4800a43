-- The step of a spot to the next leaf and to the one before, and the place of a spot's leaf.
use Rattle.bforest_core.proofs.Words.{Coded, HasNext, HasPrev, IsBesideOf, IsLeafAt, IsSpotAt, IsWay, NumberAt, Way, backwards, leaf_count, leaf_place, onwards, place_by, ◌≡◌}
use Rattle.bforest_core.proofs.Words.{ℕ, suc, ◌+◌, ◌-◌, ◌*◌, ◌/◌, ◌%◌, ◌≤◌, ◌<◌, List, [], ◌∷◌, drop, get_or, length, take, Some, inl, inr, refl, sym, ap}
use Rattle.bforest_core.proofs.walks.Branches.{Branch, branch-asks, branch-child, branch-way, first-of, last-asks, last-of, last-some, next-own, own}
use Rattle.bforest_core.proofs.{Words.{◌∙◌, arith, Rows, cases_lt, take_at, IsUnion, Table, tree_of}, table.Stored.item_count}
use Rattle.bforest_core.proofs.walks.Branches.{none-next, none-prev, prev-own, prev-some}
use Rattle.bforest_core.proofs.walks.Codes.{Parent, above, count-asks, deeper, here, last-leaf, leaf-at, leaf-parent, leaf-way, node-here, spot-over, way-none}
use Rattle.bforest_core.proofs.{table.Stored.some_same, walks.Reading.{ChildAsked, ChildRead, CountAsked, CountRead, LastAsked, LastRead}}
use Rattle.bforest_core.specs.declared.spot.Spot.{Spot}

-- a code leads to one place
pub coded-place : {K : Type 0} (numbers : List ℕ) (rows : Rows K) (code place : ℕ) → Coded numbers rows code place → place_by rows code ≡ place
coded-place numbers [] code place c = sym c.1
coded-place numbers (row ∷ rows) code place c = let at = c.0 in let up = coded-place (drop 1 numbers) rows (code / 8) (length at.before) c.1 in
    let front : take (place_by rows (code / 8)) row ≡ at.before = ap (λ z. take z row) up ∙ ap (take (length at.before)) at.row_is
    ∙ take_at at.before _ (length at.before) refl in
    cc

-- the place of a spot's leaf
pub place-is : {K V : Type 0} {table : Table K V} {root : ℕ} {spot : Spot} {place : ℕ} → IsSpotAt table root spot place → leaf_place table root spot ≡ place
place-is s = coded-place _ _ _ _ s.coded

-- a leaf on the level of a spot's leaf, as a child of a node above it
module _ {K V : Type 0} {n : ℕ} {table : Table K V} (union : IsUnion n table) {root : ℕ} {spot : Spot} {place : ℕ} (s : IsSpotAt table root spot place)
    (some : 0 < spot.height) where
  abbrev way : Way table.nodes root spot.code (suc (spot.height - 1))
  way = leaf-way union s some

  abbrev own-parent : Parent way spot.parent (spot.code % 8)
  own-parent = leaf-parent union s some

  -- the way to the leaf, and the leaf as it was read
  there : {number digit to : ℕ} (b : Branch way number digit to) (above : ℕ) (others : List ℕ) → Coded others (here way).rest above b.top → {code leaf : ℕ}
      → code ≡ above * 8 + digit → (1 < spot.height → get_or others 0 0 ≡ spot.grand) → ChildRead table.nodes number digit leaf
      → IsSpotAt table root (record spot { code = code; parent = number }) to × IsLeafAt table root to leaf
  there {number} b above others c code grand reads = (
    record { root_is = s.root_is; numbers = number ∷ others; coded = branch-way b above others c code; parent_is = λ low. refl; grand_is = grand; height_is = s.height_is },
    leaf-at union root s.root_is (branch-child b reads),
  )

  -- how many children the parent has
  abbrev count : ℕ
  count = length (here way).at.entries

  counts : CountRead table.nodes spot.parent count
  counts content found = sym (cc (some_same (sym found ∙ (node-here own-parent).slot_is), item_count (here way).at.entries))

  -- where no sibling is behind it, the leaf is the last of its parent
  high : (HasNext table spot → ⊥) → count ≤ spot.code % 8 + 1
  high last = elim (cases_lt (spot.code % 8 + 1) count) [
    | inl low ↦ absurd (last (record { some = some; entries = (here way).at.entries; parent = (node-here own-parent).slot_is; within = low }))
    | inr past ↦ past
  ]

  -- where none is before it, it is the first
  nought : (HasPrev spot → ⊥) → spot.code % 8 ≤ 0
  nought first = elim (cases_lt 0 (spot.code % 8)) [ inl low ↦ absurd (first (some, low)) | inr none ↦ none ]

-- the leaf itself
module _ {K V : Type 0} {n : ℕ} {table : Table K V} (union : IsUnion n table) {root : ℕ} {spot : Spot} {place : ℕ} (s : IsSpotAt table root spot place) where
  module _ (some : 0 < spot.height) where
    pub own-asks : ChildAsked table.nodes spot.parent (spot.code % 8)
    own-asks = branch-asks (own (own-parent union s some))

    pub own-leaf : {child : ℕ} → ChildRead table.nodes spot.parent (spot.code % 8) child → IsLeafAt table root place child
    own-leaf reads = leaf-at union root s.root_is (branch-child (own (own-parent union s some)) reads)

  pub root-leaf : spot.height ≡ 0 → IsLeafAt table root place root
  root-leaf none = leaf-at union root s.root_is (way-none (spot-over union s).over none).0

-- the leaves with the same parent
module _ {K V : Type 0} {n : ℕ} {table : Table K V} (union : IsUnion n table) {root : ℕ} {spot : Spot} {place : ℕ} (s : IsSpotAt table root spot place) where
  module _ (h : HasNext table spot) where
    abbrev behind : Branch (way union s h.some) spot.parent (spot.code % 8 + 1) (suc place)
    behind = next-own (own-parent union s h.some) (λ content found. sym (cc (some_same (sym found ∙ h.parent), item_count h.entries))) h.within

    pub sibling-asks : ChildAsked table.nodes spot.parent (spot.code % 8 + 1)
    sibling-asks = branch-asks behind

    pub sibling-behind : {child : ℕ} → ChildRead table.nodes spot.parent (spot.code % 8 + 1) child
        → IsSpotAt table root (record spot { code = spot.code + 1 }) (suc place) × IsLeafAt table root (suc place) child
    sibling-behind reads = there union s h.some behind _ _ (above (way union s h.some)).coded (omega arith) s.grand_is reads

  module _ (h : HasPrev spot) where
    abbrev before : Branch (way union s h.0) spot.parent (spot.code % 8 - 1) (place - 1)
    before = prev-own (own-parent union s h.0) h.1

    pub before-asks : ChildAsked table.nodes spot.parent (spot.code % 8 - 1)
    before-asks = branch-asks before

    pub sibling-before : {child : ℕ} → ChildRead table.nodes spot.parent (spot.code % 8 - 1) child
        → (0 < place) × IsSpotAt table root (record spot { code = spot.code - 1 }) (place - 1) × IsLeafAt table root (place - 1) child
    sibling-before reads = let r = there union s h.0 before _ _ (above (way union s h.0)).coded (omega arith) s.grand_is reads in
        (prev-some (own-parent union s h.0) h.1, r.0, r.1)

  -- a leaf without a grandparent and without a sibling behind it is the last of the tree
  pub last-low : (HasNext table spot → ⊥) → spot.height < 2 → suc place ≡ leaf_count table root
  last-low last low = last-leaf union root s.root_is (elim (cases_lt 0 spot.height) [
    | inl some ↦ none-next (own-parent union s some) (counts union s some) (high union s some last) (way-none (above (way union s some)).over (omega arith)).1
    | inr none ↦ (way-none (spot-over union s).over (omega arith)).1
  ])

  -- a leaf without a grandparent and without a sibling before it is the first of the tree
  pub first-low : (HasPrev spot → ⊥) → spot.height < 2 → place ≡ 0
  first-low first low = elim (cases_lt 0 spot.height) [
    | inl some ↦ none-prev (own-parent union s some) (nought union s some first) (way-none (above (way union s some)).over (omega arith)).2
    | inr none ↦ (way-none (spot-over union s).over (omega arith)).2
  ]

  -- the leaves with the same grandparent and another parent
  module _ (deep : 2 ≤ spot.height) where
    abbrev some : 0 < spot.height
    some = omega arith

    -- the way to the parent
    abbrev up : Way table.nodes root (spot.code / 8) (suc (spot.height - 2))
    up = deeper (above (way union s some)) (omega arith)

    abbrev grand : Parent up spot.grand (spot.code / 8 % 8)
    grand = record { same = s.grand_is (omega arith); digit = refl }

    -- what the number of the grandparent's children asks
    pub grand-count : CountAsked table.nodes spot.grand
    grand-count = count-asks grand

    module _ (last : HasNext table spot → ⊥) {children : ℕ} (says : CountRead table.nodes spot.grand children) (low : spot.code / 8 % 8 + 1 < children) where
      abbrev next-up : Branch up spot.grand (spot.code / 8 % 8 + 1) (suc up.place)
      next-up = next-own grand says low

      pub parent-asks : ChildAsked table.nodes spot.grand (spot.code / 8 % 8 + 1)
      parent-asks = branch-asks next-up

      module _ {parent : ℕ} (reads : ChildRead table.nodes spot.grand (spot.code / 8 % 8 + 1) parent) where
        abbrev next-leaf : Branch (way union s some) parent 0 (suc place)
        next-leaf = first-of (own-parent union s some) (counts union s some) (high union s some last) refl (branch-child next-up reads)

        -- what the first child of the next parent asks
        pub cousin-asks : ChildAsked table.nodes parent 0
        cousin-asks = branch-asks next-leaf

        -- the next leaf is that child
        pub cousin : {leaf : ℕ} → ChildRead table.nodes parent 0 leaf
            → IsSpotAt table root (record spot { code = (spot.code / 8 + 1) * 8; parent = parent }) (suc place) × IsLeafAt table root (suc place) leaf
        cousin found = there union s some next-leaf _ _ (branch-way next-up _ _ (here up).over.coded {code1 = spot.code / 8 + 1} (omega arith)) (omega arith)
            (λ low. refl) found

    module _ (first : HasPrev spot → ⊥) (low : 0 < spot.code / 8 % 8) where
      abbrev prev-up : Branch up spot.grand (spot.code / 8 % 8 - 1) (up.place - 1)
      prev-up = prev-own grand low

      pub parent-before-asks : ChildAsked table.nodes spot.grand (spot.code / 8 % 8 - 1)
      parent-before-asks = branch-asks prev-up

      module _ {parent : ℕ} (reads : ChildRead table.nodes spot.grand (spot.code / 8 % 8 - 1) parent) where
        abbrev parent-at : NumberAt up.list (up.place - 1) parent
        parent-at = branch-child prev-up reads

        pub cousin-last-asks : LastAsked table.nodes parent
        cousin-last-asks = last-asks (way union s some) _ parent-at

        module _ {last : ℕ} (says : LastRead table.nodes parent last) where
          abbrev next-to : suc (up.place - 1) ≡ up.place
          next-to = omega (arith, prev-some grand low)

          abbrev leaf-before : Branch (way union s some) parent last (place - 1)
          leaf-before = last-of (own-parent union s some) (nought union s some first) next-to parent-at says

          pub cousin-before-asks : ChildAsked table.nodes parent last
          cousin-before-asks = branch-asks leaf-before

          -- the leaf before is the last child of the parent before
          pub cousin-before : {leaf : ℕ} → ChildRead table.nodes parent last leaf → (0 < place)
              × IsSpotAt table root (record spot { code = (spot.code / 8 - 1) * 8 + last; parent = parent }) (place - 1) × IsLeafAt table root (place - 1) leaf
          cousin-before found =
              let r = there union s some leaf-before _ _ (branch-way prev-up _ _ (here up).over.coded {code1 = spot.code / 8 - 1} (omega arith)) refl (λ low. refl) found in
              (last-some (own-parent union s some) (nought union s some first) next-to parent-at says, r.0, r.1)

-- the spot at the end of a way from the root of another spot's tree
far-spot : {K V : Type 0} {table : Table K V} {root : ℕ} {spot next : Spot} {place to : ℕ} {others : _} → IsSpotAt table root spot place
    → IsWay others next (tree_of table.nodes root).above to → IsSpotAt table root (record next { height = spot.height }) to
far-spot {others} s w = record {
  root_is = s.root_is;
  numbers = others;
  coded = w.coded;
  parent_is = λ low. w.parent_is (omega arith);
  grand_is = λ low. w.grand_is (omega arith);
  height_is = s.height_is;
}

-- what is said of the node behind or before, to which a way from the root leads, of a spot
module _ {K V : Type 0} {n : ℕ} {table : Table K V} (union : IsUnion n table) {root : ℕ} {spot far : Spot} {leaf : ℕ} where
  pub far-behind : IsBesideOf table.nodes root spot.code spot.height onwards (Some (far, leaf)) → (place : ℕ) → IsSpotAt table root spot place
      → IsSpotAt table root (record far { height = spot.height }) (suc place) × IsLeafAt table root (suc place) leaf
  far-behind says place s = let r = says.some (spot-over union s) in
      (rw (← r.1) (far-spot s r.3), rw (← r.1) (leaf-at union root s.root_is r.4))

  pub far-before : IsBesideOf table.nodes root spot.code spot.height backwards (Some (far, leaf)) → (place : ℕ) → IsSpotAt table root spot place
      → (0 < place) × IsSpotAt table root (record far { height = spot.height }) (place - 1) × IsLeafAt table root (place - 1) leaf
  far-before says place s = let r = says.some (spot-over union s) in let to : r.0 ≡ place - 1 = omega arith in (
    omega arith,
    rw (← to) (far-spot s r.3),
    rw (← to) (leaf-at union root s.root_is r.4),
  )
