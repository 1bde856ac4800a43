-- A look's steps from leaf to leaf.
use Rattle.bforest_trees.proofs.Held.{from-behind, from-list, from-root, from-spot, held-count, held-some, keyless, last-place, on-entry, start-behind, start-last}
use Rattle.bforest_trees.proofs.Changed.{list-root}
use Rattle.bforest_trees.specs.Forest.{list_of}
use Rattle.bforest_trees.specs.Looks.{AtLook, Holds, IsBehind, IsLook, LeafFrom, LeafUpTo, start_of}
use Rattle.bforest_trees.specs.declared.look.Look.{Look}
use Rattle.bforest_core.specs.Levels.{LevelNode}
use Rattle.bforest_core.specs.Spots.{Coded, HasNoParent, HasPrev, IsLeafAt, IsSpotAt, SpotOn, leaf_count}
use Rattle.bforest_core.specs.Table.{Table}
use Rattle.bforest_core.specs.Trees.{tree_of}
use Rattle.bforest_core.specs.declared.spot.Spot.{Spot}
use Rattle.std.proofs.Common.{IfSome, List, None, Option, Some, [], ap, arith, inl, inr, length, refl, subst, suc, sym, ◌+◌, ◌-◌, ◌<◌, ◌∙◌, ◌∷◌, ◌≡◌, ◌≤◌, ℕ}

-- a spot without a parent has the number 0
plain-spot : {K V : Type 0} {table : Table K V} {root : ℕ} {spot : Spot} {place : ℕ} → IsSpotAt table root spot place → HasNoParent spot → spot.code ≡ 0
plain-spot {K} {V} {table} {root} {spot} {place} s alone = go (tree_of table.nodes root).above (omega (arith, s.height_is, alone)) s.coded
  where
    go : (rows : List (List (LevelNode K ℕ))) → length rows ≡ 0 → Coded s.numbers rows spot.code place → spot.code ≡ 0
    go [] none coded = coded.0
    go (row ∷ rows) none coded = absurd (omega (arith, none))

module _ {K V : Type 0} (table : Table K V) {handle : Option ℕ} (look : Look K V) {root : ℕ} (is : handle ≡ Some root) where
  -- the place of a look's leaf, which is asked for where it has one
  pub next-asks : {place : ℕ} → IsBehind table handle look place → (¬ HasNoParent look.spot) → (p : ℕ) × IsSpotAt table root look.spot p
  next-asks b more = elim b [
    | inl past ↦ (past.holds.from.place, from-spot past.holds.from root is)
    | inr end ↦ absurd (more end.none.spot)
  ]

  pub prev-asks : {place : ℕ} → IsLook table handle look place → (¬ HasNoParent look.spot) → (p : ℕ) × IsSpotAt table root look.spot p
  prev-asks l more = elim l [
    | inl on ↦ (on.holds.from.place, from-spot on.holds.from root is)
    | inr end ↦ absurd (more end.none.spot)
  ]

  module _ (o : Option (Spot × ℕ)) (alone : HasNoParent look.spot → o ≡ None) where
    -- the next leaf begins behind the entries of the leaf that a look holds
    pub next-some : IfSome o (λ found. (p : ℕ) → IsSpotAt table root look.spot p → IsSpotAt table root found.0 (suc p) × IsLeafAt table root (suc p) found.1) → IfSome o (λ found. (at : ℕ) → IsBehind table handle look at → LeafFrom table handle found.0 found.1 at)
    next-some says = go o alone says
      where
        go : (o : Option (Spot × ℕ)) → (HasNoParent look.spot → o ≡ None)
            → IfSome o (λ found. (p : ℕ) → IsSpotAt table root look.spot p → IsSpotAt table root found.0 (suc p)
            × IsLeafAt table root (suc p) found.1)
            → IfSome o (λ found. (at : ℕ) → IsBehind table handle look at → LeafFrom table handle found.0 found.1 at)
        go None alone says = tt
        go (Some found) alone says = λ at b. elim b [
          | inl past ↦ (
              let f = past.holds.from in
              let s = says f.place (from-spot f root is) in
              let begins : at ≡ start_of table f.root (suc f.place) = omega (arith, past.place_is, held-count past.holds, from-behind f) in
              record { root = root; handle_is = is; place = suc f.place; on = s.0; leaf = s.1; start_is = begins ∙ ap (λ z. start_of table z (suc f.place)) (from-root f root is) }
              )
          | inr end ↦ absurd (let bad = alone end.none.spot in cc)
        ]

    -- behind the last leaf the list ends
    pub next-none : (o ≡ None → (p : ℕ) → IsSpotAt table root look.spot p → suc p ≡ leaf_count table root) → o ≡ None → (at : ℕ) → IsBehind table handle look at → at ≡ length (list_of table handle)
    next-none says none at b = elim b [
      | inl past ↦ (
          let f = past.holds.from in
          let last : suc f.place ≡ leaf_count table f.root = says none f.place (from-spot f root is) ∙ ap (leaf_count table) (sym (from-root f root is)) in
          omega (arith, past.place_is, held-count past.holds, from-behind f, start-last table f.leaf last, ap length (from-list f))
          )
      | inr end ↦ end.place_is
    ]

    -- the leaf before ends in front of the leaf that a look holds
    pub prev-some : look.index ≡ 0 → IfSome o (λ found. (p : ℕ) → IsSpotAt table root look.spot p → (0 < p) × IsSpotAt table root found.0 (p - 1) × IsLeafAt table root (p - 1) found.1) → IfSome o (λ found. (at : AtLook table handle look) → LeafUpTo table handle found.0 found.1 at.place)
    prev-some first says = go o alone says
      where
        go : (o : Option (Spot × ℕ)) → (HasNoParent look.spot → o ≡ None)
            → IfSome o (λ found. (p : ℕ) → IsSpotAt table root look.spot p → (0 < p) × IsSpotAt table root found.0 (p - 1)
            × IsLeafAt table root (p - 1) found.1)
            → IfSome o (λ found. (at : AtLook table handle look) → LeafUpTo table handle found.0 found.1 at.place)
        go None alone says = tt
        go (Some found) alone says = λ at. elim at.is [
          | inl on ↦ (
              let f = on.holds.from in
              let s = says f.place (from-spot f root is) in
              let up : suc (f.place - 1) ≡ f.place = omega (arith, s.0) in
              let begins : start_of table f.root f.place ≡ start_of table root (suc (f.place - 1)) = λ j. start_of table (from-root f root is j) (sym up j) in
              record {
                start = start_of table root (f.place - 1);
                from = record { root = root; handle_is = is; place = f.place - 1; on = s.1; leaf = s.2; start_is = refl };
                place_is = omega (arith, on.place_is, first, f.start_is, begins, start-behind table s.2);
              }
              )
          | inr end ↦ absurd (let bad = alone end.none.spot in cc)
        ]

  -- the first leaf begins the list
  pub prev-none : look.index ≡ 0 → ¬ (length look.keys.now ≡ 0) → ((p : ℕ) → IsSpotAt table root look.spot p → p ≡ 0) → (at : AtLook table handle look) → at.place ≡ 0
  prev-none first some says at = elim at.is [
    | inl on ↦ (
        let f = on.holds.from in
        let begins : start_of table f.root f.place ≡ 0 = ap (start_of table f.root) (says f.place (from-spot f root is)) in
        omega (arith, on.place_is, first, f.start_is, begins)
        )
    | inr end ↦ absurd (some (keyless end.none))
  ]

  -- the last leaf ends where the list ends
  pub last-up-to : (spot : Spot) (number : ℕ) → IsSpotAt table root spot (leaf_count table root - 1) → IsLeafAt table root (leaf_count table root - 1) number → length look.keys.now ≡ 0 → (at : AtLook table handle look) → LeafUpTo table handle spot number at.place
  last-up-to spot number on leaf none at = elim at.is [
    | inl here ↦ absurd (omega (arith, none, here.within))
    | inr end ↦ (
        let ends = start-last table leaf (last-place table leaf refl) in
        record {
          start = start_of table root (leaf_count table root - 1);
          from = record { root = root; handle_is = is; place = leaf_count table root - 1; on = on; leaf = leaf; start_is = refl };
          place_is = omega (arith, end.place_is, ap (λ h. length (list_of table h)) is, ap length (list-root table root on.root_is), ends, start-behind table leaf);
        }
        )
  ]

-- from the end of a tree, or where a leaf has no parent, no way goes to a sibling
module _ {K V : Type 0} {table : Table K V} {handle : Option ℕ} {look : Look K V} where
  pub plain-look : AtLook table handle look → HasNoParent look.spot → look.spot.code ≡ 0
  plain-look at alone = elim at.is [ inl on ↦ plain-spot on.holds.from.on alone | inr end ↦ end.none.code ]

  module _ (has : HasPrev look.spot) where
    pub sibling-spot : AtLook table handle look → SpotOn table look.spot
    sibling-spot at = elim at.is [
      | inl on ↦ record { root = on.holds.from.root; place = on.holds.from.place; is = on.holds.from.on }
      | inr end ↦ absurd (omega (arith, has.0, end.none.spot))
    ]

    -- the leaf before, under the same parent, ends in front of the leaf that a look holds
    pub sibling-up-to : look.index ≡ 0 → (found : Spot × ℕ) → ((root place : ℕ) → IsSpotAt table root look.spot place → (0 < place) × IsSpotAt table root found.0 (place - 1) × IsLeafAt table root (place - 1) found.1) → (at : AtLook table handle look) → LeafUpTo table handle found.0 found.1 at.place
    sibling-up-to first found says at = elim at.is [
      | inl on ↦ prev-some table look on.holds.from.handle_is (Some found) (λ none. absurd (omega (arith, has.0, none))) first (says on.holds.from.root) at
      | inr end ↦ absurd (omega (arith, has.0, end.none.spot))
    ]

-- what goes to the last entry of the leaf before
module _ {K V : Type 0} {table : Table K V} {handle : Option ℕ} {spot : Spot} {number place : ℕ} (u : LeafUpTo table handle spot number place) {look : Look K V} (h : Holds table handle look u.start) (count : length look.keys.now ≡ length u.from.leaf.entries) where
  pub last-some : 1 ≤ length look.keys.now
  last-some = held-some h

  up-to-is : place ≡ suc (u.start + (length look.keys.now - 1))
  up-to-is = omega (arith, u.place_is, count, held-some h)

  pub last-look : IsLook table handle (record look { index = length look.keys.now - 1 }) (place - 1)
  last-look = on-entry h (length look.keys.now - 1) (place - 1) (omega (arith, held-some h)) (omega (arith, up-to-is))

  pub last-behind : 0 < place
  last-behind = omega (arith, up-to-is)

-- a place that is the first is also the one before
pub stays : {K V : Type 0} {table : Table K V} {handle : Option ℕ} {look : Look K V} (at : AtLook table handle look) → at.place ≡ 0 → IsLook table handle look (at.place - 1)
stays {table = table} {handle = handle} {look = look} at first = (
    let is : at.place ≡ at.place - 1 = omega (arith, first) in
    subst (IsLook table handle look) is at.is
    )
