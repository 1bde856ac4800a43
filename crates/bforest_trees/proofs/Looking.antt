-- A look at a place of a handle's list, and its steps within a leaf.
use Rattle.bforest_trees.proofs.Held.{from-root, from-spot, held-paired, held-read, held-within, keyless, on-entry, start-is}
use Rattle.bforest_trees.proofs.Changed.{list-root}
use Rattle.bforest_trees.specs.Forest.{IsLive, list_of}
use Rattle.bforest_trees.specs.Looks.{AtLook, Holds, HoldsPlace, IsBehind, IsLook, IsPaired, LeafFrom, LooksBack, left_before, look_place, place_held, start_of}
use Rattle.bforest_trees.specs.declared.look.Look.{Look}
use Rattle.bforest_core.proofs.table.Stored.{read_as}
use Rattle.bforest_core.proofs.walks.Cousins.{place-is}
use Rattle.bforest_core.proofs.walks.LeafSearch.{looked}
use Rattle.bforest_core.proofs.walks.Steps.{read}
use Rattle.bforest_core.specs.Leaves.{SearchEndsAt}
use Rattle.bforest_core.specs.Place.{entry_before}
use Rattle.bforest_core.specs.Spots.{IsSpotAt, leaf_place}
use Rattle.bforest_core.specs.Table.{Table}
use Rattle.bforest_core.specs.declared.spot.Spot.{Spot}
use Rattle.bforest_nodes.proofs.Seams.{last_taken}
use Rattle.bforest_nodes.specs.Content.{Content, IsLeaf, keys_of, vals_of}
use Rattle.bforest_nodes.specs.Entries.{place, value_for}
use Rattle.bforest_nodes.specs.Search.{search_of}
use Rattle.std.proofs.Common.{Bool, Err, IfSome, List, None, Ok, Option, Some, [], ap, arith, false, inl, inr, length, min, refl, reverse, slice_get, subst, suc, sym, take, true, ◌+◌, ◌-◌, ◌<◌, ◌==◌, ◌∙◌, ◌∷◌, ◌≡◌, ◌≤◌, ℕ}
use Rattle.std.proofs.Math.Seq.{take-length}
use Rattle.std.proofs.lemmas.Bool.{cases_lt, false≢true}
use Rattle.std.proofs.lemmas.Bool.Decides.{eqb_tells}
use Rattle.std.proofs.lemmas.List.{reverse-append}
use Rattle.std.proofs.lemmas.List.Sums.{count_by-le-length}
use Rattle.std.proofs.lemmas.Option.{slice_get_past, slice_get_within}
use Rattle.std.specs.Iterator.{YieldsFirst}
use Rattle.std.specs.List.Sorted.{IsStrictlySortedBy}
use Rattle.std.specs.Ordering.{is_lt}
use Rattle.std.specs.declared.cmp.Ordering.{Ordering}

module _ {K V : Type 0} {table : Table K V} {handle : Option ℕ} {look : Look K V} {place : ℕ} (l : IsLook table handle look place) where
  pub paired : IsPaired look
  paired = elim l [
    | inl on ↦ held-paired on.holds
    | inr end ↦ keyless end.none ∙ sym (ap length end.none.vals)
  ]

  -- the entry where a look stands
  pub entry-there : (entry : K × V) → slice_get look.keys.now look.index ≡ Some entry.0 → slice_get look.vals.now look.index ≡ Some entry.1 → Some entry ≡ slice_get (list_of table handle) place
  entry-there entry key value = elim l [
    | inl on ↦ held-read on.holds look.index entry key value ∙ ap (slice_get (list_of table handle)) (sym on.place_is)
    | inr end ↦ absurd (omega (arith, keyless end.none, slice_get_within look.keys.now look.index entry.0 key))
  ]

  pub none-there : length look.keys.now ≤ look.index → None ≡ slice_get (list_of table handle) place
  none-there past = elim l [
    | inl on ↦ absurd (omega (arith, past, on.within))
    | inr end ↦ sym (slice_get_past (list_of table handle) place (omega (arith, end.place_is)))
  ]

  -- the place where a look stands is at most the list's length
  pub look-within : place ≤ length (list_of table handle)
  look-within = elim l [
    | inl on ↦ omega (arith, on.place_is, on.within, held-within on.holds)
    | inr end ↦ omega (arith, end.place_is)
  ]

  -- the place that is computed is the one where a look stands
  pub look-place-is : look_place table handle look ≡ place
  look-place-is = elim l [
    | inl on ↦ place-on handle look.keys.now on.start on.holds on.within on.place_is
    | inr end ↦ ap (λ z. place_held table handle look.spot look.index z) end.none.keys ∙ sym end.place_is
  ]
    where
      place-on : (h : Option ℕ) (keys : List K) (start : ℕ) (holds : Holds table h look start) → look.index < length keys → place ≡ start + look.index → place_held table h look.spot look.index keys ≡ place
      place-on h [] start holds low is = absurd (omega (arith, low))
      place-on None (first ∷ keys) start holds low is = absurd (let bad = holds.from.handle_is in cc)
      place-on (Some root) (first ∷ keys) start holds low is =
          let f = holds.from in
          ap (λ z. start_of table root z + look.index) (place-is (from-spot f root refl)) ∙ ap (λ z. start_of table z f.place + look.index) (sym (from-root f root refl)) ∙ ap (λ z. z + look.index) (sym f.start_is) ∙ sym is

  -- a look stands at the place that is computed
  pub look-stands : IsLook table handle look (look_place table handle look)
  look-stands = subst (IsLook table handle look) (sym look-place-is) l

  -- the next entry of the same leaf
  module _ (more : look.index + 1 < length look.keys.now) where
    pub step-look : IsLook table handle (record look { index = look.index + 1 }) (min (place + 1) (length (list_of table handle)))
    step-look = elim l [
      | inl on ↦ on-entry on.holds (look.index + 1) (min (place + 1) (length (list_of table handle))) more (omega (arith, on.place_is, more, held-within on.holds))
      | inr end ↦ absurd (omega (arith, more, keyless end.none))
    ]

  -- from the last entry of its leaf, the next place is behind the leaf
  pub past-leaf : length look.keys.now ≤ look.index + 1 → IsBehind table handle look (min (place + 1) (length (list_of table handle)))
  past-leaf last = elim l [
    | inl on ↦ inl (record { start = on.start; holds = on.holds; place_is = omega (arith, on.place_is, on.within, last, held-within on.holds) })
    | inr end ↦ inr (record { none = end.none; place_is = omega (arith, end.place_is) })
  ]

  -- the entry before, in the same leaf
  module _ (more : 0 < look.index) where
    pub back-look : look.index - 1 < length look.keys.now → IsLook table handle (record look { index = look.index - 1 }) (place - 1)
    back-look low = elim l [
      | inl on ↦ on-entry on.holds (look.index - 1) (place - 1) low (omega (arith, on.place_is, more))
      | inr end ↦ absurd (omega (arith, more, end.none.index))
    ]

    pub back-within : look.index - 1 < length look.keys.now
    back-within = elim l [ inl on ↦ omega (arith, on.within) | inr end ↦ absurd (omega (arith, more, end.none.index)) ]

    pub back-behind : 0 < place
    back-behind = elim l [ inl on ↦ omega (arith, on.place_is, more) | inr end ↦ absurd (omega (arith, more, end.none.index)) ]

-- the entry where a look stands is the one before the next place
pub before-there : {K V : Type 0} {table : Table K V} {handle : Option ℕ} {look : Look K V} {place : ℕ} → IsLook table handle look (place - 1) → 0 < place
    → (entry : K × V) → slice_get look.keys.now look.index ≡ Some entry.0 → slice_get look.vals.now look.index ≡ Some entry.1 → Some entry ≡ entry_before (list_of table handle) place
before-there {table = table} {handle = handle} {place = place} l some entry key value =
    let is : suc (place - 1) ≡ place = omega (arith, some) in
    entry-there l entry key value ∙ ap (entry_before (list_of table handle)) is

-- no entry is before the first
pub before-first : {X : Type 0} (xs : List X) {place : ℕ} → place ≡ 0 → None ≡ entry_before xs place
before-first xs first = sym (ap (entry_before xs) first)

-- with no tree, each place is the end
module _ {K V : Type 0} {table : Table K V} {handle : Option ℕ} {look : Look K V} (none : handle ≡ None) where
  holds-none : {start : ℕ} → Holds table handle look start → ⊥
  holds-none h = absurd (let bad = sym none ∙ h.from.handle_is in cc)

  pub behind-none : (at : ℕ) → IsBehind table handle look at → at ≡ length (list_of table handle)
  behind-none at b = elim b [ inl past ↦ absurd (holds-none past.holds) | inr end ↦ end.place_is ]

  pub look-none : (at : AtLook table handle look) → at.place ≡ 0
  look-none at = elim at.is [ inl on ↦ absurd (holds-none on.holds) | inr end ↦ end.place_is ∙ ap (λ h. length (list_of table h)) none ]

-- a read past the end is one at the end
pub read-min : {X : Type 0} (xs : List X) (p : ℕ) → slice_get xs (min p (length xs)) ≡ slice_get xs p
read-min xs p = elim (cases_lt p (length xs)) [
  | inl low ↦ (let is : min p (length xs) ≡ p = omega (arith, low) in ap (slice_get xs) is)
  | inr past ↦ slice_get_past xs (min p (length xs)) (omega (arith, past)) ∙ sym (slice_get_past xs p past)
]

-- no entry is at a place past the end
pub past-next : {X : Type 0} (xs : List X) (p : ℕ) → length xs ≤ p → None ≡ slice_get xs p
past-next xs p past = sym (slice_get_past xs p past)

-- whether there is no key
pub none-tested : {X : Type 0} (xs : List X) (b : Bool) → b ≡ (length xs == 0) → b ≡ true → length xs ≡ 0
none-tested xs b is tested = elim (eqb_tells (length xs) 0) [ inl w ↦ w.1 | inr w ↦ absurd (false≢true (sym w.0 ∙ sym is ∙ tested)) ]

pub some-tested : {X : Type 0} (xs : List X) (b : Bool) → b ≡ (length xs == 0) → b ≡ false → ¬ (length xs ≡ 0)
some-tested xs b is tested = elim (eqb_tells (length xs) 0) [ inl w ↦ absurd (false≢true (sym tested ∙ is ∙ w.0)) | inr w ↦ w.1 ]

-- an empty list has one place
pub empty-place : {K V : Type 0} (cmp : K → K → Ordering) (table : Table K V) (handle : Option ℕ) (key : K) → handle ≡ None → length (list_of table handle) ≡ place cmp (list_of table handle) key
empty-place cmp table handle key none = ap (λ h. length (list_of table h)) none ∙ sym (ap (λ h. place cmp (list_of table h) key) none)

-- a search that ends in a leaf
module _ {K V : Type 0} {cmp : K → K → Ordering} (table : Table K V) (root : ℕ) {key : K} (spot : Spot) {number : ℕ} (on : IsSpotAt table root spot (leaf_place table root spot)) (s : SearchEndsAt cmp table root key (leaf_place table root spot) number) where
  -- the place of the leaf's first entry
  abbrev pub search-start : ℕ
  search-start = start_of table root (leaf_place table root spot)

  abbrev pub from-search : LeafFrom table (Some root) spot number search-start
  from-search = record { root = root; handle_is = refl; place = leaf_place table root spot; on = on; leaf = s.leaf; start_is = refl }

  module _ (content : Content K V) (found : slice_get table.nodes number ≡ Some content) where
    -- what a search in the leaf asks
    pub search-asks : IsLeaf content × IsStrictlySortedBy cmp (keys_of content)
    search-asks = read_as s.leaf.slot_is found (λ z. IsLeaf z × IsStrictlySortedBy cmp (keys_of z)) (tt, s.tells.increasing)

    module _ (o : Option V) (index : ℕ) (present : IfSome o (λ v. search_of cmp (keys_of content) key ≡ Ok index)) (reads : IfSome o (λ v. slice_get (vals_of content) index ≡ Some v)) (absent : o ≡ None → search_of cmp (keys_of content) key ≡ Err index) where
      told : (index ≡ place cmp s.leaf.entries key) × (o ≡ value_for cmp s.leaf.entries key)
      told =
          let slots = table.nodes in
          looked cmp s.leaf.entries key s.tells.increasing o
          (read_as found s.leaf.slot_is (λ z. IfSome o (λ v. search_of cmp (keys_of z) key ≡ Ok index)) present)
          (read_as found s.leaf.slot_is (λ z. IfSome o (λ v. slice_get (vals_of z) index ≡ Some v)) reads)
          (read_as found s.leaf.slot_is (λ z. o ≡ None → search_of cmp (keys_of z) key ≡ Err index) absent)

      pub searched-value : o ≡ value_for cmp (list_of table (Some root)) key
      searched-value = told.1 ∙ sym s.tells.value_is ∙ ap (λ l. value_for cmp l key) (sym (list-root table root on.root_is))

      searched-place : place cmp (list_of table (Some root)) key ≡ search-start + index
      searched-place = ap (λ l. place cmp l key) (list-root table root on.root_is) ∙ s.tells.place_is ∙ (λ j. sym (start-is table s.leaf) j + sym told.0 j)

      module _ {look : Look K V} (holds : (handle : Option ℕ) (start : ℕ) → LeafFrom table handle spot number start → Holds table handle look start) (count : (handle : Option ℕ) (start : ℕ) (from : LeafFrom table handle spot number start) → length look.keys.now ≡ length from.leaf.entries) where
        held : Holds table (Some root) look search-start
        held = holds (Some root) search-start from-search

        pub searched-index : HoldsPlace table (Some root) look index (place cmp (list_of table (Some root)) key)
        searched-index =
            let most = count_by-le-length (λ e. is_lt (cmp e.0 key)) s.leaf.entries in
            record { start = search-start; holds = held; within = omega (arith, told.0, most, count (Some root) search-start from-search); place_is = searched-place }

module _ {K V : Type 0} {table : Table K V} {handle : Option ℕ} {look : Look K V} {index place : ℕ} (h : HoldsPlace table handle look index place) where
  -- a look goes to a place in its leaf
  pub place-look : index < length look.keys.now → IsLook table handle (record look { index = index }) place
  place-look low = on-entry h.holds index place low h.place_is

  -- a place that is in no entry of the leaf is behind the leaf
  pub place-behind : length look.keys.now ≤ index → IsBehind table handle look place
  place-behind past = inl (record { start = h.start; holds = h.holds; place_is = omega (arith, h.place_is, h.within, past) })

-- a look that goes back through a list
module _ {K V : Type 0} {table : Table K V} {handle : Option ℕ} {look : Look K V} where
  -- from the end all entries are in front
  pub back-whole : IsLook table handle look (length (list_of table handle)) → left_before table handle look ≡ reverse (list_of table handle)
  unfolding left_before
  back-whole l = let list = list_of table handle in ap (λ z. reverse (take z list)) (look-place-is l) ∙ ap reverse (take-length list)

  pub back-ready : IsLive table handle → {place : ℕ} → IsLook table handle look place → LooksBack table handle look
  back-ready live l = record { live = live; stands = look-stands l }

  module _ (r : LooksBack table handle look) where
    abbrev pub back-at : AtLook table handle look
    back-at = record { place = look_place table handle look; is = r.stands }

    -- a step back gives the first of the entries in front, from the last on
    pub back-steps : (o : Option (K × V)) {new : Look K V} → ((at : AtLook table handle look) → o ≡ entry_before (list_of table handle) at.place)
        → ((at : AtLook table handle look) → IsLook table handle new (at.place - 1)) → YieldsFirst (left_before table handle) look o new
    unfolding left_before
    back-steps o {new} value moved = elim (cases_lt 0 (look_place table handle look)) [
      | inl some ↦ (
          let list = list_of table handle in
          let p = look_place table handle look in
          let up : p ≡ suc (p - 1) = omega (arith, some) in
          let here = read list (p - 1) (omega (arith, some, look-within r.stands)) in
          let left = ap (λ z. reverse (take z list)) up ∙ ap reverse (last_taken list (p - 1) here.0 here.1) ∙ reverse-append (take (p - 1) list) (here.0 ∷ []) in
          subst (λ (z : Option (K × V)). YieldsFirst (left_before table handle) look z new) (sym (value back-at ∙ ap (entry_before list) up ∙ here.1))
          (left ∙ ap (λ z. here.0 ∷ reverse (take z list)) (sym (look-place-is (moved back-at))))
          )
      | inr none ↦ (
          let list = list_of table handle in
          let p : look_place table handle look ≡ 0 = omega (arith, none) in
          let q : look_place table handle new ≡ 0 = omega (arith, none, look-place-is (moved back-at)) in
          subst (λ (z : Option (K × V)). YieldsFirst (left_before table handle) look z new) (sym (value back-at ∙ sym (before-first list p)))
          (ap (λ z. reverse (take z list)) p, ap (λ z. reverse (take z list)) q)
          )
    ]

    pub back-goes : {new : Look K V} → ((at : AtLook table handle look) → IsLook table handle new (at.place - 1)) → LooksBack table handle new
    back-goes moved = record { live = r.live; stands = look-stands (moved back-at) }
