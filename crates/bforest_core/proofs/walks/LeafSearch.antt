-- A search in a leaf's slot, by the leaf's entries, and the last entry up to a key: the answers of `entry_in_leaf` and `entry_at_most`.
use Rattle.bforest_core.proofs.Words.{search_of-keys_of, present_at, absent_at, value_for-present, value_for-absent, ◌≡◌, ℕ, IfSome, List, slice_get, Option}
use Rattle.bforest_core.proofs.Words.{Some, None, Ok, Err, refl, sym, ◌∙◌, slice_get-map, search_of, IsIncreasing, place, value_for, value_at_place}
use Rattle.bforest_core.proofs.Words.{entry_keys, entry_items, place-present, ◌≢◌, zero, suc, ◌+◌, ◌-◌, ◌<◌, ◌∷◌, ◌++◌, Bool, length, if◌then◌else◌, true}
use Rattle.bforest_core.proofs.Words.{false, ap, arith, Row, IsTotalOrder, Narrows, entry_before, entry_up_to, flat, is_present, is_some, node, option_map}
use Rattle.bforest_core.proofs.{walks.Backward.before_is, walks.Rising.place-le, walks.RowNodes.entry_at, walks.Steps.read}
use Rattle.std.specs.declared.cmp.Ordering.{Ordering}

-- the value at an index, read from the list of values
pub items-read : {K X : Type 0} (es : List (K × X)) (i : ℕ) → slice_get (entry_items es) i ≡ value_at_place es i
items-read es i = slice_get-map (λ e. e.1) es i

module _ {K V : Type 0} where
  -- the answer of a lookup among a leaf's keys
  pub looked : (cmp : K → K → Ordering) (es : List (K × V)) (key : K) → IsIncreasing cmp es → (o : Option V) {i : ℕ} → IfSome o (λ v. search_of cmp (entry_keys es) key ≡ Ok i) → IfSome o (λ v. slice_get (entry_items es) i ≡ Some v) → (o ≡ None → search_of cmp (entry_keys es) key ≡ Err i) →
      (i ≡ place cmp es key) × (o ≡ value_for cmp es key)
  looked cmp es key increasing (Some v) {i} found read absent =
      let p = present_at cmp es key i (sym found ∙ search_of-keys_of cmp es key) in (p.0, cc (items-read es i, value_for-present cmp es key p.1))
  looked cmp es key increasing None {i} found read absent =
      let p = absent_at cmp es key i (sym (absent refl) ∙ search_of-keys_of cmp es key) in (p.0, sym (value_for-absent cmp es key p.1))

-- a mapped answer is there exactly if the answer is
pub some-mapped : {A B : Type 0} (f : A → B) (o : Option A) → is_some (option_map f o) ≡ is_some o
some-mapped f None = refl
some-mapped f (Some x) = refl

module _ {K V : Type 0} (cmp : K → K → Ordering) (es : List (K × V)) (key : K) where
  up-to-present : is_present cmp es key ≡ true → slice_get es (place cmp es key) ≡ entry_up_to cmp es key
  up-to-present here = sym (λ j. if here j then slice_get es (place cmp es key) else entry_before es (place cmp es key))

  up-to-absent : is_present cmp es key ≡ false → entry_before es (place cmp es key) ≡ entry_up_to cmp es key
  up-to-absent gone = sym (λ j. if gone j then slice_get es (place cmp es key) else entry_before es (place cmp es key))

  -- by what a search among the entries answers
  module _ {value : Option V} (value_is : value ≡ value_for cmp es key) {index : ℕ} (index_is : index ≡ place cmp es key) where
    present-is : is_present cmp es key ≡ is_some value
    present-is = cc (some-mapped (λ (e : K × V). e.1) _)

    -- the key's own entry
    pub own-entry : is_some value ≡ true → {found : Option (K × V)} → found ≡ slice_get es index → found ≡ entry_up_to cmp es key
    own-entry some read = cc (read, up-to-present (present-is ∙ some))

    -- the entry before the key's place
    pub entry-in-front : is_some value ≡ false → index ≢ 0 → {found : Option (K × V)} → found ≡ slice_get es (index - 1) → found ≡ entry_up_to cmp es key
    entry-in-front none some read = cc (read, before_is es index (omega arith), up-to-absent (present-is ∙ none))

    -- no entry is before the key's place
    pub none-in-front : is_some value ≡ false → index ≡ 0 → None ≡ entry_up_to cmp es key
    none-in-front none zero_is = cc (up-to-absent (present-is ∙ none))

module _ {K V : Type 0} {cmp : K → K → Ordering} (o : IsTotalOrder cmp) {leaves before : Row K V} (number : ℕ) {entries : List (K × V)} (after : Row K V) {key : K}
    (leaves_are : leaves ≡ before ++ node number entries ∷ after) (t : Narrows cmp leaves key before entries) where
  entry-in : (i : ℕ) → i < length entries → slice_get (flat leaves) (length (flat before) + i) ≡ slice_get entries i
  entry-in i low = let r = read _ i low in entry_at _ _ _ _ i leaves_are r.1 ∙ sym r.1

  in-front : (i : ℕ) → place cmp entries key ≡ i → is_present cmp entries key ≡ false → entry_before entries i ≡ entry_before (flat leaves) (place cmp (flat leaves) key)
  in-front zero is gone = let none = ap (λ z. length (flat z)) (t.first (cc) is) in let first : 0 ≡ place cmp (flat leaves) key = omega arith in
      ap (entry_before (flat leaves)) first
  in-front (suc i) is gone = let low = place-le o entries key in let there : suc (length (flat before) + i) ≡ place cmp (flat leaves) key = omega arith in
      cc (entry-in i (omega arith))

  -- the last entry up to the key is that of the leaf
  pub up-to-narrowed : entry_up_to cmp entries key ≡ entry_up_to cmp (flat leaves) key
  up-to-narrowed = go _ refl
    where
      go : (b : Bool) → is_present cmp entries key ≡ b → entry_up_to cmp entries key ≡ entry_up_to cmp (flat leaves) key
      go true here = cc (up-to-present cmp entries key here, entry-in _ (place-present _ _ _ here), up-to-present cmp (flat leaves) key (t.found_is ∙ here))
      go false gone = sym (up-to-absent cmp entries key gone) ∙ in-front _ refl gone ∙ up-to-absent cmp (flat leaves) key (cc)
