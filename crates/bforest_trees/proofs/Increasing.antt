-- Whether keys increase, from the last key that was seen.
use Rattle.bforest_nodes.specs.Entries.{IsIncreasing}
use Rattle.bforest_nodes.proofs.Ordered.{above}
use Rattle.std.proofs.Common.{List, None, Option, Some, [], ap, false, refl, subst, true, ◌∷◌, ◌≡◌}
use Rattle.std.specs.Cmp.{IsTotalOrder}
use Rattle.std.specs.List.Sorted.{IsStrictlySortedBy}
use Rattle.std.specs.Map.{keys_of}
use Rattle.std.specs.Option.{option_map_or}
use Rattle.std.specs.Ordering.{is_lt}
use Rattle.std.specs.declared.cmp.Ordering.{Ordering}
use Rattle.std.specs.declared.cmp.Ordering.TheVariants.{Equal, Greater, Less}

module _ {K : Type 0} (cmp : K → K → Ordering) where
  -- the keys increase, and the first is greater than the key before them, if there is one
  abbrev pub IncreasesAfter : Option K → List K → Type 0
  IncreasesAfter None ks = IsStrictlySortedBy cmp ks
  IncreasesAfter (Some k) ks = IsStrictlySortedBy cmp (k ∷ ks)

  -- a key that is less than the first may be put in front
  pub after_less : (o : IsTotalOrder cmp) (k q : K) (ks : List K) → cmp k q ≡ Less → IsStrictlySortedBy cmp (q ∷ ks) → IsStrictlySortedBy cmp (k ∷ q ∷ ks)
  unfolding IsStrictlySortedBy
  after_less o k q ks l h = ((l, above cmp o k q ks l h.0), h)

  -- the first of increasing keys is less than the second, and the rest increases
  pub less-after : (k q : K) (ks : List K) → IsStrictlySortedBy cmp (k ∷ q ∷ ks) → (cmp k q ≡ Less) × IsStrictlySortedBy cmp (q ∷ ks)
  unfolding IsStrictlySortedBy
  less-after k q ks h = (h.0.0, h.1)

  -- the empty list of keys increases after any last key
  pub alone : (last : Option K) → IncreasesAfter last []
  unfolding IsStrictlySortedBy
  alone None = tt
  alone (Some k) = (tt, tt)

module _ {K X : Type 0} (cmp : K → K → Ordering) where
  -- the whole list increases exactly where the rest increases after the last key that was seen
  pub record IsDownTo (es : List (K × X)) (last : Option K) (rest : List (K × X)) : Type 0 where
    pub down : IsIncreasing cmp es → IncreasesAfter cmp last (keys_of rest)
    pub up : IncreasesAfter cmp last (keys_of rest) → IsIncreasing cmp es

  module _ (o : IsTotalOrder cmp) (es : List (K × X)) (last : Option K) (k : K) (v : X) (rest : List (K × X)) where
    -- a key that is greater than the last one seen keeps `IsDownTo`
    pub IsDownTo-next : (seen : List (K × X)) → seen ≡ (k, v) ∷ rest → true ≡ option_map_or (λ b. is_lt (cmp b k)) last true → IsDownTo es last seen → IsDownTo es (Some k) rest
    IsDownTo-next seen e t h = go last t (subst (IsDownTo es last) e h)
      where
        less : (b : K) → true ≡ is_lt (cmp b k) → cmp b k ≡ Less
        less b t = by (cmp b k) t
          where
            by : (r : Ordering) → true ≡ is_lt r → r ≡ Less
            by Less t = refl
            by Equal t = absurd (cc)
            by Greater t = absurd (cc)

        go : (l : Option K) → true ≡ option_map_or (λ b. is_lt (cmp b k)) l true → IsDownTo es l ((k, v) ∷ rest) → IsDownTo es (Some k) rest
        go None t h = record { down = h.down; up = h.up }
        go (Some b) t h = record {
          down = λ up. (less-after cmp b k (keys_of rest) (h.down up)).1;
          up = λ up. h.up (after_less cmp o b k (keys_of rest) (less b t) up);
        }

    -- a key that is not greater than the last one seen shows that the list does not increase
    pub not_increasing : (seen : List (K × X)) → seen ≡ (k, v) ∷ rest → false ≡ option_map_or (λ b. is_lt (cmp b k)) last true → IsDownTo es last seen → IsIncreasing cmp es → ⊥
    not_increasing seen e t h up = go last t (subst (IsDownTo es last) e h)
      where
        go : (l : Option K) → false ≡ option_map_or (λ b. is_lt (cmp b k)) l true → IsDownTo es l ((k, v) ∷ rest) → ⊥
        go None t h = cc
        go (Some b) t h = let bad : is_lt (cmp b k) ≡ true = ap is_lt (less-after cmp b k (keys_of rest) (h.down up)).0 in cc

  -- a list of one entry increases
  pub IsIncreasing-one : (e : K × X) → IsIncreasing cmp (e ∷ [])
  unfolding IsStrictlySortedBy
  IsIncreasing-one e = (tt, tt)
