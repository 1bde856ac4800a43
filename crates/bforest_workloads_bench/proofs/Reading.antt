-- A reading cursor comes nearer to the last entry, or to the first, with each step that answers an entry.
use Rattle.bforest.specs.Cursor.{Cursor, at_place}
use Rattle.bforest.specs.Entries.{entry_before}
use Rattle.std.proofs.Common.{Some, ap, arith, length, min, slice_get, suc, zero, ◌+◌, ◌-◌, ◌<◌, ◌≡◌, ℕ}
use Rattle.std.proofs.lemmas.Option.{slice_get_within}

-- the distance to the end decreases with each step within the list
one_more : (spot count : ℕ) → spot + 1 < count → count - min (spot + 1) count < count - spot
one_more spot count within = omega (arith, within)

module _ {K X C : Type 0} where
  -- a step to the next entry leaves fewer entries behind
  pub step-on : (c d : Cursor K X C) (x : K × X) → slice_get c.entries (c.spot + 1) ≡ Some x → d ≡ at_place c (min (c.spot + 1) (length c.entries)) → length d.entries - d.spot < length c.entries - c.spot
  step-on c d x is moves =
      let more = one_more c.spot (length c.entries) (slice_get_within c.entries (c.spot + 1) x is) in
      omega (arith, more, ap (λ (z : Cursor K X C). length z.entries - z.spot) moves)

  -- a step to the previous entry leaves fewer entries in front
  pub step-back : (c d : Cursor K X C) (x : K × X) → entry_before c.entries c.spot ≡ Some x → d ≡ at_place c (c.spot - 1) → d.spot < c.spot
  step-back c d x is moves = omega (arith, ap (λ (z : Cursor K X C). z.spot) moves, not_first c.spot is)
    where
      not_first : (spot : ℕ) → entry_before c.entries spot ≡ Some x → 0 < spot
      not_first zero is = absurd cc
      not_first (suc spot) is = omega arith
