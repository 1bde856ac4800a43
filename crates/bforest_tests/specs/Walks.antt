-- What loops over cursors leave of a list.
use Rattle.std.specs.Ordering.{is_eq}
use Rattle.std.specs.Prelude.{List, [], if◌then◌else◌, ◌∷◌}
use Rattle.std.specs.declared.cmp.Ordering.{Ordering}

-- the first entry of a list, the third, and so on
abbrev pub every_other : {X : Type 0} → List X → List X
every_other [] = []
every_other (x ∷ []) = x ∷ []
every_other (x ∷ y ∷ rest) = x ∷ every_other rest

module _ {K : Type 0} (order : K → K → Ordering) where
  -- a range and those behind it, where each that begins at the end of the one before is joined to it
  abbrev pub joined_from : K × K → List (K × K) → List (K × K)
  joined_from range [] = range ∷ []
  joined_from range (next ∷ rest) = if is_eq (order range.1 next.0) then joined_from (range.0, next.1) rest else range ∷ joined_from next rest

  -- ranges in order, where each that begins at the end of the one before is joined to it
  abbrev pub joined : List (K × K) → List (K × K)
  joined [] = []
  joined (range ∷ rest) = joined_from range rest
