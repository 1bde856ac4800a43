-- The bookings of one resource: a list of intervals, each with its start and its end, which it does not contain.
use Rattle.bforest.specs.Entries.{cut, put, value_for}
use Rattle.std.specs.List.{AllByRecursion, find}
use Rattle.std.specs.Ordering.{nat_cmp}
use Rattle.std.specs.Prelude.{Bool, List, Option, [], nat_lt, not, ◌&&◌, ◌<◌, ◌∷◌, ◌≤◌, ℕ}

-- each interval starts before it ends, and ends at or before the start of any later one
abbrev pub AreApart : List (ℕ × ℕ) → Type 0
AreApart [] = Unit {0}
AreApart (x ∷ xs) = (x.0 < x.1) × AllByRecursion (λ y. x.1 ≤ y.0) xs × AreApart xs

-- whether an interval contains a moment
abbrev pub contains : ℕ → ℕ × ℕ → Bool
contains moment x = not (nat_lt moment x.0) && nat_lt moment x.1

-- whether an interval meets the one from start up to end
abbrev pub meets : ℕ → ℕ → ℕ × ℕ → Bool
meets start end x = nat_lt x.0 end && nat_lt start x.1

-- the booking that contains a moment
abbrev pub holding : List (ℕ × ℕ) → ℕ → Option (ℕ × ℕ)
holding es moment = find (contains moment) es

-- the first booking that meets the interval from start up to end; in increasing lists, the one with the least start
abbrev pub first_met : List (ℕ × ℕ) → ℕ → ℕ → Option (ℕ × ℕ)
first_met es start end = find (meets start end) es

-- the bookings with the interval from start up to end inserted
abbrev pub with_booking : List (ℕ × ℕ) → ℕ → ℕ → List (ℕ × ℕ)
with_booking es start end = put nat_cmp es start end

-- the end of the booking that begins at start
abbrev pub end_of : List (ℕ × ℕ) → ℕ → Option ℕ
end_of es start = value_for nat_cmp es start

-- the bookings without the one that begins at start
abbrev pub without_booking : List (ℕ × ℕ) → ℕ → List (ℕ × ℕ)
without_booking es start = cut nat_cmp es start
