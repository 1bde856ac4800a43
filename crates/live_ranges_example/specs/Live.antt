-- The ranges that are live at points, by a list of ranges: from the point where each begins to the point
-- where it ends.
use Rattle.bforest.specs.Bounds.{entry_at_most}
use Rattle.bforest.specs.Entries.{put}
use Rattle.std.specs.Ordering.{nat_cmp}
use Rattle.std.specs.Prelude.{List, None, Option, Some, if◌then◌else◌, nat_lt, ℕ}

-- an optional range, if it ends behind a point
abbrev pub unless_ended : Option (ℕ × ℕ) → ℕ → Option (ℕ × ℕ)
unless_ended None point = None
unless_ended (Some range) point = if nat_lt point range.1 then Some range else None

-- the range that is live at a point: the last that begins there or before, unless it has ended
abbrev pub live_in : List (ℕ × ℕ) → ℕ → Option (ℕ × ℕ)
live_in ranges point = unless_ended (entry_at_most nat_cmp ranges point) point

-- the ranges with one that is live at a point split there, unless it begins there
abbrev pub cut_at : List (ℕ × ℕ) → ℕ → Option (ℕ × ℕ) → List (ℕ × ℕ)
cut_at ranges point None = ranges
cut_at ranges point (Some range) = if nat_lt range.0 point then put nat_cmp (put nat_cmp ranges point range.1) range.0 point else ranges

-- the ranges with the one that is live at a point split there
abbrev pub split_in : List (ℕ × ℕ) → ℕ → List (ℕ × ℕ)
split_in ranges point = cut_at ranges point (live_in ranges point)
