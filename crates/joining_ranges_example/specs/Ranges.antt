-- What contracts see of ranges that join: a list of ranges that are kept apart, and the points that they cover.
use Rattle.bforest.specs.Bounds.{entry_at_most}
use Rattle.bforest.specs.Entries.{IsIncreasing}
use Rattle.bforest.specs.Forest.{Forest, IsLive, list_of}
use Rattle.std.specs.List.{AllByRecursion, list_any}
use Rattle.std.specs.Ordering.{nat_cmp}
use Rattle.std.specs.Prelude.{Bool, List, None, Option, Some, [], if◌then◌else◌, max, nat_le, nat_lt, ◌&&◌, ◌<◌, ◌∷◌, ℕ}

-- each range starts before it ends, and ends before any later one starts: no two overlap or touch
abbrev pub AreApart : List (ℕ × ℕ) → Type 0
AreApart [] = Unit {0}
AreApart (r ∷ rs) = (r.0 < r.1) × AllByRecursion (λ y. r.1 < y.0) rs × AreApart rs

-- whether a point is in the range from s up to e
abbrev pub is_in : ℕ → ℕ → ℕ → Bool
is_in s e point = nat_le s point && nat_lt point e

-- whether a point is in some range
abbrev pub is_covered : List (ℕ × ℕ) → ℕ → Bool
is_covered rs point = list_any (λ r. is_in r.0 r.1 point) rs

-- the start of a range that ends at s or later, else s
abbrev pub start_of : Option (ℕ × ℕ) → ℕ → ℕ
start_of None s = s
start_of (Some r) s = if nat_le s r.1 then r.0 else s

-- the end of a range that ends behind e, else e
abbrev pub end_of : Option (ℕ × ℕ) → ℕ → ℕ
end_of None e = e
end_of (Some r) e = max e r.1

-- where a range from s on begins, once it is joined to the last that begins at s or before; and where one up to e ends
abbrev pub low_of : List (ℕ × ℕ) → ℕ → ℕ
low_of rs s = start_of (entry_at_most nat_cmp rs s) s

abbrev pub high_of : List (ℕ × ℕ) → ℕ → ℕ
high_of rs e = end_of (entry_at_most nat_cmp rs e) e

-- the invariant of the ranges
pub record AreKept (f : Forest ℕ ℕ) (h : Option ℕ) : Type 0 where
  pub live : IsLive f h
  pub increasing : IsIncreasing nat_cmp (list_of f h)
  pub apart : AreApart (list_of f h)
