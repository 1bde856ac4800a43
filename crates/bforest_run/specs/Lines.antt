-- The lines of some bytes.
use Rattle.std.proofs.Common.{Bor}
use Rattle.std.specs.List.{slice_split}
use Rattle.std.specs.Prelude.{List, None, Option, Some, [], if◌then◌else◌, length, map, slice_index, take, ◌-◌, ◌==◌, ℕ}

-- a line without the carriage return at its end
abbrev pub without_return : List ℕ → List ℕ
without_return line = if slice_index line (length line - 1) == 13 then take (length line - 1) line else line

-- the parts between line feeds of the bytes left, if any are left
abbrev pub parts_left : Option (Bor (List ℕ)) → List (List ℕ)
parts_left None = []
parts_left (Some bytes) = slice_split (λ b. b == 10) bytes.now

-- the lines of the bytes left, each without a carriage return at its end
abbrev pub lines_left : Option (Bor (List ℕ)) → List (List ℕ)
lines_left rest = map without_return (parts_left rest)

-- the lines of some bytes
abbrev pub lines_of : List ℕ → List (List ℕ)
lines_of bytes = map without_return (slice_split (λ b. b == 10) bytes)
