use Rattle.std.proofs.Common.{◌≡◌, ℕ, List, ◌++◌}
use Rattle.std.specs.Io.KnownBytes.{Appends}
use Rattle.bforest_run.proofs.text.write_line.Given as goal

-- the bytes that the writer took, and those left, are the line
abbrev pub invariant-writes : goal.invariant-writes
invariant-writes g l = (taken : List ℕ) × (l.line ≡ taken ++ l.rest) × Appends (g.W.Write.contents l.fn.output) (g.W.Write.contents l.output) taken
