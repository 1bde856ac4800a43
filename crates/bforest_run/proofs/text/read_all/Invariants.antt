use Rattle.std.specs.Io.KnownBytes.{Consumes}
use Rattle.bforest_run.proofs.text.read_all.Given as goal

-- the reader's bytes begin with those that were read
abbrev pub invariant-reads : goal.invariant-reads
invariant-reads g l = Consumes (g.R.Read.remaining l.fn.input) (g.R.Read.remaining l.input) l.bytes.items
