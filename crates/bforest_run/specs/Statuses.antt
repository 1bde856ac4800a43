-- The statuses of runs.
use Rattle.bforest_run.specs.declared.stop.Stop.TheVariants.{BadLine, InputOutput, Memory}
use Rattle.bforest_run.specs.declared.stop.Stop.{Stop}
use Rattle.std.specs.Prelude.{Err, Ok, Result, ℕ}

-- the status of a run with this result
abbrev pub status_of : Result (Unit {0}) Stop → ℕ
status_of (Ok done) = 0
status_of (Err BadLine) = 2
status_of (Err Memory) = 3
status_of (Err InputOutput) = 4
