use Rattle.bforest_workloads_bench.proofs.Reading.{step-back}
use Rattle.bforest_workloads_bench.proofs.walks.read_back.Goals as goal
use Rattle.std.proofs.Common.{sym, ◌∙◌}

pub loop-entry-smaller : goal.loop-entry-smaller
loop-entry-smaller c = step-back c.loop-entry.cursor c.prev.new.self c.in-Some.entry (sym c.prev.ensures.value ∙ c.in-Some.is) c.prev.ensures.moves
