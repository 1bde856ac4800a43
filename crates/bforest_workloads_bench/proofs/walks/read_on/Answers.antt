use Rattle.bforest_workloads_bench.proofs.Reading.{step-on}
use Rattle.bforest_workloads_bench.proofs.walks.read_on.Goals as goal
use Rattle.std.proofs.Common.{sym, ◌∙◌}

pub loop-entry-smaller : goal.loop-entry-smaller
loop-entry-smaller c = step-on c.loop-entry.cursor c.next.new.self c.in-Some.entry (sym c.next.ensures.value ∙ c.in-Some.is) c.next.ensures.moves
