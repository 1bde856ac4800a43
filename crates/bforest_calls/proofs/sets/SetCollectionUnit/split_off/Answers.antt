use Rattle.bforest.specs.Calls.{SplitsOff}
use Rattle.bforest.specs.Refusal.{OutOfMemory}
use Rattle.bforest_calls.proofs.Making.{when-err, when-ok}
use Rattle.bforest_calls.proofs.sets.SetCollectionUnit.split_off.Goals as goal
use Rattle.std.proofs.Common.{Option, Result, ℕ}

pub returns : goal.returns
returns g c =
    let parts : Result (Option ℕ) OutOfMemory → Type 0 = λ r. SplitsOff 15 (g.C.Comparator.order c.args.comp.now) c.args.forest.now c.args.self.now c.args.key r c.split_off.new.forest c.split_off.new.self in
    record { made = when-ok parts c.split_off.result c.split_off.ensures; refused = when-err parts c.split_off.result c.split_off.ensures }
