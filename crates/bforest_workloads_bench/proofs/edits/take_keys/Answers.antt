use Rattle.bforest_workloads_bench.proofs.Continuing.{set-goes, set-same}
use Rattle.bforest_workloads_bench.proofs.edits.take_keys.Goals as goal

pub loop-init : goal.loop-init
loop-init g c =
    let order = g.C.Comparator.order in
    set-goes order c.args.cursor.now c.args.cursor.now c.goto.new.self _ (set-same order c.args.cursor.now c.requires.valid) c.goto.ensures.moves.goes

pub remove-requires-clause-valid : goal.remove-requires-clause-valid
remove-requires-clause-valid g c = c.loop.invariant.valid

pub loop-preserved : goal.loop-preserved
loop-preserved g c = set-goes g.C.Comparator.order c.args.cursor.now c.loop.cursor c.remove.new.self _ c.loop.invariant c.remove.ensures.goes

pub returns : goal.returns
returns g c = record { continues = c.loop.invariant }
