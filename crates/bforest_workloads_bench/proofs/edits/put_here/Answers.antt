use Rattle.bforest_workloads_bench.proofs.Continuing.{map-goes, map-same}
use Rattle.bforest_workloads_bench.proofs.edits.put_here.Goals as goal

pub loop-entry-init : goal.loop-entry-init
loop-entry-init g c = map-same g.C.Comparator.order c.args.cursor.now c.requires.valid

pub insert-requires-clause-valid : goal.insert-requires-clause-valid
insert-requires-clause-valid g c = c.loop-entry.invariant.valid

pub returns-in_err-insert : goal.returns-in_err-insert
returns-in_err-insert g c =
    record { continues = map-goes g.C.Comparator.order c.args.cursor.now c.loop-entry.cursor c.insert.new.self _ c.loop-entry.invariant c.insert.ensures.goes }

pub loop-entry-preserved : goal.loop-entry-preserved
loop-entry-preserved g c =
    let order = g.C.Comparator.order in
    map-goes order c.args.cursor.now c.insert.new.self c.next.new.self _ (map-goes order c.args.cursor.now c.loop-entry.cursor c.insert.new.self _ c.loop-entry.invariant c.in_ok-insert.ensures.goes) c.next.ensures.moves.goes

pub returns : goal.returns
returns g c = record { continues = c.loop-entry.invariant }
