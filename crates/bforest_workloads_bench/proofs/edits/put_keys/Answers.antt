use Rattle.bforest_workloads_bench.proofs.Continuing.{set-goes, set-same}
use Rattle.bforest_workloads_bench.proofs.edits.put_keys.Goals as goal

pub loop-key-init : goal.loop-key-init
loop-key-init g c = set-same g.C.Comparator.order c.args.cursor.now c.requires.valid

pub insert-requires-clause-valid : goal.insert-requires-clause-valid
insert-requires-clause-valid g c = c.loop-key.invariant.valid

pub returns-in_err-insert : goal.returns-in_err-insert
returns-in_err-insert g c =
    record { continues = set-goes g.C.Comparator.order c.args.cursor.now c.loop-key.cursor c.insert.new.self _ c.loop-key.invariant c.insert.ensures.goes }

pub loop-key-preserved : goal.loop-key-preserved
loop-key-preserved g c =
    let order = g.C.Comparator.order in
    set-goes order c.args.cursor.now c.insert.new.self c.next.new.self _ (set-goes order c.args.cursor.now c.loop-key.cursor c.insert.new.self _ c.loop-key.invariant c.in_ok-insert.ensures.goes) c.next.ensures.moves.goes

pub returns : goal.returns
returns g c = record { continues = c.loop-key.invariant }
