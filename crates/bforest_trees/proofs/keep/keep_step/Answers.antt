use Rattle.bforest_core.specs.Paths.{OnEntry}
use Rattle.bforest_trees.proofs.keep.keep_step.Goals as goal
use Rattle.bforest_trees.proofs.unions.Keeping.{on-when, steps-last, steps-off, steps-on}
use Rattle.std.proofs.Common.{rules}

pub entry-requires : goal.entry-requires
entry-requires g c =
    let at : OnEntry c.args.pool.now c.args.path.now = record { root = c.args.root; place = c.requires.stands.0; on = c.requires.stands.1 } in
    let r = rw c.in_ok-left.was at c.remove.ensures in
    (search rules, (search rules, ((r.removed at).union, on-when (r.stands at))))

pub returns-then-stays : goal.returns-then-stays
returns-then-stays g c = steps-on c.requires.union c.if-stays.true c.next.ensures.stands c.next.ensures.value

pub returns-in_err-left : goal.returns-in_err-left
returns-in_err-left g c = rw c.from_residual.ensures (steps-last c.if-stays.false (rw c.in_err-left.was at c.remove.ensures))

pub returns : goal.returns
returns g c = steps-off c.if-stays.false (rw c.in_ok-left.was at c.remove.ensures) c.entry.ensures.value
