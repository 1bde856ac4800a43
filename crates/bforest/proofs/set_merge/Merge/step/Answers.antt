use Rattle.bforest.proofs.Sides.{over, took-both, took-first, took-second}
use Rattle.bforest.proofs.set_merge.Merge.step.Goals as goal
use Rattle.std.proofs.Common.{sym, ◌∙◌}

pub returns-in_err-order : goal.returns-in_err-order
returns-in_err-order g c = rw c.from_residual.ensures (over g.C.Comparator.order c.args.self.now (sym c.order.ensures ∙ c.in_err-order.was))

pub invariant_of-self-in-Less : goal.invariant_of-self-in-Less
invariant_of-self-in-Less g c = (took-first (g.met.C.Comparator.total _) c.self.invariant c.self.view_is c.order.ensures c.in_ok-order.was c.in-Less.is c.in_ok-take-in-Less.ensures).0

pub returns-in_ok-take-in-Less : goal.returns-in_ok-take-in-Less
returns-in_ok-take-in-Less g c = (took-first (g.met.C.Comparator.total _) c.self.invariant c.self.view_is c.order.ensures c.in_ok-order.was c.in-Less.is c.in_ok-take-in-Less.ensures).1

pub invariant_of-self-in-Greater : goal.invariant_of-self-in-Greater
invariant_of-self-in-Greater g c = (took-second (g.met.C.Comparator.total _) c.self.invariant c.self.view_is c.order.ensures c.in_ok-order.was c.in-Greater.is c.in_ok-take-in-Greater.ensures).0

pub returns-in_ok-take-in-Greater : goal.returns-in_ok-take-in-Greater
returns-in_ok-take-in-Greater g c = (took-second (g.met.C.Comparator.total _) c.self.invariant c.self.view_is c.order.ensures c.in_ok-order.was c.in-Greater.is c.in_ok-take-in-Greater.ensures).1

pub invariant_of-self-in-Equal : goal.invariant_of-self-in-Equal
invariant_of-self-in-Equal g c = (took-both (g.met.C.Comparator.total _) c.self.invariant c.self.view_is c.order.ensures c.in_ok-order.was c.in-Equal.is c.take-equal.result c.take-equal.ensures c.in_ok-take-in-Equal.ensures).0

pub returns-in_ok-take-in-Equal : goal.returns-in_ok-take-in-Equal
returns-in_ok-take-in-Equal g c = (took-both (g.met.C.Comparator.total _) c.self.invariant c.self.view_is c.order.ensures c.in_ok-order.was c.in-Equal.is c.take-equal.result c.take-equal.ensures c.in_ok-take-in-Equal.ensures).1
