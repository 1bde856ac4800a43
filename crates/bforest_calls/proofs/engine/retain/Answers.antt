use Rattle.bforest_calls.proofs.Comparing.{refuses-more}
use Rattle.bforest_calls.proofs.Indexed.{order-there}
use Rattle.bforest_calls.proofs.engine.retain.Goals as goal
use Rattle.std.proofs.Common.{inl, refl}

pub returns-in-Some : goal.returns-in-Some
returns-in-Some g c =
    inl (refuses-more _ _ _ _ c.in-Some.given (order-there g.C.Comparator.order c.args.comps.now c.args.c c.if-c-comps.false) c.in-Some.ensures.refused, refl)
