use Rattle.std.proofs.Common.{refl, subst}
use Rattle.bforest_trees.specs.Retain.{Answers}
use Rattle.bforest_trees.proofs.predicate.AskedPredicate.ask.Goals as goal

pub returns : goal.returns
returns g c =
    let t : Answers g.F.FnMut c.self.inside.predicate c.args.key c.args.value.now c.call_mut.result c.call_mut.new.arg3 c.call_mut.new.self = record { value = _; shows = refl; left = _; called = c.call_mut.ensures; leaves = refl } in
    subst (λ f. Answers g.F.FnMut f c.args.key c.args.value.now c.call_mut.result c.call_mut.new.arg3 c.call_mut.new.self) c.self.view_is t
