use Rattle.std.proofs.Common.{arith, length, subst, ◌≡◌}
use Rattle.bforest_nodes.specs.Layout.{HasFront}
use Rattle.bforest_nodes.proofs.Filling.{front-next}
use Rattle.bforest_nodes.proofs.entries.Entries.fill.Goals as goal

pub loop-index-preserved : goal.loop-index-preserved
loop-index-preserved g c = (
  omega (arith, c.loop-index-test.true, c.min-index-end.ensures, c.len.ensures),
  front-next (g.S.Source.list c.args.entries) c.loop-index.index c.loop-index.invariant.1 c.entry-key.ensures c.push.ensures c.push-in-loop-index.ensures,
)

pub returns : goal.returns
returns g c = let all : c.loop-index.index ≡ length (g.S.Source.list c.args.entries) = omega (arith, c.loop-index.invariant.0, c.loop-index-test.false, c.min-index-end.ensures, c.len.ensures, c.requires.few) in
    record { filled = subst (λ z. HasFront z (g.S.Source.list c.args.entries) c.loop-index.self) all c.loop-index.invariant.1 }
