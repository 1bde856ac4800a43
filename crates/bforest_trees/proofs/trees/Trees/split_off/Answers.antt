use Rattle.bforest_trees.proofs.After.{handed-on}
use Rattle.bforest_trees.proofs.Packing.{splits-not, splits-off}
use Rattle.bforest_trees.proofs.Spots.{spot-end}
use Rattle.bforest_trees.proofs.trees.Trees.split_off.Goals as goal
use Rattle.bforest_nodes.specs.Entries.{place}
use Rattle.bforest_trees.specs.Forest.{list_of}
use Rattle.std.proofs.Common.{refl, rules}

pub goto-value-requires : goal.goto-value-requires
goto-value-requires g c = (search rules, (search rules, (c.requires.live, (c.requires.increasing, spot-end c.args.self.now c.default-path.result c.args.handle.now c.requires.live c.default-path.ensures))))

pub returns-in_err-front : goal.returns-in_err-front
returns-in_err-front g c =
    let cmp = g.C.Comparator.order c.args.comp.now in let total = g.met.C.Comparator.total c.args.comp.now in
    rw (handed-on c.from_residual.ensures.1) (splits-not g.row.N cmp total c.args.self.now c.args.handle.now c.args.key c.requires.increasing c.in_err-front.field-0.0
    (rw (c.self.view_is) at (c.in_err-front.ensures.err (record { place = place cmp (list_of c.self.inside.pool c.args.handle.now) c.args.key; spot = rw (← c.self.view_is) at c.goto-value.ensures.spot }) c.in_err-front.field-0.0 refl)))

pub returns : goal.returns
returns g c =
    let cmp = g.C.Comparator.order c.args.comp.now in let total = g.met.C.Comparator.total c.args.comp.now in
    splits-off g.row.N cmp total c.args.self.now c.args.handle.now c.args.key c.requires.increasing c.in_ok-front.behind
    (rw (c.self.view_is) at (c.in_ok-front.ensures.ok (record { place = place cmp (list_of c.self.inside.pool c.args.handle.now) c.args.key; spot = rw (← c.self.view_is) at c.goto-value.ensures.spot })))
