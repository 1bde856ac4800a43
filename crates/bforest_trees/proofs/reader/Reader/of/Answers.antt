use Rattle.std.proofs.Common.{refl, rules, sym}
use Rattle.bforest_core.specs.Paths.{list_under}
use Rattle.bforest_trees.specs.Layout.{Opens}
use Rattle.bforest_trees.proofs.reader.Reader.of.Goals as goal

pub at-requires : goal.at-requires
at-requires g c = (search rules, (search rules, (list_under c.args.pool.now c.args.root, record { union = c.requires.union; place = 0; on = c.first-spot.ensures.spot; leaf = c.first-spot.ensures.leaf; left_is = refl })))

pub returns : goal.returns
returns g c =
    let opens : Opens g.row.N c.args.pool.now (list_under c.args.pool.now c.args.root) c.args.root c.first-spot.result.0 c.first-spot.result.1 = record { union = c.requires.union; place = 0; on = c.first-spot.ensures.spot; leaf = c.first-spot.ensures.leaf; left_is = refl } in
    let e = c.at.ensures.entered (list_under c.args.pool.now c.args.root) opens in
    record { left = sym e.left_is; reader = e.reader_is }
