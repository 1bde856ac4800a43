use Rattle.bforest_core.proofs.{Words.{◌<◌, [], ◌∷◌, length, ap, arith, Inner}, table.Tables.length-with_front, insertion.HalvingNode.settle_root}
use Rattle.bforest_core.proofs.table.Trading.{takes}
use Rattle.bforest_core.proofs.path.Path.push_root.Goals as goal

pub returns : goal.returns
returns g c = λ w is. let made = c.inner_node-root.ensures in
    let t = c.args.pool.now in let content = Inner (c.args.half.key ∷ []) (c.args.left ∷ c.args.half.node ∷ []) in
    let low : c.inner_node-root.result < length t.nodes = omega (arith, ap (λ z. length z.nodes) made.table, length-with_front t t.chain content) in
    settle_root _ w.rows w.before w.x w.after (c.args.half.key, c.args.half.node) c.args.half.moved w.above
    (rw is (takes t c.inner_node-root.new.self _ content made.node made.table low)) (omega arith) (omega arith) c.index_behind.ensures.value
