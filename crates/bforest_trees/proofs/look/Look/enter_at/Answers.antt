use Rattle.std.proofs.Common.{Some, rules}
use Rattle.bforest_trees.proofs.Looking.{from-search, search-asks, search-start, searched-index, searched-value}
use Rattle.std.proofs.lemmas.Option.{slice_get_within}
use Rattle.bforest_trees.proofs.look.Look.enter_at.Goals as goal

pub enter-requires : goal.enter-requires
enter-requires g c = (search rules, (Some c.args.root, search-start c.args.pool.now c.args.root c.args.spot c.requires.spot c.requires.leaf, from-search c.args.pool.now c.args.root c.args.spot c.requires.spot c.requires.leaf))

pub node-requires : goal.node-requires
node-requires g c = (search rules, (search rules, slice_get_within c.args.pool.now.nodes _ _ c.requires.leaf.leaf.slot_is))

pub look_up-requires : goal.look_up-requires
look_up-requires g c = (search rules, search-asks c.args.pool.now c.args.root c.args.spot c.requires.spot c.requires.leaf c.node.result.now c.node.ensures.value)

pub returns-clause-value : goal.returns-clause-value
returns-clause-value g c =
    let l = c.look_up.ensures in
    searched-value c.args.pool.now c.args.root c.args.spot c.requires.spot c.requires.leaf c.node.result.now c.node.ensures.value c.look_up.result.1 c.look_up.result.0 l.found l.value l.absent

pub returns-clause-index : goal.returns-clause-index
returns-clause-index g c =
    let l = c.look_up.ensures in
    searched-index c.args.pool.now c.args.root c.args.spot c.requires.spot c.requires.leaf c.node.result.now c.node.ensures.value c.look_up.result.1 c.look_up.result.0 l.found l.value l.absent c.enter.ensures.holds c.enter.ensures.count
