use Rattle.bforest_core.proofs.Words.{rules, arith, tree_of}
use Rattle.bforest_core.proofs.union.Duplicating.{asks_room, asks_rooted, asks_under, copied-tree}
use Rattle.bforest_core.proofs.pool.NodePool.copy_tree.Goals as goal

pub copy_below-requires : goal.copy_below-requires
copy_below-requires g c = let kept = c.in_ok-reserve.ensures.trees c.requires.union in let mid = c.reserve.new.self in
    let r = asks_rooted c.args.root c.requires.union c.requires.root kept c.tree_nodes.ensures.value in let u = asks_under c.args.root c.requires.union c.requires.root kept c.tree_nodes.ensures.value in
    let tree = tree_of mid.nodes c.args.root in
    (search rules, (c.requires.union.1.capacity, (tree.leaves, tree.above, u.first, u.under, r.apart, omega (arith, r.low), asks_room c.args.root c.requires.union c.requires.root kept c.tree_nodes.ensures.value c.in_ok-reserve.ensures.free)))

pub returns-clause-planted : goal.returns-clause-planted
returns-clause-planted g c = let kept = c.in_ok-reserve.ensures.trees c.requires.union in let mid = c.reserve.new.self in
    let r = asks_rooted c.args.root c.requires.union c.requires.root kept c.tree_nodes.ensures.value in let u = asks_under c.args.root c.requires.union c.requires.root kept c.tree_nodes.ensures.value in
    let tree = tree_of mid.nodes c.args.root in
    copied-tree c.args.root c.requires.union c.requires.root kept c.tree_nodes.ensures.value c.in_ok-reserve.ensures.ok c.in_ok-reserve.ensures.growth (c.copy_below.ensures tree.leaves tree.above u.first u.under r.apart)
