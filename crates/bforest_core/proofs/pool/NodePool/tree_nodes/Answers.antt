use Rattle.bforest_core.proofs.Words.{rules, arith, tree_of}
use Rattle.bforest_core.proofs.{union.Account.nodes-count, union.Unions.rooted, walks.Standing.under-root, union.Counting.tree-small}
use Rattle.bforest_core.proofs.pool.NodePool.tree_nodes.Goals as goal

pub nodes_below-requires : goal.nodes_below-requires
nodes_below-requires g c = let tree = tree_of c.args.self.now.nodes c.args.root in let u = under-root c.args.root c.requires.union c.requires.root in
    let r = rooted g.row.N c.args.self.now c.args.root c.requires.union c.requires.root in
    (search rules, (c.requires.union.1.capacity, (tree.leaves, tree.above, u.first, u.under, tree-small r, omega (arith, r.low))))

pub returns : goal.returns
returns g c = let u = under-root c.args.root c.requires.union c.requires.root in
    omega (arith, c.nodes_below.ensures _ _ u.first u.under, nodes-count (tree_of c.args.self.now.nodes c.args.root))
