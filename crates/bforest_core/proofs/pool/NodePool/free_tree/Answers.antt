use Rattle.bforest_core.proofs.Words.{rules, length, length-append, ◌++◌, [], arith, numbers_of, numbers_down, tree_of}
use Rattle.bforest_core.proofs.{union.Account.{length-same, nodes-count}, union.Unions.rooted, union.Roots.uprooted-union, walks.Standing.under-root}
use Rattle.bforest_core.proofs.pool.NodePool.free_tree.Goals as goal

pub free_below-requires : goal.free_below-requires
free_below-requires g c = let tree = tree_of c.args.self.now.nodes c.args.root in let u = under-root c.args.root c.requires.union c.requires.root in
    (search rules, (c.requires.union.1.capacity, (tree.leaves, tree.above, u.first, u.under, (rooted g.row.N c.args.self.now c.args.root c.requires.union c.requires.root).apart, omega (arith, (rooted g.row.N c.args.self.now c.args.root c.requires.union c.requires.root).low))))

pub returns : goal.returns
returns g c = let tree = tree_of c.args.self.now.nodes c.args.root in let u = under-root c.args.root c.requires.union c.requires.root in
    let all = c.free_below.ensures _ _ u.first u.under (rooted g.row.N c.args.self.now c.args.root c.requires.union c.requires.root).apart in
    let gone = uprooted-union g.row.N c.args.root c.requires.union c.requires.root all in
    let given = numbers_down c.args.self.now.nodes (length tree.above) c.args.root in record {
      ended = record { union = gone.0; root_gone = gone.1; others = gone.2; limit_is = all.limit_is };
      account = record { given = given; chain_is = all.chain_is; slots = all.slots_are; memory_is = all.memory_is; count_is = omega (arith, length-same (given ++ []) (numbers_of tree) all.numbers_are, length-append given [], nodes-count tree) };
      order = all.chain_is;
    }
