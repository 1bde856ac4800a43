use Rattle.bforest_core.proofs.{Words.{rules, arith, refl, tree_of}, walks.Whole.ends-in, walks.Searches.search-root, walks.Standing.{path-levels, root-level}}
use Rattle.bforest_core.proofs.path.Path.find_leaf.Goals as goal

pub overflow_sub-levels : goal.overflow_sub-levels
overflow_sub-levels g c = omega arith

pub descend-requires : goal.descend-requires
descend-requires g c = let on = search-root c.requires.union c.requires.root c.requires.increasing 0 refl in
    let levels_is = root-level (tree_of c.args.pool.now.nodes c.args.root) c.levels-levels.ensures.value in
    (search rules, (search rules, (c.requires.union.1.capacity, (omega (arith, levels_is, on.low), (_, on, levels_is)))))

pub returns : goal.returns
returns g c = let tree = tree_of c.args.pool.now.nodes c.args.root in
    let d = c.descend.ensures.descended _ (search-root c.requires.union c.requires.root c.requires.increasing 0 refl) (root-level tree c.levels-levels.ensures.value) in
    let levels = path-levels tree c.levels-levels.ensures.value c.descend.ensures.size in
    ends-in c.args.pool.now c.args.root c.requires.root d levels (omega (arith, d.nodes_wide)) (omega (arith, d.indices_wide))
