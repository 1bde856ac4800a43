use Rattle.bforest_core.proofs.{Words.{le-div_iff_mul-le, mul_comm, rules, ◌≡◌, ◌-◌, length, arith, length-map, sizes, tree_of}, walks.Standing.under-root}
use Rattle.bforest_core.proofs.{rows.Bounds.{leaves-few, depth}, union.Unions.is-rooted, rows.LevelRows.some_leaf}
use Rattle.bforest_core.proofs.pool.NodePool.levels.Goals as goal

pub levels_from-requires : goal.levels_from-requires
levels_from-requires g c = let u = under-root _ c.requires.union c.requires.root in
    (search rules, (c.requires.union.1.capacity, (_, u, omega (arith, (is-rooted _ c.requires.union c.requires.root).low))))

pub returns : goal.returns
returns g c = let tree = tree_of c.args.self.now.nodes c.args.root in let u = under-root _ c.requires.union c.requires.root in
    let w = is-rooted _ c.requires.union c.requires.root in let one = some_leaf c.requires.union.1.capacity in let r = c.levels_from.ensures _ u in record {
      value = omega (arith, length-map tree.above sizes);
      leaves = (le-div_iff_mul-le one).1 (rw (← mul_comm _ _) (leaves-few _ _ _ one w.fit.leaves_fit));
      depth = λ two. (let e : length tree.above - 1 ≡ c.levels_from.result - 2 = omega arith in
          rw (← e) (depth _ _ one _ _ w.fit.leaves_fit w.fit.stacked w.fit.topped (omega (arith, r, two))));
      most = omega arith;
    }
