use Rattle.bforest_core.proofs.{Words.{IsFirst, rules, refl, sym, arith, get_or_default}, union.Unions.is-rooted, walks.Leaves.{leaf-front, root-leaf}}
use Rattle.bforest_core.proofs.{walks.Reading.not_so, walks.Standing.{led-root, root-below, under-root}, walks.TopNode.node_within}
use Rattle.bforest_core.proofs.path.Path.first_leaf.Goals as goal

pub node-requires : goal.node-requires
node-requires g c = (search rules, (search rules, node_within c.requires.union.1.capacity (under-root c.args.root c.requires.union c.requires.root)))

pub returns-then-not-is_inner : goal.returns-then-not-is_inner
returns-then-not-is_inner g c =
    let on = c.set_root_node.ensures.stands c.args.pool.now c.requires.union c.requires.root (root-leaf c.requires.union _ _ c.requires.root c.node.ensures.value (not_so c.if-not-is_inner.true c.is_inner.ensures.inner)) in
    record { leaf = sym c.set_root_node.ensures.leaf; index = omega arith; stands = leaf-front c.requires.union 0 _ on (omega arith) }

pub overflow_sub-levels : goal.overflow_sub-levels
overflow_sub-levels g c = omega arith

pub descend_first-requires : goal.descend_first-requires
descend_first-requires g c = let w = root-below _ c.requires.union c.requires.root c.levels-levels.ensures.value IsFirst refl in
    (search rules, (search rules, (c.requires.union.1.capacity, (omega (arith, w.3, (is-rooted _ c.requires.union c.requires.root).low), w))))

pub returns : goal.returns
returns g c =
    let on = led-root _ c.requires.union c.requires.root c.levels-levels.ensures.value IsFirst refl (λ leaves. 0) c.descend_first.ensures.size c.descend_first.ensures.led in
    record { leaf = get_or_default c.descend_first.new.self.node 0 _ 0 (omega arith); index = omega arith; stands = leaf-front c.requires.union 0 _ on (omega arith) }
