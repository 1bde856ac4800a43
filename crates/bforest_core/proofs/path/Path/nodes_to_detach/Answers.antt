use Rattle.bforest_core.proofs.Words.{rules, arith, refl, length-map, sizes, tree_of}
use Rattle.bforest_core.proofs.union.CutTree.{branch, height-low}
use Rattle.bforest_core.proofs.path.Path.nodes_to_detach.Goals as goal

pub severed_up_to-requires : goal.severed_up_to-requires
severed_up_to-requires g c = let w = c.requires.stands in let h = height-low w.1 w.2.on in
    (search rules, (w.1.1.capacity, (omega (arith, h.1), (_, _, _, _, _, branch w.1 w.2.on refl))))

pub returns-clause-count : goal.returns-clause-count
returns-clause-count g c = λ table union at. omega (arith, c.severed_up_to.ensures.count _ _ _ _ _ (branch union at.on refl))

pub returns-clause-first : goal.returns-clause-first
returns-clause-first g c = λ table union at. c.severed_up_to.ensures.first _ _ _ _ _ (branch union at.on refl)

pub returns-clause-few : goal.returns-clause-few
returns-clause-few g c = λ table union at. omega (arith, c.severed_up_to.ensures.few, at.on.stands.size_is, length-map (tree_of table.nodes at.root).above sizes)
