use Rattle.bforest_core.proofs.{Words.{tree_of, rules}, insertion.Insertion.{placed-under, under-low}}
use Rattle.bforest_core.proofs.path.Path.needed.Goals as goal

pub needed_here-requires : goal.needed_here-requires
needed_here-requires g c = let w = c.requires.placed in let union = c.requires.union in
    (search rules, (search rules, ((under-low _ _ union w.placed).1, (tree_of c.args.pool.now.nodes w.root, w.place, placed-under _ _ union w.placed))))

pub returns : goal.returns
returns g c = record { value = λ at. c.needed_here.ensures.value (tree_of c.args.pool.now.nodes at.root) at.place (placed-under _ _ c.requires.union at.placed) }
