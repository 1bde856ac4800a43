use Rattle.bforest_core.proofs.{Words.{rules, tree_of}, insertion.Insertion.{inserts, placed-under, put-here, under-low}}
use Rattle.bforest_core.proofs.path.Path.insert.Goals as goal

pub put_here-requires : goal.put_here-requires
put_here-requires g c =
    let w = c.requires.placed in (search rules, (search rules, (tree_of c.args.pool.now.nodes w.root, w.place, placed-under _ _ c.requires.union w.placed)))

pub root-requires : goal.root-requires
root-requires g c = (search rules, under-low _ _ c.requires.union c.requires.placed.placed)

pub returns-then-put_here : goal.returns-then-put_here
returns-then-put_here g c = inserts _ c.root.ensures
    (λ at. put-here c.requires.union at.placed (c.put_here.ensures.inserted c.if-put_here.true _ at.place (placed-under _ _ c.requires.union at.placed)))

pub insert_full-requires : goal.insert_full-requires
insert_full-requires g c =
    (search rules, (search rules, rw (c.put_here.ensures.pool c.if-put_here.false) (c.requires.union, (c.requires.placed, c.put_here.ensures.full c.if-put_here.false))))

pub returns : goal.returns
returns g c = rw (← c.put_here.ensures.pool c.if-put_here.false) c.insert_full.ensures
