use Rattle.bforest_trees.proofs.Measures.{depth-four}
use Rattle.bforest.proofs.map.Map.levels.Goals as goal

pub returns : goal.returns
returns g c = rw (← c.self.view_is, ← c.forest.view_is) (
    let told = c.levels.ensures in
    record { count = told.count; depth = λ two. depth-four _ _ two (told.depth two); leaves = told.leaves; most = told.most })
