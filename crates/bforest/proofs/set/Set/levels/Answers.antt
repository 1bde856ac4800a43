use Rattle.bforest.proofs.Sets.{depth-eight}
use Rattle.bforest.proofs.set.Set.levels.Goals as goal

pub returns : goal.returns
returns g c = rw (← c.self.view_is, ← c.forest.view_is) (
    let told = c.levels.ensures in
    record { count = told.count; depth = λ two. depth-eight _ _ two (told.depth two); leaves = told.leaves; most = told.most })
