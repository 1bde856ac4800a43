use Rattle.bforest_indexed.proofs.sets.Sets.len.Goals as goal
use Rattle.std.proofs.Common.{arith, ◌∙◌}

pub returns : goal.returns
returns g c = let held = c.self.inside.sets.ok in
    rw (← c.self.view_is) (record { count = c.len.ensures ∙ held.0; held = omega (arith, held.0, held.1) })
