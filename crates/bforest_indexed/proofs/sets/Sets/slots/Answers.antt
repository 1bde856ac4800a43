use Rattle.bforest_indexed.proofs.sets.Sets.slots.Goals as goal

pub returns : goal.returns
returns g c =
    let kept = c.self.invariant in
    rw (← c.self.view_is) (record { count = c.slots.ensures.count; within = c.slots.ensures.within; held = c.slots.ensures.held; account = kept.account; fit = kept.fit; increasing = kept.increasing })
