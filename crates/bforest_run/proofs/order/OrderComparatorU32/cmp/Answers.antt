use Rattle.bforest_run.proofs.order.OrderComparatorU32.cmp.Goals as goal

pub returns-in-Down : goal.returns-in-Down
returns-in-Down c = rw c.in-Down.is c.cmp-in-Down.ensures
