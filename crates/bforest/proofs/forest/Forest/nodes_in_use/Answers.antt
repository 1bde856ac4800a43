use Rattle.bforest.proofs.forest.Forest.nodes_in_use.Goals as goal
use Rattle.std.proofs.Common.{arith}

pub returns : goal.returns
returns g c = record {
  count = rw (← c.self.view_is) (omega (arith, c.slots.ensures.count, c.free.ensures.count, c.slots.ensures.account));
  account = rw (← c.self.view_is) c.slots.ensures.account;
  fit = rw (← c.self.view_is) c.slots.ensures.fit;
  below = rw (← c.self.view_is) c.slots.ensures.below;
}
