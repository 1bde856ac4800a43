use Rattle.scopes_example.proofs.Stacks.{deep, most}
use Rattle.scopes_example.proofs.symbols.Symbols.enter.Goals as goal
use Rattle.std.proofs.Common.{arith}

pub overflow_add-self : goal.overflow_add-self
overflow_add-self c = omega (arith, c.requires.may, deep c.self.inside.scopes _ _ _ c.self.view_is, most c.self.inside.scopes _ _ _ c.self.view_is)

pub invariant_of-self : goal.invariant_of-self
invariant_of-self c = record {
  within = omega (arith, c.requires.may, deep c.self.inside.scopes _ _ _ c.self.view_is, most c.self.inside.scopes _ _ _ c.self.view_is);
  maps_are = c.self.invariant.maps_are;
  unused = λ i past. c.self.invariant.unused i (omega (arith, past));
  room = c.self.invariant.room;
}
