use Rattle.bforest_indexed.proofs.Shorter.{end-kept, end-live, end-none, end-truncates}
use Rattle.bforest_indexed.proofs.Sizes.{first-field}
use Rattle.bforest_indexed.proofs.maps.Maps.pop.Goals as goal
use Rattle.std.proofs.Common.{sym, ◌∙◌}

pub returns-in_default-clause-rest : goal.returns-in_default-clause-rest
returns-in_default-clause-rest g c = rw (← c.self.view_is) (end-none _ _ c.in_default.ensures.items (sym c.self.inside.maps.ok.0 ∙ c.in_default.ensures.cases.0) c.in_default.ensures.capacity)

pub clear-requires : goal.clear-requires
clear-requires g c = (search first-field, end-live c.self.invariant _ _ c.in-Some.ensures.items)

pub invariant_of-self-2 : goal.invariant_of-self-2
invariant_of-self-2 g c = end-kept c.self.invariant _ _ c.in-Some.ensures.items c.clear.ensures

pub returns-clause-rest : goal.returns-clause-rest
returns-clause-rest g c = rw (← c.self.view_is) (end-truncates c.self.invariant _ _ c.in-Some.ensures.items c.clear.ensures c.in-Some.ensures.capacity)
