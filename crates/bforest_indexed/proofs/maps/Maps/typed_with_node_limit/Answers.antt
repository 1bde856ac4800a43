use Rattle.std.proofs.Common.{refl}
use Rattle.bforest_indexed.proofs.Kept.{kept-none}
use Rattle.bforest_indexed.proofs.maps.Maps.typed_with_node_limit.Goals as goal

pub invariant_of-result : goal.invariant_of-result
invariant_of-result g c = kept-none refl _ _ _ _ c.with_node_limit.ensures.empty c.new.ensures.items

pub returns-clause-table : goal.returns-clause-table
returns-clause-table g c = c.with_node_limit.ensures.empty
