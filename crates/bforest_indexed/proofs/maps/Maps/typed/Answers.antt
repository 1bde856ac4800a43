use Rattle.bforest_indexed.proofs.maps.Maps.typed.Goals as goal

pub returns-clause-table : goal.returns-clause-table
returns-clause-table g c = c.typed_with_node_limit.ensures.table
