use Rattle.std.proofs.Common.{rules}
use Rattle.bforest_nodes.proofs.entries.Entries.parts_mut.Goals as goal

pub returns : goal.returns
returns g c = search rules
