use Rattle.std.proofs.Common.{ap, ◌∙◌}
use Rattle.bforest_nodes.specs.Entries.{with_unit}
use Rattle.bforest_nodes.proofs.Filling.{unit-part}
use Rattle.bforest_nodes.proofs.source.RefSliceSourceSetValue.part.Goals as goal

pub returns : goal.returns
returns g c = ap with_unit c.front.ensures ∙ unit-part c.args.most c.args.from c.args.self.now
