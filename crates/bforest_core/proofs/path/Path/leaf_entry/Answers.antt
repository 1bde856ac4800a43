use Rattle.bforest_core.proofs.{Words.{rules, refl, arith}, walks.Steps.at_index}
use Rattle.bforest_core.proofs.path.Path.leaf_entry.Goals as goal

pub leaf_entry-requires : goal.leaf_entry-requires
leaf_entry-requires g c = (search rules, (c.requires.0, at_index _ c.args.self.now.node c.index-self-0.result (omega arith) refl c.requires.1))

pub returns-clause-value : goal.returns-clause-value
returns-clause-value g c = λ es slot. c.leaf_entry.ensures.value es (at_index _ c.args.self.now.node c.index-self-0.result (omega arith) refl slot)
