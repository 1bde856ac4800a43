use Rattle.bforest_trees.proofs.Looking.{entry-there, none-there}
use Rattle.bforest_trees.proofs.look.Look.entry.Goals as goal

pub returns-then-self : goal.returns-then-self
returns-then-self g c = record { value = λ table handle at l. entry-there l c.here.result c.here.ensures.key c.here.ensures.value }

pub returns-else-self : goal.returns-else-self
returns-else-self g c = record { value = λ table handle at l. none-there l c.if-self.false }
