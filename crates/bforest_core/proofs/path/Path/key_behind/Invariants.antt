use Rattle.bforest_core.proofs.{Words.{OneAbove, ◌-◌}, removal.Neighbours.KeyComes}
use Rattle.bforest_core.proofs.path.Path.key_behind.Given as goal

abbrev pub invariant-loop-up : goal.invariant-loop-up
invariant-loop-up g l = (w : OneAbove l.pool l.self.node l.self.entry 1 l.self.size) → KeyComes l.pool l.self.node l.self.entry l.up l.self.size w

abbrev pub decreases-loop-up : goal.decreases-loop-up
decreases-loop-up g l = l.self.size - l.up
