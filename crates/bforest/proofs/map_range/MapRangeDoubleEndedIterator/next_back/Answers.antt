use Rattle.bforest_trees.proofs.Readers.{progress-back}
use Rattle.bforest.proofs.map_range.MapRangeDoubleEndedIterator.next_back.Goals as goal

pub returns-clause-steps : goal.returns-clause-steps
returns-clause-steps g c = rw (← c.self.view_is) c.range_next_back.ensures.steps

pub returns-clause-goes : goal.returns-clause-goes
returns-clause-goes g c = progress-back c.requires c.args.self.now _ c.range_next_back.result (returns-clause-steps g c)
