use Rattle.bforest_indexed.proofs.Kept.{ordered-read, read}
use Rattle.bforest_indexed.proofs.sets.Sets.set.Goals as goal

pub returns : goal.returns
returns g c = rw (← c.self.view_is, ← c.index.ensures.number) (record {
  handle = read c.self.invariant (rw (← c.self.view_is, ← c.index.ensures.number) at c.requires.within) c.index-2.ensures;
  searchable = ordered-read c.self.invariant (rw (← c.self.view_is, ← c.index.ensures.number) at c.requires.within) c.index-2.ensures;
})
