use Rattle.bforest_indexed.proofs.Adding.{enough-ok, tried-handles, tried-more}
use Rattle.bforest_indexed.proofs.Kept.{keeps-same, kept-same, refused-same}
use Rattle.bforest_indexed.proofs.maps.Maps.grow_to.Goals as goal

pub invariant_of-self : goal.invariant_of-self
invariant_of-self g c = kept-same _ _ (tried-handles _ _ _ _ c.add_empty.ensures.more c.add_empty.ensures.refused) c.self.invariant

pub returns-clause-count : goal.returns-clause-count
returns-clause-count g c = rw (← c.self.view_is) (tried-more _ _ _ _ c.add_empty.ensures.more)

pub returns-clause-keeps : goal.returns-clause-keeps
returns-clause-keeps g c = rw (← c.self.view_is) (keeps-same _ _ (tried-handles _ _ _ _ c.add_empty.ensures.more c.add_empty.ensures.refused))

pub returns-clause-refused : goal.returns-clause-refused
returns-clause-refused g c = rw (← c.self.view_is) (refused-same _ _ _ _ c.add_empty.ensures.refused c.add_empty.ensures.kept)

pub returns-clause-succeeds : goal.returns-clause-succeeds
returns-clause-succeeds g c = rw (← c.self.view_is) (enough-ok c.add_empty.result c.add_empty.ensures.short)
