use Rattle.bforest_indexed_tests.proofs.callers.insert_in_room.Goals as goal

pub returns : goal.returns
returns g c = record { taken = c.insert.ensures.room _ _ c.requires.stays c.requires.made }
