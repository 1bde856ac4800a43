use Rattle.bforest_indexed.proofs.maps.Maps.free_slots.Goals as goal

pub returns : goal.returns
returns g c = record { count = rw (← c.self.view_is) c.free_slots.ensures.count }
