use Rattle.bforest.proofs.map_forest.MapForest+K+V.value_at.Goals as goal
use Rattle.bforest_trees.specs.Place.{OnSpot}
use Rattle.std.proofs.Common.{refl}

pub returns : goal.returns
returns g c = (
  (refl, λ w. rw (← c.self.view_is)),
  record {
    writes_back = tt;
    value = λ h path here li ii.
        let at : OnSpot c.self.inside.trees h path = rw (← c.self.view_is) at here in
        rw (← c.self.view_is) (c.value_at.ensures.value h path at li ii);
    written = λ h path here li ii w.
        let at : OnSpot c.self.inside.trees h path = rw (← c.self.view_is) at here in
        rw (← c.self.view_is) (c.value_at.ensures.written h path at li ii w);
  },
)
