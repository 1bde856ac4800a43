use Rattle.bforest_trees.proofs.Spots.{spot-on}
use Rattle.bforest_trees.proofs.Writing.{value-here, written-at}
use Rattle.bforest_trees.proofs.trees.Trees.value_at.Goals as goal
use Rattle.bforest_trees.specs.Place.{OnSpot}
use Rattle.bforest_core.proofs.union.Written.{entry-used, value-written}
use Rattle.bforest_core.specs.Table.{value_at}
use Rattle.std.proofs.Common.{refl, rules, ◌∙◌}

pub value_mut-requires : goal.value_mut-requires
value_mut-requires g c =
    let p = c.self.inside.pool in
    let at = rw (← c.self.view_is) at c.requires.stands in
    let t = spot-on p at.1 at.0 at.2.place at.2.spot at.2.within in
    let r = entry-used c.self.invariant t.2 in
    (search rules, (rw at.3 r.0, rw (at.3, at.4) r.1))

pub invariant_of-self-lent : goal.invariant_of-self-lent
invariant_of-self-lent g c w =
    let p = c.self.inside.pool in
    let at = rw (← c.self.view_is) at c.requires.stands in
    let t = spot-on p at.1 at.0 at.2.place at.2.spot at.2.within in
    rw (at.3, at.4) (value-written c.self.invariant t.2 w).0.union

pub returns : goal.returns
returns g c =
    let p = c.self.inside.pool in (
      (refl, λ w. rw (← c.self.view_is)),
      record {
        writes_back = tt;
        value = λ h path here li ii.
            let at : OnSpot p h path = rw (← c.self.view_is) at here in
            rw (← c.self.view_is) (value-here p h path at c.self.invariant c.value_mut.result.now (c.value_mut.ensures.value ∙ (λ j. value_at p.nodes (li j) (ii j))));
        written = λ h path here li ii w.
            let at : OnSpot p h path = rw (← c.self.view_is) at here in
            rw (← c.self.view_is) (rw (li, ii) (written-at p h path at c.self.invariant w));
      },
    )
