use Rattle.bforest_trees.proofs.Cutting.{IsCutOff, cut-at, cut-end}
use Rattle.bforest_trees.proofs.Spots.{spot-in, spot-last, spot-on}
use Rattle.bforest_trees.proofs.trees.Trees.cut_at.Given.{Over}
use Rattle.bforest_trees.proofs.trees.Trees.cut_at.Goals.{After-packed}
use Rattle.bforest_trees.proofs.trees.Trees.cut_at.Goals as goal
use Rattle.bforest_trees.specs.Place.{AtSpot}
use Rattle.std.proofs.Common.{rules, arith, ap, sym, ◌∙◌, inl, inr, not}
use Rattle.std.proofs.lemmas.Bool.{cases_lt, false≢true}
use Rattle.std.specs.Option.{is_some}

pub returns-then-is_none : goal.returns-then-is_none
returns-then-is_none g c = λ at. elim (cases_lt 0 c.args.path.now.size) [
  | inl some ↦ absurd (false≢true (sym c.if-is_none.ensures ∙ ap is_some (c.leaf_pos.ensures.place (λ end. omega (arith, end, some)))))
  | inr none ↦ cut-end c.args.self.now c.args.handle.now at.place c.requires.live (spot-last c.args.self.now c.args.path.now c.args.handle.now at.place at.spot (omega arith))
]

pub cut-requires : goal.cut-requires
cut-requires g c =
    let at : AtSpot c.self.inside.pool c.args.handle.now c.args.path.now = rw (← c.self.view_is) at c.requires.stands in
    let low = spot-in c.self.inside.pool c.args.path.now c.args.handle.now at.place at.spot (λ end. false≢true (sym (ap is_some (c.leaf_pos.ensures.end end)) ∙ c.is_none.ensures ∙ ap not c.if-is_none.false)) in
    let t = spot-on c.self.inside.pool c.args.path.now c.args.handle.now at.place at.spot low in
    (search rules, (search rules, (c.self.invariant, record { root = t.0; place = at.place; on = t.2 })))

-- what the cut leaves
cuts : (g : Over) (c : After-packed g) (at : AtSpot c.self.inside.pool c.args.handle.now c.args.path.now) → IsCutOff g.row.N c.self.inside.pool c.cut.new.pool c.args.handle.now at.place c.cut.result
cuts g c at = let low = spot-in c.self.inside.pool c.args.path.now c.args.handle.now at.place at.spot (λ end. false≢true (sym (ap is_some (c.leaf_pos.ensures.end end)) ∙ c.is_none.ensures ∙ ap not c.if-is_none.false)) in
    cut-at g.row.N c.self.inside.pool c.cut.new.pool c.args.handle.now c.args.path.now c.cut.new.self c.cut.result (record { place = at.place; spot = at.spot; within = low }) c.cut.ensures

pub invariant_of-self : goal.invariant_of-self
invariant_of-self g c = (cuts g c (rw (← c.self.view_is) at c.requires.stands)).union

pub returns : goal.returns
returns g c = λ at. rw (c.packed.ensures, ← c.self.view_is) (cuts g c (rw (← c.self.view_is) at at)).cuts
