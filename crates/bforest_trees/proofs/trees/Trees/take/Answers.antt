use Rattle.bforest_trees.proofs.Taking.{none-past, removes-end, removes-here}
use Rattle.bforest_trees.specs.Forest.{list_of}
use Rattle.bforest_trees.specs.Place.{AtSpot, OnSpot}
use Rattle.bforest_trees.proofs.trees.Trees.take.Given.{Over}
use Rattle.bforest_trees.proofs.trees.Trees.take.Goals as goal
use Rattle.std.proofs.Common.{rules, sym, ◌∙◌}
use Rattle.std.proofs.lemmas.Option.{slice_get_within}

pub returns-in_err-entry-clause-removed : goal.returns-in_err-entry-clause-removed
returns-in_err-entry-clause-removed g c = λ at.
    removes-end g.row.N c.args.self.now c.args.handle.now at.place c.requires.live (none-past (list_of c.args.self.now c.args.handle.now) at.place (sym c.in_err-entry.was ∙ c.entry.ensures.value at))

pub returns-in_err-entry-clause-computed : goal.returns-in_err-entry-clause-computed
returns-in_err-entry-clause-computed g c = c.entry.ensures.computed

-- a path whose entry is found stands on an entry
on : (g : Over) (c : goal.After-remove_at g) (at : AtSpot c.args.self.now c.args.handle.now c.args.path.now) → OnSpot c.args.self.now c.args.handle.now c.args.path.now
on g c at = record { place = at.place; spot = at.spot; within = slice_get_within (list_of c.args.self.now c.args.handle.now) at.place c.in_ok-entry.entry (sym (c.entry.ensures.value at) ∙ c.in_ok-entry.was) }

pub remove_at-requires : goal.remove_at-requires
remove_at-requires g c =
    let at = c.requires.stands in
    (search rules, (search rules, record { place = at.place; spot = at.spot; within = slice_get_within (list_of c.args.self.now c.args.handle.now) at.place c.in_ok-entry.entry (sym (c.entry.ensures.value at) ∙ c.in_ok-entry.was) }))

pub returns-clause-removed : goal.returns-clause-removed
unfolding on
returns-clause-removed g c = λ at.
    let o = on g c at in
    removes-here g.row.N c.args.self.now c.args.handle.now at.place c.remove_at.new.self c.remove_at.new.handle o.within (c.remove_at.ensures.removed o) (c.remove_at.ensures.sizes o) c.remove_at.ensures.lowers.same_levels c.remove_at.ensures.account

pub returns-clause-spot : goal.returns-clause-spot
unfolding on
returns-clause-spot g c = λ at. c.remove_at.ensures.spot (on g c at)
