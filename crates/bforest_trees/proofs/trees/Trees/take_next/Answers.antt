use Rattle.bforest_trees.proofs.Reading.{Stepped, stepped}
use Rattle.bforest_trees.proofs.trees.Trees.take_next.Given.{Over}
use Rattle.bforest_trees.proofs.trees.Trees.take_next.Goals as goal
use Rattle.bforest_trees.specs.Layout.{IsOnOrEnds}
use Rattle.std.proofs.Common.{rules}

pub entry-entry-requires : goal.entry-entry-requires
entry-entry-requires g c =
    let r : IsOnOrEnds c.self.inside.pool c.args.path.now = rw (← c.self.view_is) at c.requires.on in
    (search rules, (search rules, (c.self.invariant, r.stands)))

pub next-requires : goal.next-requires
next-requires g c =
    let r : IsOnOrEnds c.self.inside.pool c.args.path.now = rw (← c.self.view_is) at c.requires.on in
    (search rules, (search rules, (c.self.invariant, r.stands)))

-- the answer is the entry where the path stood, and the entries left begin behind it
made : (g : Over) (c : goal.After-next g) → Stepped c.self.inside.pool c.args.path.now c.next.new.self c.entry-entry.result c.next.result
made g c =
    let r : IsOnOrEnds c.self.inside.pool c.args.path.now = rw (← c.self.view_is) at c.requires.on in
    let entry = c.entry-entry.ensures in
    let next = c.next.ensures in
    stepped c.self.inside.pool _ c.next.new.self c.entry-entry.result c.next.result r (record { value = entry.value; ended = entry.end; stands = next.stands; end = next.end; stays = next.stays })

pub returns-clause-steps : goal.returns-clause-steps
returns-clause-steps g c = rw (← c.self.view_is) (made g c).yields

pub returns-clause-on : goal.returns-clause-on
returns-clause-on g c = rw (← c.self.view_is) (made g c).on
