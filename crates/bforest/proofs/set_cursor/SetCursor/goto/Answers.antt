use Rattle.bforest.proofs.SetCursors.{moves-on}
use Rattle.bforest.proofs.Sets.{present-is}
use Rattle.bforest.proofs.set_cursor.SetCursor.goto.Goals as goal
use Rattle.bforest.specs.SetCursor.{entries}
use Rattle.std.proofs.Common.{ap, refl, ◌∙◌}
use Rattle.std.specs.Option.{is_some}

pub returns-clause-value : goal.returns-clause-value
returns-clause-value g c = c.is_some.ensures ∙ ap is_some (rw (← c.forest.view_is, ← c.set.view_is) c.goto.ensures.value)

pub returns-clause-present : goal.returns-clause-present
returns-clause-present g c =
    let s = c.args.self.now in
    returns-clause-value g c ∙ present-is (g.C.Comparator.order s.comp.now) (entries s) c.args.elem

pub returns-clause-moves : goal.returns-clause-moves
returns-clause-moves g c = moves-on refl refl refl refl refl c.requires.valid
    (rw (← c.forest.view_is, ← c.set.view_is) (c.goto.ensures.spot, c.goto.ensures.computed))
