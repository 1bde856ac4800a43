use Rattle.bforest.proofs.Loops.{swept-behind}
use Rattle.joining_ranges_example.proofs.sweep.remove_between.Goals as goal
use Rattle.std.proofs.Common.{sym, ◌∙◌}

pub returns-clause-list : goal.returns-clause-list
returns-clause-list g c =
    let made = c.cursor_mut-cursor.ensures in
    let to = c.goto.ensures.moves in
    let on = c.next.ensures.moves in
    let gone = c.remove_up_to.ensures in
    swept-behind c.remove_up_to.new.cursor (g.met.C.Comparator.total c.args.comp.now) c.args.first c.args.last c.requires.searchable.increasing c.requires.present made.forest made.map made.comparator to on gone.list
    (c.forest-1.given.1 (sym (gone.goes.forest_loan ∙ on.goes.forest_loan ∙ to.goes.forest_loan ∙ made.forest_loan)))
    (c.map-1.given.1 (sym (gone.goes.map_loan ∙ on.goes.map_loan ∙ to.goes.map_loan ∙ made.map_loan)))
