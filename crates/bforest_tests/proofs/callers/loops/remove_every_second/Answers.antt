use Rattle.bforest.proofs.Loops.{loop-ended}
use Rattle.bforest_tests.proofs.callers.loops.remove_every_second.Goals as goal
use Rattle.bforest_tests.specs.Walks.{every_other}
use Rattle.std.proofs.Common.{sym, ◌∙◌}

pub returns : goal.returns
returns g c =
    let made = c.cursor_mut-cursor.ensures in
    let first = c.goto_first.ensures.moves in
    let thin = c.thin_out.ensures in
    record {
      becomes = loop-ended g.C.Comparator.order every_other c.thin_out.new.cursor made.forest made.map first thin.becomes
          (c.forest-1.given.1 (sym (thin.goes.forest_loan ∙ first.goes.forest_loan ∙ made.forest_loan))) (c.map-1.given.1 (sym (thin.goes.map_loan ∙ first.goes.map_loan ∙ made.map_loan)));
    }
