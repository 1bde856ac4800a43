use Rattle.bforest.specs.Cursor.{map_now}
use Rattle.bforest.specs.Forest.{list_of}
use Rattle.bforest_indexed.proofs.edit.lend.Goals as goal
use Rattle.std.proofs.Common.{ap, length, sym, ◌∙◌}

pub edit-requires-clause-end : goal.edit-requires-clause-end
edit-requires-clause-end g c = let made = c.cursor_mut-cursor.ensures in
    made.spot ∙ sym (ap length (ap (λ f. list_of f (map_now c.cursor_mut-cursor.result)) made.forest ∙ ap (list_of c.args.forest.now) made.map))
