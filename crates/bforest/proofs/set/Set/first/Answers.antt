use Rattle.bforest.proofs.SetCursors.{key-read}
use Rattle.bforest.proofs.set.Set.first.Goals as goal
use Rattle.bforest_trees.specs.Forest.{list_of}
use Rattle.std.proofs.Common.{ap, option_map, slice_get, ◌∙◌, ◌≡◌}

pub returns : goal.returns
returns g c =
    let es = list_of c.args.forest.now c.args.self.now in
    let read : c.first_entry.result ≡ slice_get es 0 = rw (← c.forest.view_is, ← c.self.view_is) c.first_entry.ensures.entry in
    record { key = key-read es 0 c.key_of.ensures read; entry = c.key_of.ensures ∙ ap (option_map (λ e. e.0)) read }
