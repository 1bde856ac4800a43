use Rattle.bforest.proofs.SetCursors.{key-read, keys-count}
use Rattle.bforest.proofs.set.Set.last.Goals as goal
use Rattle.bforest_trees.specs.Forest.{list_of}
use Rattle.std.proofs.Common.{ap, length, option_map, slice_get, sym, ◌-◌, ◌∙◌, ◌≡◌}
use Rattle.std.specs.Map.{keys_of}

pub returns : goal.returns
returns g c =
    let es = list_of c.args.forest.now c.args.self.now in
    let read : c.last_entry.result ≡ slice_get es (length es - 1) = rw (← c.forest.view_is, ← c.self.view_is) c.last_entry.ensures.entry in
    let key = key-read es (length es - 1) c.key_of.ensures read in
    record { key = key ∙ sym (ap (λ n. slice_get (keys_of es) (n - 1)) (keys-count es)); entry = c.key_of.ensures ∙ ap (option_map (λ e. e.0)) read }
