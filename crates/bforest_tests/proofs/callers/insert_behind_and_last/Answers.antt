use Rattle.bforest.proofs.Clients.{last-appended, put-last}
use Rattle.bforest.specs.Forest.{list_of}
use Rattle.bforest_tests.proofs.callers.insert_behind_and_last.Goals as goal
use Rattle.std.proofs.Common.{ap, length, slice_get, ◌-◌, ◌∙◌}

pub returns : goal.returns
returns g c = c.last.ensures.entry ∙ ap (λ es. slice_get es (length es - 1)) (c.in_ok-insert.ensures.put.list
    ∙ put-last (g.C.Comparator.order c.args.comp.now) (g.met.C.Comparator.total c.args.comp.now) (list_of c.args.forest.now c.args.map.now) c.args.key c.args.value c.requires.increasing c.requires.behind)
    ∙ last-appended (list_of c.args.forest.now c.args.map.now) (c.args.key, c.args.value)
