use Rattle.bforest.specs.Entries.{value_for}
use Rattle.bforest.specs.Forest.{list_of}
use Rattle.bforest_tests.proofs.callers.write_and_get_other.Goals as goal
use Rattle.bforest_tests.proofs.callers.write_and_get_other.Goals.{in-Some, in_default}
use Rattle.std.proofs.Common.{ap, rules, ◌∙◌}

pub get-requires : goal.get-requires
get-requires g c = (
  search rules,
  elim c.match-get_mut.branch [
    | in-Some w ↦ let told = w.in-Some.ensures.written c.args.entry.1 in
        rw w.forest-is (record { live = told.live; increasing = told.increasing (g.C.Comparator.order c.args.comp.now) c.requires.increasing })
    | in_default w ↦ rw w.forest-is (record { live = c.requires.live; increasing = c.requires.increasing })
  ],
)

pub returns : goal.returns
returns g c = c.get.ensures.value ∙ elim c.match-get_mut.branch [
  | in-Some w ↦ rw w.forest-is ((w.in-Some.ensures.written c.args.entry.1).others c.args.other c.requires.apart)
  | in_default w ↦ ap (λ f. value_for (g.C.Comparator.order c.args.comp.now) (list_of f c.args.map.now) c.args.other) w.forest-is
]
