use Rattle.bforest.proofs.Clients.{present-value}
use Rattle.bforest.specs.Forest.{list_of}
use Rattle.bforest_tests.proofs.callers.write_and_get.Goals as goal
use Rattle.bforest_tests.proofs.callers.write_and_get.Goals.{in-Some, in_default}
use Rattle.std.proofs.Common.{ap, rules, sym, ◌∙◌}
use Rattle.std.specs.Option.{is_some}

pub get-requires : goal.get-requires
get-requires g c = (
  search rules,
  elim c.match-get_mut.branch [
    | in-Some w ↦ let told = w.in-Some.ensures.written c.args.value in
        rw w.forest-is (record { live = told.live; increasing = told.increasing (g.C.Comparator.order c.args.comp.now) c.requires.increasing })
    | in_default w ↦ rw w.forest-is (record { live = c.requires.live; increasing = c.requires.increasing })
  ],
)

pub returns : goal.returns
returns g c = c.get.ensures.value ∙ elim c.match-get_mut.branch [
  | in-Some w ↦ rw w.forest-is (w.in-Some.ensures.written c.args.value).found
  | in_default w ↦ let bad = sym c.requires.present ∙ present-value (g.C.Comparator.order c.args.comp.now) (list_of c.args.forest.now c.args.map.now) c.args.key ∙ sym (ap is_some w.in_default.ensures.value) in absurd (cc)
]
