use Rattle.bforest_calls.proofs.Acting.{flag-empty}
use Rattle.bforest_calls.proofs.maps.MapCursorStepsLook.step.Goals as goal
use Rattle.bforest_calls.specs.declared.call.Seen.TheVariants as seen
use Rattle.std.proofs.Common.{ap, refl, ◌∙◌}
use Rattle.std.specs.Prelude.{slice_get}

pub returns-in-Empty-clause-goes : goal.returns-in-Empty-clause-goes
returns-in-Empty-clause-goes g c = rw c.in-Empty.is (ap seen.Flag (flag-empty c.is_empty.result c.args.self.now.entries c.is_empty.ensures.empty), refl)

pub returns-in-Next-clause-goes : goal.returns-in-Next-clause-goes
returns-in-Next-clause-goes g c = rw c.in-Next.is (ap seen.Pair c.next.ensures.value, c.next.ensures.moves)

pub returns-in-Prev-clause-goes : goal.returns-in-Prev-clause-goes
returns-in-Prev-clause-goes g c = rw c.in-Prev.is (ap seen.Pair c.prev.ensures.value, c.prev.ensures.moves)

pub returns-in-Key-clause-goes : goal.returns-in-Key-clause-goes
returns-in-Key-clause-goes g c = rw c.in-Key.is (ap seen.Key c.key.ensures.key, refl)

pub returns-in-Value-clause-goes : goal.returns-in-Value-clause-goes
returns-in-Value-clause-goes g c = rw c.in-Value.is (ap seen.Value c.value.ensures.value, refl)

pub returns-in-Goto-clause-goes : goal.returns-in-Goto-clause-goes
returns-in-Goto-clause-goes g c = rw c.in-Goto.is (ap seen.Value c.goto.ensures.value, c.goto.ensures.moves)

pub returns-in-First-clause-goes : goal.returns-in-First-clause-goes
returns-in-First-clause-goes g c = rw c.in-First.is
    (ap seen.Pair (c.entry.ensures.entry ∙ ap (λ z. slice_get z.entries z.spot) c.goto_first-value.ensures.moves), c.goto_first-value.ensures.moves)

pub returns-in-End-clause-goes : goal.returns-in-End-clause-goes
returns-in-End-clause-goes g c = rw c.in-End.is (refl, c.goto_end.ensures.moves)
