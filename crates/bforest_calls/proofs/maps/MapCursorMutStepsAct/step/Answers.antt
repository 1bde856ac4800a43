use Rattle.bforest.specs.Forest.{list_of}
use Rattle.bforest_calls.proofs.Acting.{flag-empty, map-acts, map-held, stays}
use Rattle.bforest_calls.proofs.maps.MapCursorMutStepsAct.step.Goals as goal
use Rattle.bforest_calls.specs.declared.call.Seen.TheVariants as seen
use Rattle.std.proofs.Common.{ap, refl, ◌∙◌}
use Rattle.std.specs.Prelude.{slice_get}

pub returns-in-Empty-clause-goes : goal.returns-in-Empty-clause-goes
returns-in-Empty-clause-goes g c = rw c.in-Empty.is (stays (ap seen.Flag (flag-empty c.is_empty.result _ c.is_empty.ensures.empty), refl, refl))

pub returns-in-Next-clause-goes : goal.returns-in-Next-clause-goes
returns-in-Next-clause-goes g c =
    rw c.in-Next.is (map-acts c.next.ensures.moves.goes (ap seen.Pair c.next.ensures.value, map-held c.next.ensures.moves, refl))

pub returns-in-Prev-clause-goes : goal.returns-in-Prev-clause-goes
returns-in-Prev-clause-goes g c =
    rw c.in-Prev.is (map-acts c.prev.ensures.moves.goes (ap seen.Pair c.prev.ensures.value, map-held c.prev.ensures.moves, refl))

pub returns-in-Key-clause-goes : goal.returns-in-Key-clause-goes
returns-in-Key-clause-goes g c = rw c.in-Key.is (stays (ap seen.Key c.key.ensures.key, refl, refl))

pub returns-in-Value-clause-goes : goal.returns-in-Value-clause-goes
returns-in-Value-clause-goes g c = rw c.in-Value.is (stays (ap seen.Value c.value.ensures.value, refl, refl))

pub returns-in-Goto-clause-goes : goal.returns-in-Goto-clause-goes
returns-in-Goto-clause-goes g c =
    rw c.in-Goto.is (map-acts c.goto.ensures.moves.goes (ap seen.Value c.goto.ensures.value, map-held c.goto.ensures.moves, refl))

pub returns-in-First-clause-goes : goal.returns-in-First-clause-goes
returns-in-First-clause-goes g c =
    let m = c.goto_first-value.ensures.moves in
    let first = c.entry.ensures.entry ∙ (λ j. slice_get (list_of (m.forest j) (m.map j)) (m.goes.spot j)) in
    rw c.in-First.is (map-acts m.goes (ap seen.Pair first, map-held m, refl))

pub returns-in-Put-clause-goes : goal.returns-in-Put-clause-goes
returns-in-Put-clause-goes g c = rw c.in-Put.is (map-acts c.insert.ensures.goes (c.insert.result, refl, c.insert.ensures.inserted, refl))

pub returns-in-Write-clause-goes : goal.returns-in-Write-clause-goes
returns-in-Write-clause-goes g c = rw c.in-Write.is (map-acts c.write.ensures.goes (ap seen.Flag c.write.ensures.there, c.write.ensures.writes, refl))

pub returns-in-Remove-clause-goes : goal.returns-in-Remove-clause-goes
returns-in-Remove-clause-goes g c =
    rw c.in-Remove.is (map-acts c.remove-value.ensures.goes (ap seen.Pair c.entry-entry.ensures.entry, c.remove-value.ensures.removed, refl))
