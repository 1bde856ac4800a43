use Rattle.bforest.specs.Calls.{Inserts}
use Rattle.bforest.specs.Set.{as_removed}
use Rattle.bforest.specs.SetCursor.{comparator, entries, forest_now, set_now, spot}
use Rattle.bforest_calls.proofs.Acting.{flag-empty, set-acts, set-held, stays}
use Rattle.bforest_calls.proofs.Indexed.{writes-nothing}
use Rattle.bforest_calls.proofs.Units.{count-keys, entry-before, entry-read, key-at, removed-value, same-value, some-at, value-at}
use Rattle.bforest_calls.proofs.sets.SetCursorStepsActUnitUnit.step.Goals as goal
use Rattle.bforest_calls.specs.declared.call.Seen.TheVariants as seen
use Rattle.std.proofs.Common.{ap, refl, subst, sym, ◌∙◌}
use Rattle.std.specs.Prelude.{is_some, min}

pub returns-in-Empty-clause-goes : goal.returns-in-Empty-clause-goes
returns-in-Empty-clause-goes g c = rw c.in-Empty.is (stays (ap seen.Flag (flag-empty c.is_empty.result _ c.is_empty.ensures.empty), refl, refl))

pub returns-in-Next-clause-goes : goal.returns-in-Next-clause-goes
returns-in-Next-clause-goes g c = let m = c.next.ensures.moves in
    let next = entry-read (entries c.args.self.now) _ c.with_unit.ensures c.next.ensures.key in
    rw c.in-Next.is (set-acts m.goes (ap seen.Pair next, set-held m, ap (min _) (count-keys (entries c.args.self.now))))

pub returns-in-Prev-clause-goes : goal.returns-in-Prev-clause-goes
returns-in-Prev-clause-goes g c = let m = c.prev.ensures.moves in
    rw c.in-Prev.is (set-acts m.goes (ap seen.Pair (entry-before (entries c.args.self.now) _ c.with_unit-in-Prev.ensures c.prev.ensures.key), set-held m, refl))

pub returns-in-Key-clause-goes : goal.returns-in-Key-clause-goes
returns-in-Key-clause-goes g c = let old = c.args.self.now in
    rw c.in-Key.is (stays (ap seen.Key (c.elem.ensures.key ∙ key-at (entries old) (spot old)), refl, refl))

pub returns-in-Value-clause-goes : goal.returns-in-Value-clause-goes
returns-in-Value-clause-goes g c = let old = c.args.self.now in
    let some = c.is_some.ensures ∙ ap is_some c.elem-in-Value.ensures.key in
    rw c.in-Value.is (stays (ap seen.Value (c.unit_if.ensures ∙ ap as_removed some ∙ value-at (entries old) (spot old)), refl, refl))

pub returns-in-Goto-clause-goes : goal.returns-in-Goto-clause-goes
returns-in-Goto-clause-goes g c = let m = c.goto.ensures.moves in
    let value = removed-value (g.C.Comparator.order (comparator c.args.self.now)) (entries c.args.self.now) c.in-Goto.k in
    rw c.in-Goto.is (set-acts m.goes (ap seen.Value (c.unit_if-in-Goto.ensures ∙ ap as_removed c.goto.ensures.present ∙ value), set-held m, refl))

pub returns-in-First-clause-goes : goal.returns-in-First-clause-goes
returns-in-First-clause-goes g c = let m = c.goto_first.ensures.moves in
    let first = entry-read (entries c.args.self.now) _ c.with_unit-in-First.ensures c.goto_first.ensures.key in
    rw c.in-First.is (set-acts m.goes (ap seen.Pair first, set-held m, refl))

pub returns-in-Put-clause-goes : goal.returns-in-Put-clause-goes
returns-in-Put-clause-goes g c = let old = c.args.self.now in
    let new = c.insert.new.self in
    let put = subst (λ r. Inserts 15 (g.C.Comparator.order (comparator old)) (forest_now old) (set_now old) c.in-Put.k tt r (forest_now new) (set_now new))
    (sym c.old_unit.ensures) c.insert.ensures.inserted in
    rw c.in-Put.is (set-acts c.insert.ensures.goes (c.old_unit.result, refl, put, refl))

pub returns-in-Write-clause-goes : goal.returns-in-Write-clause-goes
returns-in-Write-clause-goes g c = let old = c.args.self.now in
    let some = c.is_some-in-Write.ensures ∙ ap is_some c.elem-in-Write.ensures.key ∙ some-at (entries old) (spot old) in
    rw c.in-Write.is (stays (ap seen.Flag some, writes-nothing c.requires.ready.0.live (same-value _ _ _), refl))

pub returns-in-Remove-clause-goes : goal.returns-in-Remove-clause-goes
returns-in-Remove-clause-goes g c = let removed = entry-read (entries c.args.self.now) _ c.with_unit-in-Remove.ensures c.remove.ensures.key in
    rw c.in-Remove.is (set-acts c.remove.ensures.goes (ap seen.Pair removed, c.remove.ensures.removed, refl))
