use Rattle.bforest.specs.Calls.{Inserts, Removes}
use Rattle.bforest.specs.Forest.{list_of}
use Rattle.bforest.specs.Set.{as_removed}
use Rattle.bforest_calls.proofs.Chains.{edited, loans-stay, shows-taken}
use Rattle.bforest_calls.proofs.Offers.{comparing-alone}
use Rattle.bforest_calls.proofs.Runs.{on_err_from}
use Rattle.bforest_calls.proofs.Units.{removed-value, whole-each}
use Rattle.bforest_calls.proofs.sets.SetCollectionUnit.answer.Goals as goal
use Rattle.bforest_calls.specs.Looks.{with_each}
use Rattle.bforest_calls.specs.State.{Held, Shifted}
use Rattle.bforest_calls.specs.Steps.{set_view}
use Rattle.bforest_calls.specs.declared.call.Answer.TheVariants as answer
use Rattle.std.proofs.Common.{ap, false, refl, subst, sym, ◌∙◌}

pub returns-in-Get-clause-makes : goal.returns-in-Get-clause-makes
returns-in-Get-clause-makes g c =
    let order = g.C.Comparator.order c.args.comp.now in
    let es = list_of c.args.forest.now c.args.self.now in
    rw c.in-Get.is (ap answer.Value (c.unit_if.ensures ∙ ap as_removed c.contains.ensures.present ∙ removed-value order es c.in-Get.k), refl)

pub returns-in-Insert-clause-makes : goal.returns-in-Insert-clause-makes
returns-in-Insert-clause-makes g c =
    rw c.in-Insert.is (
      c.old_unit.result,
      refl,
      subst (λ r. Inserts 15 (g.C.Comparator.order c.args.comp.now) c.args.forest.now c.args.self.now
          c.in-Insert.k tt r c.insert.new.forest c.insert.new.self) (sym c.old_unit.ensures) c.insert.ensures,
    )

pub returns-in-Remove-clause-makes : goal.returns-in-Remove-clause-makes
returns-in-Remove-clause-makes g c =
    rw c.in-Remove.is (
      c.unit_if-in-Remove.result,
      refl,
      subst (λ r. Removes 15 (g.C.Comparator.order c.args.comp.now) c.args.forest.now c.args.self.now
          c.in-Remove.k r c.remove.new.forest c.remove.new.self) (sym c.unit_if-in-Remove.ensures) c.remove.ensures,
    )

pub returns-in-Edit : goal.returns-in-Edit
returns-in-Edit g c =
    let view = set_view g.C.Comparator.order in
    let made = c.cursor-cursor.ensures in
    let e = c.each.ensures in
    let loans = loans-stay 15 refl view _ _ e.chain e.err in
    let old : Held g.row.K.Denot (Unit {0}) = record { forest = c.args.forest.now; number = c.args.self.now } in
    let w = edited 15 refl view _ _ e.chain e.err old _ made.forest made.set (c.forest-1.given.1 (sym (loans.1 ∙ made.forest_loan)))
    (c.self-1.given.1 (sym (loans.0 ∙ made.set_loan))) (ap g.C.Comparator.order made.comparator) made.spot c.deref-in-Edit.ensures.value in
    record { makes = rw c.in-Edit.is w.0; room = rw c.in-Edit.is (rw c.deref-in-Edit.ensures.value at e.some); err_forest = w.1; err_self = w.2 }

pub returns-in-Range : goal.returns-in-Range
returns-in-Range g c =
    let r = c.each-in-Range.result in
    let taken = shows-taken _ _ r c.each-in-Range.ensures.chain (ap with_each c.range-range.ensures.keys ∙ whole-each _) c.deref-in-Range.ensures.value refl in
    record { makes = rw c.in-Range.is taken; room = rw c.in-Range.is (rw c.deref-in-Range.ensures.value at c.each-in-Range.ensures.some); err_forest = on_err_from r refl; err_self = on_err_from r refl }

pub unreachable-requires : goal.unreachable-requires
unreachable-requires g c = let d = c.in_default in
    comparing-alone false c.args.call.now c.requires.compares d.not-Get d.not-GetOrLess d.not-GetOrGreater d.not-Insert (λ offered. absurd (cc)) (λ offered. absurd (cc))
    (λ offered. absurd (cc)) d.not-Shift d.not-Remove (λ offered. absurd (cc)) d.not-Edit d.not-Range d.not-RemoveRange

pub returns-in-Shift-clause-makes : goal.returns-in-Shift-clause-makes
returns-in-Shift-clause-makes g c =
    let old : Held g.row.K.Denot (Unit {0}) = record { forest = c.args.forest.now; number = c.args.self.now } in
    let new : Held g.row.K.Denot (Unit {0}) = record { forest = c.shift.new.forest; number = c.shift.new.set } in
    rw c.in-Shift.is (refl, subst (λ keys. Shifted (g.C.Comparator.order c.args.comp.now) c.in-Shift.from keys old new) c.deref.ensures.value c.shift.ensures)
