use Rattle.bforest_calls.proofs.Chains.{edited, loans-stay, looks-of, shows-all, shows-taken}
use Rattle.bforest_calls.proofs.Offers.{comparing-alone}
use Rattle.bforest_calls.proofs.Runs.{on_err_from}
use Rattle.bforest_calls.proofs.maps.MapCollection.answer.Goals as goal
use Rattle.bforest_calls.specs.Looks.{sights_of}
use Rattle.bforest_calls.specs.State.{Held, Shifted}
use Rattle.bforest_calls.specs.Steps.{LooksBy, map_view}
use Rattle.bforest_calls.specs.declared.call.Answer.TheVariants as answer
use Rattle.std.proofs.Common.{ap, refl, subst, sym, true, ◌∙◌}

pub returns-in-Get-clause-makes : goal.returns-in-Get-clause-makes
returns-in-Get-clause-makes g c = rw c.in-Get.is (ap answer.Value c.get.ensures.value, refl)

pub returns-in-Remove-clause-makes : goal.returns-in-Remove-clause-makes
returns-in-Remove-clause-makes g c = rw c.in-Remove.is (c.remove.result, refl, c.remove.ensures)

pub returns-in-Read : goal.returns-in-Read
returns-in-Read g c =
    let order = g.C.Comparator.order in
    let made = c.cursor-cursor.ensures in
    let asked = c.deref-in-Read.ensures.value in
    record {
      makes = rw c.in-Read.is (shows-all (LooksBy order) c.cursor-cursor.result c.each.new.stepper c.deref-in-Read.result.now _ c.each.result c.each.ensures.chain
          (λ sights chain. looks-of order c.cursor-cursor.result c.deref-in-Read.result.now sights c.each.new.stepper chain
          ∙ (λ j. sights_of (order (made.comparator j)) (made.entries j) (made.spot j) (asked j))) refl);
      room = rw c.in-Read.is (rw asked at c.each.ensures.some);
      err_forest = on_err_from c.each.result refl;
      err_self = on_err_from c.each.result refl;
    }

pub returns-in-Edit : goal.returns-in-Edit
returns-in-Edit g c =
    let view = map_view g.C.Comparator.order in
    let made = c.cursor_mut-cursor.ensures in
    let e = c.each-in-Edit.ensures in
    let loans = loans-stay 7 refl view _ _ e.chain e.err in
    let old : Held g.row.K.Denot g.row.V.Denot = record { forest = c.args.forest.now; number = c.args.self.now } in
    let w = edited 7 refl view _ _ e.chain e.err old _ made.forest made.map (c.forest-1.given.1 (sym (loans.1 ∙ made.forest_loan)))
    (c.self-1.given.1 (sym (loans.0 ∙ made.map_loan))) (ap g.C.Comparator.order made.comparator) made.spot c.deref-in-Edit.ensures.value in
    record { makes = rw c.in-Edit.is w.0; room = rw c.in-Edit.is (rw c.deref-in-Edit.ensures.value at e.some); err_forest = w.1; err_self = w.2 }

pub returns-in-Range : goal.returns-in-Range
returns-in-Range g c =
    let r = c.each-in-Range.result in
    let taken = shows-taken _ _ r c.each-in-Range.ensures.chain c.range-range.ensures.entries c.deref-in-Range.ensures.value refl in
    record { makes = rw c.in-Range.is taken; room = rw c.in-Range.is (rw c.deref-in-Range.ensures.value at c.each-in-Range.ensures.some); err_forest = on_err_from r refl; err_self = on_err_from r refl }

pub unreachable-requires : goal.unreachable-requires
unreachable-requires g c = let d = c.in_default in
    comparing-alone true c.args.call.now c.requires.compares d.not-Get d.not-GetOrLess d.not-GetOrGreater d.not-Insert (λ offered. d.not-GetOrInsert) (λ offered. d.not-Update)
    (λ offered. d.not-UpdateOrInsert) d.not-Shift d.not-Remove (λ offered. d.not-Read) d.not-Edit d.not-Range d.not-RemoveRange

pub returns-in-GetOrInsert-clause-makes : goal.returns-in-GetOrInsert-clause-makes
returns-in-GetOrInsert-clause-makes g c = rw c.in-GetOrInsert.is (c.get_or_insert.result, ap answer.Put c.some.ensures, c.get_or_insert.ensures)

pub returns-in-Update-clause-makes : goal.returns-in-Update-clause-makes
returns-in-Update-clause-makes g c = rw c.in-Update.is (c.update.result, refl, c.update.ensures)

pub returns-in-UpdateOrInsert-clause-makes : goal.returns-in-UpdateOrInsert-clause-makes
returns-in-UpdateOrInsert-clause-makes g c = rw c.in-UpdateOrInsert.is (c.update_or_insert.result, ap answer.Put c.some-in-UpdateOrInsert.ensures, c.update_or_insert.ensures)

pub returns-in-Shift-clause-makes : goal.returns-in-Shift-clause-makes
returns-in-Shift-clause-makes g c =
    let old : Held g.row.K.Denot g.row.V.Denot = record { forest = c.args.forest.now; number = c.args.self.now } in
    let new : Held g.row.K.Denot g.row.V.Denot = record { forest = c.shift.new.forest; number = c.shift.new.map } in
    rw c.in-Shift.is (refl, subst (λ keys. Shifted (g.C.Comparator.order c.args.comp.now) c.in-Shift.from keys old new) c.deref.ensures.value c.shift.ensures)
