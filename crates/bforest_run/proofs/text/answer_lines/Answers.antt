use Rattle.bforest_run.proofs.Turns.{numbered, saturated, turned-first, turned-last, turned-next, turned-stopped}
use Rattle.bforest_run.proofs.Written.{Grows-more}
use Rattle.bforest_run.proofs.text.answer_lines.Given.{Over}
use Rattle.bforest_run.proofs.text.answer_lines.Goals as goal
use Rattle.bforest_run.specs.Lines.{lines_left}
use Rattle.bforest_run.proofs.Turns.{Turned}
use Rattle.bforest_run.specs.Session.{Outcome}
use Rattle.bforest_run.specs.Statuses.{status_of}
use Rattle.std.proofs.Common.{Err, [], ap, arith, subst, sym, ◌∙◌, ◌∷◌, ◌≡◌}
use Rattle.std.proofs.lemmas.Result.{err_from_is_err_and}

-- the error is that of the line
err_at : (g : Over) (c : goal.After-from_residual g) → c.from_residual.result ≡ Err c.in_err-answer_line.field-0.0
err_at g c =
    let e = err_from_is_err_and c.from_residual.result c.from_residual.ensures.1 in
    e.1 ∙ ap Err e.2

pub lines-init : goal.lines-init
lines-init g c =
    turned-first g.E.Engine.tells g.E.Engine.is_bad c.args.engine.now c.args.bytes.now (g.W.Write.contents c.args.output.now) (lines_left c.of-lines.result.rest) c.of-lines.ensures.lines

pub lines-preserved : goal.lines-preserved
lines-preserved g c =
    let left : lines_left c.lines.lines.rest ≡ c.in-Some.line.now ∷ lines_left c.next.new.self.rest = c.in-Some.ensures.steps in
    let now = subst (λ ls. Turned g.E.Engine.tells g.E.Engine.is_bad c.args.engine.now c.args.bytes.now (g.W.Write.contents c.args.output.now) c.lines.number ls c.lines.engine (g.W.Write.contents c.lines.output)) left c.lines.invariant in
    let more = c.in_ok-answer_line.ensures.ok in
    turned-next g.E.Engine.tells g.E.Engine.is_bad _ _ _ c.lines.number c.in-Some.line.now _ _ _ now c.saturating_add-number.result (saturated _ _ c.saturating_add-number.ensures (numbered g.E.Engine.tells g.E.Engine.is_bad _ _ _ _ _ _ _ _ now (omega (arith, c.well_formed.1.1.0.1)))) _ _ more.0 more.1 more.2

pub returns-in_err-answer_line-clause-outcome : goal.returns-in_err-answer_line-clause-outcome
returns-in_err-answer_line-clause-outcome g c =
    let left : lines_left c.lines.lines.rest ≡ c.in-Some.line.now ∷ lines_left c.next.new.self.rest = c.in-Some.ensures.steps in
    let now = subst (λ ls. Turned g.E.Engine.tells g.E.Engine.is_bad c.args.engine.now c.args.bytes.now (g.W.Write.contents c.args.output.now) c.lines.number ls c.lines.engine (g.W.Write.contents c.lines.output)) left c.lines.invariant in
    subst (λ r. Outcome g.E.Engine.tells g.E.Engine.is_bad c.args.engine.now c.args.bytes.now (g.W.Write.contents c.args.output.now) (g.W.Write.contents c.answer_line.new.output) (status_of r)) (sym (err_at g c))
    (turned-stopped g.E.Engine.tells g.E.Engine.is_bad _ _ _ c.lines.number c.in-Some.line.now _ _ _ now c.saturating_add-number.result (saturated _ _ c.saturating_add-number.ensures (numbered g.E.Engine.tells g.E.Engine.is_bad _ _ _ _ _ _ _ _ now (omega (arith, c.well_formed.1.1.0.1)))) _ c.in_err-answer_line.field-0.0 (λ e. c.in_err-answer_line.ensures.bad (ap Err e)) (λ e. c.in_err-answer_line.ensures.memory (ap Err e)) (λ e. c.in_err-answer_line.ensures.failed (ap Err e)))

pub returns-in_err-answer_line-clause-grows : goal.returns-in_err-answer_line-clause-grows
returns-in_err-answer_line-clause-grows g c =
    Grows-more _ _ _ (record { text = c.lines.invariant.text; appended = c.lines.invariant.appended }) c.answer_line.ensures.grows

pub returns-clause-outcome : goal.returns-clause-outcome
returns-clause-outcome g c =
    let left : lines_left c.lines.lines.rest ≡ [] = c.in_default.ensures.steps.0 in
    turned-last g.E.Engine.tells g.E.Engine.is_bad _ _ _ c.lines.number c.lines.engine _ (subst (λ ls. Turned g.E.Engine.tells g.E.Engine.is_bad c.args.engine.now c.args.bytes.now (g.W.Write.contents c.args.output.now) c.lines.number ls c.lines.engine (g.W.Write.contents c.lines.output)) left c.lines.invariant)

pub returns-clause-grows : goal.returns-clause-grows
returns-clause-grows g c = record { text = c.lines.invariant.text; appended = c.lines.invariant.appended }
