use Rattle.bforest_run.proofs.Turns.{stops-unread}
use Rattle.bforest_run.proofs.text.answer_all.Goals as goal
use Rattle.bforest_run.specs.Output.{ReadsThenWrites}
use Rattle.bforest_run.specs.Statuses.{status_of}
use Rattle.std.proofs.Common.{Err, ap, subst, sym, ◌∙◌}
use Rattle.std.proofs.lemmas.Result.{err_from_is_err_and}

pub returns-in_err-bytes-clause-served : goal.returns-in_err-bytes-clause-served
returns-in_err-bytes-clause-served g c =
    let e = err_from_is_err_and c.from_residual.result c.from_residual.ensures.1 in
    let left = g.R.Read.remaining c.read_all.new.input in
    let o = g.W.Write.contents c.args.output.now in
    subst (λ r. ReadsThenWrites left o o (status_of r)) (sym (e.1 ∙ ap Err e.2))
    (stops-unread left o c.in_err-bytes.field-0.0 (λ is. c.in_err-bytes.ensures.never_bad (ap Err is)))

pub returns-clause-served : goal.returns-clause-served
returns-clause-served g c = record {
  whole = λ _. c.in_ok-bytes.ensures.end;
  read_first = λ no. absurd (no c.in_ok-bytes.ensures.end);
  grows = c.answer_lines.ensures.grows;
}
