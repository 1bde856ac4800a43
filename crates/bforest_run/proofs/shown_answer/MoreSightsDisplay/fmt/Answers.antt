use Rattle.bforest_run.proofs.Texts.{more_texts-take}
use Rattle.bforest_run.proofs.shown_answer.MoreSightsDisplay.fmt.Goals as goal
use Rattle.bforest_run.specs.Shown.{seen_text}
use Rattle.std.proofs.Common.{rules}
use Rattle.std.proofs.Output.{has_written_append, has_written_of_eq}

pub sights-preserved : goal.sights-preserved
sights-preserved g c = λ plain.
    let v = g.V.Shows in
    has_written_of_eq _ _ _ _ _ (more_texts-take (seen_text v.value_text v.entry_text v.old_text) c.args.self.now.0.now c.sights.sight-index c.sight-item.result c.sights-test.true)
    (has_written_append _ _ _ _ _ _ (c.sights.invariant plain) (search rules))
