use Rattle.bforest_run.proofs.Texts.{more_texts-take}
use Rattle.bforest_run.proofs.shown_answer.MoreEntriesDisplay.fmt.Goals as goal
use Rattle.std.proofs.Common.{rules}
use Rattle.std.proofs.Output.{has_written_append, has_written_of_eq}

pub entries-preserved : goal.entries-preserved
entries-preserved g c = λ plain.
    has_written_of_eq _ _ _ _ _ (more_texts-take g.V.Shows.entry_text c.args.self.now.0.now c.entries.entry-index c.entry-item.result c.entries-test.true)
    (has_written_append _ _ _ _ _ _ (c.entries.invariant plain) (search rules))
