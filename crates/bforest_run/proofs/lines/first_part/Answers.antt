use Rattle.bforest_run.proofs.Parts.{slice_split-at, slice_split-whole}
use Rattle.bforest_run.proofs.lines.first_part.Goals as goal
use Rattle.std.proofs.Common.{sym, ◌==◌, ◌∙◌}

pub returns-in-Some : goal.returns-in-Some
returns-in-Some c = slice_split-at (λ b. b == 10) c.args.bytes.now c.in-Some.end (sym c.in-Some.is ∙ c.line_feed_in.ensures)

pub returns-in-None : goal.returns-in-None
returns-in-None c = slice_split-whole (λ b. b == 10) c.args.bytes.now (sym c.in-None.is ∙ c.line_feed_in.ensures)
