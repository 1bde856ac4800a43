use Rattle.bforest_run.proofs.shown_answer.MoreSightsDisplay.fmt.Given as goal
use Rattle.bforest_run.specs.Shown.{more_texts, seen_text}
use Rattle.std.proofs.Common.{take}
use Rattle.std.specs.Fmt.{HasWritten, IsPlainFormatter}

-- what stands before the index is written
abbrev pub invariant-sights : goal.invariant-sights
invariant-sights g l =
    IsPlainFormatter l.initial.f → HasWritten g.W.Write.write_str_gives l.initial.f (more_texts (seen_text g.V.Shows.value_text g.V.Shows.entry_text g.V.Shows.old_text) (take l.sight-index l.sight-items)) l.f
