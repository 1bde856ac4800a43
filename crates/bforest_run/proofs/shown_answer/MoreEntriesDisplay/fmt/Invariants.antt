use Rattle.bforest_run.proofs.shown_answer.MoreEntriesDisplay.fmt.Given as goal
use Rattle.bforest_run.specs.Shown.{more_texts}
use Rattle.std.proofs.Common.{take}
use Rattle.std.specs.Fmt.{HasWritten, IsPlainFormatter}

-- what stands before the index is written
abbrev pub invariant-entries : goal.invariant-entries
invariant-entries g l =
    IsPlainFormatter l.initial.f → HasWritten g.W.Write.write_str_gives l.initial.f (more_texts g.V.Shows.entry_text (take l.entry-index l.entry-items)) l.f
