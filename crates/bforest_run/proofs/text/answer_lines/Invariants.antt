use Rattle.bforest_run.proofs.Turns.{Turned}
use Rattle.bforest_run.proofs.text.answer_lines.Given as goal
use Rattle.bforest_run.specs.Lines.{lines_left}

-- the lines before this one are answered
abbrev pub invariant-lines : goal.invariant-lines
invariant-lines g l = Turned g.E.Engine.tells g.E.Engine.is_bad l.fn.engine l.fn.bytes (g.W.Write.contents l.fn.output) l.number (lines_left l.lines.rest) l.engine (g.W.Write.contents l.output)
