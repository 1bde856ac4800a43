use Rattle.bforest_indexed.proofs.Editing.{edits-moves, edits-none, edits-removes}
use Rattle.bforest_indexed_tests.proofs.callers.RemoveLastEdit.edit.Goals as goal
use Rattle.std.proofs.Common.{refl}

pub returns-clause-edits : goal.returns-clause-edits
returns-clause-edits g c = edits-removes (edits-moves (edits-none c.requires.valid) c.prev-last.ensures.moves) refl c.remove.ensures.removed c.remove.ensures.goes
