use Rattle.bforest_run.proofs.parse.sides.Given as goal
use Rattle.bforest_run.specs.Grammar.{all_of, side_of}
use Rattle.std.proofs.Common.{Some, take, ◌≡◌}

-- the letters before the index name these ends
abbrev pub invariant-letters : goal.invariant-letters
invariant-letters l = all_of side_of (take l.letter-index l.letter-items) ≡ Some l.sides.items
