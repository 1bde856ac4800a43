use Rattle.bforest_run.proofs.named.all_named.Given as goal
use Rattle.bforest_run.specs.Grammar.{all_of}
use Rattle.std.proofs.Common.{Some, take, ◌≡◌}

-- the words before the index name these values
abbrev pub invariant-words : goal.invariant-words
invariant-words g l = all_of (λ w. g.T.Named.named w.now) (take l.word-index l.fn.words) ≡ Some l.values.items
