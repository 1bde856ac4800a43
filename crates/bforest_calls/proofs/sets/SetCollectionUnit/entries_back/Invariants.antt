use Rattle.bforest.specs.Forest.{list_of}
use Rattle.bforest.specs.Memory.{SetsFitInMemory}
use Rattle.bforest_calls.proofs.sets.SetCollectionUnit.entries_back.Given as goal
use Rattle.bforest_calls.specs.Looks.{with_each}
use Rattle.std.proofs.Common.{reverse, ◌++◌, ◌≡◌}

-- the entries so far, and those of the keys left, are the whole list
abbrev pub invariant-loop-key : goal.invariant-loop-key
invariant-loop-key g l = record {
  left : l.entries.items ++ with_each l.key-iterator ≡ reverse (list_of l.forest l.self);
  fits : SetsFitInMemory g.row.K;
}
