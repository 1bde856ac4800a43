use Rattle.bforest.specs.Forest.{list_of}
use Rattle.bforest.specs.Memory.{SetsFitInMemory}
use Rattle.bforest.specs.Union.{united}
use Rattle.bforest_tests.proofs.callers.sets.is_in_either.Given as goal
use Rattle.std.proofs.Common.{◌≡◌}
use Rattle.std.specs.List.{list_any}
use Rattle.std.specs.Map.{keys_of}
use Rattle.std.specs.Ordering.{is_eq}

-- the next key can be read, and no key before it compares equal
abbrev pub invariant-keys : goal.invariant-keys
invariant-keys g l = SetsFitInMemory g.row.K
    × (list_any (λ k. is_eq (g.C.Comparator.order l.comp k l.key)) (keys_of (united (g.C.Comparator.order l.comp) (list_of l.forest l.set) (list_of l.forest l.other)))
    ≡ list_any (λ k. is_eq (g.C.Comparator.order l.comp k l.key)) l.each-iterator)
