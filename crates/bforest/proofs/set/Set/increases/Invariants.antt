use Rattle.bforest_trees.proofs.Increasing.{IsDownTo}
use Rattle.bforest.proofs.Sets.{with_each}
use Rattle.bforest.proofs.set.Set.increases.Given as goal
use Rattle.bforest.specs.Forest.{list_of}
use Rattle.bforest.specs.Memory.{SetsFitInMemory}

-- the next key can be read, and the list increases exactly where the keys left do after the last key
abbrev pub invariant-keys : goal.invariant-keys
invariant-keys g l = SetsFitInMemory g.row.K × IsDownTo (g.C.Comparator.order l.comp) (list_of l.forest l.self) l.last (with_each l.key-iterator)
