use Rattle.bforest_trees.proofs.Increasing.{IsDownTo}
use Rattle.bforest.proofs.map.Map.increases.Given as goal
use Rattle.bforest.specs.Forest.{list_of}
use Rattle.bforest.specs.Memory.{MapsFitInMemory}

-- the next entry can be read, and the list increases exactly where the entries left do after the last key
abbrev pub invariant-entries : goal.invariant-entries
invariant-entries g l = MapsFitInMemory g.row.K g.row.V × IsDownTo (g.C.Comparator.order l.comp) (list_of l.forest l.self) l.last l.key-iterator
