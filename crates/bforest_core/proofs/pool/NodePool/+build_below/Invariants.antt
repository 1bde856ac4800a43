use Rattle.bforest_core.proofs.Words.{◌-◌, Table}
use Rattle.bforest_core.proofs.union.Feeding.{Filling}
use Rattle.bforest_core.specs.Sources.{Feeds}
use Rattle.bforest_core.proofs.pool.NodePool.+build_below.Given as goal

abbrev pub decreases-build_below : goal.decreases-build_below
decreases-build_below g l = l.level

-- a node is over the parts that are built, and the source has what is left
abbrev pub invariant-loop-done : goal.invariant-loop-done
invariant-loop-done g l = (base : Table g.row.K.Denot g.row.V.Denot) → Feeds g.row.N (g.S.LeafSource.reads l.fn.source) (g.S.LeafSource.left l.fn.source) base l.fn.self l.entries
    → Filling g.row.N base l.fn.self l.self (g.S.LeafSource.left l.fn.source base) (g.S.LeafSource.left l.source base) l.entries (l.level - 1) l.done l.index l.node l.first_key (g.S.LeafSource.reads l.source base)

abbrev pub decreases-loop-done : goal.decreases-loop-done
decreases-loop-done g l = l.entries - l.done
