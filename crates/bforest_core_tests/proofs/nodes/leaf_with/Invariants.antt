use Rattle.std.proofs.Common.{◌≡◌, take}
use Rattle.bforest_nodes.specs.Content.{Leaf}
use Rattle.bforest_core_tests.proofs.nodes.leaf_with.Given as goal

abbrev pub invariant-loop-index : goal.invariant-loop-index
invariant-loop-index g l = l.node ≡ Leaf (take l.index l.keys) (take l.index l.vals)
