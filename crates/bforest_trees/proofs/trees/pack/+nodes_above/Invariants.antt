use Rattle.bforest_trees.proofs.trees.pack.+nodes_above.Given as goal

abbrev pub decreases-nodes_above : goal.decreases-nodes_above
decreases-nodes_above l = l.count
