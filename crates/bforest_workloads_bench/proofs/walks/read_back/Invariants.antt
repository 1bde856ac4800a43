use Rattle.bforest_workloads_bench.proofs.walks.read_back.Given as goal

-- the number of entries in front
abbrev pub decreases-loop-entry : goal.decreases-loop-entry
decreases-loop-entry l = l.cursor.spot
