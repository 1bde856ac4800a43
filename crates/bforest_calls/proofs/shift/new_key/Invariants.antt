use Rattle.bforest_calls.proofs.Pairing.{IsToldFrom}
use Rattle.bforest_calls.proofs.shift.new_key.Given as goal

-- the pairs that are left tell the new key
abbrev pub invariant-loop-pair : goal.invariant-loop-pair
invariant-loop-pair g l = IsToldFrom (g.C.Comparator.order l.comp) l.keys l.key l.pair-index
