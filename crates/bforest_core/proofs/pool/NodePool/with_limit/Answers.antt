use Rattle.bforest_core.proofs.{Words.{arith, refl}, table.Pools.{IsPool-empty, empty-is}}
use Rattle.bforest_core.proofs.pool.NodePool.with_limit.Goals as goal

pub invariant_of-result : goal.invariant_of-result
invariant_of-result g c = rw (c.new.ensures.items, c.none.ensures.none) (IsPool-empty _ c.requires (omega arith))

pub returns : goal.returns
returns g c = record { empty = empty-is _ _ _ c.new.ensures.items refl refl c.new.ensures.capacity }
