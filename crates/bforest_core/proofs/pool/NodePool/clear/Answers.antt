use Rattle.bforest_core.proofs.{Words.{refl, ap, ◌∙◌}, table.Pools.{IsPool-empty, empty-is}}
use Rattle.bforest_core.proofs.pool.NodePool.clear.Goals as goal

pub invariant_of-self : goal.invariant_of-self
invariant_of-self g c = rw (c.clear.ensures.items, c.none-self-inside.ensures.none) (IsPool-empty _ c.self.invariant.capacity c.self.invariant.limit_within)

pub returns : goal.returns
returns g c = record { empty = empty-is _ _ _ c.clear.ensures.items refl (ap (λ t. t.limit) c.self.view_is) (c.clear.ensures.capacity ∙ ap (λ t. t.memory) c.self.view_is) }
