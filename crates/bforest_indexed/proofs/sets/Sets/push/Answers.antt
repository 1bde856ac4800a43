use Rattle.bforest_indexed.proofs.Adding.{pushed}
use Rattle.bforest_indexed.proofs.Kept.{keeps-same, kept-same}
use Rattle.bforest_indexed.proofs.sets.Sets.push.Goals as goal
use Rattle.std.proofs.Common.{List, None, Option, ap, get_or, ℕ, ◌∙◌}

pub invariant_of-self-2 : goal.invariant_of-self-2
invariant_of-self-2 g c = kept-same _ _ (pushed _ _ _ _ c.new.ensures.empty c.hold.ensures.items c.push_reserved.ensures.items) c.self.invariant

pub returns-clause-keeps : goal.returns-clause-keeps
returns-clause-keeps g c = rw (← c.self.view_is) (keeps-same _ _ (pushed _ _ _ _ c.new.ensures.empty c.hold.ensures.items c.push_reserved.ensures.items))

pub returns-in_err-hold-clause-keeps : goal.returns-in_err-hold-clause-keeps
returns-in_err-hold-clause-keeps g c = rw (← c.self.view_is) (keeps-same _ _ (λ i. ap (λ (qs : List (Option ℕ)). get_or qs i None) c.hold.ensures.items))

pub returns-clause-index : goal.returns-clause-index
returns-clause-index g c = rw (← c.self.view_is) (c.new-index.ensures.number ∙ c.len.ensures ∙ c.self.inside.sets.ok.0)
