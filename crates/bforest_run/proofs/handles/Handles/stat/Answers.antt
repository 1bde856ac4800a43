use Rattle.bforest_run.proofs.handles.Handles.stat.Goals as goal
use Rattle.std.proofs.Common.{refl}

pub returns-then-not-holds : goal.returns-then-not-holds
returns-then-not-holds g c = (λ _. refl, λ live. absurd (cc (c.holds.ensures.1 live)), refl)
