use Rattle.bforest.proofs.Clients.{retains-filter}
use Rattle.bforest_tests.proofs.callers.keep_up_to.Goals as goal
use Rattle.std.proofs.Common.{rules}
use Rattle.std.specs.Prelude.{nat_le}

pub returns : goal.returns
returns c = record { kept = retains-filter _ (λ k v. nat_le v c.args.most) _ (λ k v b w f' t. search rules) c.retain.ensures.kept }
