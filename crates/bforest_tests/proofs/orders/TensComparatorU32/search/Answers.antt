use Rattle.bforest.proofs.Entries.{searched}
use Rattle.bforest_tests.proofs.orders.TensComparatorU32.search.Goals as goal
use Rattle.std.proofs.Common.{rules, ◌/◌}
use Rattle.std.proofs.lemmas.Fn.{always_returns_same}
use Rattle.std.specs.Cmp.Rules.{comparing}
use Rattle.std.specs.Ordering.{nat_cmp, on}

pub returns : goal.returns
returns c = λ sorted.
    searched (on (λ k. k / 10) nat_cmp) (search (comparing, rules)) c.args.s.now c.args.k sorted c.binary_search_by.result c.binary_search_by.ensures.bound
    (c.binary_search_by.ensures.position (λ y. on (λ k. k / 10) nat_cmp y c.args.k) (always_returns_same _ _ _ (λ a r f' h. (search rules, search rules))))
