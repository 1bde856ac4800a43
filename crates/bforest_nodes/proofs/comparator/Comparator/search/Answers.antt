use Rattle.std.proofs.Common.{rules}
use Rattle.std.proofs.lemmas.Fn.{always_returns_same}
use Rattle.bforest_nodes.proofs.Searched.{searched}
use Rattle.bforest_nodes.proofs.comparator.Comparator.search.Goals as goal

pub returns : goal.returns
returns g c = λ sorted.
    let order = g.Self.Comparator.order c.args.self.now in
    searched order (g.met.Self.Comparator.total c.args.self.now) c.args.s.now c.args.k sorted c.binary_search_by.result c.binary_search_by.ensures.bound
    (c.binary_search_by.ensures.position (λ y. order y c.args.k) (always_returns_same _ _ _ (λ a r f' h. (search rules, search rules))))
