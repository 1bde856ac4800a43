use Rattle.bforest.proofs.Clients.{at_least-none, some-at_least}
use Rattle.bforest.specs.Bounds.{entry_at_least}
use Rattle.bforest.specs.Forest.{list_of}
use Rattle.bforest_tests.proofs.callers.at_or_behind.Goals as goal
use Rattle.std.proofs.Common.{IfSome, List, None, Option, Some, false, sym, ◌∙◌, ◌≡◌}
use Rattle.std.specs.Ordering.{is_lt}
use Rattle.std.specs.declared.cmp.Ordering.{Ordering}

found : {K X : Type 0} (cmp : K → K → Ordering) (k : K) (es : List (K × X)) (o : Option (K × X)) → o ≡ entry_at_least cmp es k → IfSome o (λ e. is_lt (cmp e.0 k) ≡ false)
found cmp k es None is = tt
found cmp k es (Some e) is = (some-at_least cmp k es e (sym is)).here

pub returns-clause-none : goal.returns-clause-none
returns-clause-none g c = λ all. c.get_or_greater.ensures.entry ∙ at_least-none (g.C.Comparator.order c.args.comp.now) c.args.key (list_of c.args.forest.now c.args.map.now) all

pub returns-clause-not_in_front : goal.returns-clause-not_in_front
returns-clause-not_in_front g c = found (g.C.Comparator.order c.args.comp.now) c.args.key (list_of c.args.forest.now c.args.map.now) c.get_or_greater.result c.get_or_greater.ensures.entry
