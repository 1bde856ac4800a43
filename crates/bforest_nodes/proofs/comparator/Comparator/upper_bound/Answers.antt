use Rattle.std.proofs.Common.{arith, not, sym, ◌∙◌}
use Rattle.std.proofs.lemmas.List.Sums.{count_by-le-length}
use Rattle.std.specs.Ordering.{is_gt}
use Rattle.bforest_nodes.proofs.Searched.{up_to-found, up_to-absent}
use Rattle.bforest_nodes.proofs.comparator.Comparator.upper_bound.Goals as goal

pub returns-in-Ok : goal.returns-in-Ok
returns-in-Ok g c = λ sorted.
    let order = g.Self.Comparator.order c.args.self.now in
    let found = up_to-found order c.args.k (g.met.Self.Comparator.total c.args.self.now) c.args.s.now c.in-Ok.index sorted (sym (c.search.ensures sorted) ∙ c.in-Ok.is) in
    let least = count_by-le-length (λ x. not (is_gt (order x c.args.k))) c.args.s.now in
    let fits = c.well_formed.1.1.0.0 in
    omega (arith, found, least, fits, c.saturating_add.ensures)

pub returns-in-Err : goal.returns-in-Err
returns-in-Err g c = λ sorted.
    let order = g.Self.Comparator.order c.args.self.now in
    sym (up_to-absent order c.args.k (g.met.Self.Comparator.total c.args.self.now) c.args.s.now c.in-Err.index sorted (sym (c.search.ensures sorted) ∙ c.in-Err.is))
