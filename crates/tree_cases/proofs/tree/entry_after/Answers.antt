use Rattle.std.proofs.Common.{rules}
use Rattle.bforest_core.specs.Paths.{list_under}
use Rattle.tree_cases.proofs.Ordering.{found-present}
use Rattle.tree_cases.proofs.tree.entry_after.Goals as goal

pub next-requires : goal.next-requires
next-requires g c =
    let here = found-present (list_under c.args.pool.now c.args.root) _ _ _ c.find.ensures.value c.in_ok-find.was in
    (search rules, (search rules, (c.requires.union, λ some. record { root = c.args.root; place = _; on = c.find.ensures.present here })))
