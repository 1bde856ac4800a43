use Rattle.std.proofs.Common.{rules}
use Rattle.bforest_core.specs.Paths.{list_under}
use Rattle.tree_cases.proofs.Ordering.{found-present}
use Rattle.tree_cases.proofs.Walks.{standing-on}
use Rattle.tree_cases.proofs.tree.entry_before.Goals as goal

pub prev-requires : goal.prev-requires
prev-requires g c =
    let here = found-present (list_under c.args.pool.now c.args.root) _ _ _ c.find.ensures.value c.in_ok-find.was in
    (search rules, (search rules, (c.requires.union, (c.requires.ordered.root_is, standing-on _ _ c.args.root _ (c.find.ensures.present here)))))
