use Rattle.std.proofs.Common.{ap, not, sym, ◌∙◌, ◌≡◌, true, false}
use Rattle.std.specs.Option.{is_some}
use Rattle.std.specs.Ordering.{nat_cmp}
use Rattle.bforest_nodes.specs.Entries.{is_present}
use Rattle.bforest_core.specs.Paths.{list_under}
use Rattle.tree_cases.proofs.Ordering.{has-value}
use Rattle.tree_cases.proofs.Walks.{points-from, standing-on}
use Rattle.tree_cases.proofs.tree.seek.Goals as goal

pub returns-then-is_none : goal.returns-then-is_none
returns-then-is_none g c =
    let es = list_under c.args.pool.now c.args.root in
    let none : is_present nat_cmp es c.args.key ≡ false = sym (has-value es c.args.key) ∙ ap is_some (sym c.find.ensures.value) ∙ c.is_none.ensures ∙ ap not c.if-is_none.true in
    record { place = _; at = c.normalize.ensures.stands (record { root = c.args.root; place = _; to = points-from {n = g.row.N} c.args.pool.now c.find.new.self c.args.root _ (c.find.ensures.absent none) }) }

pub returns-else-is_none : goal.returns-else-is_none
returns-else-is_none g c =
    let es = list_under c.args.pool.now c.args.root in
    let here : is_present nat_cmp es c.args.key ≡ true = sym (has-value es c.args.key) ∙ ap is_some (sym c.find.ensures.value) ∙ c.is_none.ensures ∙ ap not c.if-is_none.false in
    standing-on c.args.pool.now c.find.new.self c.args.root _ (c.find.ensures.present here)
