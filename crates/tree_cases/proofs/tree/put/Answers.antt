use Rattle.std.proofs.Common.{ap, sym, ◌∙◌, ◌≡◌, true, false}
use Rattle.std.specs.Option.{is_some}
use Rattle.std.specs.Ordering.{nat_cmp}
use Rattle.bforest_nodes.specs.Entries.{is_present}
use Rattle.bforest_core.specs.Paths.{list_under}
use Rattle.bforest_nodes.proofs.Found.{put-present, put-absent}
use Rattle.tree_cases.proofs.Ordering.{has-value, if_ok_weaker, ordered-put}
use Rattle.tree_cases.proofs.tree.put.Goals as goal

pub returns-then-is_some-clause-put : goal.returns-then-is_some-clause-put
returns-then-is_some-clause-put g c =
    let es = list_under c.args.pool.now c.args.root in
    let here : is_present nat_cmp es c.args.key ≡ true = sym (has-value es c.args.key) ∙ ap is_some (sym c.find.ensures.value) ∙ sym c.is_some.ensures ∙ c.if-is_some.true in
    ordered-put _ c.args.pool.now _ c.args.root c.args.root c.args.key c.args.value _ _ c.requires.ordered (c.set_value.ensures.written (record { root = c.args.root; place = _; on = c.find.ensures.present here })) (put-present nat_cmp es c.args.key c.args.value here)

pub returns-else-is_some-clause-put : goal.returns-else-is_some-clause-put
returns-else-is_some-clause-put g c =
    let es = list_under c.args.pool.now c.args.root in
    let none : is_present nat_cmp es c.args.key ≡ false = sym (has-value es c.args.key) ∙ ap is_some (sym c.find.ensures.value) ∙ sym c.is_some.ensures ∙ c.if-is_some.false in
    if_ok_weaker c.insert.result
    (λ root' changes. ordered-put _ c.args.pool.now _ c.args.root root' c.args.key c.args.value _ _ c.requires.ordered changes (put-absent nat_cmp es c.args.key c.args.value none))
    (c.insert.ensures.inserted (record { root = c.args.root; place = _; placed = c.find.ensures.absent none }))
