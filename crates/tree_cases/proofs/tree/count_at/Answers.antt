use Rattle.std.proofs.Common.{ap, sym, ◌∙◌, ◌≡◌, ◌+◌, ◌%◌, true}
use Rattle.std.specs.Option.{is_some}
use Rattle.std.specs.Ordering.{nat_cmp}
use Rattle.bforest_nodes.specs.Entries.{is_present}
use Rattle.bforest_core.specs.Paths.{list_under}
use Rattle.bforest_nodes.proofs.Found.{put-present}
use Rattle.tree_cases.proofs.Ordering.{has-value, ordered-put}
use Rattle.tree_cases.proofs.tree.count_at.Goals as goal

pub returns-in-Some-clause-union : goal.returns-in-Some-clause-union
returns-in-Some-clause-union g c =
    let es = list_under c.args.pool.now c.args.root in
    let here : is_present nat_cmp es c.args.key ≡ true = sym (has-value es c.args.key) ∙ ap is_some (sym c.find.ensures.value ∙ c.in-Some.is) in
    (c.path_value_mut.ensures.written (record { root = c.args.root; place = _; on = c.find.ensures.present here }) ((c.in-Some.value + 1) % 4294967296)).union

pub returns-in-Some-clause-ordered : goal.returns-in-Some-clause-ordered
returns-in-Some-clause-ordered g c =
    let es = list_under c.args.pool.now c.args.root in
    let value = (c.in-Some.value + 1) % 4294967296 in
    let here : is_present nat_cmp es c.args.key ≡ true = sym (has-value es c.args.key) ∙ ap is_some (sym c.find.ensures.value ∙ c.in-Some.is) in
    (ordered-put _ c.args.pool.now _ c.args.root c.args.root c.args.key value _ _ c.requires.ordered (c.path_value_mut.ensures.written (record { root = c.args.root; place = _; on = c.find.ensures.present here }) value) (put-present nat_cmp es c.args.key value here)).1
