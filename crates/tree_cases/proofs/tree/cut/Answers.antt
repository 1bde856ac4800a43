use Rattle.std.proofs.Common.{ap, rules, sym, ◌∙◌, ◌≡◌, true}
use Rattle.std.specs.Option.{is_some}
use Rattle.std.specs.Ordering.{nat_cmp}
use Rattle.bforest_nodes.specs.Entries.{is_present}
use Rattle.bforest_core.specs.Paths.{OnEntry, list_under}
use Rattle.tree_cases.proofs.Ordering.{has-value, left-ordered, left-union}
use Rattle.tree_cases.proofs.Walks.{go-after}
use Rattle.tree_cases.proofs.tree.cut.Goals as goal

pub entry-requires : goal.entry-requires
entry-requires g c =
    let es = list_under c.args.pool.now c.args.root in
    let here : is_present nat_cmp es c.args.key ≡ true = sym (has-value es c.args.key) ∙ ap is_some (sym c.find.ensures.value ∙ c.in-Some.is) in
    let at : OnEntry c.args.pool.now c.find.new.self = record { root = c.args.root; place = _; on = c.find.ensures.present here } in
    let union = left-union g.row.N c.args.pool.now c.remove-root.new.pool c.args.root _ _ c.remove-root.result (c.remove-root.ensures.removed at) (λ none. c.remove-root.ensures.ended none at) in
    (search rules, (search rules, (union, go-after _ _ c.remove-root.result _ (c.remove-root.ensures.stands at) c.remove-root.ensures.end)))

pub returns-clause-union : goal.returns-clause-union
returns-clause-union g c =
    let es = list_under c.args.pool.now c.args.root in
    let here : is_present nat_cmp es c.args.key ≡ true = sym (has-value es c.args.key) ∙ ap is_some (sym c.find.ensures.value ∙ c.in-Some.is) in
    let at : OnEntry c.args.pool.now c.find.new.self = record { root = c.args.root; place = _; on = c.find.ensures.present here } in
    left-union g.row.N c.args.pool.now c.remove-root.new.pool c.args.root _ _ c.remove-root.result (c.remove-root.ensures.removed at) (λ none. c.remove-root.ensures.ended none at)

pub returns-clause-ordered : goal.returns-clause-ordered
returns-clause-ordered g c =
    let es = list_under c.args.pool.now c.args.root in
    let here : is_present nat_cmp es c.args.key ≡ true = sym (has-value es c.args.key) ∙ ap is_some (sym c.find.ensures.value ∙ c.in-Some.is) in
    left-ordered g.row.N c.args.pool.now c.remove-root.new.pool c.args.root _ _ c.remove-root.result c.requires.ordered (c.remove-root.ensures.removed (record { root = c.args.root; place = _; on = c.find.ensures.present here }))
