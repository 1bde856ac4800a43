use Rattle.std.proofs.Common.{sym, ◌∙◌}
use Rattle.bforest_core.specs.Paths.{list_under}
use Rattle.bforest_trees.proofs.ranges.Limits.{end-limit, no-end, no-start, start-limit}
use Rattle.bforest_trees.proofs.ranges.Narrowing.{all-narrowed, bounds-told}
use Rattle.bforest_trees.proofs.trees.range.Ends.narrow.Goals as goal

pub returns-in-None-None : goal.returns-in-None-None
returns-in-None-None g c =
    let cmp = g.C.Comparator.order c.args.comp.now in
    let total = g.met.C.Comparator.total c.args.comp.now in
    let list = list_under c.args.pool.now c.args.root in
    let b = c.args.bounds in
    let n = all-narrowed c.args.pool.now c.args.root c.requires.fresh c.requires.root in
    record { left = bounds-told c.args.pool.now c.args.root cmp b.0 b.1 _ total c.requires.increasing n.left (sym (no-start cmp total list b.0 (sym c.of_start.ensures.limit ∙ c.in-None-None.is-0))) (sym (no-end cmp total list b.1 (sym c.of_end.ensures.limit ∙ c.in-None-None.is-1))); range = n.range }

pub returns-in-None-Some-clause-left : goal.returns-in-None-Some-clause-left
returns-in-None-Some-clause-left g c =
    let cmp = g.C.Comparator.order c.args.comp.now in
    let total = g.met.C.Comparator.total c.args.comp.now in
    let list = list_under c.args.pool.now c.args.root in
    let b = c.args.bounds in
    bounds-told c.args.pool.now c.args.root cmp b.0 b.1 _ total c.requires.increasing c.stop.ensures.left (sym (no-start cmp total list b.0 (sym c.of_start.ensures.limit ∙ c.in-None-Some.is-0))) (end-limit cmp total list b.1 c.in-None-Some.stop (sym c.of_end.ensures.limit ∙ c.in-None-Some.is-1))

pub returns-in-Some-None-clause-left : goal.returns-in-Some-None-clause-left
returns-in-Some-None-clause-left g c =
    let cmp = g.C.Comparator.order c.args.comp.now in
    let total = g.met.C.Comparator.total c.args.comp.now in
    let list = list_under c.args.pool.now c.args.root in
    let b = c.args.bounds in
    bounds-told c.args.pool.now c.args.root cmp b.0 b.1 _ total c.requires.increasing c.start.ensures.left (start-limit cmp total list b.0 c.in-Some-None.start (sym c.of_start.ensures.limit ∙ c.in-Some-None.is-0)) (sym (no-end cmp total list b.1 (sym c.of_end.ensures.limit ∙ c.in-Some-None.is-1)))

pub returns-in-Some-Some-clause-left : goal.returns-in-Some-Some-clause-left
returns-in-Some-Some-clause-left g c =
    let cmp = g.C.Comparator.order c.args.comp.now in
    let total = g.met.C.Comparator.total c.args.comp.now in
    let list = list_under c.args.pool.now c.args.root in
    let b = c.args.bounds in
    bounds-told c.args.pool.now c.args.root cmp b.0 b.1 _ total c.requires.increasing c.start_and_stop.ensures.left (start-limit cmp total list b.0 c.in-Some-Some.start (sym c.of_start.ensures.limit ∙ c.in-Some-Some.is-0)) (end-limit cmp total list b.1 c.in-Some-Some.stop (sym c.of_end.ensures.limit ∙ c.in-Some-Some.is-1))
