use Rattle.bforest.specs.Entries.{IsIncreasing}
use Rattle.bforest_tests.proofs.AfterReserving.{not-refused, same-list, same-need, still-live}
use Rattle.bforest_tests.proofs.callers.sets.insert_reserved.Goals as goal
use Rattle.std.proofs.Common.{arith, rules, subst, sym}

pub insert-requires : goal.insert-requires
insert-requires g c =
    let old = c.args.forest.now in
    let new = c.reserve_nodes.new.self in
    let kept = c.reserve_nodes.ensures.keeps in
    (search rules, record { live = still-live old new kept c.args.set.now c.requires.live; increasing = subst (IsIncreasing (g.C.Comparator.order c.args.comp.now)) (sym (same-list old new kept c.args.set.now)) c.requires.increasing })

pub returns : goal.returns
returns g c =
    let old = c.args.forest.now in
    let new = c.reserve_nodes.new.self in
    let kept = c.reserve_nodes.ensures.keeps in
    let needs = same-need old new kept 15 (g.C.Comparator.order c.args.comp.now) c.args.set.now c.args.key in
    not-refused c.insert.result (c.insert.ensures.succeeds (omega (arith, needs, c.requires.enough, c.in_ok-reserve_nodes.ensures.free)))
