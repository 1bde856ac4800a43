use Rattle.bforest.proofs.Becoming.{becomes-both}
use Rattle.bforest.specs.Forest.{Becomes, list_of}
use Rattle.bforest.specs.Entries.{put}
use Rattle.bforest_tests.proofs.callers.insert_both.Goals as goal
use Rattle.std.proofs.Common.{List, subst}

pub returns : goal.returns
returns g c =
    let order = g.C.Comparator.order c.args.comp.now in
    let f = c.args.forest.now in
    let mid = c.insert.new.forest in
    let new = c.insert-2.new.forest in
    let h = c.args.map.now in
    let i = c.insert.new.self in
    let j = c.insert-2.new.self in
    let a = c.in_ok-insert.ensures.put in
    let b = c.in_ok-insert-2.ensures.put in
    subst (λ (z : List (g.row.K.Denot × g.row.V.Denot)). Becomes f h new j (put order z c.args.second.0 c.args.second.1)) a.list
    (becomes-both f mid new h i j (put order (list_of f h) c.args.first.0 c.args.first.1) (put order (list_of mid i) c.args.second.0 c.args.second.1) a b)
