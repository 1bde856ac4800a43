use Rattle.std.proofs.Common.{◌≡◌, ◌-◌, ◌/◌, length, rules, arith}
use Rattle.bforest_nodes.proofs.Rows.{put_front}
use Rattle.bforest_nodes.proofs.row.Row.put_before.Goals as goal

pub returns-then-count-half : goal.returns-then-count-half
returns-then-count-half g c =
    let half = c.saturating_sub-half.result / 2 in
    let row : length c.args.self.now.items ≡ g.row.N = search rules in
    let other : length c.args.front.now.items ≡ g.row.N = search rules in
    rw (c.if-count-half.true, c.copy_from_slice.ensures.after, c.front.ensures.value, c.copy_within.ensures.after)
    (put_front c.args.self.now.items c.args.front.now.items c.args.len half (g.row.N - half) (omega (arith, c.requires, c.if-count-half.true)) (omega (arith, row, c.saturating_sub-half.ensures)) (omega (arith, other, c.saturating_sub-half.ensures)))

pub returns-else-count-half : goal.returns-else-count-half
returns-else-count-half g c =
    let row : length c.args.self.now.items ≡ g.row.N = search rules in
    let other : length c.args.front.now.items ≡ g.row.N = search rules in
    rw (c.copy_from_slice-else-count-half.ensures.after, c.front-else-count-half.ensures.value, c.copy_within-else-count-half.ensures.after)
    (put_front c.args.self.now.items c.args.front.now.items c.args.len c.args.count c.args.len (omega arith) (omega (arith, row, c.requires)) (omega (arith, other, c.requires)))
