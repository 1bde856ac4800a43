use Rattle.std.proofs.Common.{rules, length, ◌≤◌, arith}
use Rattle.bforest_nodes.proofs.Shifted.{sunk}
use Rattle.bforest_nodes.proofs.row.Row.remove.Goals as goal

pub returns-else-index-eq0 : goal.returns-else-index-eq0
returns-else-index-eq0 g c =
    let r = c.requires in
    let s = c.shift_down.ensures in
    let room : c.args.len ≤ length c.args.self.now.items = search rules in
    sunk c.args.self.now.items c.shift_down.new.items c.args.len c.args.index r.within room (omega (arith, room, s.len)) (λ j d low. s.moved j d (omega (arith, low, r.room)))
