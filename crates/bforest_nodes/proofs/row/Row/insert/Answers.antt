use Rattle.std.proofs.Common.{rules, length, ◌<◌, arith}
use Rattle.bforest_nodes.proofs.Rows.{inserted}
use Rattle.bforest_nodes.proofs.Shifted.{ended, risen}
use Rattle.bforest_nodes.proofs.row.Row.insert.Goals as goal
use Rattle.bforest_nodes.proofs.row.Row.insert.Goals.{else-index-len, then-index-len+then-is_large, then-index-len+else-is_large}

pub returns : goal.returns
returns g c =
    let r = c.requires in
    let old = c.args.self.now.items in
    let room : c.args.len < length old = search rules in
    elim c.if-index-len.branch [
      | then-index-len+then-is_large w ↦ rw (w.self-is, w.copy_within.ensures.after) (inserted old c.args.len c.args.index c.args.x r.within room)
      | then-index-len+else-is_large w ↦ rw w.self-is (risen old w.shift_up.new.items c.args.len c.args.index c.args.x r.within room (omega (arith, room, w.shift_up.ensures.len)) (λ j d low. w.shift_up.ensures.moved j d (omega (arith, low, r.room))))
      | else-index-len w ↦ rw w.self-is (ended old c.args.len c.args.index c.args.x r.within w.if-index-len.false room)
    ]
