use Rattle.bforest_core.proofs.{Words.{rules, ◌<◌, [], map, length, ap, arith, sizes, ◌∙◌, ◌≡◌}, Words.{Some, get_or_default, need_above, gain_above}}
use Rattle.bforest_core.proofs.insertion.{HalvingNode.{need_top, node_takes, room_then}, Grow.gain_some, Level.next_asks}
use Rattle.bforest_core.proofs.path.Path.+insert_above.Goals as goal

pub push_root-requires : goal.push_root-requires
push_root-requires g t c = let w = c.requires.pending in let top : length w.0.rows ≡ 0 = omega arith in
    (search rules, (search rules, (omega (arith, gain_some (length w.0.before) (map sizes w.0.rows)), omega (arith, need_top (length w.0.before) w.0.rows top))))

pub split_here-next-requires : goal.split_here-next-requires
split_here-next-requires g t c =
    let w = c.requires.pending in let full = c.insert_here.ensures.full c.if-not-insert_here.true in let low : c.args.up < c.args.self.now.size = omega arith in
    (search rules, (search rules, rw (c.insert_here.ensures.pool c.if-not-insert_here.true, c.insert_here.ensures.path c.if-not-insert_here.true) (c.requires.height, (low, (room_then g.row.N w.0 low (omega arith) full w.2, (full, w.0))))))

pub insert_above-requires : goal.insert_above-requires
insert_above-requires g t c κs within = let w = c.requires.pending in let path_is = c.insert_here.ensures.path c.if-not-insert_here.true in
    let low : c.args.up < c.args.self.now.size = omega arith in let size_is = c.split_here-next.ensures.size ∙ ap (λ z. z.size) path_is in
    let halved = rw (c.insert_here.ensures.pool c.if-not-insert_here.true, path_is) at c.split_here-next.ensures.halved in
    let h = halved w.0 in let place = Some (length w.0.before) in
    let asks = next_asks h.3 _ size_is _ (get_or_default c.args.self.now.node c.args.up c.index-self-up.result 0 (omega arith))
    (omega (arith, w.2, ap (λ z. need_above place (map sizes z)) h.2)) (omega (arith, w.3, ap (λ z. length (gain_above place (map sizes z))) h.2)) in
    (omega (arith, c.decreases, size_is, low), (within.0, (within.1, ((λ a m. search rules), (search rules, (search rules, (omega (arith, size_is, c.requires.height), rw path_is asks)))))))

pub returns-then-not-insert_here : goal.returns-then-not-insert_here
returns-then-not-insert_here g t c = λ w is.
    let path_is = c.insert_here.ensures.path c.if-not-insert_here.true in let size_is = c.split_here-next.ensures.size ∙ ap (λ z. z.size) path_is in
    let halved = rw (c.insert_here.ensures.pool c.if-not-insert_here.true, path_is) at c.split_here-next.ensures.halved in
    node_takes w _ _ (halved w) size_is (get_or_default c.args.self.now.node c.args.up c.index-self-up.result 0 (omega arith)) (rw path_is at c.insert_above.ensures)

pub returns-then-up-self : goal.returns-then-up-self
returns-then-up-self g t c = rw c.if-up-self.true c.push_root.ensures

pub returns-else-not-insert_here : goal.returns-else-not-insert_here
returns-else-not-insert_here g t c = λ w is. ([], c.insert_here.ensures.grown c.if-not-insert_here.false w)
