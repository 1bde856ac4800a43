use Rattle.std.proofs.Common.{◌≡◌, ◌++◌, take, drop, arith, sym, ap, ◌∙◌}
use Rattle.std.proofs.lemmas.List.{take_all, length-drop}
use Rattle.bforest_run.proofs.Written.{appends_more, appends_kept, taken_more}
use Rattle.bforest_run.proofs.text.write_line.Goals.{in-Ok, in-Err+else-ne}
use Rattle.bforest_run.proofs.text.write_line.Goals as goal

pub writes-preserved : goal.writes-preserved
writes-preserved g c =
    let now = c.writes.invariant in
    let old = g.W.Write.contents c.args.output.now in
    let mid = g.W.Write.contents c.writes.output in
    let new = g.W.Write.contents c.write.new.self in
    elim c.match-write.branch [
      | in-Ok w ↦
          let left : c.match-write.rest.now ≡ drop w.in-Ok.count c.writes.rest.now = ap (λ r. r.now) w.rest-is ∙ take_all _ (drop w.in-Ok.count c.writes.rest.now) (omega (arith, length-drop w.in-Ok.count c.writes.rest.now)) in
          (now.0 ++ take w.in-Ok.count c.writes.rest.now, taken_more c.args.line.now now.0 c.writes.rest.now w.in-Ok.count c.match-write.rest.now now.1 left, appends_more old mid new now.0 (take w.in-Ok.count c.writes.rest.now) now.2 w.in-Ok.ensures.bytes)
      | in-Err+else-ne w ↦ (now.0, now.1 ∙ ap (λ r. now.0 ++ r) (sym (ap (λ r. r.now) w.rest-is)), appends_kept old mid new now.0 now.2 w.in-Err.ensures.bytes)
    ]
