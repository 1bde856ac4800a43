use Rattle.bforest_trees.proofs.Changed.{live-root}
use Rattle.bforest_trees.proofs.Spots.{spot-last}
use Rattle.bforest_trees.proofs.ranges.Fronting.{cut-asks, cut-front-here, cut-union, front-all, front-none}
use Rattle.bforest_trees.proofs.ranges.Splitting.{entry, first-some, not-end}
use Rattle.bforest_trees.proofs.trees.part.cut_front_at.Goals as goal
use Rattle.bforest_trees.specs.Forest.{IsLive, list_of}
use Rattle.std.proofs.Common.{Some, rules, arith, ap, inl, inr, length, subst, sym, ◌∙◌, ◌≡◌}
use Rattle.std.proofs.lemmas.Bool.{cases_lt, false≢true}
use Rattle.std.specs.Option.{is_some}

pub returns-then-is_none-clause-cuts : goal.returns-then-is_none-clause-cuts
returns-then-is_none-clause-cuts g c = λ at. elim (cases_lt 0 c.args.path.now.size) [
  | inl some ↦ absurd (false≢true (sym c.if-is_none.ensures ∙ ap is_some (c.leaf_pos.ensures.place (λ end. omega (arith, end, some)))))
  | inr none ↦ (
      let f = c.args.pool.now in
      let here : c.args.handle.now ≡ Some c.in-Some.root = sym c.take.ensures.value ∙ c.in-Some.is in
      let live = subst (IsLive f) here c.requires.live in
      let last = spot-last f c.args.path.now c.args.handle.now at.place at.spot (omega arith) ∙ ap (λ z. length (list_of f z)) here in
      rw (here, c.take.ensures.after) (front-all c.requires.union (live-root f c.in-Some.root live) at.place live last c.free_tree.ensures.ended c.free_tree.ensures.account)
      )
]

pub nodes_to_detach-requires : goal.nodes_to_detach-requires
nodes_to_detach-requires g c = (search rules, (_, c.requires.union, entry c.requires.union c.requires.live c.requires.stands (not-end c.leaf_pos.ensures.end c.is_none.ensures c.if-is_none.false)))

pub returns-then-nodes_to_detach-eq0-clause-cuts : goal.returns-then-nodes_to_detach-eq0-clause-cuts
returns-then-nodes_to_detach-eq0-clause-cuts g c = λ at. let on = not-end c.leaf_pos.ensures.end c.is_none.ensures c.if-is_none.false in
    front-none c.args.handle.now at.place c.requires.live ((c.nodes_to_detach.ensures.first c.args.pool.now c.requires.union (entry c.requires.union c.requires.live at on)).0 c.if-nodes_to_detach-eq0.true)

pub cut_front-requires : goal.cut_front-requires
cut_front-requires g c = let n = c.nodes_to_detach.ensures in let on = not-end c.leaf_pos.ensures.end c.is_none.ensures c.if-is_none.false in let at = c.requires.stands in
    (search rules, (search rules, (c.requires.union, cut-asks c.requires.union c.requires.live at on (first-some c.requires.union c.requires.live at on n.count n.first n.few c.if-nodes_to_detach-eq0.false))))

pub returns-clause-union : goal.returns-clause-union
returns-clause-union g c = let n = c.nodes_to_detach.ensures in let on = not-end c.leaf_pos.ensures.end c.is_none.ensures c.if-is_none.false in let at = c.requires.stands in
    cut-union c.requires.union c.requires.live at on (first-some c.requires.union c.requires.live at on n.count n.first n.few c.if-nodes_to_detach-eq0.false) c.cut_front.ensures

pub returns-clause-cuts : goal.returns-clause-cuts
returns-clause-cuts g c = λ at. let n = c.nodes_to_detach.ensures in let on = not-end c.leaf_pos.ensures.end c.is_none.ensures c.if-is_none.false in
    rw c.some.ensures.node (cut-front-here c.requires.union c.requires.live at on (first-some c.requires.union c.requires.live at on n.count n.first n.few c.if-nodes_to_detach-eq0.false) c.cut_front.ensures)
