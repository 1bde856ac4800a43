use Rattle.bforest_trees.proofs.After.{handed-on}
use Rattle.bforest_trees.proofs.ranges.Splitting.{entry, entry-asks, entry-parted, entry-refused, entry-union, entry-whole, not-end, splits-end}
use Rattle.bforest_trees.proofs.Spots.{spot-last}
use Rattle.bforest_trees.proofs.trees.part.part_at.Goals as goal
use Rattle.bforest_trees.specs.Calls.{SplitsAt}
use Rattle.std.proofs.Common.{Err, rules, arith, ap, subst, sym, ◌∙◌, ◌≡◌, inl, inr}
use Rattle.std.proofs.lemmas.Bool.{cases_lt, false≢true}
use Rattle.std.specs.Option.{is_some}

pub returns-then-is_none-clause-ok : goal.returns-then-is_none-clause-ok
returns-then-is_none-clause-ok g c = λ at. elim (cases_lt 0 c.args.path.now.size) [
  | inl some ↦ absurd (false≢true (sym c.if-is_none.ensures ∙ ap is_some (c.leaf_pos.ensures.place (λ end. omega (arith, end, some)))))
  | inr none ↦ rw c.none.ensures.none (splits-end c.args.pool.now c.requires.union c.args.handle at.place c.requires.live (spot-last c.args.pool.now c.args.path.now c.args.handle at.place at.spot (omega arith)))
]

pub nodes_to_detach-need-requires : goal.nodes_to_detach-need-requires
nodes_to_detach-need-requires g c = (search rules, (_, c.requires.union, entry c.requires.union c.requires.live c.requires.stands (not-end c.leaf_pos.ensures.end c.is_none.ensures c.if-is_none.false)))

pub returns-then-need-eq0-clause-ok : goal.returns-then-need-eq0-clause-ok
returns-then-need-eq0-clause-ok g c = λ at. let n = c.nodes_to_detach-need.ensures in
    rw c.none-then-need-eq0.ensures.none (entry-whole c.requires.union c.requires.live at (not-end c.leaf_pos.ensures.end c.is_none.ensures c.if-is_none.false) n.count n.first n.few c.if-need-eq0.true)

pub returns-in_err-reserve-clause-err : goal.returns-in_err-reserve-clause-err
returns-in_err-reserve-clause-err g c = λ at refused is. let n = c.nodes_to_detach-need.ensures in let told = c.in_err-reserve.ensures in
    let handed = handed-on c.from_residual.ensures.1 in let same : c.in_err-reserve.field-0.0 ≡ refused = cc in
    subst (λ z. SplitsAt g.row.N c.args.pool.now c.args.handle at.place (Err z) c.reserve.new.self c.args.handle) same (rw told.err (entry-refused c.requires.union c.requires.live at (not-end c.leaf_pos.ensures.end c.is_none.ensures c.if-is_none.false) n.count n.first n.few
    c.in_err-reserve.field-0.0 c.if-need-eq0.false (λ x. told.full.0 (ap Err x), λ low. (let e = told.full.1 low in cc)) (λ x. told.memory (ap Err x)) (λ enough. absurd (let e = told.enough enough in cc))))

pub detach-front-requires : goal.detach-front-requires
detach-front-requires g c = let n = c.nodes_to_detach-need.ensures in let told = c.in_ok-reserve.ensures in let trees = told.trees c.requires.union in
    (search rules, (search rules, (trees.0, entry-asks c.requires.union c.requires.live c.requires.stands (not-end c.leaf_pos.ensures.end c.is_none.ensures c.if-is_none.false) n.count n.first n.few c.if-need-eq0.false trees.1 told.free)))

pub returns-clause-union : goal.returns-clause-union
returns-clause-union g c = let n = c.nodes_to_detach-need.ensures in let told = c.in_ok-reserve.ensures in let trees = told.trees c.requires.union in
    entry-union c.requires.union c.requires.live c.requires.stands (not-end c.leaf_pos.ensures.end c.is_none.ensures c.if-is_none.false) n.count n.first n.few c.if-need-eq0.false trees.1 c.detach-front.ensures

pub returns-clause-ok : goal.returns-clause-ok
returns-clause-ok g c = λ at. let n = c.nodes_to_detach-need.ensures in let told = c.in_ok-reserve.ensures in let trees = told.trees c.requires.union in
    rw (c.some.ensures.node, c.some-2.ensures.node) (entry-parted c.requires.union c.requires.live at (not-end c.leaf_pos.ensures.end c.is_none.ensures c.if-is_none.false) n.count n.first n.few c.if-need-eq0.false trees.1 told.ok told.growth (λ low. absurd (let e = told.full.1 low in cc)) c.detach-front.ensures)
