use Rattle.bforest_core.proofs.{Words.{rules, arith}, removal.Asked.fewer}
use Rattle.bforest_core.proofs.removal.Neighbours.{is_low, one_seen, up_asks, first_asks, item_asks, beside_same, none_right, beside_next}
use Rattle.bforest_core.proofs.path.Path.+right_sibling.Goals as goal

pub entries-requires : goal.entries-requires
entries-requires g t c = (search rules, (one_seen c.requires.pending c.if-up-self.false _ (omega arith) c.requires.height).node_asks)

pub separator-requires : goal.separator-requires
separator-requires g t c = let w = c.requires.pending in
    (search rules, (one_seen w c.if-up-self.false _ (omega arith) c.requires.height).key_asks _ _ c.entries.ensures.value c.if-index-entries.true)

pub child-requires : goal.child-requires
child-requires g t c =
    (search rules, item_asks (one_seen c.requires.pending c.if-up-self.false _ (omega arith) c.requires.height) _ c.entries.ensures.value c.if-index-entries.true)

pub right_sibling-requires : goal.right_sibling-requires
right_sibling-requires g t c κs within =
    let w = c.requires.pending in let d = up_asks (one_seen w c.if-up-self.false 0 (omega arith) c.requires.height).d in
    search (rules, fewer (is_low w c.if-up-self.false) t c.decreases, within.0, within.1, d)

pub child-requires-in-Some : goal.child-requires-in-Some
child-requires-in-Some g t c = let w = c.requires.pending in
    (search rules, first_asks (one_seen w c.if-up-self.false 0 (omega arith) c.requires.height) _ c.in-Some.next c.in-Some.is c.right_sibling.ensures)

pub returns-then-index-entries : goal.returns-then-index-entries
returns-then-index-entries g t c = λ w.
    beside_same (one_seen w c.if-up-self.false _ (omega arith) c.requires.height) _ c.entries.ensures.value c.separator.result
    _ c.if-index-entries.true c.separator.ensures c.child.ensures

pub returns-in-None : goal.returns-in-None
returns-in-None g t c = λ w.
    none_right (one_seen w c.if-up-self.false _ (omega arith) c.requires.height) _ c.entries.ensures.value c.if-index-entries.false _ c.in-None.is
    c.right_sibling.ensures

pub returns-in-Some : goal.returns-in-Some
returns-in-Some g t c = λ w.
    beside_next (one_seen w c.if-up-self.false _ (omega arith) c.requires.height) _ c.entries.ensures.value c.if-index-entries.false
    _ c.in-Some.next c.in-Some.is c.right_sibling.ensures _ c.child-in-Some.ensures
