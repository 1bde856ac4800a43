use Rattle.bforest_core.proofs.{Words.{rules, sym, ◌∙◌}, union.Updating.{key-at, key-used, left-out, updated}}
use Rattle.bforest_core.proofs.pool.NodePool.update.Goals as goal

pub leaf_of-leaf-requires : goal.leaf_of-leaf-requires
leaf_of-leaf-requires g c = (search rules, (c.requires.union, (c.requires.root, c.requires.increasing)))

pub look_up-index-requires : goal.look_up-index-requires
look_up-index-requires g c = let s = c.leaf_of-leaf.ensures.leaf.1 in (search rules, (c.requires.union.1.capacity, (s.leaf.entries, s.leaf.slot_is, s.tells.increasing)))

pub returns-in_err-value : goal.returns-in_err-value
returns-in_err-value g c = let s = c.leaf_of-leaf.ensures.leaf.1 in
    rw c.from_residual.ensures (left-out (s.tells.value_is ∙ sym (c.look_up-index.ensures.value s.leaf.entries s.leaf.slot_is) ∙ c.in_err-value.was))

pub change-changed-requires : goal.change-changed-requires
change-changed-requires g c = let s = c.leaf_of-leaf.ensures.leaf.1 in
    c.requires.callable _ (s.tells.value_is ∙ sym (c.look_up-index.ensures.value s.leaf.entries s.leaf.slot_is) ∙ c.in_ok-value.was)

pub value_mut-requires : goal.value_mut-requires
value_mut-requires g c = let s = c.leaf_of-leaf.ensures.leaf.1 in let l = c.look_up-index.ensures in
    let found = sym (l.value s.leaf.entries s.leaf.slot_is) ∙ c.in_ok-value.was in
    let r = key-used (g.C.Comparator.order c.args.comp.now) c.requires.union c.args.root c.requires.root c.args.key (s.tells.value_is ∙ found) (key-at s found (l.place s.leaf.entries s.leaf.slot_is)) in
    (search rules, (r.0, r.1))

pub returns : goal.returns
returns g c = let s = c.leaf_of-leaf.ensures.leaf.1 in let l = c.look_up-index.ensures in
    let found = sym (l.value s.leaf.entries s.leaf.slot_is) ∙ c.in_ok-value.was in
    updated (g.C.Comparator.order c.args.comp.now) c.requires.union c.args.root c.requires.root c.args.key (s.tells.value_is ∙ found) (key-at s found (l.place s.leaf.entries s.leaf.slot_is)) c.change-changed.ensures
