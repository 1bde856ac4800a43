use Rattle.bforest_core.proofs.{Words.{rules, sym, ◌∙◌}, walks.LeafSearch.{entry-in-front, none-in-front, own-entry}}
use Rattle.bforest_core.proofs.pool.NodePool.entry_in_leaf.Goals as goal

pub look_up-index-requires : goal.look_up-index-requires
look_up-index-requires g c = (search rules, (c.requires.capacity, c.requires.leaf))

pub leaf_entry-requires : goal.leaf_entry-requires
leaf_entry-requires g c = (search rules, (c.requires.leaf.0, c.requires.leaf.1))

pub leaf_entry-requires-2 : goal.leaf_entry-requires-2
leaf_entry-requires-2 g c = (search rules, (c.requires.leaf.0, c.requires.leaf.1))

pub returns-then-is_some : goal.returns-then-is_some
returns-then-is_some g c = λ es slot.
    own-entry (g.C.Comparator.order c.args.comp.now) es c.args.key (c.look_up-index.ensures.value es slot) (c.look_up-index.ensures.place es slot) (sym c.is_some.ensures ∙ c.if-is_some.true) (c.leaf_entry.ensures.value es slot)

pub returns-then-index-eq0 : goal.returns-then-index-eq0
returns-then-index-eq0 g c = λ es slot.
    none-in-front (g.C.Comparator.order c.args.comp.now) es c.args.key (c.look_up-index.ensures.value es slot) (c.look_up-index.ensures.place es slot) (sym c.is_some.ensures ∙ c.if-is_some.false) c.if-index-eq0.true

pub returns : goal.returns
returns g c = λ es slot. entry-in-front (g.C.Comparator.order c.args.comp.now) es c.args.key (c.look_up-index.ensures.value es slot)
    (c.look_up-index.ensures.place es slot) (sym c.is_some.ensures ∙ c.if-is_some.false) c.if-index-eq0.false (c.leaf_entry-2.ensures.value es slot)
