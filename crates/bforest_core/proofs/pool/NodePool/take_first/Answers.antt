use Rattle.bforest_core.proofs.{Words.{rules, arith}, removal.OnWay.{entry-asks, entry-read, entry-taken, leaf-within, take-asks, taken-alone}}
use Rattle.bforest_core.proofs.pool.NodePool.take_first.Goals as goal

pub first-way-requires : goal.first-way-requires
first-way-requires g c = search rules

pub node-requires : goal.node-requires
node-requires g c = (search rules, (search rules, leaf-within c.requires.union c.first-way.ensures.first))

pub entry-entry-requires : goal.entry-entry-requires
entry-entry-requires g c = (search rules, entry-asks c.requires.union c.first-way.ensures.first c.node.ensures.value)

pub remove_entry-requires : goal.remove_entry-requires
remove_entry-requires g c = (search rules, take-asks c.requires.union c.first-way.ensures.first)

pub heal_alone-requires : goal.heal_alone-requires
heal_alone-requires g c = let t = entry-taken c.requires.union c.first-way.ensures.first c.remove_entry.ensures in
    (search rules, (c.args.self.now, 0, t.path, t.indices, taken-alone t c.if-way-eq0.true))

pub heal_on-requires : goal.heal_on-requires
heal_on-requires g c = let t = entry-taken c.requires.union c.first-way.ensures.first c.remove_entry.ensures in (search rules, (omega arith, (c.args.self.now, 0, t)))

pub returns-then-way-eq0-clause-entry : goal.returns-then-way-eq0-clause-entry
returns-then-way-eq0-clause-entry g c = entry-read c.requires.union c.first-way.ensures.first c.node.ensures.value c.entry-entry.ensures.key c.entry-entry.ensures.value

pub returns-then-way-eq0-clause-taken : goal.returns-then-way-eq0-clause-taken
returns-then-way-eq0-clause-taken g c = let t = entry-taken c.requires.union c.first-way.ensures.first c.remove_entry.ensures in
    (t.path, c.heal_alone.ensures.healed _ _ _ _ (taken-alone t c.if-way-eq0.true))

pub returns : goal.returns
returns g c = let r = c.heal_on.ensures.healed _ _ (entry-taken c.requires.union c.first-way.ensures.first c.remove_entry.ensures) in record {
  entry = entry-read c.requires.union c.first-way.ensures.first c.node.ensures.value c.entry-entry.ensures.key c.entry-entry.ensures.value;
  taken = (r.nodes, r.shrinks);
}
