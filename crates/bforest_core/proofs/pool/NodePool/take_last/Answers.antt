use Rattle.bforest_core.proofs.{Words.{rules, refl}, removal.OnWay.{ends-there, entry-asks, entry-read, entry-taken, healed-last, held, leaf-within, on-last, take-asks, taken-alone}}
use Rattle.bforest_core.proofs.pool.NodePool.take_last.Goals as goal

pub last-way-requires : goal.last-way-requires
last-way-requires g c = search rules

pub last_index-last-requires : goal.last_index-last-requires
last_index-last-requires g c = (search rules, held c.requires.union c.last-way.ensures.last.1)

pub node-requires : goal.node-requires
node-requires g c = (search rules, (search rules, leaf-within c.requires.union c.last-way.ensures.last.1))

pub entry-entry-requires : goal.entry-entry-requires
entry-entry-requires g c = let w = on-last c.requires.union c.last-way.ensures.last.1 refl c.last_index-last.ensures.last in
    (search rules, entry-asks c.requires.union w c.node.ensures.value)

pub remove_entry-requires : goal.remove_entry-requires
remove_entry-requires g c = let w = on-last c.requires.union c.last-way.ensures.last.1 refl c.last_index-last.ensures.last in
    (search rules, take-asks c.requires.union w)

pub heal_alone-requires : goal.heal_alone-requires
heal_alone-requires g c = let w = on-last c.requires.union c.last-way.ensures.last.1 refl c.last_index-last.ensures.last in
    let t = entry-taken c.requires.union w c.remove_entry.ensures in (search rules, (c.args.self.now, _, t.path, t.indices, taken-alone t c.if-way-eq0.true))

pub heal_far-requires : goal.heal_far-requires
heal_far-requires g c = let w = on-last c.requires.union c.last-way.ensures.last.1 refl c.last_index-last.ensures.last in
    (search rules, (c.last_index-last.ensures.most, (c.args.self.now, _, entry-taken c.requires.union w c.remove_entry.ensures)))

pub returns-then-last-gt0 : goal.returns-then-last-gt0
returns-then-last-gt0 g c = let w = on-last c.requires.union c.last-way.ensures.last.1 refl c.last_index-last.ensures.last in
    let t = entry-taken c.requires.union w c.remove_entry.ensures in record {
      entry = entry-read c.requires.union w c.node.ensures.value c.entry-entry.ensures.key c.entry-entry.ensures.value;
      taken = (t.path, healed-last t (ends-there c.requires.union w refl) c.if-last-gt0.true);
    }

pub returns-then-way-eq0 : goal.returns-then-way-eq0
returns-then-way-eq0 g c = let w = on-last c.requires.union c.last-way.ensures.last.1 refl c.last_index-last.ensures.last in
    let t = entry-taken c.requires.union w c.remove_entry.ensures in record {
      entry = entry-read c.requires.union w c.node.ensures.value c.entry-entry.ensures.key c.entry-entry.ensures.value;
      taken = (t.path, c.heal_alone.ensures.healed _ _ _ _ (taken-alone t c.if-way-eq0.true));
    }

pub returns : goal.returns
returns g c = let w = on-last c.requires.union c.last-way.ensures.last.1 refl c.last_index-last.ensures.last in
    let r = c.heal_far.ensures.healed _ _ (entry-taken c.requires.union w c.remove_entry.ensures) in record {
      entry = entry-read c.requires.union w c.node.ensures.value c.entry-entry.ensures.key c.entry-entry.ensures.value;
      taken = (r.nodes, r.shrinks);
    }
