use Rattle.bforest_core.proofs.{Words.{rules, refl}, removal.Healing.{alone_freed, alone_kept, counted_asks, leaf_is_root, leaf_used}}
use Rattle.bforest_core.proofs.pool.NodePool.heal_alone.Goals as goal

pub entries-requires : goal.entries-requires
entries-requires g c = let w = c.requires.taken in (search rules, counted_asks w.4 c.args.root (leaf_is_root w.4 refl))

pub returns-then-entries-gt0 : goal.returns-then-entries-gt0
returns-then-entries-gt0 g c = record {
  healed = λ old place path indices e. alone_kept e c.args.root (leaf_is_root e refl) c.entries.result c.entries.ensures.value refl c.if-entries-gt0.true;
}

pub free_node-requires : goal.free_node-requires
free_node-requires g c = let w = c.requires.taken in (search rules, rw ((leaf_is_root w.4 refl)) (leaf_used w.4))

pub returns : goal.returns
returns g c = record {
  healed = λ old place path indices e. alone_freed e c.args.root (leaf_is_root e refl) c.entries.result c.entries.ensures.value refl c.if-entries-gt0.false c.free_node.new.self c.free_node.ensures.freed;
}
