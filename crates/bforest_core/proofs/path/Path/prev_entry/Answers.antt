use Rattle.bforest_core.proofs.{Words.{rules, refl, ◌∙◌, arith}, walks.Entered.{back_within, back_asks, back_over, back_first, over_leaves}}
use Rattle.bforest_core.proofs.walks.Steps.{never}
use Rattle.bforest_core.proofs.path.Path.prev_entry.Goals as goal

pub returns-then-here-gt0 : goal.returns-then-here-gt0
returns-then-here-gt0 g c = record {
  moved = λ yes s. back_within c.requires.capacity s c.set_entry.new.self.entry c.set_entry.ensures.nodes
      c.if-here-gt0.true c.set_entry.ensures.here c.set_entry.ensures.above;
  first = never refl;
  same = never refl;
  size = c.set_entry.ensures.size;
}

pub prev_node-moved-requires : goal.prev_node-moved-requires
prev_node-moved-requires g c = (search rules, (search rules, (c.requires.height, over_leaves c.requires.capacity c.requires.stands)))

pub last_index-last-requires : goal.last_index-last-requires
last_index-last-requires g c =
    (search rules, back_asks c.requires.capacity c.requires.stands (c.prev_node-moved.ensures.moved c.if-moved.true) c.index-self-0.result (omega arith))

pub returns-then-moved : goal.returns-then-moved
returns-then-moved g c = let new = c.set_entry-then-moved.new.self in let set = c.set_entry-then-moved.ensures in
    record {
      moved = λ yes s. back_over c.requires.capacity s (c.prev_node-moved.ensures.moved c.if-moved.true) c.index-self-0.result
          (omega arith) new.entry c.last_index-last.ensures.last set.nodes c.if-here-gt0.false set.here set.above;
      first = never c.if-moved.true;
      same = never c.if-moved.true;
      size = set.size ∙ c.prev_node-moved.ensures.size;
    }

pub returns-else-moved : goal.returns-else-moved
returns-else-moved g c = record {
  moved = λ yes. never yes c.if-moved.false;
  first = λ no s. back_first c.requires.capacity s (c.prev_node-moved.ensures.first c.if-moved.false) c.if-here-gt0.false;
  same = λ no. c.prev_node-moved.ensures.same c.if-moved.false;
  size = c.prev_node-moved.ensures.size;
}
