use Rattle.bforest_core.proofs.Words.{rules, ap, set, sym, ◌∙◌}
use Rattle.bforest_core.proofs.path.Path.find.Goals as goal

pub look_up-index-requires : goal.look_up-index-requires
look_up-index-requires g c = let e = c.find_leaf-leaf.ensures in (search rules, (c.requires.union.1.capacity, (e.entries, e.slot_is, e.increasing)))

pub returns : goal.returns
returns g c = let e = c.find_leaf-leaf.ensures in let index = c.look_up-index.ensures.place e.entries e.slot_is in
    let entry = c.set_index.ensures.entry ∙ ap (λ z. set c.find_leaf-leaf.new.self.entry 0 z) index in record {
      value = c.look_up-index.ensures.value e.entries e.slot_is ∙ sym e.value_is;
      present = λ here. rw (c.set_index.ensures.node, entry, c.set_index.ensures.size) (e.present here);
      absent = λ none. rw (c.set_index.ensures.node, entry, c.set_index.ensures.size) (e.absent none);
    }
