use Rattle.bforest_core.proofs.Words.{rules, ◌+◌, ◌<◌, drop, get_or, Some, sym, subst, ap, ◌∙◌, arith, add-one, set, get_or-set_same, get_or-set_other}
use Rattle.bforest_core.proofs.{Words.{entry_items, entry_keys}, table.Stored.item_count, walks.Steps.at_index}
use Rattle.bforest_core.proofs.path.Path.go_to_child.Goals as goal

pub child-child-requires : goal.child-child-requires
child-child-requires g c = let w = c.requires.inner in
    (search rules, (drop 1 (entry_keys w.0), entry_items w.0, at_index _ _ c.index-self-level.result (omega arith) (add-one c.args.level) w.1, subst (λ z. c.args.index < z) (sym (item_count w.0)) w.2))

pub returns : goal.returns
returns g c = record {
  child = λ es slot.
      c.child-child.ensures (drop 1 (entry_keys es)) (entry_items es) (at_index _ _ c.index-self-level.result (omega arith) (add-one c.args.level) slot) ∙ ap Some (sym (get_or-set_same c.args.self.now.node c.args.level c.child-child.result 0 (omega arith)));
  nodes = λ other ne. get_or-set_other c.args.self.now.node c.args.level other c.child-child.result 0 ne;
  entry = ap (λ z. get_or (set c.args.self.now.entry (c.args.level + 1) c.args.index) z 0) (sym (add-one c.args.level)) ∙ get_or-set_same c.args.self.now.entry (c.args.level + 1) c.args.index 0 (omega arith);
  entries = λ other ne. get_or-set_other c.args.self.now.entry (c.args.level + 1) other c.args.index 0 (λ e. ne (e ∙ add-one c.args.level));
  size = search rules;
}
