use Rattle.bforest_core.proofs.Words.{rules, ap, arith, refl, set, suc, sym, is_gt, entry_items, entry_keys, length, place, slice_get, ◌∙◌, ◌≡◌}
use Rattle.bforest_core.proofs.walks.{Behind.{ends-here, entries-up, has-some, here-slot, low-here, place-here, place-last}, Standing.on-leaf-in, Steps.at_index}
use Rattle.bforest_core.proofs.table.Stored.{keys_count}
use Rattle.bforest_core.proofs.path.Path.find_behind.Goals.{then-self-last-via-then-self-last, then-self-last-via-else-self-last+then-is_gt}
use Rattle.bforest_core.proofs.path.Path.find_behind.Goals as goal

pub last_key-last-requires : goal.last_key-last-requires
last_key-last-requires g c = let o = g.met.C.Comparator.total c.args.comp.now in let r = c.requires in let es = r.behind.on.stands.leaf.entries in
    (search rules, (entry_keys es, entry_items es, here-slot r.union o r.increasing r.behind c.index-self-0.result (search rules), has-some r.union o r.increasing r.behind))

pub overflow_add-last : goal.overflow_add-last
overflow_add-last g c = let r = c.requires in let es = r.behind.on.stands.leaf.entries in
    let slot = here-slot r.union (g.met.C.Comparator.total c.args.comp.now) r.increasing r.behind c.index-self-0.result (search rules) in
    omega (arith, c.last_key-last.ensures.index (entry_keys es) (entry_items es) slot, keys_count es, (on-leaf-in r.union c.args.self.now r.behind.on).room)

pub find_behind_leaf-requires : goal.find_behind_leaf-requires
find_behind_leaf-requires g c = let o = g.met.C.Comparator.total c.args.comp.now in let r = c.requires in let es = r.behind.on.stands.leaf.entries in
    let slot = here-slot r.union o r.increasing r.behind c.index-self-0.result (search rules) in
    let index = c.last_key-last.ensures.index (entry_keys es) (entry_items es) slot in
    let count : suc c.last_key-last.result.0 ≡ length es = omega (arith, index, keys_count es, has-some r.union o r.increasing r.behind) in
    let at : place (g.C.Comparator.order c.args.comp.now) es c.args.key ≡ length es = elim c.then-self-last.branch [
      | then-self-last-via-then-self-last w ↦ place-here r.union o r.increasing r.behind (omega (arith, count, w.if-self-last.true))
      | then-self-last-via-else-self-last+then-is_gt w ↦ place-last r.union o r.increasing r.behind c.last_key-last.result.0 count
          (ap (slice_get (entry_keys es)) index ∙ c.last_key-last.ensures.key (entry_keys es) (entry_items es) slot) (ap is_gt (sym w.cmp.ensures) ∙ sym w.is_gt.ensures ∙ w.if-is_gt.true)
    ] in
    (search rules, (search rules, (r.union, (r.root, ((r.behind, omega (arith, count), omega (arith, count, at)), r.increasing)))))

pub look_up-index-requires : goal.look_up-index-requires
look_up-index-requires g c = let o = g.met.C.Comparator.total c.args.comp.now in let r = c.requires in
    (search rules, (r.union.1.capacity, (r.behind.on.stands.leaf.entries, here-slot r.union o r.increasing r.behind c.index-self-0.result (search rules), entries-up r.union o r.increasing r.behind)))

pub returns : goal.returns
returns g c = let o = g.met.C.Comparator.total c.args.comp.now in let r = c.requires in let es = r.behind.on.stands.leaf.entries in
    let slot = here-slot r.union o r.increasing r.behind c.index-self-0.result (search rules) in
    let last = c.last_key-last.ensures.key (entry_keys es) (entry_items es) slot in
    let e = ends-here r.union o r.increasing r.behind (low-here r.union o r.increasing r.behind last (ap is_gt (sym c.cmp.ensures) ∙ sym c.if-is_gt.ensures)) (search rules) (search rules) in
    let found = at_index c.args.pool.now.nodes c.args.self.now.node c.index-self-0.result (omega (arith, e.wide)) refl e.slot_is in
    let entry = c.set_index.ensures.entry ∙ ap (λ z. set c.args.self.now.entry 0 z) (c.look_up-index.ensures.place e.entries found) in record {
      value = c.look_up-index.ensures.value e.entries found ∙ sym e.value_is;
      present = λ here. rw (c.set_index.ensures.node, entry, c.set_index.ensures.size) (e.present here);
      absent = λ none. rw (c.set_index.ensures.node, entry, c.set_index.ensures.size) (e.absent none);
    }
