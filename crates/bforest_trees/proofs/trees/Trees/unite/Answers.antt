use Rattle.bforest_trees.proofs.After.{handed-on}
use Rattle.bforest_trees.proofs.unions.New.{new-more, new-one, new-zero}
use Rattle.bforest_trees.proofs.unions.Uniting.{insertion-refused, still-live, unites-inserted, unites-none, unites-ok, unites-refused}
use Rattle.bforest_trees.proofs.trees.Trees.unite.Goals as goal
use Rattle.bforest_trees.specs.Union.{new_to}
use Rattle.std.proofs.Common.{rules, sym, ◌∙◌}

pub returns-in-Zero : goal.returns-in-Zero
returns-in-Zero g c =
    let told = new-zero (new_to (g.C.Comparator.order c.args.comp.now) c.args.self.now c.args.handle.now c.args.other) (sym c.new_entries.ensures.new ∙ c.in-Zero.is) in
    unites-none g.row.N _ (g.met.C.Comparator.total c.args.comp.now) c.args.self.now c.args.handle.now c.args.other c.requires told

pub put-requires : goal.put-requires
put-requires g c = (search rules, (c.requires.live, c.requires.increasing))

pub returns-in_err-put-in-One : goal.returns-in_err-put-in-One
returns-in_err-put-in-One g c =
    let told = new-one (new_to (g.C.Comparator.order c.args.comp.now) c.args.self.now c.args.handle.now c.args.other) _ _ (sym c.new_entries.ensures.new ∙ c.in-One.is) in
    rw (handed-on c.from_residual.ensures.1) (insertion-refused g.row.N _ (g.met.C.Comparator.total c.args.comp.now) c.args.self.now c.args.handle.now c.args.other c.requires _ _ told c.in_err-put-in-One.ensures)

pub returns-in_ok-put-in-One : goal.returns-in_ok-put-in-One
returns-in_ok-put-in-One g c =
    let told = new-one (new_to (g.C.Comparator.order c.args.comp.now) c.args.self.now c.args.handle.now c.args.other) _ _ (sym c.new_entries.ensures.new ∙ c.in-One.is) in
    unites-inserted g.row.N _ (g.met.C.Comparator.total c.args.comp.now) c.args.self.now c.args.handle.now c.args.other c.requires _ _ told c.in_ok-put-in-One.ensures

pub load_union-requires : goal.load_union-requires
load_union-requires g c = (search rules, c.requires)

pub returns-in_err-union-in-More : goal.returns-in_err-union-in-More
returns-in_err-union-in-More g c =
    let many = new-more (new_to (g.C.Comparator.order c.args.comp.now) c.args.self.now c.args.handle.now c.args.other) (sym c.new_entries.ensures.new ∙ c.in-More.is) in
    let told = c.in_err-union-in-More.ensures in
    rw (handed-on c.from_residual-in_err-union-in-More.ensures.1, told.refused) (unites-refused g.row.N _ (g.met.C.Comparator.total c.args.comp.now) c.args.self.now c.args.handle.now c.args.other c.requires many _ told)

pub free_tree-requires : goal.free_tree-requires
free_tree-requires g c = (search rules, still-live c.args.handle.now c.requires.live c.in_ok-union-in-More.ensures.loaded)

pub returns-in_ok-union-in-More : goal.returns-in_ok-union-in-More
returns-in_ok-union-in-More g c =
    let many = new-more (new_to (g.C.Comparator.order c.args.comp.now) c.args.self.now c.args.handle.now c.args.other) (sym c.new_entries.ensures.new ∙ c.in-More.is) in
    unites-ok g.row.N _ (g.met.C.Comparator.total c.args.comp.now) c.args.self.now c.args.handle.now c.args.other c.requires many c.in_ok-union-in-More.ensures c.free_tree.ensures
