use Rattle.bforest_trees.proofs.After.{handed-on}
use Rattle.bforest_trees.proofs.Packing.{compacts-ok, compacts-refused}
use Rattle.bforest_trees.proofs.unions.Uniting.{still-live}
use Rattle.bforest_trees.proofs.trees.Trees.compact.Goals as goal
use Rattle.bforest_trees.specs.Calls.{Compacts, Loads}
use Rattle.bforest_trees.specs.Layout.{IsMark, behind, left_of}
use Rattle.std.proofs.Common.{Err, Ok, ap, length, rules, subst, sym, ◌∙◌, ◌≡◌}

pub load_from-requires : goal.load_from-requires
load_from-requires g c = let self = c.args.self.now in
    let left = subst (λ z. behind z c.mark.result ≡ left_of z c.new.result) c.self.view_is c.mark.ensures.left ∙ c.new.ensures.left in (
      search rules,
      (
        subst (λ z. IsMark self z) (sym c.new-all.ensures) (subst (λ z. IsMark z c.mark.result) c.self.view_is c.mark.ensures.mark),
        c.len-entries.ensures.count ∙ ap length (sym (ap (λ z. behind self z) c.new-all.ensures ∙ left)),
      ),
    )

pub returns-in_err-packed : goal.returns-in_err-packed
returns-in_err-packed g c = let self = c.args.self.now in
    let left = subst (λ z. behind z c.mark.result ≡ left_of z c.new.result) c.self.view_is c.mark.ensures.left ∙ c.new.ensures.left in
    let told = subst (λ z. Loads g.row.N self z (Err c.in_err-packed.field-0.0) c.load_from.new.self) (ap (λ z. behind self z) c.new-all.ensures ∙ left) c.in_err-packed.ensures in
    rw (handed-on c.from_residual.ensures.1) (subst (λ z. Compacts g.row.N self c.args.handle.now (Err c.in_err-packed.field-0.0) z c.args.handle.now) (sym told.refused) (compacts-refused g.row.N self c.args.handle.now c.requires.live _ told))

pub free_tree-requires : goal.free_tree-requires
free_tree-requires g c = (search rules, still-live c.args.handle.now c.requires.live c.in_ok-packed.ensures.loaded)

pub returns : goal.returns
returns g c = let self = c.args.self.now in
    let left = subst (λ z. behind z c.mark.result ≡ left_of z c.new.result) c.self.view_is c.mark.ensures.left ∙ c.new.ensures.left in
    let told = subst (λ z. Loads g.row.N self z (Ok c.in_ok-packed.packed) c.load_from.new.self) (ap (λ z. behind self z) c.new-all.ensures ∙ left) c.in_ok-packed.ensures in
    compacts-ok g.row.N self c.args.handle.now c.requires.live told c.free_tree.ensures
