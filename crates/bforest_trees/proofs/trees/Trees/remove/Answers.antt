use Rattle.bforest_trees.proofs.Removing.{removes-none}
use Rattle.bforest_trees.proofs.trees.Trees.remove.Goals as goal
use Rattle.bforest_trees.specs.Forest.{list_of}
use Rattle.bforest_nodes.specs.Entries.{value_for}
use Rattle.std.proofs.Common.{None, Option, ap, sym, ◌∙◌, ◌≡◌, ℕ}

pub returns-in_err-root : goal.returns-in_err-root
returns-in_err-root g c =
    let cmp = g.C.Comparator.order c.args.comp.now in
    let none : c.args.handle.now ≡ None = sym c.expand.ensures.value ∙ c.in_err-root.was in
    rw c.from_residual.ensures (removes-none g.row.N cmp c.args.self.now c.args.handle.now c.args.key c.requires.live (g.met.C.Comparator.total c.args.comp.now) c.requires.increasing (ap (λ (h : Option ℕ). value_for cmp (list_of c.args.self.now h) c.args.key) none))

pub returns : goal.returns
returns g c = rw (sym c.expand.ensures.value ∙ c.in_ok-root.was) c.remove_under.ensures
