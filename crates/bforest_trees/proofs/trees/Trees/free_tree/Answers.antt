use Rattle.bforest_trees.proofs.Changed.{seen-as}
use Rattle.bforest_trees.proofs.Cutting.{becomes-ended, gives}
use Rattle.bforest_trees.proofs.trees.Trees.free_tree.Goals as goal
use Rattle.bforest_trees.specs.Forest.{Gives}
use Rattle.bforest_core.specs.Levels.{sizes, sizes_of as tree_sizes}
use Rattle.bforest_core.specs.Trees.{tree_of}
use Rattle.std.proofs.Common.{List, Some, [], ap, length, map, refl, rules, subst, suc, sym, ◌∙◌, ◌≡◌, ℕ}

pub free_tree-requires : goal.free_tree-requires
free_tree-requires g c =
    let s = seen-as c.self.view_is (sym c.take.ensures.value ∙ c.in-Some.is) c.requires.live in
    (search rules, (c.self.invariant, s.root))

pub returns-in-Some : goal.returns-in-Some
returns-in-Some g c =
    let p = c.self.inside.pool in
    let n : ℕ = c.in-Some.root in
    let handle : c.args.handle.now ≡ Some n = sym c.take.ensures.value ∙ c.in-Some.is in
    let s = seen-as {h = Some n} refl refl (rw (← c.self.view_is, handle) at c.requires.live) in
    let new = c.free_tree.new.self in
    rw (handle, c.take.ensures.after, ← c.self.view_is) (record {
      handle = refl;
      cleared = becomes-ended g.row.N p new n c.free_tree.ensures.ended;
      same_levels = (λ same. absurd (cc), λ e. absurd (let some : 0 ≡ suc (length (map sizes (tree_of p.nodes n).above)) = e ∙ sym (ap length s.sizes) in cc));
      account = subst (λ (z : List (List ℕ)). Gives z [] p new) s.sizes (gives p new (tree_sizes (tree_of p.nodes n)) [] c.free_tree.ensures.account);
    })
