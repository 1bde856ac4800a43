use Rattle.bforest_trees.proofs.Entering.{root-only, root-within}
use Rattle.bforest_trees.proofs.trees.Trees.remove_under.Goals as goal
use Rattle.std.proofs.Common.{rules, sym, ◌∙◌}
use Rattle.std.proofs.lemmas.Bool.{false≢true}

pub node-requires : goal.node-requires
node-requires g c = (search rules, (search rules, root-within c.self.view_is c.self.invariant c.args.root c.requires.live))

pub remove_alone-requires : goal.remove_alone-requires
remove_alone-requires g c = let leaf = root-only c.self.view_is c.self.invariant c.args.root c.requires.live c.node.ensures.value (λ inner. false≢true (sym c.if-is_inner.false ∙ c.is_inner.ensures.inner.1 inner)) in
    (search rules, (c.requires.root, (c.requires.live, (leaf, c.requires.increasing))))
