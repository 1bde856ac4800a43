use Rattle.control_flow_example.proofs.Edges.{in-blocks, kept-self, removed-graph, removed-kept}
use Rattle.control_flow_example.proofs.cfg.Cfg.remove_edge.Goals as goal
use Rattle.control_flow_example.specs.Graphs.{Graph, without_edge}
use Rattle.std.proofs.Common.{ap, refl, ◌∙◌}

pub invariant_of-self : goal.invariant_of-self
invariant_of-self c =
    removed-kept c.self.invariant (kept-self _) refl (in-blocks c.self.inside.successors c.self.inside.predecessors c.self.view_is c.args.from c.requires.from) (in-blocks c.self.inside.successors c.self.inside.predecessors c.self.view_is c.args.to c.requires.to) c.remove.ensures c.remove-2.ensures

pub returns-clause-removed : goal.returns-clause-removed
returns-clause-removed c =
    removed-graph c.self.invariant (kept-self _) refl (in-blocks c.self.inside.successors c.self.inside.predecessors c.self.view_is c.args.from c.requires.from) (in-blocks c.self.inside.successors c.self.inside.predecessors c.self.view_is c.args.to c.requires.to) c.remove.ensures c.remove-2.ensures
    ∙ ap (λ (g : Graph). without_edge g c.args.from c.args.to) c.self.view_is
