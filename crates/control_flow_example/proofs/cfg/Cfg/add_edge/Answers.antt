use Rattle.control_flow_example.proofs.Edges.{added-graph, added-kept, enough-after, in-blocks, is_ok, on_err_told, put_done, refused-graph, refused-kept}
use Rattle.control_flow_example.proofs.cfg.Cfg.add_edge.Goals as goal
use Rattle.control_flow_example.specs.Graphs.{AreKept, Graph, graph_of, with_edge}
use Rattle.std.proofs.Common.{ap, subst, sym, ◌∙◌}

pub invariant_of-self : goal.invariant_of-self
invariant_of-self c = refused-kept c.self.invariant c.reserve_nodes.ensures.keeps c.reserve_nodes.ensures.count

pub returns-in_err-reserve_nodes-clause-refused : goal.returns-in_err-reserve_nodes-clause-refused
returns-in_err-reserve_nodes-clause-refused c =
    on_err_told c.from_residual.result (refused-graph c.self.invariant c.reserve_nodes.ensures.keeps c.reserve_nodes.ensures.count ∙ c.self.view_is)

pub invariant_of-self-in_err-insert : goal.invariant_of-self-in_err-insert
invariant_of-self-in_err-insert c =
    subst (λ p. AreKept c.reserve_nodes.new.self p) (sym c.in_err-insert.ensures.refused) (refused-kept c.self.invariant c.reserve_nodes.ensures.keeps c.reserve_nodes.ensures.count)

pub returns-in_err-insert-clause-refused : goal.returns-in_err-insert-clause-refused
returns-in_err-insert-clause-refused c =
    on_err_told c.from_residual-in_err-insert.result (ap (λ p. graph_of c.reserve_nodes.new.self p) c.in_err-insert.ensures.refused
    ∙ refused-graph c.self.invariant c.reserve_nodes.ensures.keeps c.reserve_nodes.ensures.count ∙ c.self.view_is)

pub unwrap-requires : goal.unwrap-requires
unwrap-requires c =
    put_done c.insert-2.result (c.insert-2.ensures.succeeds (enough-after c.args.from c.args.to c.reserve_nodes.ensures.keeps c.levels-levels.ensures.count c.in_ok-reserve_nodes.ensures.reserves.free))

pub invariant_of-self-2 : goal.invariant_of-self-2
invariant_of-self-2 c =
    added-kept c.self.invariant c.reserve_nodes.ensures.keeps c.reserve_nodes.ensures.count (in-blocks c.self.inside.successors c.self.inside.predecessors c.self.view_is c.args.from c.requires.from) (in-blocks c.self.inside.successors c.self.inside.predecessors c.self.view_is c.args.to c.requires.to)
    c.insert-2.ensures (c.insert-2.ensures.succeeds (enough-after c.args.from c.args.to c.reserve_nodes.ensures.keeps c.levels-levels.ensures.count c.in_ok-reserve_nodes.ensures.reserves.free))
    c.insert.ensures (is_ok c.in_ok-insert.was)

pub returns-clause-added : goal.returns-clause-added
returns-clause-added c =
    added-graph c.self.invariant c.reserve_nodes.ensures.keeps c.reserve_nodes.ensures.count (in-blocks c.self.inside.successors c.self.inside.predecessors c.self.view_is c.args.from c.requires.from) (in-blocks c.self.inside.successors c.self.inside.predecessors c.self.view_is c.args.to c.requires.to)
    c.insert-2.ensures (c.insert-2.ensures.succeeds (enough-after c.args.from c.args.to c.reserve_nodes.ensures.keeps c.levels-levels.ensures.count c.in_ok-reserve_nodes.ensures.reserves.free))
    c.insert.ensures (is_ok c.in_ok-insert.was)
    ∙ ap (λ (g : Graph). with_edge g c.args.from c.args.branch c.args.to) c.self.view_is
