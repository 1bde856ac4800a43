use Rattle.control_flow_example.proofs.Edges.{grown-lists, kept-new}
use Rattle.control_flow_example.proofs.cfg.Cfg.new.Goals as goal

pub invariant_of-result : goal.invariant_of-result
invariant_of-result c =
    kept-new c.args.count c.new-successors.ensures.none c.in_ok-grow_to.ensures.keeps c.in_ok-grow_to.ensures.count c.new-predecessors.ensures.none c.in_ok-grow_to-2.ensures.keeps c.in_ok-grow_to-2.ensures.count

pub returns-clause-successors : goal.returns-clause-successors
returns-clause-successors c = grown-lists c.new-successors.ensures.none c.in_ok-grow_to.ensures.keeps c.args.count c.in_ok-grow_to.ensures.count

pub returns-clause-predecessors : goal.returns-clause-predecessors
returns-clause-predecessors c = grown-lists c.new-predecessors.ensures.none c.in_ok-grow_to-2.ensures.keeps c.args.count c.in_ok-grow_to-2.ensures.count
