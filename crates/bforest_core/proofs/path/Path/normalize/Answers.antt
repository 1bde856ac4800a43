use Rattle.bforest_core.proofs.{Words.{rules, ◌∙◌, arith}, walks.Standing.{pointed-above, pointed-here, pointed-last, pointed-leaf, pointed-next}}
use Rattle.bforest_core.proofs.path.Path.normalize.Goals as goal

pub has_entry-requires : goal.has_entry-requires
has_entry-requires g c = (search rules, (search rules, pointed-leaf c.requires.union c.args.self.now (c.requires.points c.if-self-eq0.false).to))

pub next_node-requires : goal.next_node-requires
next_node-requires g c = (search rules, (search rules, pointed-above c.requires.union c.args.self.now (c.requires.points c.if-self-eq0.false).to))

pub returns-then-has_entry-clause-stands : goal.returns-then-has_entry-clause-stands
returns-then-has_entry-clause-stands g c = λ at. pointed-here c.requires.union c.args.self.now at.to c.has_entry.ensures.within c.if-has_entry.true

pub returns-then-next_node-clause-stands : goal.returns-then-next_node-clause-stands
returns-then-next_node-clause-stands g c = λ at. pointed-next c.requires.union c.args.self.now at.to c.has_entry.ensures.within c.if-has_entry.false
    c.next_node.new.self c.set_entry.new.self (c.next_node.ensures.moved c.if-next_node.true) c.set_entry.ensures.nodes
    c.set_entry.ensures.here c.set_entry.ensures.above (c.set_entry.ensures.size ∙ c.next_node.ensures.size)

pub returns-else-next_node-clause-stands : goal.returns-else-next_node-clause-stands
returns-else-next_node-clause-stands g c = λ at. pointed-last c.requires.union c.args.self.now at.to c.has_entry.ensures.within c.if-has_entry.false (c.next_node.ensures.last c.if-next_node.false) _ _

pub returns-then-self-eq0-clause-stands : goal.returns-then-self-eq0-clause-stands
returns-then-self-eq0-clause-stands g c = λ at. absurd (omega (arith, at.to.points.size_is))
