use Rattle.std.proofs.Common.{sym}
use Rattle.bforest.proofs.Sets.{yields-key}
use Rattle.bforest_trees.proofs.Looking.{back-goes, back-steps}
use Rattle.bforest_trees.proofs.Readers.{progress}
use Rattle.bforest_trees.specs.Looks.{left_before}
use Rattle.bforest.proofs.set_iter_back.SetIterBackIterator.next.Goals as goal

pub invariant_of-self : goal.invariant_of-self
invariant_of-self g c = back-goes c.self.invariant c.prev.ensures.look

pub returns-clause-steps : goal.returns-clause-steps
returns-clause-steps g c =
    let i = c.self.inside in
    rw (sym c.self.view_is, c.key_of.ensures) (yields-key (left_before i.trees.now i.root i.look) (left_before i.trees.now i.root c.prev.new.self) c.prev.result (back-steps c.self.invariant c.prev.result c.prev.ensures.value c.prev.ensures.look))

pub returns-clause-goes : goal.returns-clause-goes
returns-clause-goes g c = progress c.requires c.args.self.now _ c.key_of.result (returns-clause-steps g c)
