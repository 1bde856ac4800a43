use Rattle.bforest_trees.proofs.Spots.{computed}
use Rattle.bforest_trees.proofs.trees.Trees.insert.Goals as goal
use Rattle.std.proofs.Common.{None, sym, ◌∙◌, ◌≡◌, rules}

pub returns-in-None-clause-inserted : goal.returns-in-None-clause-inserted
returns-in-None-clause-inserted g c =
    let none : c.args.handle.now ≡ None = sym c.expand.ensures.value ∙ c.in-None.is in
    rw none (c.insert_first.ensures.inserted (g.C.Comparator.order c.args.comp.now) (g.met.C.Comparator.total c.args.comp.now))

pub returns-in-Some-clause-computed : goal.returns-in-Some-clause-computed
returns-in-Some-clause-computed g c = computed g.row.N c.insert_under.new.self c.insert_under.new.handle c.insert_under.ensures.union

pub returns-in-None-clause-computed : goal.returns-in-None-clause-computed
returns-in-None-clause-computed g c = computed g.row.N c.insert_first.new.self c.insert_first.new.handle c.insert_first.ensures.union

pub returns-in-Some-clause-inserted : goal.returns-in-Some-clause-inserted
returns-in-Some-clause-inserted g c = search rules

pub returns-in-Some-clause-spot : goal.returns-in-Some-clause-spot
returns-in-Some-clause-spot g c = search rules

pub returns-in-None-clause-spot : goal.returns-in-None-clause-spot
returns-in-None-clause-spot g c = search rules
