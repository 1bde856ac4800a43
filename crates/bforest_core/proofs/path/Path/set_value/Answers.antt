use Rattle.bforest_core.proofs.path.Path.set_value.Goals as goal

pub returns-clause-written : goal.returns-clause-written
returns-clause-written g c = λ at. c.path_value_mut.ensures.written at c.args.value

pub returns-clause-stands : goal.returns-clause-stands
returns-clause-stands g c = λ at. c.path_value_mut.ensures.stands at c.args.value
