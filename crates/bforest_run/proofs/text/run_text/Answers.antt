use Rattle.bforest_run.proofs.text.run_text.Goals as goal

pub returns-in-Map-clause-maps : goal.returns-in-Map-clause-maps
returns-in-Map-clause-maps g c = λ _. rw (c.maps.ensures, ← c.status.ensures) at c.answer_all.ensures.outcome

pub returns-in-Set-clause-sets : goal.returns-in-Set-clause-sets
returns-in-Set-clause-sets g c = λ _. rw (c.sets.ensures, ← c.status-in-Set.ensures) at c.answer_all-in-Set.ensures.outcome
