use Rattle.bforest_run.proofs.handles.Handles.tell.Goals as goal

pub returns-in-Stat : goal.returns-in-Stat
returns-in-Stat g c = rw c.in-Stat.is c.stat.ensures
