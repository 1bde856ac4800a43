use Rattle.bforest_run.proofs.parse.line_of.Goals as goal

pub returns-in-Range : goal.returns-in-Range
returns-in-Range g c = rw c.in-Range.is c.ranging.ensures

pub returns-in-Read : goal.returns-in-Read
returns-in-Read g c = rw c.in-Read.is c.reading.ensures

pub returns-in-Edit : goal.returns-in-Edit
returns-in-Edit g c = rw c.in-Edit.is c.editing.ensures

pub returns-in-Retain : goal.returns-in-Retain
returns-in-Retain g c = rw c.in-Retain.is c.retaining.ensures
