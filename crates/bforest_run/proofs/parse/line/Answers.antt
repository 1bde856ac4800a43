use Rattle.bforest_run.proofs.Spelled.{spelled}
use Rattle.bforest_run.proofs.parse.line.Goals as goal
use Rattle.std.proofs.Common.{sym, ◌∙◌}

pub returns-in-Some : goal.returns-in-Some
returns-in-Some g c =
    spelled _ c.args.words.now _ c.in-Some.verb c.line_of.result c.in-len1-up.len_at_least (sym c.verb_named.ensures ∙ c.in-Some.is) c.line_of.ensures
