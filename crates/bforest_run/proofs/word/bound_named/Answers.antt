use Rattle.bforest_run.proofs.Marks.{no_bound}
use Rattle.bforest_run.proofs.word.bound_named.Goals as goal
use Rattle.std.proofs.Common.{lit<, rules}
use Rattle.std.proofs.lemmas.Str.Pattern.{strip_prefix_char}

pub returns : goal.returns
returns c =
    let included = strip_prefix_char 61 c.args.word.now c.strip_prefix.result c.strip_prefix.ensures.cases (lit< tt) in
    let excluded = strip_prefix_char 33 c.args.word.now c.strip_prefix-2.result c.strip_prefix-2.ensures.cases (lit< tt) in
    no_bound c.args.word.now (search rules) (rw c.in_default.is at included) (rw c.in_default-strip_prefix.is at excluded)
