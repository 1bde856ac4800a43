use Rattle.bforest_run.proofs.word.words_in.Goals as goal
use Rattle.std.proofs.Common.{length, lit<, not, rules, tests, ◌==◌}
use Rattle.std.proofs.lemmas.Iterator.Consumers.{YieldsList-at, YieldsList-from_filter, map_from_collect}
use Rattle.std.proofs.lemmas.Iterator.Splits.{YieldsList-from_str_split}

pub returns : goal.returns
returns c =
    map_from_collect _ c.collect.ensures.ran (YieldsList-from_filter _ (λ word. not (length word == 0)) (YieldsList-at c.filter.ensures.source (YieldsList-from_str_split 32 c.args.line.now (lit< tt) c.split.ensures.text c.split.ensures.has_more c.split.ensures.pattern)) c.filter.ensures.closure (λ x b q k. search (rules, tests)))
