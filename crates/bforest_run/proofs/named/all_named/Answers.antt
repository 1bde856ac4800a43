use Rattle.bforest_run.proofs.AllOf.{all_of-lacks, all_of-map, all_of-more}
use Rattle.bforest_run.proofs.named.all_named.Goals as goal
use Rattle.bforest_run.specs.Grammar.{all_of}
use Rattle.std.proofs.Common.{Some, sym, ap, ◌∙◌}
use Rattle.std.proofs.lemmas.List.{take_all}

pub returns-in_default : goal.returns-in_default
returns-in_default g c =
    sym (all_of-map g.T.Named.named (λ w. w.now) c.args.words.now ∙ all_of-lacks (λ w. g.T.Named.named w.now) c.args.words.now c.words.word-index _ c.words-test.true (sym c.from_word.ensures ∙ c.in_default.is))

pub words-preserved : goal.words-preserved
words-preserved g c =
    all_of-more (λ w. g.T.Named.named w.now) c.args.words.now c.words.word-index _ c.words.values.items c.in-Some.value c.words-test.true c.words.invariant (sym c.from_word.ensures ∙ c.in-Some.is) ∙ ap Some (sym c.in_ok-push.ensures.items)

pub returns : goal.returns
returns g c =
    sym (all_of-map g.T.Named.named (λ w. w.now) c.args.words.now ∙ ap (all_of (λ w. g.T.Named.named w.now)) (sym (take_all c.words.word-index c.args.words.now c.words-test.false)) ∙ c.words.invariant)
