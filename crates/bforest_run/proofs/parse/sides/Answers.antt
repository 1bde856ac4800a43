use Rattle.bforest_run.proofs.AllOf.{all_of-lacks, all_of-more}
use Rattle.bforest_run.proofs.parse.sides.Goals as goal
use Rattle.bforest_run.specs.Grammar.{all_of, side_of}
use Rattle.std.proofs.Common.{Some, ap, sym, ◌∙◌}

pub returns-in_default : goal.returns-in_default
returns-in_default c = sym (
    ap (all_of side_of) (sym c.as_bytes-letter-items.ensures.value) ∙ all_of-lacks side_of c.as_bytes-letter-items.result.now c.letters.letter-index 0 c.letters-test.true (sym c.side_named.ensures ∙ c.in_default.is))

pub letters-preserved : goal.letters-preserved
letters-preserved c =
    all_of-more side_of c.as_bytes-letter-items.result.now c.letters.letter-index 0 c.letters.sides.items c.in-Some.side c.letters-test.true c.letters.invariant (sym c.side_named.ensures ∙ c.in-Some.is) ∙ ap Some (sym c.in_ok-push.ensures.items)
