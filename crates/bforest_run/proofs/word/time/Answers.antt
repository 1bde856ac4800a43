use Rattle.bforest_run.proofs.Digits.{as_numeral, parsed}
use Rattle.bforest_run.proofs.word.time.Goals as goal
use Rattle.bforest_run.specs.Numbers.{IsTime}
use Rattle.std.proofs.Common.{arith, subst, sym, ◌∙◌}
use Rattle.std.specs.Option.{SomeIff}
use Rattle.std.specs.Str.Parse.{digits_value}

pub returns : goal.returns
returns c =
    let some = subst (λ o. SomeIff o (IsTime c.args.word.now) (digits_value 10 c.args.word.now)) (sym c.ok.ensures.value)
    (parsed 20 64 c.args.word.now c.parse.result c.parse.ensures.value.0 (sym c.is_digits.ensures ∙ c.if-not-is_digits.false) (omega arith)) in
    record { time = some; value = as_numeral 20 64 c.args.word.now c.ok.result some }
