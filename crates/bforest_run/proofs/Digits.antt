-- The number that `parse` reads from a word of digits.
use Rattle.bforest_run.specs.Numbers.{IsNumeral, is_numeral, numeral}
use Rattle.std.proofs.Common.{Bool, ◌&&◌, ◌∙◌, sym, Err, List, None, Ok, Option, Some, ap, false, if◌then◌else◌, refl, Result, length, rules, true, ◌<◌, ◌^◌, ◌≡◌, ◌≤◌, ℕ}
use Rattle.std.proofs.lemmas.Str.Parse.{IsNumeralModel, numerals_by_value, parse_digits}
use Rattle.std.proofs.lemmas.Bool.{false≢true}
use Rattle.std.specs.Char.{is_ascii_digit}
use Rattle.std.specs.List.{list_all}
use Rattle.std.specs.Option.{SomeIff}
use Rattle.std.specs.Result.{result_ok, OkIff}
use Rattle.std.specs.Str.Parse.{ParsesUnsigned, digits_value}

-- the numerals of `parse` are digits with their value
own : IsNumeralModel (λ ds. list_all is_ascii_digit ds ≡ true) (digits_value 10)
own = numerals_by_value _ (search rules)

-- a word of digits that is not too long is a numeral exactly where `parse` reads a number
pub parsed : {E : Type 0} (width bits : ℕ) (word : List ℕ) (r : Result ℕ E) → ParsesUnsigned bits 10 word r → list_all is_ascii_digit word ≡ true → length word ≤ width → SomeIff (result_ok r) (IsNumeral width bits word) (digits_value 10 word)
parsed width bits word r h digits most = go r (parse_digits own bits word r h digits)
  where
    go : {E : Type 0} (r : Result ℕ E) → OkIff r ((0 < length word) × (digits_value 10 word < 2 ^ bits)) (digits_value 10 word) → SomeIff (result_ok r) (IsNumeral width bits word) (digits_value 10 word)
    go (Ok x) h = (record { digits = digits; some = h.0.0; most = most; fits = h.0.1 }, h.1)
    go (Err e) h = λ n. h (n.some, n.fits)

-- where a conjunction holds, both parts hold
both : (a b : Bool) → (a && b) ≡ true → (a ≡ true) × (b ≡ true)
both true true e = (refl, refl)
both true false e = absurd (cc)
both false b e = absurd (cc)

module _ (width bits : ℕ) (word : List ℕ) where
  -- a word is a numeral exactly where its test holds
  is_so : IsNumeral width bits word → is_numeral width bits word ≡ true
  is_so n = let d = n.digits in let s = n.some in let m = n.most in let f = n.fits in search rules

  so_is : is_numeral width bits word ≡ true → IsNumeral width bits word
  so_is e =
      let parts = both _ _ e in
      let more = both _ _ parts.0 in
      let most = both _ _ more.0 in
      record { digits = most.0; some = search (rules, most.1); most = search (rules, more.1); fits = search (rules, parts.1) }

  tested : (b : Bool) → is_numeral width bits word ≡ b → (o : Option ℕ) → SomeIff o (IsNumeral width bits word) (digits_value 10 word) → o ≡ (if b then Some (digits_value 10 word) else None)
  tested true e None h = absurd (h (so_is e))
  tested true e (Some x) h = ap Some h.1
  tested false e None h = refl
  tested false e (Some x) h = absurd (false≢true (sym e ∙ is_so h.0))

  pub as_numeral : (o : Option ℕ) → SomeIff o (IsNumeral width bits word) (digits_value 10 word) → o ≡ numeral width bits word
  as_numeral o some = tested (is_numeral width bits word) refl o some
