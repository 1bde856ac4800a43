-- The new key of a shift, by a walk over the pairs.
use Rattle.bforest_calls.specs.State.{new_key}
use Rattle.std.proofs.Common.{List, Some, [], ap, arith, cond, drop, false, find, get_or, length, refl, suc, sym, true, unwrap_or, zero, option_map, ◌+◌, ◌<◌, ◌∙◌, ◌∷◌, ◌≡◌, ◌≤◌, ℕ}
use Rattle.std.specs.Bool.{◌==◌}
use Rattle.std.specs.Ordering.{is_eq, ordering_index}
use Rattle.std.specs.declared.cmp.Ordering.TheVariants.{Equal, Greater, Less}
use Rattle.std.specs.declared.cmp.Ordering.{Ordering}

eq-tells : (o : Ordering) → (ordering_index o == 1) ≡ is_eq o
eq-tells Less = refl
eq-tells Equal = refl
eq-tells Greater = refl

-- the elements from an index on begin with the element there
first-left : {X : Type 0} (xs : List X) (i : ℕ) (x : X) → i < length xs → x ≡ get_or xs i x → drop i xs ≡ x ∷ drop (i + 1) xs
first-left [] i x within is = absurd (omega (arith, within))
first-left (y ∷ xs) zero x within is = λ j. sym is j ∷ xs
first-left (y ∷ xs) (suc i) x within is =
    let e : suc (i + 1) ≡ suc i + 1 = omega arith in first-left xs i x (omega (arith, within)) is ∙ ap (λ n. x ∷ drop n (y ∷ xs)) e

none-left : {X : Type 0} (xs : List X) (i : ℕ) → length xs ≤ i → drop i xs ≡ []
none-left [] zero past = refl
none-left [] (suc i) past = refl
none-left (x ∷ xs) zero past = absurd (omega (arith, past))
none-left (x ∷ xs) (suc i) past = none-left xs i (omega (arith, past))

module _ {K : Type 0} (order : K → K → Ordering) (keys : List (K × K)) (k : K) where
  -- the pairs from an index on tell the new key
  abbrev pub IsToldFrom : ℕ → Type 0
  IsToldFrom i = new_key order keys k ≡ new_key order (drop i keys) k

  module _ {i : ℕ} (told : IsToldFrom i) where
    pub told-last : length keys ≤ i → k ≡ new_key order keys k
    told-last past = sym (told ∙ ap (λ ps. new_key order ps k) (none-left keys i past))

    module _ (pair : K × K) (within : i < length keys) (is : pair ≡ get_or keys i pair) {o : Ordering} (compared : o ≡ order pair.0 k) where
      step : new_key order keys k ≡ unwrap_or (option_map (λ p. p.1) (cond (ordering_index o == 1) (Some pair) (find (λ p. is_eq (order p.0 k)) (drop (i + 1) keys)))) k
      step = told ∙ ap (λ ps. new_key order ps k) (first-left keys i pair within is)
          ∙ ap (λ t. unwrap_or (option_map (λ p. p.1) (cond t (Some pair) (find (λ p. is_eq (order p.0 k)) (drop (i + 1) keys)))) k) (ap is_eq (sym compared) ∙ sym (eq-tells o))

      pub told-next : (ordering_index o == 1) ≡ false → IsToldFrom (i + 1)
      told-next differs = step ∙ ap (λ t. unwrap_or (option_map (λ p. p.1) (cond t (Some pair) (find (λ p. is_eq (order p.0 k)) (drop (i + 1) keys)))) k) differs

      pub told-here : (ordering_index o == 1) ≡ true → pair.1 ≡ new_key order keys k
      told-here same = sym (step ∙ ap (λ t. unwrap_or (option_map (λ p. p.1) (cond t (Some pair) (find (λ p. is_eq (order p.0 k)) (drop (i + 1) keys)))) k) same)
