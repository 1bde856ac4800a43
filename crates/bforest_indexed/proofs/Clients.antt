-- What those prove who write above maps or sets by an index: a stack of lists, which grows and shrinks by an index, and insertions that stay
-- within the room that was made.
use Rattle.bforest.specs.Entries.{is_present}
use Rattle.bforest_indexed.specs.Indexed.{ChangesAt, Indexed, StaysWithin, count, entries, stack}
use Rattle.std.proofs.Common.{List, [], ap, arith, drop, false, inl, inr, length, refl, subst, suc, sym, zero, ◌-◌, ◌<◌, ◌∙◌, ◌∷◌, ◌≡◌, ◌≤◌, ℕ}
use Rattle.std.proofs.lemmas.Bool.Decides.{leb_tells}
use Rattle.std.specs.List.{AllByRecursion}
use Rattle.std.specs.declared.cmp.Ordering.{Ordering}

module _ {K X C : Type 0} where
  pub length-stack : (m : Indexed K X C) (n : ℕ) → length (stack m n) ≡ n
  length-stack m zero = refl
  length-stack m (suc n) = ap suc (length-stack m n)

  -- the list on top, and the stack below it
  pub stack-parts : (m : Indexed K X C) (n : ℕ) → 0 < n → stack m n ≡ entries m (n - 1) ∷ stack m (n - 1)
  stack-parts m zero some = absurd (omega (arith, some))
  stack-parts m (suc n) some = ap (λ k. entries m k ∷ stack m k) (let is : n ≡ suc n - 1 = omega arith in is)

  -- a change of an index that is not in the stack leaves the stack
  pub stack-beside : {m m' : Indexed K X C} {i : ℕ} (n : ℕ) → ChangesAt m i m' → n ≤ i → stack m' n ≡ stack m n
  stack-beside zero b past = refl
  stack-beside (suc n) b past = λ j. b.others n (λ e. absurd (omega (arith, past, e))) j ∷ stack-beside n b (omega (arith, past)) j

  -- a change of the index on top
  pub stack-top : {m m' : Indexed K X C} (n : ℕ) → 0 < n → ChangesAt m (n - 1) m' → stack m' n ≡ entries m' (n - 1) ∷ drop 1 (stack m n)
  stack-top {m} {m'} n some b = stack-parts m' n some ∙ ap (λ l. entries m' (n - 1) ∷ l) (stack-beside (n - 1) b (omega arith) ∙ sym (ap (drop 1) (stack-parts m n some)))

  -- what holds of each list of a stack holds of the list of each of its indices
  pub stack-each : (P : List (K × X) → Type 0) (m : Indexed K X C) (n : ℕ) → AllByRecursion P (stack m n) → (i : ℕ) → i < n → P (entries m i)
  stack-each P m zero all i low = absurd (omega (arith, low))
  stack-each P m (suc n) all i low = elim (leb_tells n i) [
    | inl w ↦ let is : i ≡ n = omega (arith, low, w.1) in subst (λ k. P (entries m k)) (sym is) all.0
    | inr w ↦ stack-each P m n all.1 i w.1
  ]

  -- An insertion of k at i stays within the room for all maps, of at most `most` entries each: where those of the first n have no more, and
  -- that of i fewer if k is absent, and all other maps are empty.
  pub stays-within : (cmp : K → K → Ordering) (m : Indexed K X C) (n most i : ℕ) (k : K) → AllByRecursion (λ es. length es ≤ most) (stack m n)
      → ((j : ℕ) → n ≤ j → entries m j ≡ []) → (is_present cmp (entries m i) k ≡ false → length (entries m i) < most) → StaysWithin cmp (count m) most m i k
  stays-within cmp m n most i k few none here = record {
    few = omega arith;
    each = λ j. elim (leb_tells n j) [
      | inl w ↦ omega (arith, ap length (none j w.1))
      | inr w ↦ stack-each (λ es. length es ≤ most) m n few j w.1
    ];
    here = here;
  }
