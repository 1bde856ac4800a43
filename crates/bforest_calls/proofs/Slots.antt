-- What holds of each element of a list, while elements are replaced in turn, after one was replaced, and of an element or its default.
use Rattle.std.proofs.Common.{List, None, Option, Some, [], arith, get_or, inl, inr, length, refl, subst, suc, sym, zero, ◌%◌, ◌+◌, ◌<◌, ◌∷◌, ◌≡◌, ◌≢◌, ◌≤◌, ℕ}
use Rattle.std.proofs.lemmas.Bool.{cases_eq}
use Rattle.std.proofs.lemmas.List.Elements.{All-head, All-set, All-tail, All-weaker}
use Rattle.std.proofs.lemmas.List.{get_or-set_other, get_or-set_same, length-set}
use Rattle.std.specs.Prelude.{All, IfSome, slice_set}

module _ {X : Type 0} (P Q : X → Type 0) where
  -- Q holds of the elements before an index, and P of those from there on
  pub record Sifted (i : ℕ) (xs : List X) : Type 0 where
    pub before : (k : ℕ) (d : X) → k < length xs → k < i → Q (get_or xs k d)
    pub behind : (k : ℕ) (d : X) → k < length xs → i ≤ k → P (get_or xs k d)

  pub sifted-first : (xs : List X) → All P xs → Sifted 0 xs
  sifted-first xs all = record { before = λ k d within low. absurd (omega (arith, low)); behind = λ k d within low. all k d within }

  pub sifted-next : (i : ℕ) (xs : List X) (d y : X) → i < length xs → (P (get_or xs i d) → Q y) → Sifted i xs → Sifted (i + 1) (slice_set xs i y)
  sifted-next i xs d y within turns s = record {
    before = λ k e inside low. elim (cases_eq k i) [
      | inl is ↦ subst (λ n. Q (get_or (slice_set xs i y) n e)) (sym is) (subst Q (sym (get_or-set_same xs i y e within)) (turns (s.behind i d within (omega arith))))
      | inr ne ↦ subst Q (sym (get_or-set_other xs i k y e ne)) (s.before k e (subst (λ n. k < n) (length-set xs i y) inside) (omega (arith, low, ne)))
    ];
    behind = λ k e inside low.
        let ne : k ≢ i = omega (arith, low) in
        subst P (sym (get_or-set_other xs i k y e ne)) (s.behind k e (subst (λ n. k < n) (length-set xs i y) inside) (omega (arith, low)));
  }

  pub sifted-last : (i : ℕ) (xs : List X) → length xs ≤ i → Sifted i xs → All Q xs
  sifted-last i xs past s k d within = s.before k d within (omega (arith, past, within))

module _ {X : Type 0} (P : X → Type 0) where
  -- the element at an index, or the default behind the last one
  pub any-of : (xs : List X) (i : ℕ) (d : X) → P d → All P xs → P (get_or xs i d)
  any-of [] i d p all = p
  any-of (x ∷ xs) zero d p all = All-head P x xs all
  any-of (x ∷ xs) (suc i) d p all = any-of xs i d p (All-tail P x xs all)

-- what holds of nothing holds of each slot where none has something
pub none-learned : (P : Option (ℕ × ℕ) → Type 0) (slots : List (Option (ℕ × ℕ))) → P None → All (λ slot. slot ≡ None) slots → All P slots
none-learned P slots p all = All-weaker (λ slot. slot ≡ None) P (λ slot is. subst P (sym is) p) slots all

-- the slots after one of them learned what was told
pub learned : (P : Option (ℕ × ℕ) → Type 0) (told : Option (ℕ × ℕ)) (slots after : List (Option (ℕ × ℕ))) → (told ≡ None → after ≡ slots)
    → IfSome told (λ it. after ≡ slice_set slots (it.0 % 8) (Some it)) → P told → All P slots → All P after
learned P None slots after same is p all = subst (All P) (sym (same refl)) all
learned P (Some it) slots after same is p all = subst (All P) (sym is) (All-set P slots (it.0 % 8) (Some it) p all)
