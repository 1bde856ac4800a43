-- Whether the entries that are given increase, from the first on.
use Rattle.bforest_nodes.specs.Entries.{IsIncreasing}
use Rattle.bforest_trees.proofs.Increasing.{after_less, alone, less-after}
use Rattle.bforest_trees.specs.Order.{IsUnorderedAt}
use Rattle.std.proofs.Common.{List, None, Some, [], ap, arith, false, length, refl, slice_get, subst, suc, sym, take, true, zero, ◌+◌, ◌-◌, ◌∙◌, ◌∷◌, ◌≡◌, ◌≤◌, ℕ}
use Rattle.std.proofs.lemmas.List.{take_all}
use Rattle.std.specs.Cmp.{IsTotalOrder}
use Rattle.std.specs.Map.{keys_of}
use Rattle.std.specs.Ordering.{is_lt}
use Rattle.std.specs.declared.cmp.Ordering.{Ordering}
use Rattle.std.specs.declared.cmp.Ordering.TheVariants.{Equal, Greater, Less}

less-is : (r : Ordering) → is_lt r ≡ true → r ≡ Less
less-is Less t = refl
less-is Equal t = absurd (cc)
less-is Greater t = absurd (cc)

module _ {K X : Type 0} (cmp : K → K → Ordering) where
  -- the first entry alone increases
  pub ordered-first : (es : List (K × X)) → IsIncreasing cmp (take 1 es)
  ordered-first [] = alone cmp None
  ordered-first (e ∷ es) = alone cmp (Some e.0)

  -- with the next key, which is greater, the entries still increase
  longer : (o : IsTotalOrder cmp) (es : List (K × X)) (n : ℕ) (a b : K × X) → slice_get es n ≡ Some a → slice_get es (suc n) ≡ Some b → cmp a.0 b.0 ≡ Less
      → IsIncreasing cmp (take (suc n) es) → IsIncreasing cmp (take (suc (suc n)) es)
  longer o [] n a b at next l h = alone cmp None
  longer o (x ∷ []) n a b at next l h = alone cmp (Some x.0)
  longer o (x ∷ y ∷ es) zero a b at next l h = after_less cmp o x.0 y.0 [] (cc (l)) (alone cmp (Some y.0))
  longer o (x ∷ y ∷ es) (suc n) a b at next l h = let s = less-after cmp x.0 y.0 (keys_of (take n es)) h in
      after_less cmp o x.0 y.0 (keys_of (take (suc n) es)) s.0 (longer o (y ∷ es) n a b at next l s.1)

  -- of entries that increase, neighbours do
  neighbours : (es : List (K × X)) (n : ℕ) (a b : K × X) → slice_get es n ≡ Some a → slice_get es (suc n) ≡ Some b → IsIncreasing cmp (take (suc (suc n)) es) → cmp a.0 b.0 ≡ Less
  neighbours [] n a b at next h = absurd (cc)
  neighbours (x ∷ []) zero a b at next h = absurd (cc)
  neighbours (x ∷ []) (suc n) a b at next h = absurd (cc)
  neighbours (x ∷ y ∷ es) zero a b at next h = let s = less-after cmp x.0 y.0 [] h in cc (s.0)
  neighbours (x ∷ y ∷ es) (suc n) a b at next h = neighbours (y ∷ es) n a b at next (less-after cmp x.0 y.0 (keys_of (take (suc n) es)) h).1

  module _ (es : List (K × X)) (next : ℕ) (some : 1 ≤ next) {a b : K × X} (at : slice_get es (next - 1) ≡ Some a) (then : slice_get es next ≡ Some b) (up : IsIncreasing cmp (take next es)) where
    here : suc (next - 1) ≡ next
    here = omega (arith, some)

    behind : slice_get es (suc (next - 1)) ≡ Some b
    behind = ap (slice_get es) here ∙ then

    before : IsIncreasing cmp (take (suc (next - 1)) es)
    before = subst (λ z. IsIncreasing cmp (take z es)) (sym here) up

    pub ordered-next : IsTotalOrder cmp → is_lt (cmp a.0 b.0) ≡ true → IsIncreasing cmp (take (next + 1) es)
    ordered-next o l = let two : suc (suc (next - 1)) ≡ next + 1 = omega (arith, some) in
        subst (λ z. IsIncreasing cmp (take z es)) two (longer o es (next - 1) a b at behind (less-is (cmp a.0 b.0) l) before)

    pub unordered-at : is_lt (cmp a.0 b.0) ≡ false → IsUnorderedAt cmp es (next - 1)
    unordered-at l = record { before = before; here = λ h. (let less = neighbours es (next - 1) a b at behind h in absurd cc) }

  pub ordered-all : (es : List (K × X)) (next : ℕ) → IsIncreasing cmp (take next es) → length es ≤ next → IsIncreasing cmp es
  ordered-all es next up past = subst (IsIncreasing cmp) (take_all next es past) up

  up-take : (o : IsTotalOrder cmp) (n : ℕ) (es : List (K × X)) → IsIncreasing cmp es → IsIncreasing cmp (take n es)
  up-take o zero es h = alone cmp None
  up-take o (suc n) [] h = alone cmp None
  up-take o (suc zero) (x ∷ es) h = alone cmp (Some x.0)
  up-take o (suc (suc n)) (x ∷ []) h = alone cmp (Some x.0)
  up-take o (suc (suc n)) (x ∷ y ∷ es) h = let s = less-after cmp x.0 y.0 (keys_of es) h in after_less cmp o x.0 y.0 (keys_of (take n es)) s.0 (up-take o (suc n) (y ∷ es) s.1)

  -- entries with such a place do not increase
  pub unordered-not : IsTotalOrder cmp → {es : List (K × X)} {place : ℕ} → IsUnorderedAt cmp es place → ¬ IsIncreasing cmp es
  unordered-not o {es} {place} u h = u.here (up-take o (suc (suc place)) es h)
