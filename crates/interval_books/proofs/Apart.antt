-- Lists of bookings that are apart: their starts increase, and they stay apart after insertions and removals.
use Rattle.bforest.proofs.Clients.{nat-less, nat-not_less}
use Rattle.bforest.proofs.Entries.{put-absent}
use Rattle.bforest.proofs.Entries.{place-here, place-later}
use Rattle.bforest.specs.Entries.{IsIncreasing, cut, is_present, place, put}
use Rattle.interval_books.specs.Bookings.{AreApart, first_met, meets}
use Rattle.std.proofs.Common.{Bool, List, None, Some, [], ap, arith, cond, false, if◌then◌else◌, inl, inr, insert, refl, remove, slice_get, subst, suc, sym, true, zero, ◌&&◌, ◌<◌, ◌∙◌, ◌∷◌, ◌≡◌, ◌≤◌, ℕ}
use Rattle.std.proofs.lemmas.Bool.{cases_lt, cases_order, le-ltb, lt-ltb}
use Rattle.std.proofs.lemmas.Cmp.{nat_cmp_total}
use Rattle.std.specs.List.Sorted.{IsStrictlySortedBy}
use Rattle.std.specs.List.{AllByRecursion, find}
use Rattle.std.specs.Map.{keys_of}
use Rattle.std.specs.Option.{is_some, option_and_then}
use Rattle.std.specs.Ordering.{is_eq, nat_cmp, ordering_reverse}
use Rattle.std.specs.Prelude.{nat_lt}
use Rattle.std.specs.declared.cmp.Ordering.TheVariants.{Greater, Less}

-- whether an interval meets another, by the two comparisons
pub met : (s e : ℕ) (x : ℕ × ℕ) → x.0 < e → s < x.1 → meets s e x ≡ true
met s e x h k = λ j. lt-ltb x.0 e h j && lt-ltb s x.1 k j

pub not_met-after : (s e : ℕ) (x : ℕ × ℕ) → e ≤ x.0 → meets s e x ≡ false
not_met-after s e x h = ap (λ t. t && nat_lt s x.1) (le-ltb x.0 e h)

pub not_met-before : (s e : ℕ) (x : ℕ × ℕ) → x.1 ≤ s → meets s e x ≡ false
not_met-before s e x h = ap (λ t. nat_lt x.0 e && t) (le-ltb s x.1 h) ∙ go (nat_lt x.0 e)
  where
    go : (t : Bool) → (t && false) ≡ false
    go true = refl
    go false = refl

module _ {X : Type 0} where
  -- what holds of each element of a list and of one more holds of each after its insertion
  pub all-insert : (P : X → Type 0) (xs : List X) (p : ℕ) (y : X) → AllByRecursion P xs → P y → AllByRecursion P (insert xs p y)
  all-insert P [] zero y h k = (k, tt)
  all-insert P [] (suc p) y h k = (k, tt)
  all-insert P (x ∷ xs) zero y h k = (k, h)
  all-insert P (x ∷ xs) (suc p) y h k = (h.0, all-insert P xs p y h.1 k)

  -- what holds of each element of a list holds of each after a removal
  pub all-remove : (P : X → Type 0) (xs : List X) (p : ℕ) → AllByRecursion P xs → AllByRecursion P (remove xs p)
  all-remove P [] zero h = tt
  all-remove P [] (suc p) h = tt
  all-remove P (x ∷ xs) zero h = h.1
  all-remove P (x ∷ xs) (suc p) h = (h.0, all-remove P xs p h.1)

  -- where each element fails a test, `find` finds none
  pub none-found : (P : X → Type 0) (test : X → Bool) → ((x : X) → P x → test x ≡ false) → (xs : List X) → AllByRecursion P xs → find test xs ≡ None
  none-found P test fails [] h = refl
  none-found P test fails (x ∷ xs) h = ap (λ t. cond t (Some x) (find test xs)) (fails x h.0) ∙ none-found P test fails xs h.1

-- where all start at b or later, all start at a lower number or later
pub all-lower : (a b : ℕ) (xs : List (ℕ × ℕ)) → a ≤ b → AllByRecursion (λ y. b ≤ y.0) xs → AllByRecursion (λ y. a ≤ y.0) xs
all-lower a b [] h k = tt
all-lower a b (x ∷ xs) h k = (let l = k.0 in omega (arith, l, h), all-lower a b xs h k.1)

-- starts at b or later are greater than a number below b
greater_starts : (a b : ℕ) (xs : List (ℕ × ℕ)) → a < b → AllByRecursion (λ y. b ≤ y.0) xs → AllByRecursion (λ k. nat_cmp a k ≡ Less) (keys_of xs)
greater_starts a b [] h k = tt
greater_starts a b (x ∷ xs) h k = (nat-less a x.0 (let l = k.0 in omega (arith, l, h)), greater_starts a b xs h k.1)

-- the starts of bookings that are apart increase
pub increasing : (es : List (ℕ × ℕ)) → AreApart es → IsIncreasing nat_cmp es
unfolding IsStrictlySortedBy
increasing [] h = tt
increasing (x ∷ xs) h = (greater_starts x.0 x.1 xs h.0 h.1, increasing xs h.2)

-- where no booking meets an interval, neither the first one nor any of the rest does
pub unmet : (s e : ℕ) (x : ℕ × ℕ) (xs : List (ℕ × ℕ)) → first_met (x ∷ xs) s e ≡ None → (meets s e x ≡ false) × (first_met xs s e ≡ None)
unmet s e x xs = go (meets s e x)
  where
    go : (t : Bool) → cond t (Some x) (first_met xs s e) ≡ None → (t ≡ false) × (first_met xs s e ≡ None)
    go true h = absurd (cc)
    go false h = (refl, h)

-- a booking that does not meet an interval does not begin at its start
same_start : (s e : ℕ) (x : ℕ × ℕ) → s < e → x.0 < x.1 → meets s e x ≡ false → is_eq (nat_cmp x.0 s) ≡ false
same_start s e x l w h = elim (cases_order x.0 s) [
  | inl same ↦ let yes : meets s e x ≡ true = met s e x (let d = same in omega (arith, d, l)) (let d = same in omega (arith, d, w)) in absurd (cc)
  | inr other ↦ elim other [
    | inl before ↦ ap is_eq (nat-less x.0 s before)
    | inr after ↦ ap is_eq (behind after)
  ]
]
  where
    behind : s < x.0 → nat_cmp x.0 s ≡ Greater
    behind after = nat_cmp_total.antisymm x.0 s ∙ ap ordering_reverse (nat-less s x.0 after)

-- whether the booking at a place begins at a start; none does where no booking meets the interval
begins : List (ℕ × ℕ) → ℕ → ℕ → Bool
begins es s p = is_some (option_and_then (λ x. if is_eq (nat_cmp x.0 s) then Some x else None) (slice_get es p))

none_begins : (s e : ℕ) (es : List (ℕ × ℕ)) (p : ℕ) → s < e → AreApart es → first_met es s e ≡ None → begins es s p ≡ false
unfolding begins
none_begins s e [] zero l h n = refl
none_begins s e [] (suc p) l h n = refl
none_begins s e (x ∷ xs) zero l h n = ap (λ t. is_some (if t then Some x else None)) (same_start s e x l h.0 (unmet s e x xs n).0)
none_begins s e (x ∷ xs) (suc p) l h n = none_begins s e xs p l h.2 (unmet s e x xs n).1

pub absent : (s e : ℕ) (es : List (ℕ × ℕ)) → s < e → AreApart es → first_met es s e ≡ None → is_present nat_cmp es s ≡ false
unfolding begins
absent s e es l h n = none_begins s e es (place nat_cmp es s) l h n

-- the place of a start, by the first booking
pub place-after : (x : ℕ × ℕ) (xs : List (ℕ × ℕ)) (s : ℕ) → x.0 < s → place nat_cmp (x ∷ xs) s ≡ suc (place nat_cmp xs s)
place-after x xs s h = place-later nat_cmp nat_cmp_total x xs s (nat-less x.0 s h)

pub place-first : (x : ℕ × ℕ) (xs : List (ℕ × ℕ)) (s : ℕ) → AreApart (x ∷ xs) → s ≤ x.0 → place nat_cmp (x ∷ xs) s ≡ 0
place-first x xs s a h = place-here nat_cmp nat_cmp_total x xs s (increasing (x ∷ xs) a) (nat-not_less x.0 s h)

-- bookings stay apart where an interval that meets none is inserted at its place
insert-apart : (s e : ℕ) (es : List (ℕ × ℕ)) → s < e → AreApart es → first_met es s e ≡ None → AreApart (insert es (place nat_cmp es s) (s, e))
insert-apart s e [] l h n = (l, tt, tt)
insert-apart s e (x ∷ xs) l h n = elim (cases_lt x.0 s) [
  | inl before ↦ subst (λ p. AreApart (insert (x ∷ xs) p (s, e))) (sym (place-after x xs s before)) (h.0, all-insert (λ y. x.1 ≤ y.0) xs (place nat_cmp xs s) (s, e) h.1 (ended before), insert-apart s e xs l h.2 none.1)
  | inr behind ↦ subst (λ p. AreApart (insert (x ∷ xs) p (s, e))) (sym (place-first x xs s h behind)) (l, (later behind, all-lower e x.1 xs (let w = h.0 in let b = later behind in omega (arith, w, b)) h.1), h)
]
  where
    none : (meets s e x ≡ false) × (first_met xs s e ≡ None)
    none = unmet s e x xs n

    ended : x.0 < s → x.1 ≤ s
    ended before = elim (cases_lt s x.1) [
      | inl inside ↦ let yes : meets s e x ≡ true = met s e x (omega (arith, before, l)) inside in let no = none.0 in absurd (cc)
      | inr out ↦ out
    ]

    later : s ≤ x.0 → e ≤ x.0
    later behind = elim (cases_lt x.0 e) [
      | inl inside ↦ let yes : meets s e x ≡ true = met s e x inside (let w = h.0 in omega (arith, behind, w)) in let no = none.0 in absurd (cc)
      | inr out ↦ out
    ]

pub put-insert : (s e : ℕ) (es : List (ℕ × ℕ)) → s < e → AreApart es → first_met es s e ≡ None → put nat_cmp es s e ≡ insert es (place nat_cmp es s) (s, e)
put-insert s e es l h n = put-absent nat_cmp es s e (absent s e es l h n)

pub put-apart : (s e : ℕ) (es : List (ℕ × ℕ)) → s < e → AreApart es → first_met es s e ≡ None → AreApart (put nat_cmp es s e)
put-apart s e es l h n = subst AreApart (sym (put-insert s e es l h n)) (insert-apart s e es l h n)

-- bookings stay apart after a removal
remove-apart : (es : List (ℕ × ℕ)) (p : ℕ) → AreApart es → AreApart (remove es p)
remove-apart [] zero h = tt
remove-apart [] (suc p) h = tt
remove-apart (x ∷ xs) zero h = h.2
remove-apart (x ∷ xs) (suc p) h = (h.0, all-remove (λ y. x.1 ≤ y.0) xs p h.1, remove-apart xs p h.2)

pub cut-apart : (es : List (ℕ × ℕ)) (s : ℕ) → AreApart es → AreApart (cut nat_cmp es s)
cut-apart es s h = go (is_present nat_cmp es s)
  where
    go : (t : Bool) → AreApart (if t then remove es (place nat_cmp es s) else es)
    go true = remove-apart es (place nat_cmp es s) h
    go false = h
