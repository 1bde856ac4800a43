-- Searches among bookings after an insertion, and after a removal and an insertion.
use Rattle.bforest.proofs.Clients.{nat-less}
use Rattle.bforest.specs.Entries.{cut, entry_for, is_present, place, put, value_for}
use Rattle.interval_books.proofs.Apart.{met, place-after, place-first, put-insert, unmet}
use Rattle.interval_books.specs.Bookings.{AreApart, contains, end_of, first_met, holding, meets}
use Rattle.interval_books.specs.Books.{Books, Cancelled, MayAnswer, Recorded, at_moment, bookings, end_at, need, objection, resource_count, table}
use Rattle.interval_books.specs.declared.book_error.BookError.TheVariants as why
use Rattle.interval_books.specs.declared.book_error.BookError.{BookError}
use Rattle.std.proofs.Common.{Bool, Err, IfOk, List, None, Ok, OnOk, Option, Result, Some, [], ap, arith, cond, false, if◌then◌else◌, inl, inr, insert, not, refl, remove, slice_get, subst, suc, sym, true, zero, ◌&&◌, ◌<◌, ◌∙◌, ◌∷◌, ◌≡◌, ◌≤◌, ℕ}
use Rattle.std.proofs.lemmas.Bool.{and_parts, cases_lt, cases_order, le-ltb, ltb-false, ltb-true, lt-ltb, not-true}
use Rattle.std.proofs.lemmas.Cmp.{nat_cmp_total}
use Rattle.std.specs.List.{AllByRecursion, find}
use Rattle.std.specs.Option.{is_some, ok_or, option_and_then, option_map}
use Rattle.std.specs.Ordering.{is_eq, nat_cmp, ordering_reverse}
use Rattle.std.specs.Prelude.{nat_lt}

-- where a booking succeeds, the interval is not empty and meets none
pub done : (b : Books) (r s e : ℕ) → MayAnswer (table b) (need b r s) (objection b r s e) (Ok tt) → (s < e) × (first_met (bookings b r) s e ≡ None)
done b r s e answer = let w = go (nat_lt r (resource_count b)) (nat_lt s e) (first_met (bookings b r) s e) answer in (ltb-true s e w.0, w.1)
  where
    go : (t u : Bool) (o : Option (ℕ × ℕ)) → MayAnswer (table b) (need b r s) (if t then if u then option_map (λ (x : ℕ × ℕ). why.Overlaps x.0 x.1) o else Some why.EmptyInterval else Some why.UnknownResource) (Ok tt) → (u ≡ true) × (o ≡ None)
    go true true None answer = (refl, refl)
    go true true (Some x) answer = absurd (cc)
    go true false o answer = absurd (cc)
    go false u o answer = absurd (cc)

-- an element that passes a test is found among others that fail it
found-inserted : {X : Type 0} (test : X → Bool) (xs : List X) (p : ℕ) (y : X) → find test xs ≡ None → test y ≡ true → find test (insert xs p y) ≡ Some y
found-inserted test [] zero y none passes = ap (λ t. cond t (Some y) None) passes
found-inserted test [] (suc p) y none passes = ap (λ t. cond t (Some y) None) passes
found-inserted test (x ∷ xs) zero y none passes = ap (λ t. cond t (Some y) (find test (x ∷ xs))) passes
found-inserted test (x ∷ xs) (suc p) y none passes = go (λ rest. found-inserted test xs p y rest passes) (test x) none
  where
    go : (find test xs ≡ None → find test (insert xs p y) ≡ Some y) → (t : Bool) → cond t (Some x) (find test xs) ≡ None → cond t (Some x) (find test (insert xs p y)) ≡ Some y
    go rest true none = absurd (cc)
    go rest false none = rest none

-- where no booking meets an interval, none contains a moment of the interval
none-contains : (s e m : ℕ) (es : List (ℕ × ℕ)) → s ≤ m → m < e → first_met es s e ≡ None → find (contains m) es ≡ None
none-contains s e m [] l h none = refl
none-contains s e m (x ∷ xs) l h none = ap (λ t. cond t (Some x) (find (contains m) xs)) (go (contains m x) refl) ∙ none-contains s e m xs l h (unmet s e x xs none).1
  where
    go : (t : Bool) → contains m x ≡ t → t ≡ false
    go false is = refl
    go true is =
        let both = and_parts (not (nat_lt m x.0)) (nat_lt m x.1) is in
        let from : x.0 ≤ m = ltb-false m x.0 (not-true (nat_lt m x.0) both.0) in
        let to : m < x.1 = ltb-true m x.1 both.1 in
        let yes : meets s e x ≡ true = met s e x (omega (arith, from, h)) (omega (arith, l, to)) in
        let no : meets s e x ≡ false = (unmet s e x xs none).0 in
        absurd (cc)

-- an interval that is inserted is found at each of its moments
pub asked : (s e m : ℕ) (es : List (ℕ × ℕ)) → s ≤ m → m < e → AreApart es → first_met es s e ≡ None → holding (put nat_cmp es s e) m ≡ Some (s, e)
asked s e m es l h apart none =
    ap (find (contains m)) (put-insert s e es (omega (arith, l, h)) apart none) ∙ found-inserted (contains m) es (place nat_cmp es s) (s, e) (none-contains s e m es l h none) (λ j. not (le-ltb m s l j) && lt-ltb m e h j)

-- the place of a start that is at most all others is 0
place-none : (s b : ℕ) (xs : List (ℕ × ℕ)) → s ≤ b → AreApart xs → AllByRecursion (λ y. b ≤ y.0) xs → place nat_cmp xs s ≡ 0
place-none s b [] l a h = refl
place-none s b (x ∷ xs) l a h = place-first x xs s a (let k = h.0 in omega (arith, k, l))

-- the value that a lookup finds at a place
found_at : List (ℕ × ℕ) → ℕ → ℕ → Option ℕ
found_at es s p = option_map (λ x. x.1) (option_and_then (λ x. if is_eq (nat_cmp x.0 s) then Some x else None) (slice_get es p))

-- a first booking that a lookup finds begins at that start
first-found : (s e : ℕ) (x : ℕ × ℕ) → option_map (λ (y : ℕ × ℕ). y.1) (if is_eq (nat_cmp x.0 s) then Some x else None) ≡ Some e → x ≡ (s, e)
first-found s e x found = go (is_eq (nat_cmp x.0 s)) refl found
  where
    same : is_eq (nat_cmp x.0 s) ≡ true → x.0 ≡ s
    same tied = elim (cases_order x.0 s) [
      | inl even ↦ even
      | inr other ↦ elim other [
        | inl before ↦ let no : is_eq (nat_cmp x.0 s) ≡ false = ap is_eq (nat-less x.0 s before) in absurd (cc)
        | inr after ↦ let no : is_eq (nat_cmp x.0 s) ≡ false = ap is_eq (nat_cmp_total.antisymm x.0 s ∙ ap ordering_reverse (nat-less s x.0 after)) in absurd (cc)
      ]
    ]

    go : (t : Bool) → is_eq (nat_cmp x.0 s) ≡ t → option_map (λ (y : ℕ × ℕ). y.1) (if t then Some x else None) ≡ Some e → x ≡ (s, e)
    go false is found = absurd (cc)
    go true is found = let end : x.1 ≡ e = cc in λ j. (same is j, end j)

-- removing a booking and inserting it again gives the old list
rejoined : (s e : ℕ) (es : List (ℕ × ℕ)) → AreApart es → value_for nat_cmp es s ≡ Some e → insert (remove es (place nat_cmp es s)) (place nat_cmp (remove es (place nat_cmp es s)) s) (s, e) ≡ es
unfolding found_at
rejoined s e [] apart found = absurd (cc)
rejoined s e (x ∷ xs) apart found = elim (cases_lt x.0 s) [
  | inl before ↦
      let p = place-after x xs s before in
      ap (λ n. insert (remove (x ∷ xs) n) (place nat_cmp (remove (x ∷ xs) n) s) (s, e)) p ∙ ap (λ n. insert (x ∷ remove xs (place nat_cmp xs s)) n (s, e)) (place-after x (remove xs (place nat_cmp xs s)) s before) ∙ ap (λ ys. x ∷ ys) (rejoined s e xs apart.2 (sym (ap (found_at (x ∷ xs) s) p) ∙ found))
  | inr behind ↦
      let p = place-first x xs s apart behind in
      ap (λ n. insert (remove (x ∷ xs) n) (place nat_cmp (remove (x ∷ xs) n) s) (s, e)) p ∙ ap (λ n. insert xs n (s, e)) (place-none s x.1 xs (let w = apart.0 in omega (arith, w, behind)) apart.2 apart.1) ∙ ap (λ y. y ∷ xs) (sym (first-found s e x (sym (ap (found_at (x ∷ xs) s) p) ∙ found)))
]

present : (es : List (ℕ × ℕ)) (s e : ℕ) → value_for nat_cmp es s ≡ Some e → is_present nat_cmp es s ≡ true
present es s e = go (entry_for nat_cmp es s)
  where
    go : (o : Option (ℕ × ℕ)) → option_map (λ (x : ℕ × ℕ). x.1) o ≡ Some e → is_some o ≡ true
    go None found = absurd (cc)
    go (Some x) found = refl

-- the end that a cancellation returns is that of the booking that begins there
pub ended : (b : Books) (r s e : ℕ) → Ok e ≡ end_at b r s → end_of (bookings b r) s ≡ Some e
ended b r s e = go (nat_lt r (resource_count b)) (end_of (bookings b r) s)
  where
    go : (t : Bool) (o : Option ℕ) → Ok e ≡ (if t then ok_or o why.NotBooked else Err why.UnknownResource) → o ≡ Some e
    go true None is = absurd (cc)
    go true (Some x) is = let same : e ≡ x = cc in ap Some (sym same)
    go false o is = absurd (cc)

pub again : (s e : ℕ) (es : List (ℕ × ℕ)) → s < e → AreApart es → AreApart (cut nat_cmp es s) → value_for nat_cmp es s ≡ Some e → first_met (cut nat_cmp es s) s e ≡ None → put nat_cmp (cut nat_cmp es s) s e ≡ es
again s e es l apart left found none =
    put-insert s e (cut nat_cmp es s) l left none ∙ ap (λ t. insert (if t then remove es (place nat_cmp es s) else es) (place nat_cmp (if t then remove es (place nat_cmp es s) else es) s) (s, e)) (present es s e found) ∙ rejoined s e es apart found

-- the answer of `at` after a booking that succeeded
pub answers : (b b' : Books) (r s e m : ℕ) (told : Result (Option (ℕ × ℕ)) BookError) → Recorded b r s e (Ok tt) b' → told ≡ at_moment b' r m → s ≤ m → m < e → IfOk told (λ found. found ≡ Some (s, e))
answers b b' r s e m told call is from before =
    let d = done b r s e call.answer in
    subst (λ t. IfOk t (λ found. found ≡ Some (s, e))) (sym is) (go (nat_lt r (resource_count b')) (holding (bookings b' r) m) (ap (λ es. holding es m) call.booked ∙ asked s e m (bookings b r) from before (call.was_apart r) d.1))
  where
    go : (t : Bool) (o : Option (ℕ × ℕ)) → o ≡ Some (s, e) → IfOk (if t then Ok o else Err why.UnknownResource) (λ found. found ≡ Some (s, e))
    go true o is = is
    go false o is = tt

-- cancelling a booking and booking it again restores the bookings
pub restored : (b b' b'' : Books) (r s e : ℕ) (told : Result (Unit {0}) BookError) → Cancelled b r s (Ok e) b' → Recorded b' r s e told b'' → OnOk told (bookings b'' r ≡ bookings b r)
restored b b' b'' r s e (Err x) first call = tt
restored b b' b'' r s e (Ok tt) first call =
    let d = done b' r s e call.answer in
    call.booked ∙ ap (λ es. put nat_cmp es s e) first.cancelled ∙ again s e (bookings b r) d.0 (first.was_apart r) (subst AreApart first.cancelled (first.apart r)) (ended b r s e first.answer) (subst (λ es. first_met es s e ≡ None) first.cancelled d.1)
