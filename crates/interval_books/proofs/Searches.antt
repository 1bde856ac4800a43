-- What searches in a map find among bookings that are apart.
use Rattle.bforest.proofs.Clients.{at_least-here, at_least-later, at_most-here, at_most-later, at_most-none, nat-greater, nat-less, nat-not_greater, nat-not_less}
use Rattle.bforest.specs.Bounds.{entry_at_least, entry_at_most}
use Rattle.interval_books.proofs.Apart.{met, none-found, not_met-after, not_met-before}
use Rattle.interval_books.specs.Bookings.{AreApart, contains, first_met, holding, meets}
use Rattle.std.proofs.Common.{Bool, List, None, Option, Some, [], ap, arith, cond, false, if◌then◌else◌, inl, inr, not, refl, sym, true, ◌&&◌, ◌<◌, ◌∙◌, ◌∷◌, ◌≡◌, ◌≤◌, ℕ}
use Rattle.std.proofs.lemmas.Bool.{cases_lt, le-ltb, lt-ltb}
use Rattle.std.specs.List.{AllByRecursion}
use Rattle.std.specs.Option.{is_some, option_or, unwrap_or}
use Rattle.std.specs.Ordering.{is_gt, is_lt, nat_cmp}
use Rattle.std.specs.Prelude.{nat_lt}

-- an optional interval, if it ends behind m
abbrev pub going_on : ℕ → Option (ℕ × ℕ) → Option (ℕ × ℕ)
going_on m None = None
going_on m (Some x) = if nat_lt m x.1 then Some x else None

-- an optional interval, if it begins before m
abbrev pub begun : ℕ → Option (ℕ × ℕ) → Option (ℕ × ℕ)
begun m None = None
begun m (Some x) = if nat_lt x.0 m then Some x else None

holds : (m : ℕ) (x : ℕ × ℕ) → x.0 ≤ m → m < x.1 → contains m x ≡ true
holds m x h k = λ j. not (le-ltb m x.0 h j) && lt-ltb m x.1 k j

holds-not-yet : (m : ℕ) (x : ℕ × ℕ) → m < x.0 → contains m x ≡ false
holds-not-yet m x h = ap (λ t. not t && nat_lt m x.1) (lt-ltb m x.0 h)

holds-no-more : (m : ℕ) (x : ℕ × ℕ) → x.1 ≤ m → contains m x ≡ false
holds-no-more m x h = ap (λ t. not (nat_lt m x.0) && t) (le-ltb m x.1 h) ∙ go (not (nat_lt m x.0))
  where
    go : (t : Bool) → (t && false) ≡ false
    go true = refl
    go false = refl

-- where all begin behind m, a search for the last that does not finds none
none-begun : (m b : ℕ) (xs : List (ℕ × ℕ)) → m < b → AllByRecursion (λ y. b ≤ y.0) xs → entry_at_most nat_cmp xs m ≡ None
none-begun m b xs low later = at_most-none nat_cmp m xs (behind xs later)
  where
    behind : (ys : List (ℕ × ℕ)) → AllByRecursion (λ y. b ≤ y.0) ys → AllByRecursion (λ y. is_gt (nat_cmp y.0 m) ≡ true) ys
    behind [] all = tt
    behind (y ∷ ys) all = (ap is_gt (nat-greater y.0 m (let k = all.0 in omega (arith, k, low))), behind ys all.1)

-- none of those that begin behind m contains it
none-holds : (m b : ℕ) (xs : List (ℕ × ℕ)) → m < b → AllByRecursion (λ y. b ≤ y.0) xs → holding xs m ≡ None
none-holds m b xs low later = none-found (λ y. b ≤ y.0) (contains m) (λ y k. holds-not-yet m y (omega (arith, k, low))) xs later

-- the entry at most m, if it ends behind m, is the booking that contains m
pub held : (m : ℕ) (es : List (ℕ × ℕ)) → AreApart es → going_on m (entry_at_most nat_cmp es m) ≡ holding es m
held m [] h = refl
held m (x ∷ xs) h = elim (cases_lt m x.0) [
  | inl low ↦
      ap (going_on m) (at_most-later nat_cmp m x xs (ap is_gt (nat-greater x.0 m low)) ∙ none-begun m x.1 xs (let w = h.0 in omega (arith, w, low)) h.1)
      ∙ sym (ap (λ t. cond t (Some x) (holding xs m)) (holds-not-yet m x low) ∙ none-holds m x.1 xs (let w = h.0 in omega (arith, w, low)) h.1)
  | inr at ↦ ap (going_on m) (at_most-here nat_cmp m x xs (nat-not_greater x.0 m at)) ∙ elim (cases_lt m x.1) [
    | inl inside ↦
        ap (λ o. going_on m (Some (unwrap_or o x))) (none-begun m x.1 xs inside h.1) ∙ ap (λ t. if t then Some x else None) (lt-ltb m x.1 inside)
        ∙ sym (ap (λ t. cond t (Some x) (holding xs m)) (holds m x at inside))
    | inr past ↦ over past (entry_at_most nat_cmp xs m) ∙ held m xs h.2 ∙ sym (ap (λ t. cond t (Some x) (holding xs m)) (holds-no-more m x past))
  ]
]
  where
    over : x.1 ≤ m → (o : Option (ℕ × ℕ)) → going_on m (Some (unwrap_or o x)) ≡ going_on m o
    over past None = ap (λ t. if t then Some x else None) (le-ltb m x.1 past)
    over past (Some y) = refl

-- the first booking met contains the start, or is the next one
pub first_or_next : (s e : ℕ) (es : List (ℕ × ℕ)) → s < e → AreApart es → option_or (holding es s) (begun e (entry_at_least nat_cmp es s)) ≡ first_met es s e
first_or_next s e [] some h = refl
first_or_next s e (x ∷ xs) some h = elim (cases_lt s x.0) [
  | inl later ↦
      (λ j. option_or ((ap (λ t. cond t (Some x) (holding xs s)) (holds-not-yet s x later) ∙ none-holds s x.1 xs (let w = h.0 in omega (arith, w, later)) h.1) j)
      (begun e (at_least-here nat_cmp s x xs (nat-not_less x.0 s (omega (arith, later))) j))) ∙ next later
  | inr at ↦ elim (cases_lt s x.1) [
    | inl inside ↦ ap (λ t. option_or (cond t (Some x) (holding xs s)) (begun e (entry_at_least nat_cmp (x ∷ xs) s))) (holds s x at inside)
        ∙ sym (ap (λ t. cond t (Some x) (first_met xs s e)) (met s e x (omega (arith, at, some)) inside))
    | inr over ↦
        (λ j. option_or (cond (holds-no-more s x over j) (Some x) (holding xs s)) (begun e (at_least-later nat_cmp s x xs (ap is_lt (nat-less x.0 s (let w = h.0 in omega (arith, w, over)))) j)))
        ∙ first_or_next s e xs some h.2 ∙ sym (ap (λ t. cond t (Some x) (first_met xs s e)) (not_met-before s e x over))
  ]
]
  where
    next : s < x.0 → begun e (Some x) ≡ first_met (x ∷ xs) s e
    next later = elim (cases_lt x.0 e) [
      | inl inside ↦ ap (λ t. if t then Some x else None) (lt-ltb x.0 e inside) ∙ sym (ap (λ t. cond t (Some x) (first_met xs s e)) (met s e x inside (let w = h.0 in omega (arith, w, later))))
      | inr out ↦ ap (λ t. if t then Some x else None) (le-ltb x.0 e out)
          ∙ sym (ap (λ t. cond t (Some x) (first_met xs s e)) (not_met-after s e x out) ∙ none-found (λ y. x.1 ≤ y.0) (meets s e) (λ y k. not_met-after s e y (let w = h.0 in omega (arith, k, w, out))) xs h.1)
    ]

module _ (s e : ℕ) (es : List (ℕ × ℕ)) (b : Option (ℕ × ℕ)) (some : s < e) (h : AreApart es) (at : b ≡ holding es s) where
  -- the first booking met where a booking contains the start
  pub first-held : is_some b ≡ true → b ≡ first_met es s e
  first-held is = go b is ∙ ap (λ o. option_or o (begun e (entry_at_least nat_cmp es s))) at ∙ first_or_next s e es some h
    where
      go : (o : Option (ℕ × ℕ)) → is_some o ≡ true → o ≡ option_or o (begun e (entry_at_least nat_cmp es s))
      go None w = absurd (cc)
      go (Some x) w = refl

  -- the first booking met where no booking contains the start
  pub first-next : (n : Option (ℕ × ℕ)) → is_some b ≡ false → n ≡ entry_at_least nat_cmp es s → begun e n ≡ first_met es s e
  first-next n none is = ap (begun e) is ∙ go b none ∙ ap (λ o. option_or o (begun e (entry_at_least nat_cmp es s))) at ∙ first_or_next s e es some h
    where
      go : (o : Option (ℕ × ℕ)) → is_some o ≡ false → begun e (entry_at_least nat_cmp es s) ≡ option_or o (begun e (entry_at_least nat_cmp es s))
      go None w = refl
      go (Some x) w = absurd (cc)
