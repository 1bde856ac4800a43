-- A range that is put in, and joined to those that it overlaps or touches.
use Rattle.bforest.proofs.Clients.{IsIncreasing-cons, IsIncreasing-none, LastAtMost, nat-at_least, nat-at_most, nat-behind, nat-greater, nat-in_front, nat-less, nat-not_greater, nat-tied, none-at_most, put-parts, some-at_most}
use Rattle.bforest.proofs.Each.{all-both, all-filter, all-map, all-zip, any-filter_all, any-filter_none, any-none, filter-filter}
use Rattle.bforest.specs.Bounds.{entry_at_most, without_between}
use Rattle.bforest.proofs.Entries.{is_present-put}
use Rattle.bforest.specs.Entries.{IsIncreasing, is_present, put}
use Rattle.joining_ranges_example.specs.Ranges.{AreApart, end_of, high_of, is_covered, is_in, low_of, start_of}
use Rattle.std.proofs.Common.{Bool, List, None, Option, Some, [], ap, arith, false, if◌then◌else◌, inl, inr, max, not, refl, subst, sym, true, ◌++◌, ◌&&◌, ◌<◌, ◌||◌, ◌∙◌, ◌∷◌, ◌≡◌, ◌≤◌, ℕ}
use Rattle.std.proofs.Math.Bool.{or-false, or-true}
use Rattle.std.proofs.lemmas.Bool.{cases_lt, le-leb, le-ltb, lt-leb, lt-ltb}
use Rattle.std.proofs.lemmas.Cmp.{nat_cmp_total}
use Rattle.std.proofs.lemmas.List.Elements.{filter-append}
use Rattle.std.proofs.lemmas.List.Folds.{list_any-append}
use Rattle.std.specs.List.{AllByRecursion, filter}
use Rattle.std.specs.Ordering.{is_gt, is_lt, nat_cmp}
use Rattle.std.specs.Prelude.{nat_lt}
use Rattle.std.specs.declared.cmp.Ordering.TheVariants.{Equal, Greater, Less}
use Rattle.std.specs.declared.cmp.Ordering.{Ordering}

abbrev Ranges : Type 0
Ranges = List (ℕ × ℕ)

pub increasing : (rs : Ranges) → AreApart rs → IsIncreasing nat_cmp rs
increasing [] h = IsIncreasing-none ℕ ℕ nat_cmp
increasing (x ∷ rs) h = IsIncreasing-cons nat_cmp x rs (all-map (λ y k. nat-less x.0 y.0 (let w = h.0 in omega (arith, w, k))) rs h.1) (increasing rs h.2)

-- the last range that begins at k or before, if there is one, parts the others
abbrev pub Parted : Ranges → ℕ → Option (ℕ × ℕ) → Type 0
Parted rs k None = AllByRecursion (λ y. k < y.0) rs
Parted rs k (Some r) = (before : Ranges) × (after : Ranges) × (rs ≡ before ++ r ∷ after) × (r.0 ≤ k) × (r.0 < r.1)
    × AllByRecursion (λ y. y.1 < r.0) before × AllByRecursion (λ y. (k < y.0) × (r.1 < y.0)) after

apart-parts : (before : Ranges) (r : ℕ × ℕ) (after : Ranges) → AreApart (before ++ r ∷ after) → (r.0 < r.1) × AllByRecursion (λ y. y.1 < r.0) before × AllByRecursion (λ y. r.1 < y.0) after
apart-parts [] r after h = (h.0, tt, h.1)
apart-parts (y ∷ before) r after h = let more = apart-parts before r after h.2 in (more.0, (first before h.1, more.1), more.2)
  where
    first : (ys : Ranges) → AllByRecursion (λ z. y.1 < z.0) (ys ++ r ∷ after) → y.1 < r.0
    first [] all = all.0
    first (z ∷ ys) all = first ys all.1

pub parted : (rs : Ranges) (k : ℕ) → AreApart rs → (o : Option (ℕ × ℕ)) → entry_at_most nat_cmp rs k ≡ o → Parted rs k o
parted rs k h None is = all-map (λ y t. nat-behind y.0 k t) rs (none-at_most nat_cmp k rs is)
parted rs k h (Some r) is =
    let l : LastAtMost nat_cmp k rs r = some-at_most nat_cmp k rs r is in
    let parts = apart-parts l.before r l.after (subst AreApart l.parts h) in
    (l.before, l.after, l.parts, nat-at_most r.0 k l.here, parts.0, parts.1, all-zip (λ y. k < y.0) (λ y. r.1 < y.0) l.after (all-map (λ y t. nat-behind y.0 k t) l.after l.behind) parts.2)

-- a point outside a range, and one inside
before : (a b p : ℕ) → p < a → is_in a b p ≡ false
before a b p h = ap (λ t. t && nat_lt p b) (lt-leb a p h)

behind : (a b p : ℕ) → b ≤ p → is_in a b p ≡ false
behind a b p h = elim (cases_lt p a) [
  | inl w ↦ before a b p w
  | inr w ↦ (λ j. le-leb a p w j && le-ltb p b h j)
]

inside : (a b p : ℕ) → a ≤ p → p < b → is_in a b p ≡ true
inside a b p h w = λ j. le-leb a p h j && lt-ltb p b w j

-- a point of one of several ranges is covered
held : (before : Ranges) (r : ℕ × ℕ) (after : Ranges) (p : ℕ) → r.0 ≤ p → p < r.1 → is_covered (before ++ r ∷ after) p ≡ true
held before r after p l w = list_any-append (λ y. is_in y.0 y.1 p) before (r ∷ after) ∙ ap (λ t. is_covered before p || (t || is_covered after p)) (inside r.0 r.1 p l w) ∙ or-true (is_covered before p)

-- Where a joined range begins: at s or before; no range lies across it; and what lies between it and s is covered.
abbrev pub Begins : Ranges → ℕ → ℕ → Type 0
Begins rs s low = (low ≤ s) × AllByRecursion (λ y. y.0 < low → y.1 < low) rs × ((p : ℕ) → low ≤ p → p < s → is_covered rs p ≡ true)

begins : (rs : Ranges) (s : ℕ) (o : Option (ℕ × ℕ)) → Parted rs s o → Begins rs s (start_of o s)
begins rs s None h = (omega arith, all-map (λ y l k. absurd (omega (arith, l, k))) rs h, λ p l w. absurd (omega (arith, l, w)))
begins rs s (Some r) h = subst (λ l. Begins l s (start_of (Some r) s)) (sym h.2) (elim (cases_lt r.1 s) [
  | inl w ↦ subst (Begins (h.0 ++ r ∷ h.1) s) (sym (ap (λ t. if t then r.0 else s) (lt-leb s r.1 w))) (
    omega arith,
    all-both (λ y. y.0 < s → y.1 < s) h.0 (r ∷ h.1) (all-map (λ y l k. let a = h.4 in omega (arith, l, a, w)) h.0 h.5) ((λ k. w), all-map (λ y l k. absurd (let a = l.0 in omega (arith, a, k))) h.1 h.6),
    λ p l k. absurd (omega (arith, l, k)),
  )
  | inr w ↦ subst (Begins (h.0 ++ r ∷ h.1) s) (sym (ap (λ t. if t then r.0 else s) (le-leb s r.1 w))) (
    h.3,
    all-both (λ y. y.0 < r.0 → y.1 < r.0) h.0 (r ∷ h.1) (all-map (λ y l k. l) h.0 h.5) ((λ k. absurd (omega (arith, k))), all-map (λ y l k. absurd (let a = l.1 in let b = h.4 in omega (arith, a, b, k))) h.1 h.6),
    λ p l k. held h.0 r h.1 p l (omega (arith, k, w)),
  )
])

-- Where a joined range ends: at e or behind; those that begin at its end or before end there or before; and what lies between e and it is
-- covered.
abbrev pub Ends : Ranges → ℕ → ℕ → Type 0
Ends rs e high = (e ≤ high) × AllByRecursion (λ y. y.0 ≤ high → y.1 ≤ high) rs × ((p : ℕ) → e ≤ p → p < high → is_covered rs p ≡ true)

ends : (rs : Ranges) (e : ℕ) (o : Option (ℕ × ℕ)) → Parted rs e o → Ends rs e (end_of o e)
ends rs e None h = (omega arith, all-map (λ y l k. absurd (omega (arith, l, k))) rs h, λ p l w. absurd (omega (arith, l, w)))
ends rs e (Some r) h = subst (λ l. Ends l e (max e r.1)) (sym h.2) (
  omega arith,
  all-both (λ y. y.0 ≤ max e r.1 → y.1 ≤ max e r.1) h.0 (r ∷ h.1) (all-map (λ y l k. let a = h.4 in omega (arith, l, a)) h.0 h.5) ((λ k. omega arith), all-map (λ y l k. absurd (let a = l.0 in let b = l.1 in omega (arith, a, b, k))) h.1 h.6),
  λ p l k. held h.0 r h.1 p (let a = h.3 in omega (arith, a, l)) (omega (arith, l, k)),
)

-- the ranges in front of a joined one, and those behind it
abbrev front : ℕ → Ranges → Ranges
front low rs = filter (λ y. is_lt (nat_cmp y.0 low)) rs

abbrev rest : ℕ → Ranges → Ranges
rest high rs = filter (λ y. is_gt (nat_cmp y.0 high)) rs

-- the list after the joined range was put in, and the ranges that it joins were removed
pub joined : (low high : ℕ) → low ≤ high → (rs : Ranges) → AreApart rs → without_between nat_cmp low high (put nat_cmp rs low high) ≡ front low rs ++ (low, high) ∷ rest high rs
joined low high w rs h =
    ap (without_between nat_cmp low high) (put-parts nat_cmp nat_cmp_total low high (λ a is. sym (nat-tied low a is)) rs (increasing rs h)) ∙ filter-append kept (front low rs) ((low, high) ∷ rest low rs)
    ∙ (λ j. filter-filter kept (λ y. is_lt (nat_cmp y.0 low)) (λ y. is_lt (nat_cmp y.0 low)) (λ y. in_front (not (is_gt (nat_cmp y.0 high))) (nat_cmp y.0 low)) rs j
    ++ (if here j then (low, high) ∷ left j else left j))
  where
    kept : ℕ × ℕ → Bool
    kept x = not (is_gt (nat_cmp x.0 low) && not (is_gt (nat_cmp x.0 high)))

    in_front : (t : Bool) (r : Ordering) → (is_lt r && not (is_gt r && t)) ≡ is_lt r
    in_front t Less = refl
    in_front t Equal = refl
    in_front t Greater = refl

    here : kept (low, high) ≡ true
    here = ap (λ t. not (t && not (is_gt (nat_cmp low high)))) (nat-not_greater low low (omega arith))

    past : (y : ℕ × ℕ) → (is_gt (nat_cmp y.0 low) && kept y) ≡ is_gt (nat_cmp y.0 high)
    past y = elim (cases_lt high y.0) [
      | inl g ↦ (λ j. is_gt (nat-greater y.0 low (omega (arith, g, w)) j) && not (is_gt (nat-greater y.0 low (omega (arith, g, w)) j) && not (is_gt (nat-greater y.0 high g j)))) ∙ sym (ap is_gt (nat-greater y.0 high g))
      | inr g ↦ (λ j. is_gt (nat_cmp y.0 low) && not (is_gt (nat_cmp y.0 low) && not (nat-not_greater y.0 high g j))) ∙ none (is_gt (nat_cmp y.0 low)) ∙ sym (nat-not_greater y.0 high g)
    ]
      where
        none : (t : Bool) → (t && not (t && true)) ≡ false
        none true = refl
        none false = refl

    left : filter kept (rest low rs) ≡ rest high rs
    left = filter-filter kept (λ y. is_gt (nat_cmp y.0 low)) (λ y. is_gt (nat_cmp y.0 high)) past rs

-- after a range from s up to e was joined: the points that are covered, and that the ranges are apart
module _ (rs : Ranges) {s e low high : ℕ} (some : s < e) (b : Begins rs s low) (d : Ends rs e high) where
  low-high : low < high
  low-high = omega (arith, b.0, d.0, some)

  pub covers : (p : ℕ) → is_covered (front low rs ++ (low, high) ∷ rest high rs) p ≡ (is_covered rs p || is_in s e p)
  covers p = list_any-append (λ y. is_in y.0 y.1 p) (front low rs) ((low, high) ∷ rest high rs) ∙ elim (cases_lt p low) [
    | inl l ↦
        (λ j. any-filter_all (λ y. is_in y.0 y.1 p) (λ y. is_lt (nat_cmp y.0 low)) rs (all-map (λ y a t. before y.0 y.1 p (let k = nat-at_least y.0 low t in omega (arith, k, l))) rs b.1) j
        || (before low high p l j || any-filter_none (λ y. is_in y.0 y.1 p) (λ y. is_gt (nat_cmp y.0 high)) rs (all-map (λ y a t. before y.0 y.1 p (let k = nat-behind y.0 high t in omega (arith, k, l, low-high))) rs b.1) j))
        ∙ sym (ap (λ t. is_covered rs p || t) (before s e p (omega (arith, l, b.0))))
    | inr at ↦ elim (cases_lt p high) [
      | inl h ↦ ap (λ t. is_covered (front low rs) p || (t || is_covered (rest high rs) p)) (inside low high p at h) ∙ or-true (is_covered (front low rs) p) ∙ sym (elim (cases_lt p s) [
        | inl v ↦ ap (λ t. t || is_in s e p) (b.2 p at v)
        | inr v ↦ elim (cases_lt p e) [
          | inl k ↦ ap (λ t. is_covered rs p || t) (inside s e p v k) ∙ or-true (is_covered rs p)
          | inr k ↦ ap (λ t. t || is_in s e p) (d.2 p k h)
        ]
      ])
      | inr h ↦
          (λ j. any-filter_none (λ y. is_in y.0 y.1 p) (λ y. is_lt (nat_cmp y.0 low)) rs (all-map (λ y f t. behind y.0 y.1 p (let k = f (nat-in_front y.0 low t) in omega (arith, k, at))) rs b.1) j
          || (behind low high p h j || any-filter_all (λ y. is_in y.0 y.1 p) (λ y. is_gt (nat_cmp y.0 high)) rs (all-map (λ y f t. behind y.0 y.1 p (let k = f (nat-at_most y.0 high t) in omega (arith, k, h))) rs d.1) j))
          ∙ sym (ap (λ t. is_covered rs p || t) (behind s e p (omega (arith, h, d.0))) ∙ or-false (is_covered rs p))
    ]
  ]

  filtered : (test : ℕ × ℕ → Bool) (ys : Ranges) → AreApart ys → AreApart (filter test ys)
  filtered test [] a = tt
  filtered test (y ∷ ys) a = go (test y) (filtered test ys a.2)
    where
      go : (t : Bool) → AreApart (filter test ys) → AreApart (if t then y ∷ filter test ys else filter test ys)
      go true more = (a.0, all-filter (λ z. y.1 < z.0) test ys (all-map (λ z l yes. l) ys a.1), more)
      go false more = more

  behind-all : AllByRecursion (λ y. high < y.0) (rest high rs)
  behind-all = all-filter (λ y. high < y.0) (λ y. is_gt (nat_cmp y.0 high)) rs (all-map (λ y f t. nat-behind y.0 high t) rs b.1)

  pub apart : AreApart rs → AreApart (front low rs ++ (low, high) ∷ rest high rs)
  apart h = joint (front low rs) (filtered (λ y. is_lt (nat_cmp y.0 low)) rs h) (all-filter (λ y. y.1 < low) (λ y. is_lt (nat_cmp y.0 low)) rs (all-map (λ y f t. f (nat-in_front y.0 low t)) rs b.1))
    where
      joint : (xs : Ranges) → AreApart xs → AllByRecursion (λ y. y.1 < low) xs → AreApart (xs ++ (low, high) ∷ rest high rs)
      joint [] a all = (low-high, behind-all, filtered (λ y. is_gt (nat_cmp y.0 high)) rs h)
      joint (x ∷ xs) a all = (a.0, all-both (λ y. x.1 < y.0) xs ((low, high) ∷ rest high rs) a.1 (all.0, all-map (λ y k. let l = all.0 in omega (arith, k, l, low-high)) (rest high rs) behind-all), joint xs a.2 all.1)

-- after a range from s up to e was put in, joined, and those that it joins were removed: the list l0 became l, and then l'
module _ (rs : Ranges) (s e : ℕ) {first last : ℕ} {l0 l : Ranges} (some : s < e) (l0-is : l0 ≡ rs) (h : AreApart l0) (first-is : first ≡ low_of rs s) (last-is : last ≡ high_of rs e) (was : l ≡ put nat_cmp l0 first last) where
  pub joined-present : is_present nat_cmp l first ≡ true
  joined-present = ap (λ ys. is_present nat_cmp ys first) was ∙ is_present-put nat_cmp nat_cmp_total first last l0 (increasing l0 h)

  module _ {l' : Ranges} (left : l' ≡ without_between nat_cmp first last l) where
    start : Begins rs s (low_of rs s)
    start = begins rs s (entry_at_most nat_cmp rs s) (parted rs s (subst AreApart l0-is h) (entry_at_most nat_cmp rs s) refl)

    end : Ends rs e (high_of rs e)
    end = ends rs e (entry_at_most nat_cmp rs e) (parted rs e (subst AreApart l0-is h) (entry_at_most nat_cmp rs e) refl)

    is : l' ≡ front (low_of rs s) rs ++ (low_of rs s, high_of rs e) ∷ rest (high_of rs e) rs
    is = left ∙ (λ j. without_between nat_cmp (first-is j) (last-is j) ((was ∙ (λ i. put nat_cmp (l0-is i) (first-is i) (last-is i))) j))
        ∙ joined (low_of rs s) (high_of rs e) (omega (arith, start.0, end.0, some)) rs (subst AreApart l0-is h)

    pub joined-covers : (p : ℕ) → is_covered l' p ≡ (is_covered rs p || is_in s e p)
    joined-covers p = ap (λ ys. is_covered ys p) is ∙ covers rs some start end p

    pub joined-apart : AreApart l'
    joined-apart = subst AreApart (sym is) (apart rs some start end (subst AreApart l0-is h))

-- whether the range that begins last at p or before contains p
abbrev pub reaches : ℕ → Option (ℕ × ℕ) → Bool
reaches p None = false
reaches p (Some r) = nat_lt p r.1

pub covers-at : (rs : Ranges) (p : ℕ) (o : Option (ℕ × ℕ)) → Parted rs p o → reaches p o ≡ is_covered rs p
covers-at rs p None h = sym (any-none (λ y. is_in y.0 y.1 p) rs (all-map (λ y k. before y.0 y.1 p k) rs h))
covers-at rs p (Some r) h = elim (cases_lt p r.1) [
  | inl w ↦ lt-ltb p r.1 w ∙ sym (ap (λ ys. is_covered ys p) h.2 ∙ held h.0 r h.1 p h.3 w)
  | inr w ↦ le-ltb p r.1 w ∙ sym (ap (λ ys. is_covered ys p) h.2 ∙ list_any-append (λ y. is_in y.0 y.1 p) h.0 (r ∷ h.1)
      ∙ (λ j. any-none (λ y. is_in y.0 y.1 p) h.0 (all-map (λ y k. behind y.0 y.1 p (let a = h.3 in omega (arith, k, a))) h.0 h.5) j || (behind r.0 r.1 p w j || any-none (λ y. is_in y.0 y.1 p) h.1 (all-map (λ y k. before y.0 y.1 p k.0) h.1 h.6) j)))
]
