-- Sums over the numbers below a bound, of which one, two or three changed.
use Rattle.bforest_trees.specs.Forest.{numbers_below}
use Rattle.std.proofs.Common.{Bool, None, Option, Some, [], ap, arith, false, if◌then◌else◌, inl, inr, nat_eq, refl, subst, suc, sym, true, zero, ◌+◌, ◌<◌, ◌∙◌, ◌∷◌, ◌≡◌, ◌≢◌, ◌≤◌, ◌⊎◌, ℕ}
use Rattle.std.proofs.lemmas.Bool.Decides.{eqb_tells, leb_tells}
use Rattle.std.proofs.lemmas.List.Sums.{sum_by-append, sum_by-cons}
use Rattle.std.specs.List.{sum_by}

abbrev pub upto : (ℕ → ℕ) → ℕ → ℕ
upto g k = sum_by g (numbers_below k)

upto-suc : (g : ℕ → ℕ) (k : ℕ) → upto g (suc k) ≡ upto g k + g k
upto-suc g k = omega (arith, sum_by-append g (numbers_below k) (k ∷ []), sum_by-cons g k [])

-- Where all numbers from one on count as 0, a greater bound changes nothing.
pub upto-more : (g : ℕ → ℕ) (k bound : ℕ) → ((n : ℕ) → k ≤ n → g n ≡ 0) → k ≤ bound → upto g bound ≡ upto g k
upto-more g k zero none more = let is : 0 ≡ k = omega (arith, more) in ap (upto g) is
upto-more g k (suc bound) none more = elim (leb_tells k bound) [
  | inl w ↦ omega (arith, upto-suc g bound, upto-more g k bound none w.1, none bound w.1)
  | inr w ↦ let is : suc bound ≡ k = omega (arith, w.1, more) in ap (upto g) is
]

-- where no number below the bound changed
upto-same : (g h : ℕ → ℕ) (k : ℕ) → ((n : ℕ) → n < k → h n ≡ g n) → upto h k ≡ upto g k
upto-same g h zero same = refl
upto-same g h (suc k) same = omega (arith, upto-suc g k, upto-suc h k, upto-same g h k (λ n less. same n (omega (arith, less))), same k (omega (arith)))

-- one number changed
one-below : (g h : ℕ → ℕ) (a k : ℕ) → ((n : ℕ) → n ≢ a → h n ≡ g n) → a < k → upto h k + g a ≡ upto g k + h a
one-below g h a zero same within = absurd (omega (arith, within))
one-below g h a (suc k) same within = elim (eqb_tells a k) [
  | inl w ↦ omega (arith, upto-suc g k, upto-suc h k, ap g w.1, ap h w.1, upto-same g h k (λ n less. same n (λ is. absurd (omega (arith, less, is, w.1)))))
  | inr w ↦ omega (arith, upto-suc g k, upto-suc h k, same k (λ is. w.1 (sym is)), one-below g h a k same (omega (arith, within, w.1)))
]

module _ (g h : ℕ → ℕ) (k : ℕ) (none : (n : ℕ) → k ≤ n → g n ≡ 0) (none' : (n : ℕ) → k ≤ n → h n ≡ 0) where
  pub upto-one : (a : ℕ) → ((n : ℕ) → n ≢ a → h n ≡ g n) → upto h k + g a ≡ upto g k + h a
  upto-one a same = elim (leb_tells (suc a) k) [
    | inl w ↦ one-below g h a k same w.1
    | inr w ↦ omega (arith, upto-same g h k (λ n less. same n (λ is. absurd (omega (arith, less, is, w.1)))), none a (omega (arith, w.1)), none' a (omega (arith, w.1)))
  ]

-- two numbers changed
pub upto-two : (g h : ℕ → ℕ) (k : ℕ) → ((n : ℕ) → k ≤ n → g n ≡ 0) → ((n : ℕ) → k ≤ n → h n ≡ 0) → (a b : ℕ) → a ≢ b → ((n : ℕ) → n ≢ a → n ≢ b → h n ≡ g n) → upto h k + g a + g b ≡ upto g k + h a + h b
upto-two g h k none none' a b other same =
    let first = upto-one g mid k none (λ n past. nothing (nat_eq n b) n past) b (λ n ne. unchanged n ne) in
    let second = upto-one mid h k (λ n past. nothing (nat_eq n b) n past) none' a (λ n ne. rest n ne) in
    omega (arith, first, second, unchanged a other, changed)
  where
    mid : ℕ → ℕ
    mid n = if nat_eq n b then h n else g n

    nothing : (t : Bool) (n : ℕ) → k ≤ n → (if t then h n else g n) ≡ 0
    nothing true n past = none' n past
    nothing false n past = none n past

    unchanged : (n : ℕ) → n ≢ b → (if nat_eq n b then h n else g n) ≡ g n
    unchanged n ne = elim (eqb_tells n b) [ inl w ↦ absurd (ne w.1) | inr w ↦ ap (λ t. if t then h n else g n) w.0 ]

    changed : (if nat_eq b b then h b else g b) ≡ h b
    changed = elim (eqb_tells b b) [ inl w ↦ ap (λ t. if t then h b else g b) w.0 | inr w ↦ absurd (w.1 refl) ]

    rest : (n : ℕ) → n ≢ a → h n ≡ (if nat_eq n b then h n else g n)
    rest n ne = elim (eqb_tells n b) [ inl w ↦ ap (λ t. if t then h n else g n) (sym w.0) | inr w ↦ same n ne w.1 ∙ ap (λ t. if t then h n else g n) (sym w.0) ]

-- whether a handle has a number
pub is-number : (n : ℕ) (h : Option ℕ) → (Some n ≡ h) ⊎ (Some n ≢ h)
is-number n None = inr (λ e. absurd (cc))
is-number n (Some m) = elim (eqb_tells n m) [ inl w ↦ inl (ap Some w.1) | inr w ↦ inr (λ e. w.1 (cc)) ]

-- what a handle's number counts as: an empty handle counts as 0
abbrev pub at : (ℕ → ℕ) → Option ℕ → ℕ
at g None = 0
at g (Some n) = g n

-- the numbers of two handles may have changed: the first handle had its number before, and the second has it afterwards
pub upto-moved : (g g' : ℕ → ℕ) (h h' : Option ℕ) (k : ℕ) → ((n : ℕ) → k ≤ n → g n ≡ 0) → ((n : ℕ) → k ≤ n → g' n ≡ 0) → (h' ≢ h → at g' h ≡ 0) → (h' ≢ h → at g h' ≡ 0)
    → ((n : ℕ) → Some n ≢ h → Some n ≢ h' → g' n ≡ g n) → upto g' k + at g h ≡ upto g k + at g' h'
upto-moved g g' None None k none none' leaves fresh same =
    omega (arith, upto-one g g' k none none' 0 (λ n ne. same n (λ e. absurd (cc)) (λ e. absurd (cc))), same 0 (λ e. absurd (cc)) (λ e. absurd (cc)))
upto-moved g g' None (Some b) k none none' leaves fresh same =
    omega (arith, upto-one g g' k none none' b (λ n ne. same n (λ e. absurd (cc)) (λ e. ne (cc))), fresh (λ e. absurd (cc)))
upto-moved g g' (Some a) None k none none' leaves fresh same =
    omega (arith, upto-one g g' k none none' a (λ n ne. same n (λ e. ne (cc)) (λ e. absurd (cc))), leaves (λ e. absurd (cc)))
upto-moved g g' (Some a) (Some b) k none none' leaves fresh same = elim (eqb_tells a b) [
  | inl w ↦
      let one = upto-one g g' k none none' a (λ n ne. same n (λ e. ne (cc)) (λ e. ne (let is : n ≡ b = cc in is ∙ sym w.1))) in
      omega (arith, one, ap g' w.1)
  | inr w ↦
      let other : Some b ≢ Some a = λ e. w.1 (cc) in
      let two = upto-two g g' k none none' a b w.1 (λ n ne ne'. same n (λ e. ne (cc)) (λ e. ne' (cc))) in
      omega (arith, two, leaves other, fresh other)
]

-- the numbers count as in g, but that of a handle counts as 0
abbrev cleared : (ℕ → ℕ) → Option ℕ → ℕ → ℕ
cleared g None n = g n
cleared g (Some a) n = if nat_eq n a then 0 else g n

module _ (g : ℕ → ℕ) where
  cleared-in : (h : Option ℕ) (n : ℕ) → Some n ≡ h → cleared g h n ≡ 0
  cleared-in None n e = absurd (cc)
  cleared-in (Some a) n e = elim (eqb_tells n a) [ inl w ↦ ap (λ t. if t then 0 else g n) w.0 | inr w ↦ absurd (w.1 (cc)) ]

  cleared-out : (h : Option ℕ) (n : ℕ) → Some n ≢ h → cleared g h n ≡ g n
  cleared-out None n ne = refl
  cleared-out (Some a) n ne = elim (eqb_tells n a) [ inl w ↦ absurd (ne (ap Some w.1)) | inr w ↦ ap (λ t. if t then 0 else g n) w.0 ]

  cleared-none : (h : Option ℕ) (n : ℕ) → g n ≡ 0 → cleared g h n ≡ 0
  cleared-none h n nothing = elim (is-number n h) [ inl e ↦ cleared-in h n e | inr ne ↦ cleared-out h n ne ∙ nothing ]

  upto-cleared : (h : Option ℕ) (k : ℕ) → ((n : ℕ) → k ≤ n → g n ≡ 0) → upto g k ≡ upto (cleared g h) k + at g h
  upto-cleared None k none = omega (arith, upto-same g (cleared g None) k (λ n less. refl))
  upto-cleared (Some a) k none =
      omega (arith, upto-one g (cleared g (Some a)) k none (λ n past. cleared-none (Some a) n (none n past)) a (λ n ne. cleared-out (Some a) n (λ e. ne (cc))), cleared-in (Some a) a refl)

-- The numbers of three handles may have changed: the first handle had its number before, and the two others, which are apart, have theirs
-- afterwards.
pub upto-parted : (g g' : ℕ → ℕ) (h h' t : Option ℕ) (k : ℕ) → ((n : ℕ) → k ≤ n → g n ≡ 0) → ((n : ℕ) → k ≤ n → g' n ≡ 0) → (t ≡ h' → t ≡ None)
    → (h ≢ h' → h ≢ t → at g' h ≡ 0) → (h' ≢ h → at g h' ≡ 0) → (t ≢ h → at g t ≡ 0)
    → ((n : ℕ) → Some n ≢ h → Some n ≢ h' → Some n ≢ t → g' n ≡ g n) → upto g' k + at g h ≡ upto g k + at g' h' + at g' t
upto-parted g g' h h' t k none none' apart leaves fresh tail same =
    omega (arith, upto-cleared g' t k none', front h' apart, upto-moved g (cleared g' t) h h' k none (λ n past. cleared-none g' t n (none' n past)) (gone h leaves) fresh (λ n ne ne'. stays n ne ne'))
  where
    front : (o : Option ℕ) → (t ≡ o → t ≡ None) → at (cleared g' t) o ≡ at g' o
    front None apart = refl
    front (Some n) apart = cleared-out g' t n (λ e. absurd (let none-is = apart (sym e) in cc))

    gone : (o : Option ℕ) → (o ≢ h' → o ≢ t → at g' o ≡ 0) → h' ≢ o → at (cleared g' t) o ≡ 0
    gone None leaves ne = refl
    gone (Some n) leaves ne = elim (is-number n t) [ inl e ↦ cleared-in g' t n e | inr ne' ↦ cleared-out g' t n ne' ∙ leaves (λ e. ne (sym e)) ne' ]

    stays : (n : ℕ) → Some n ≢ h → Some n ≢ h' → cleared g' t n ≡ g n
    stays n ne ne' = elim (is-number n t) [
      | inl e ↦ cleared-in g' t n e ∙ sym (subst (λ o. at g o ≡ 0) (sym e) (tail (λ d. ne (e ∙ d))))
      | inr ne2 ↦ cleared-out g' t n ne2 ∙ same n ne ne' ne2
    ]
