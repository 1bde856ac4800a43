-- A slice of a list, by how many elements pass a test.
use Rattle.bforest_core.specs.Place.{entry_before}
use Rattle.std.proofs.Common.{Bool, List, None, Option, Some, [], ap, arith, cond, count_by, drop, false, filter, length, not, refl, slice_get, slice_range, suc, sym, take, true, zero, ◌&&◌, ◌+◌, ◌-◌, ◌<◌, ◌∙◌, ◌∷◌, ◌≡◌, ◌≤◌, ℕ}
use Rattle.std.proofs.lemmas.List.Sums.{sum_by-cons}
use Rattle.std.specs.List.{AllByRecursion, last_or}

pub and_false : (b : Bool) → (b && false) ≡ false
and_false true = refl
and_false false = refl

module _ {A : Type 0} where
  -- where s holds of an element, it holds of all elements behind
  abbrev pub Rises : (A → Bool) → List A → Type 0
  Rises s [] = Unit {0}
  Rises s (e ∷ es) = (s e ≡ true → AllByRecursion (λ y. s y ≡ true) es) × Rises s es

  -- the count of a test over a list adds its answer for the first element to the count of the rest
  pub count-cons : (t : A → Bool) (e : A) (es : List A) (b : Bool) → t e ≡ b → count_by t (e ∷ es) ≡ cond b 1 0 + count_by t es
  count-cons t e es b h = sum_by-cons (λ y. cond (t y) 1 0) e es ∙ ap (λ c. cond c 1 0 + count_by t es) h

  pub count-same : (s t : A → Bool) → ((e : A) → s e ≡ t e) → (es : List A) → count_by s es ≡ count_by t es
  count-same s t h [] = refl
  count-same s t h (e ∷ es) = count-cons s e es (t e) (h e) ∙ ap (λ n. cond (t e) 1 0 + n) (count-same s t h es) ∙ sym (count-cons t e es (t e) refl)

  pub count-none : (s : A → Bool) (es : List A) → AllByRecursion (λ y. s y ≡ true) es → count_by (λ y. not (s y)) es ≡ 0
  count-none s [] h = refl
  count-none s (e ∷ es) h = count-cons (λ y. not (s y)) e es false (ap not h.0) ∙ (let n = count-none s es h.1 in omega arith)

  filter-none : (s t : A → Bool) (es : List A) → AllByRecursion (λ y. t y ≡ true) es → filter (λ y. s y && not (t y)) es ≡ []
  filter-none s t [] h = refl
  filter-none s t (e ∷ es) h = ap (λ b. cond b (e ∷ rest) rest) (ap (λ c. s e && not c) h.0 ∙ and_false (s e)) ∙ filter-none s t es h.1
    where
      rest : List A
      rest = filter (λ y. s y && not (t y)) es

  pub filter-no : (t : A → Bool) → ((e : A) → t e ≡ false) → (es : List A) → filter t es ≡ []
  filter-no t never [] = refl
  filter-no t never (e ∷ es) = ap (λ b. cond b (e ∷ filter t es) (filter t es)) (never e) ∙ filter-no t never es

  -- the elements where s holds and t does not are a slice
  pub slice-filter : (s t : A → Bool) (es : List A) → Rises s es → Rises t es → filter (λ y. s y && not (t y)) es ≡ slice_range es (count_by (λ y. not (s y)) es) (count_by (λ y. not (t y)) es)
  slice-filter s t [] hs ht = refl
  slice-filter s t (e ∷ es) hs ht = go (slice-filter s t es hs.1 ht.1) (s e) refl (t e) refl
    where
      rest : List A
      rest = filter (λ y. s y && not (t y)) es

      i : ℕ
      i = count_by (λ y. not (s y)) es

      j : ℕ
      j = count_by (λ y. not (t y)) es

      -- the goal, given how both tests answer for the first element
      by : (b c : Bool) → s e ≡ b → t e ≡ c → cond (b && not c) (e ∷ rest) rest ≡ slice_range (e ∷ es) (cond (not b) 1 0 + i) (cond (not c) 1 0 + j)
          → cond (s e && not (t e)) (e ∷ rest) rest ≡ slice_range (e ∷ es) (count_by (λ y. not (s y)) (e ∷ es)) (count_by (λ y. not (t y)) (e ∷ es))
      by b c h k is = (λ n. cond (h n && not (k n)) (e ∷ rest) rest) ∙ is ∙ sym (λ n. slice_range (e ∷ es) (count-cons (λ y. not (s y)) e es (not b) (ap not h) n) (count-cons (λ y. not (t y)) e es (not c) (ap not k) n))

      go : rest ≡ slice_range es i j → (b : Bool) → s e ≡ b → (c : Bool) → t e ≡ c → cond (s e && not (t e)) (e ∷ rest) rest ≡ slice_range (e ∷ es) (count_by (λ y. not (s y)) (e ∷ es)) (count_by (λ y. not (t y)) (e ∷ es))
      go ih b h true k =
          let zero_is : j ≡ 0 = count-none t es (ht.0 k) in
          let d : (0 + j) - (cond (not b) 1 0 + i) ≡ 0 = omega (arith, zero_is) in
          by b true h k (ap (λ c. cond c (e ∷ rest) rest) (and_false b) ∙ filter-none s t es (ht.0 k) ∙ sym (ap (λ m. take m (drop (cond (not b) 1 0 + i) (e ∷ es))) d))
      go ih true h false k =
          let z : i ≡ 0 = count-none s es (hs.0 h) in
          let n : 0 + i ≡ 0 = omega (arith, z) in
          let m : j - i ≡ j = omega (arith, z) in
          let l : (1 + j) - (0 + i) ≡ suc j = omega (arith, z) in
          by true false h k (ap (λ q. e ∷ q) (ih ∙ (λ x. take (m x) (drop (z x) es))) ∙ sym (λ x. take (l x) (drop (n x) (e ∷ es))))
      go ih false h false k =
          let n : 1 + i ≡ suc i = omega arith in
          let d : (1 + j) - (1 + i) ≡ j - i = omega arith in
          by false false h k (ih ∙ sym (λ x. take (d x) (drop (n x) (e ∷ es))))

  -- the last of the first n elements is the element before place n
  pub last-taken : (xs : List A) (n : ℕ) → n ≤ length xs → last_or None (take n xs) ≡ entry_before xs n
  last-taken xs zero low = refl
  last-taken xs (suc n) low = go None xs n (omega (arith, low))
    where
      go : (o : Option A) (xs : List A) (n : ℕ) → n < length xs → last_or o (take (suc n) xs) ≡ slice_get xs n
      go o [] n low = absurd (omega (arith, low))
      go o (x ∷ xs) zero low = refl
      go o (x ∷ xs) (suc n) low = go (Some x) xs n (omega (arith, low))
