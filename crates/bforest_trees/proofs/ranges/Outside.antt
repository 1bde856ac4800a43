-- What a list loses where the elements from one place on are taken out, as long as they are within bounds.
use Rattle.bforest_trees.proofs.ranges.Slices.{Rises, count-cons, count-none}
use Rattle.std.proofs.Common.{Bool, List, Some, [], ap, arith, cond, count_by, drop, false, filter, length, not, refl, remove, slice_get, subst, suc, sym, take, true, zero, ◌&&◌, ◌+◌, ◌++◌, ◌<◌, ◌∙◌, ◌∷◌, ◌≡◌, ◌≤◌, ℕ}
use Rattle.std.specs.List.{AllByRecursion}

module _ {A : Type 0} where
  get-drop : (n : ℕ) (es : List A) → slice_get (drop n es) 0 ≡ slice_get es n
  get-drop zero es = refl
  get-drop (suc n) [] = refl
  get-drop (suc n) (e ∷ es) = get-drop n es

  remove-drop : (n : ℕ) (es : List A) → remove (drop n es) 0 ≡ drop (suc n) es
  remove-drop zero [] = refl
  remove-drop zero (e ∷ es) = refl
  remove-drop (suc n) [] = refl
  remove-drop (suc n) (e ∷ es) = remove-drop n es

  -- the element at a place behind which those up to m were taken out
  pub get-behind : (p m : ℕ) (es : List A) → p ≤ m → p ≤ length es → slice_get (take p es ++ drop m es) p ≡ slice_get es m
  get-behind zero m es low within = get-drop m es
  get-behind (suc p) zero es low within = absurd (omega (arith, low))
  get-behind (suc p) (suc m) [] low within = absurd (omega (arith, within))
  get-behind (suc p) (suc m) (e ∷ es) low within = get-behind p m es (omega (arith, low)) (omega (arith, within))

  -- one more is taken out there
  pub remove-behind : (p m : ℕ) (es : List A) → p ≤ m → p ≤ length es → remove (take p es ++ drop m es) p ≡ take p es ++ drop (suc m) es
  remove-behind zero m es low within = remove-drop m es
  remove-behind (suc p) zero es low within = absurd (omega (arith, low))
  remove-behind (suc p) (suc m) [] low within = absurd (omega (arith, within))
  remove-behind (suc p) (suc m) (e ∷ es) low within = ap (λ l. e ∷ l) (remove-behind p m es (omega (arith, low)) (omega (arith, within)))

  pub none-out : (p : ℕ) (es : List A) → es ≡ take p es ++ drop p es
  none-out zero es = refl
  none-out (suc p) [] = refl
  none-out (suc p) (e ∷ es) = ap (λ l. e ∷ l) (none-out p es)

  -- the elements that pass a test, and those that do not
  pub filter-halves : (t : A → Bool) (es : List A) → length (filter (λ e. not (t e)) es) + length (filter t es) ≡ length es
  filter-halves t [] = omega arith
  filter-halves t (e ∷ es) = go (t e) (filter-halves t es)
    where
      go : (b : Bool) → length (filter (λ e. not (t e)) es) + length (filter t es) ≡ length es
          → length (cond (not b) (e ∷ filter (λ e. not (t e)) es) (filter (λ e. not (t e)) es)) + length (cond b (e ∷ filter t es) (filter t es)) ≡ suc (length es)
      go true rest = omega (arith, rest)
      go false rest = omega (arith, rest)

  at-most-one : (b : Bool) (e : A) (es : List A) → length (cond b (e ∷ es) es) ≤ suc (length es)
  at-most-one true e es = omega arith
  at-most-one false e es = omega arith

  -- those of which s does not hold, and some of those of which it does
  pub filter-behind : (s t : A → Bool) (es : List A) → count_by (λ e. not (s e)) es + length (filter (λ e. s e && t e) es) ≤ length es
  filter-behind s t [] = omega arith
  filter-behind s t (e ∷ es) = go (s e) refl (t e) (filter-behind s t es)
    where
      go : (b : Bool) → s e ≡ b → (c : Bool) → count_by (λ e. not (s e)) es + length (filter (λ e. s e && t e) es) ≤ length es
          → count_by (λ e. not (s e)) (e ∷ es) + length (cond (s e && t e) (e ∷ filter (λ e. s e && t e) es) (filter (λ e. s e && t e) es)) ≤ suc (length es)
      go b is c rest = let counted = count-cons (λ e. not (s e)) e es (not b) (ap not is) in by b is counted rest
        where
          by : (b : Bool) → s e ≡ b → count_by (λ e. not (s e)) (e ∷ es) ≡ cond (not b) 1 0 + count_by (λ e. not (s e)) es → count_by (λ e. not (s e)) es + length (filter (λ e. s e && t e) es) ≤ length es
              → count_by (λ e. not (s e)) (e ∷ es) + length (cond (s e && t e) (e ∷ filter (λ e. s e && t e) es) (filter (λ e. s e && t e) es)) ≤ suc (length es)
          by true is counted rest = omega (arith, counted, rest, at-most-one (s e && t e) e (filter (λ e. s e && t e) es))
          by false is counted rest = omega (arith, counted, rest, ap (λ z. length (cond (z && t e) (e ∷ filter (λ e. s e && t e) es) (filter (λ e. s e && t e) es))) is)

  -- those of which s does not hold, and those of which it does
  pub filter-from : (s : A → Bool) (es : List A) → count_by (λ e. not (s e)) es + length (filter (λ e. s e && true) es) ≡ length es
  filter-from s [] = omega arith
  filter-from s (e ∷ es) = go (s e) refl (filter-from s es)
    where
      go : (b : Bool) → s e ≡ b → count_by (λ e. not (s e)) es + length (filter (λ e. s e && true) es) ≡ length es
          → count_by (λ e. not (s e)) (e ∷ es) + length (cond (s e && true) (e ∷ filter (λ e. s e && true) es) (filter (λ e. s e && true) es)) ≡ suc (length es)
      go true is rest = omega (arith, count-cons (λ e. not (s e)) e es false (ap not is), rest, ap (λ z. length (cond (z && true) (e ∷ filter (λ e. s e && true) es) (filter (λ e. s e && true) es))) is)
      go false is rest = omega (arith, count-cons (λ e. not (s e)) e es true (ap not is), rest, ap (λ z. length (cond (z && true) (e ∷ filter (λ e. s e && true) es) (filter (λ e. s e && true) es))) is)

  module _ (t : A → Bool) where
    abbrev passed : List A → List A
    passed es = filter (λ y. not (true && not (t y))) es

    all-passed : (es : List A) → AllByRecursion (λ y. t y ≡ true) es → passed es ≡ es
    all-passed [] on = refl
    all-passed (e ∷ es) on = ap (λ b. cond (not (true && not b)) (e ∷ passed es) (passed es)) on.0 ∙ ap (λ l. e ∷ l) (all-passed es on.1)

    -- the elements of which t holds are those behind the others, where it holds of all from the first on
    pub behind-is : (es : List A) → Rises t es → passed es ≡ drop (count_by (λ y. not (t y)) es) es
    behind-is [] up = refl
    behind-is (e ∷ es) up = go (t e) refl (behind-is es up.1)
      where
        go : (b : Bool) → t e ≡ b → passed es ≡ drop (count_by (λ y. not (t y)) es) es → passed (e ∷ es) ≡ drop (count_by (λ y. not (t y)) (e ∷ es)) (e ∷ es)
        go true is rest = all-passed (e ∷ es) (is, up.0 is) ∙ sym (ap (λ n. drop n (e ∷ es)) (count-none t (e ∷ es) (is, up.0 is)))
        go false is rest = let more : count_by (λ y. not (t y)) (e ∷ es) ≡ suc (count_by (λ y. not (t y)) es) = omega (arith, count-cons (λ y. not (t y)) e es true (ap not is)) in
            ap (λ b. cond (not (true && not b)) (e ∷ passed es) (passed es)) is ∙ rest ∙ sym (ap (λ n. drop n (e ∷ es)) more)

  module _ (s t : A → Bool) where
    -- where t holds of an element, or there is none, it holds of all from there on
    pub past-behind : (es : List A) (i : ℕ) → Rises t es → ((e : A) → slice_get es i ≡ Some e → t e ≡ true) → AllByRecursion (λ y. t y ≡ true) (drop i es)
    past-behind [] zero up on = tt
    past-behind [] (suc i) up on = tt
    past-behind (x ∷ es) zero up on = let here = on x refl in (here, up.0 here)
    past-behind (x ∷ es) (suc i) up on = past-behind es i up.1 on

    abbrev within : A → Bool
    within y = s y && not (t y)

    abbrev outside : List A → List A
    outside es = filter (λ y. not (within y)) es

    abbrev inside : List A → List A
    inside es = filter within es

    by : {e : A} {a b : Bool} → s e ≡ a → t e ≡ b → within e ≡ (a && not b)
    by h k = λ i. h i && not (k i)

    -- where those from p up to m are within bounds, and those behind are past the end
    pub record Parts (p m : ℕ) (es : List A) : Type 0 where
      pub outside_is : outside es ≡ take p es ++ drop m es
      pub count : m ≤ length es → p + length (inside es) ≡ m

    -- all elements are from the start on
    tail-is : (es : List A) (m : ℕ) → AllByRecursion (λ y. s y ≡ true) es → ((i : ℕ) (e : A) → i < m → slice_get es i ≡ Some e → t e ≡ false) → AllByRecursion (λ y. t y ≡ true) (drop m es) → Parts 0 m es
    tail-is [] zero on front past = record { outside_is = refl; count = λ low. omega arith }
    tail-is [] (suc m) on front past = record { outside_is = refl; count = λ low. absurd (omega (arith, low)) }
    tail-is (e ∷ es) zero on front past =
        let rest = tail-is es zero on.1 (λ i x low. absurd (omega (arith, low))) past.1 in record {
          outside_is = ap (λ b. cond (not b) (e ∷ outside es) (outside es)) (by on.0 past.0) ∙ ap (λ l. e ∷ l) rest.outside_is;
          count = λ low. omega (arith, rest.count (omega arith), ap length (ap (λ b. cond b (e ∷ inside es) (inside es)) (by on.0 past.0)));
        }
    tail-is (e ∷ es) (suc m) on front past =
        let rest = tail-is es m on.1 (λ i x low is. front (suc i) x (omega (arith, low)) is) past in
        let here = front 0 e (omega arith) refl in record {
          outside_is = ap (λ b. cond (not b) (e ∷ outside es) (outside es)) (by on.0 here) ∙ rest.outside_is;
          count = λ low. omega (arith, rest.count (omega (arith, low)), ap length (ap (λ b. cond b (e ∷ inside es) (inside es)) (by on.0 here)));
        }

    -- those from the first on of which s holds, up to m, are taken out
    pub outside-is : (es : List A) → Rises s es → (p m : ℕ) → p ≡ count_by (λ y. not (s y)) es → p ≤ m → ((i : ℕ) (e : A) → p ≤ i → i < m → slice_get es i ≡ Some e → t e ≡ false) → AllByRecursion (λ y. t y ≡ true) (drop m es) → Parts p m es
    outside-is [] up p m is low front past = let none : p ≡ 0 = is in rw none (tail-is [] m tt (λ i e less get. absurd (cc)) past)
    outside-is (e ∷ es) up p m is low front past = go (s e) refl p m is low front past (outside-is es up.1)
      where
        go : (b : Bool) → s e ≡ b → (p m : ℕ) → p ≡ count_by (λ y. not (s y)) (e ∷ es) → p ≤ m → ((i : ℕ) (x : A) → p ≤ i → i < m → slice_get (e ∷ es) i ≡ Some x → t x ≡ false) → AllByRecursion (λ y. t y ≡ true) (drop m (e ∷ es))
            → ((p m : ℕ) → p ≡ count_by (λ y. not (s y)) es → p ≤ m → ((i : ℕ) (x : A) → p ≤ i → i < m → slice_get es i ≡ Some x → t x ≡ false) → AllByRecursion (λ y. t y ≡ true) (drop m es) → Parts p m es) → Parts p m (e ∷ es)
        go true h p m is low front past ih =
            let none : p ≡ 0 = is ∙ count-none s (e ∷ es) (h, up.0 h) in
            subst (λ q. Parts q m (e ∷ es)) (sym none) (tail-is (e ∷ es) m (h, up.0 h) (λ i x less get. front i x (omega (arith, none)) less get) past)
        go false h zero m is low front past ih = absurd (omega (arith, is, count-cons (λ y. not (s y)) e es true (ap not h)))
        go false h (suc p) zero is low front past ih = absurd (omega (arith, low))
        go false h (suc p) (suc m) is low front past ih =
            let rest = ih p m (omega (arith, is, count-cons (λ y. not (s y)) e es true (ap not h))) (omega (arith, low)) (λ i x over less get. front (suc i) x (omega (arith, over)) (omega (arith, less)) get) past in record {
              outside_is = ap (λ b. cond (not b) (e ∷ outside es) (outside es)) (by h refl) ∙ ap (λ l. e ∷ l) rest.outside_is;
              count = λ within. omega (arith, rest.count (omega (arith, within)), ap length (ap (λ b. cond b (e ∷ inside es) (inside es)) (by h refl)));
            }
