-- Lists cut into parts, of which tests of the elements tell how many pass, and the sizes of leaves cut at the leaf of a place.
use Rattle.bforest_core.specs.Levels.{LevelNode, flat, node, sizes}
use Rattle.bforest_trees.proofs.ranges.Slices.{Rises, count-cons}
use Rattle.bforest_trees.specs.Calls.{leaf_index, leaves_within, whole_leaves}
use Rattle.std.proofs.Common.{Bool, List, [], ap, arith, cond, count_by, drop, false, length, length-append, not, refl, suc, take, true, ◌+◌, ◌-◌, ◌++◌, ◌<◌, ◌∙◌, ◌∷◌, ◌≡◌, ◌≤◌, ℕ}
use Rattle.std.proofs.lemmas.Bool.{le-leb, le-ltb, lt-leb, lt-ltb}
use Rattle.std.proofs.lemmas.List.Sums.{sum_by-append, sum_by-cons}
use Rattle.std.specs.List.{AllByRecursion, sum_by}

-- the sum of some sizes
abbrev pub total : List ℕ → ℕ
total level = sum_by (λ size. size) level

pub total-cons : (size : ℕ) (after : List ℕ) → total (size ∷ after) ≡ size + total after
total-cons size after = sum_by-cons (λ (n : ℕ). n) size after

-- two ways to cut one list at one place are the same
pub split_same : {A : Type 0} (xs zs ys ws : List A) → xs ++ ys ≡ zs ++ ws → length xs ≡ length zs → (xs ≡ zs) × (ys ≡ ws)
split_same [] [] ys ws e len = (refl, e)
split_same [] (z ∷ zs) ys ws e len = absurd (omega (arith, len))
split_same (x ∷ xs) [] ys ws e len = absurd (omega (arith, len))
split_same (x ∷ xs) (z ∷ zs) ys ws e len = let r = split_same xs zs ys ws (let g : xs ++ ys ≡ zs ++ ws = cc in g) (omega (arith, len)) in (cc (r.0), r.1)

module _ {A : Type 0} (P : A → Type 0) where
  pub all-append : (xs ys : List A) → AllByRecursion P xs → AllByRecursion P ys → AllByRecursion P (xs ++ ys)
  all-append [] ys a b = b
  all-append (x ∷ xs) ys a b = (a.0, all-append xs ys a.1 b)

  pub all-behind : (xs ys : List A) → AllByRecursion P (xs ++ ys) → AllByRecursion P ys
  all-behind [] ys a = a
  all-behind (x ∷ xs) ys a = all-behind xs ys a.1

  pub all-front : (xs ys : List A) → AllByRecursion P (xs ++ ys) → AllByRecursion P xs
  all-front [] ys a = tt
  all-front (x ∷ xs) ys a = (a.0, all-front xs ys a.1)

module _ {A : Type 0} (t : A → Bool) where
  -- elements up to one of which t does not hold
  pub not-past : (before g : List A) (last : A) (behind : List A) → Rises t (before ++ (g ++ last ∷ behind)) → t last ≡ false → AllByRecursion (λ y. t y ≡ false) (g ++ last ∷ [])
  not-past (x ∷ before) g last behind up off = not-past before g last behind up.1 off
  not-past [] [] last behind up off = (off, tt)
  not-past [] (x ∷ g) last behind up off = (go (t x) refl, not-past [] g last behind up.1 off)
    where
      go : (b : Bool) → t x ≡ b → t x ≡ false
      go false e = e
      go true e = absurd (let on = (all-behind (λ y. t y ≡ true) g (last ∷ behind) (up.0 e)).0 in cc)

  pub count-append : (xs ys : List A) → count_by t (xs ++ ys) ≡ count_by t xs + count_by t ys
  count-append xs ys = sum_by-append (λ y. cond (t y) 1 0) xs ys

  pub count-all : (es : List A) → AllByRecursion (λ y. t y ≡ false) es → count_by (λ y. not (t y)) es ≡ length es
  count-all [] all = refl
  count-all (e ∷ es) all = count-cons (λ y. not (t y)) e es true (ap not all.0) ∙ (let n = count-all es all.1 in omega (arith, n))

  -- where fewer elements than those in front do not pass, all behind pass
  pub from-behind : (front behind : List A) → Rises t (front ++ behind) → count_by (λ y. not (t y)) (front ++ behind) < length front → AllByRecursion (λ y. t y ≡ true) behind
  from-behind [] behind up low = absurd (omega (arith, low))
  from-behind (x ∷ front) behind up low = go (t x) refl (λ less. from-behind front behind up.1 less)
    where
      go : (b : Bool) → t x ≡ b → (count_by (λ y. not (t y)) (front ++ behind) < length front → AllByRecursion (λ y. t y ≡ true) behind) → AllByRecursion (λ y. t y ≡ true) behind
      go true e rest = all-behind (λ y. t y ≡ true) front behind (up.0 e)
      go false e rest = rest (omega (arith, low, count-cons (λ y. not (t y)) x (front ++ behind) true (ap not e)))

-- the entries of a row are as many as its sizes tell
pub total-flat : {K X : Type 0} (row : List (LevelNode K X)) → total (sizes row) ≡ length (flat row)
total-flat [] = refl
total-flat (node n es ∷ row) = total-cons (length es) (sizes row) ∙ (let rest = total-flat row in omega (arith, rest, length-append es (flat row)))

-- the leaf of a place in a row of these sizes
pub index-at : (before : List ℕ) (size : ℕ) (behind : List ℕ) (p : ℕ) → total before ≤ p → p < total before + size → leaf_index p (before ++ size ∷ behind) ≡ length before
index-at [] size behind p from low = rw (lt-ltb p size (omega (arith, low))) refl
index-at (b ∷ before) size behind p from low =
    let sum = total-cons b before in rw (le-ltb p b (omega (arith, from, sum))) (ap suc (index-at before size behind (p - b) (omega (arith, from, sum)) (omega (arith, from, low, sum))))

-- the leaves behind it that are whole
pub whole-at : (before : List ℕ) (size : ℕ) (behind : List ℕ) (p n : ℕ) → total before ≤ p → p < total before + size → whole_leaves p n (before ++ size ∷ behind) ≡ leaves_within ((p + n) - (total before + size)) behind
whole-at [] size behind p n from low = rw (lt-ltb p size (omega (arith, low))) (ap (λ z. leaves_within z behind) (let is : (p + n) - size ≡ (p + n) - (0 + size) = omega arith in is))
whole-at (b ∷ before) size behind p n from low =
    let sum = total-cons b before in rw (le-ltb p b (omega (arith, from, sum))) (whole-at before size behind (p - b) n (omega (arith, from, sum)) (omega (arith, from, low, sum))
    ∙ ap (λ z. leaves_within z behind) (let is : ((p - b) + n) - (total before + size) ≡ (p + n) - (total (b ∷ before) + size) = omega (arith, from, sum) in is))

-- the first leaves that have so many entries together at most, where the next one has more
pub within-exact : (q : ℕ) (dropped after : List ℕ) → total dropped ≤ q → ((size : ℕ) (others : List ℕ) → after ≡ size ∷ others → q < total dropped + size) → leaves_within q (dropped ++ after) ≡ length dropped
within-exact q [] [] low more = refl
within-exact q [] (size ∷ others) low more = rw (lt-leb size q (omega (arith, more size others refl))) refl
within-exact q (d ∷ dropped) after low more =
    let sum = total-cons d dropped in rw (le-leb d q (omega (arith, low, sum))) (ap suc (within-exact (q - d) dropped after (omega (arith, low, sum)) (λ size others is. omega (arith, more size others is, low, sum))))

pub taken-is : (before : List ℕ) (size : ℕ) (dropped after : List ℕ) → take (length dropped) (drop (suc (length before)) (before ++ size ∷ (dropped ++ after))) ≡ dropped
taken-is (b ∷ before) size dropped after = taken-is before size dropped after
taken-is [] size dropped after = go dropped
  where
    go : (ds : List ℕ) → take (length ds) (ds ++ after) ≡ ds
    go [] = refl
    go (d ∷ ds) = ap (λ z. d ∷ z) (go ds)
