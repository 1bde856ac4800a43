-- Lists that are read, written and cut; nothing here is about nodes.
use Rattle.bforest_core.proofs.Words.{◌≡◌, ◌≢◌, ℕ, ◌+◌, ◌-◌, ◌<◌, ◌≤◌, List, [], ◌∷◌, ◌++◌, zero, suc, length, set, take, drop, remove, slice_get, slice_set}
use Rattle.bforest_core.proofs.Words.{get_or, None, Some, refl, ap, ◌∙◌, arith, length-set, get_or-set_same, set-append_left, set-append_right, drop_all}
use Rattle.bforest_core.proofs.Words.{take_all, append-nil, slice_get-get_or, slice_get_read}
pub use Rattle.bforest_nodes.proofs.Seams.{slice_get-append-add}

module _ {X : Type 0} where
  -- an element at an index of the first of two lists
  pub slice_get-left : (xs more : List X) (k : ℕ) → k < length xs → slice_get (xs ++ more) k ≡ slice_get xs k
  slice_get-left [] more k low = absurd (omega arith)
  slice_get-left (y ∷ xs) more zero low = refl
  slice_get-left (y ∷ xs) more (suc k) low = slice_get-left xs more k (omega (arith, low))

  -- an element of the first of two lists is one of their concatenation
  pub slice_get-append_left : (xs more : List X) (k x : _) → slice_get xs k ≡ Some x → slice_get (xs ++ more) k ≡ Some x
  slice_get-append_left [] more k x found = absurd cc
  slice_get-append_left (y ∷ xs) more zero x found = found
  slice_get-append_left (y ∷ xs) more (suc k) x found = slice_get-append_left xs more k x found

  -- a write leaves every other element
  pub slice_get-set_apart : (xs : List X) (i j x : _) → j ≢ i → slice_get (set xs i x) j ≡ slice_get xs j
  slice_get-set_apart [] i j x ne = refl
  slice_get-set_apart (y ∷ xs) zero zero x ne = absurd (ne refl)
  slice_get-set_apart (y ∷ xs) zero (suc j) x ne = refl
  slice_get-set_apart (y ∷ xs) (suc i) zero x ne = refl
  slice_get-set_apart (y ∷ xs) (suc i) (suc j) x ne = slice_get-set_apart xs i j x (λ e. ne (ap suc e))

  -- writing what an index holds changes nothing
  pub set-kept : (xs : List X) (at e : _) → slice_get xs at ≡ Some e → set xs at e ≡ xs
  set-kept [] at e is = refl
  set-kept (x ∷ xs) zero e is = let same : e ≡ x = cc in ap (λ z. z ∷ xs) same
  set-kept (x ∷ xs) (suc at) e is = cc (set-kept xs at e is)

  -- a write gives the element that was written
  pub slice_get-set_same : (xs : List X) (at e : _) → at < length xs → slice_get (set xs at e) at ≡ Some e
  slice_get-set_same xs at e within = slice_get-get_or (set xs at e) at e (omega (arith, length-set xs at e)) ∙ ap Some (get_or-set_same xs at e e within)

  -- a write before a cut, then one right after it
  pub set-front-back : {xs : List X} (front back : List X) (low high x y : _) → xs ≡ front ++ back → length front ≡ high → low < high → set front low x ++ set back 0 y ≡ set (set xs low x) high y
  set-front-back front back low high x y is len below =
      let size : length (set front low x) ≡ high = omega (arith, length-set front low x) in let none : high - high ≡ 0 = omega arith in
      rw (is, set-append_left front back low x (omega arith), set-append_right (set front low x) back high high y size (omega arith), none)

  -- a write right after a cut, then one before it
  pub set-back-front : {xs : List X} (front back : List X) (low high x y : _) → xs ≡ front ++ back → length front ≡ high → low < high → set front low y ++ set back 0 x ≡ set (set xs high x) low y
  set-back-front front back low high x y is len below = let none : high - high ≡ 0 = omega arith in
      rw (is, set-append_right front back high high x len (omega arith), none, set-append_left front (set back 0 x) low y (omega arith))

  -- an element that is read before a cut
  pub in_front : {xs : List X} (front back : List X) (low x : _) → xs ≡ front ++ back → low < length front → x ≡ get_or front low x → slice_get xs low ≡ Some x
  in_front front back low x is within read = cc (slice_get-append_left front back low x (slice_get_read front (length front) low x refl within read))

  -- the element that is read right after a cut
  pub behind : {xs : List X} (front back : List X) (high x : _) → xs ≡ front ++ back → length front ≡ high → 0 < length back → x ≡ get_or back 0 x → slice_get xs high ≡ Some x
  behind front back high x is len some read =
      let place : high ≡ length front + 0 = omega arith in cc (slice_get-append-add front back 0, slice_get_read back (length back) 0 x refl some read)

  -- two elements written over one list
  pub refilled_two : (xs : List X) (i j x y n : _) → n ≡ length xs → take n (slice_set (slice_set xs i x) j y ++ drop (length (slice_set (slice_set xs i x) j y)) xs) ≡ slice_set (slice_set xs i x) j y
  refilled_two xs i j x y n size = let ys = slice_set (slice_set xs i x) j y in let same = length-set _ j y ∙ length-set xs i x in
      rw (drop_all (length ys) xs (omega arith), append-nil ys) (take_all n ys (omega arith))

  -- the rest of a list from an element on starts with it
  pub drop-read : (xs : List X) (p x : _) → slice_get xs p ≡ Some x → drop p xs ≡ x ∷ drop (suc p) xs
  drop-read [] p x e = absurd cc
  drop-read (y ∷ xs) zero x e = let same : y ≡ x = cc in ap (λ z. z ∷ xs) same
  drop-read (y ∷ xs) (suc p) x e = drop-read xs p x e

  -- an index without an element is not less than the length
  pub read_none : (xs : List X) (p : ℕ) → None ≡ slice_get xs p → length xs ≤ p
  read_none [] p e = omega arith
  read_none (x ∷ xs) zero e = absurd (cc)
  read_none (x ∷ xs) (suc p) e = let r = read_none xs p e in omega arith

  -- the elements after a removed one are kept
  pub drop_remove : (xs : List X) (p : ℕ) → p < length xs → drop p (remove xs p) ≡ drop (suc p) xs
  drop_remove [] p low = absurd (omega arith)
  drop_remove (x ∷ xs) zero low = refl
  drop_remove (x ∷ xs) (suc p) low = drop_remove xs p (omega arith)

  -- the elements before a removed one are kept
  pub take_remove : (xs : List X) (p : ℕ) → p < length xs → (ks : List X) → take p (remove xs p) ++ ks ≡ take p xs ++ ks
  take_remove [] p low ks = absurd (omega arith)
  take_remove (x ∷ xs) zero low ks = refl
  take_remove (x ∷ xs) (suc p) low ks = cc (take_remove xs p (omega arith) ks)

  -- removing an element makes a list one shorter
  pub length_remove : (xs : List X) (p : ℕ) → p < length xs → suc (length (remove xs p)) ≡ length xs
  length_remove [] p low = absurd (omega arith)
  length_remove (x ∷ xs) zero low = refl
  length_remove (x ∷ xs) (suc p) low = ap suc (length_remove xs p (omega arith))
