-- Lists that are cut in two.
use Rattle.std.proofs.Common.{◌≡◌, ℕ, ◌+◌, ◌-◌, zero, suc, List, [], ◌∷◌, ◌++◌, length, take, drop, slice_get, Some, refl, sym, ap, ◌∙◌, arith, rules, append_assoc}
use Rattle.std.proofs.lemmas.List.{take-append-drop, take_at}
use Rattle.std.proofs.lemmas.Option.{slice_get_within}

module _ {X : Type 0} where
  -- the element after the front
  pub seam_is : (front : List X) (x : X) (rest : List X) → slice_get (front ++ x ∷ rest) (length front) ≡ Some x
  seam_is [] x rest = refl
  seam_is (y ∷ front) x rest = seam_is front x rest

  -- a list whose first `count` elements end with x
  pub whole_at : (xs front : List X) (x : X) (count : ℕ) → take count xs ≡ front ++ x ∷ [] → xs ≡ front ++ x ∷ drop count xs
  whole_at xs front x count e =
      sym (take-append-drop count xs) ∙ ap (λ ys. ys ++ drop count xs) e ∙ append_assoc front (x ∷ []) (drop count xs)

  -- the front is the first `count - 1` elements
  pub front_at : (xs front : List X) (x : X) (count : ℕ) → take count xs ≡ front ++ x ∷ [] → length front + 1 ≡ count → front ≡ take (count - 1) xs
  front_at xs front x count e len =
      sym (ap (take (count - 1)) (whole_at xs front x count e) ∙ take_at front (x ∷ drop count xs) (count - 1) (omega arith))

  -- the element after the front of a list whose first `count` elements end with x
  pub key_at : (xs front : List X) (x : X) (count : ℕ) → take count xs ≡ front ++ x ∷ [] → length front + 1 ≡ count → slice_get xs (count - 1) ≡ Some x
  key_at xs front x count e len =
      let place : count - 1 ≡ length front = omega arith in
      ap (λ ys. slice_get ys (count - 1)) (whole_at xs front x count e)
      ∙ ap (slice_get (front ++ x ∷ drop count xs)) place
      ∙ seam_is front x (drop count xs)

  -- dropping more than the first list
  pub drop-append-add : (xs ys : List X) (n : ℕ) → drop (length xs + n) (xs ++ ys) ≡ drop n ys
  drop-append-add [] ys n = let e : length {A = X} [] + n ≡ n = omega arith in rw e
  drop-append-add (x ∷ xs) ys n = let e : length (x ∷ xs) + n ≡ suc (length xs + n) = omega arith in rw e (drop-append-add xs ys n)

  -- an element of the second list
  pub slice_get-append-add : (xs ys : List X) (n : ℕ) → slice_get (xs ++ ys) (length xs + n) ≡ slice_get ys n
  slice_get-append-add [] ys n = let e : length {A = X} [] + n ≡ n = omega arith in rw e
  slice_get-append-add (x ∷ xs) ys n = let e : length (x ∷ xs) + n ≡ suc (length xs + n) = omega arith in rw e (slice_get-append-add xs ys n)

  -- the first element after the first n
  pub slice_get-drop : (xs : List X) (n : ℕ) → slice_get (drop n xs) 0 ≡ slice_get xs n
  slice_get-drop [] zero = refl
  slice_get-drop [] (suc n) = refl
  slice_get-drop (x ∷ xs) zero = refl
  slice_get-drop (x ∷ xs) (suc n) = slice_get-drop xs n

  -- a list is the elements before one, it, and those after it
  pub around : (xs : List X) (k : ℕ) (x : X) → slice_get xs k ≡ Some x → take k xs ++ x ∷ drop (suc k) xs ≡ xs
  around [] k x e = absurd (omega (arith, slice_get_within {A = X} [] k x e))
  around (y ∷ xs) zero x e = search rules
  around (y ∷ xs) (suc k) x e = ap (λ zs. y ∷ zs) (around xs k x e)

  -- the first n + 1 elements end with the one at n
  pub last_taken : (xs : List X) (n : ℕ) (x : X) → slice_get xs n ≡ Some x → take (suc n) xs ≡ take n xs ++ x ∷ []
  last_taken [] n x e = absurd (omega (arith, slice_get_within {A = X} [] n x e))
  last_taken (y ∷ ys) zero x e = search rules
  last_taken (y ∷ ys) (suc n) x e = ap (λ zs. y ∷ zs) (last_taken ys n x e)
