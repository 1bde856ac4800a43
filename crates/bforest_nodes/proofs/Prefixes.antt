-- The first elements of a list, read and written.
use Rattle.std.proofs.Common.{◌≡◌, ℕ, ◌<◌, ◌≤◌, zero, suc, List, [], ◌∷◌, ◌++◌, length, take, drop, replicate, slice_get, refl, sym, ap, arith}
use Rattle.std.proofs.Math.Seq.{take-length}

module _ {X : Type 0} where
  -- an index below n reads the same element in the first n elements
  pub get_front : (n : ℕ) (xs : List X) (i : ℕ) → i < n → slice_get (take n xs) i ≡ slice_get xs i
  get_front zero xs i within = absurd (omega arith)
  get_front (suc n) [] i within = refl
  get_front (suc n) (x ∷ xs) zero within = refl
  get_front (suc n) (x ∷ xs) (suc i) within = get_front n xs i (omega arith)

  -- the first n elements of a list written over another are that list over its first n elements
  pub over_front : (n : ℕ) (xs w : List X) → n ≤ length xs → take n (w ++ drop (length w) xs) ≡ take (length (take n xs)) (w ++ drop (length w) (take n xs))
  over_front n xs [] room = sym (take-length (take n xs))
  over_front zero xs (y ∷ w) room = refl
  over_front (suc n) [] (y ∷ w) room = absurd (omega arith)
  over_front (suc n) (x ∷ xs) (y ∷ w) room = ap (λ zs. y ∷ zs) (over_front n xs w (omega arith))

  -- the first of some copies
  pub first_copy : (n : ℕ) (x : X) → 0 < n → take 1 (replicate n x) ≡ x ∷ []
  first_copy zero x some = absurd (omega arith)
  first_copy (suc n) x some = refl
