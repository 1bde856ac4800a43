-- Inline elements, moved up and down.
use Rattle.std.proofs.Common.{◌≡◌, ℕ, ◌+◌, ◌-◌, ◌<◌, ◌≤◌, zero, suc, List, [], ◌∷◌, ◌++◌, length, take, drop, insert, remove, slice_set, slice_get, Some, refl, sym, ap, ◌∙◌, arith, append_assoc}
use Rattle.std.specs.List.{copy_within}
use Rattle.std.proofs.lemmas.List.{take_at, drop_at, length-take-le, length-drop, take-append-le, take-take}
use Rattle.bforest_nodes.proofs.Seams.{last_taken}

module _ {X : Type 0} where
  -- moving the elements from i on up by one place and writing x at i inserts x
  pub insert_front : (xs : List X) (n i m : ℕ) (x : X) → n ≡ i + m → n < length xs → take (suc n) (slice_set (take (suc i) xs ++ (take m (drop i xs) ++ drop (suc n) xs)) i x) ≡ take i (take n xs) ++ x ∷ drop i (take n xs)
  insert_front [] n i m x e k = absurd (omega arith)
  insert_front (y ∷ ys) n zero m x e k =
      let same : m ≡ n = omega arith in
      let len : length (take m (y ∷ ys)) ≡ n = length-take-le m (y ∷ ys) (omega arith) ∙ same in
      ap (λ zs. x ∷ zs) (take_at (take m (y ∷ ys)) (drop (suc n) (y ∷ ys)) n len) ∙ ap (λ j. x ∷ take j (y ∷ ys)) same
  insert_front (y ∷ ys) zero (suc i) m x e k = absurd (omega arith)
  insert_front (y ∷ ys) (suc n) (suc i) m x e k = ap (λ zs. y ∷ zs) (insert_front ys n i m x (omega arith) (omega arith))

  -- moving the elements after i down by one place removes the one at i
  pub remove_front : (xs : List X) (n i m : ℕ) → suc n ≡ suc i + m → n < length xs → take n (take i xs ++ (take m (drop (suc i) xs) ++ drop n xs)) ≡ take i (take (suc n) xs) ++ drop (suc i) (take (suc n) xs)
  remove_front [] n i m e k = absurd (omega arith)
  remove_front (y ∷ ys) n zero m e k =
      let same : m ≡ n = omega arith in
      let len : length (take m ys) ≡ n = length-take-le m ys (omega arith) ∙ same in
      take_at (take m ys) (drop n (y ∷ ys)) n len ∙ ap (λ j. take j ys) same
  remove_front (y ∷ ys) zero (suc i) m e k = absurd (omega arith)
  remove_front (y ∷ ys) (suc n) (suc i) m e k = ap (λ zs. y ∷ zs) (remove_front ys n i m (omega arith) (omega arith))

  -- an insertion by moving up, with sums as contracts have them
  pub insert_up : (xs : List X) (n i m : ℕ) (x : X) → n ≡ i + m → n < length xs → take (n + 1) (slice_set (take (i + 1) xs ++ (take m (drop i xs) ++ drop (n + 1) xs)) i x) ≡ take i (take n xs) ++ x ∷ drop i (take n xs)
  insert_up xs n i m x e k =
      let top : n + 1 ≡ suc n = omega arith in
      let next : i + 1 ≡ suc i = omega arith in
      ap (λ a. take a (slice_set (take (i + 1) xs ++ (take m (drop i xs) ++ drop a xs)) i x)) top
      ∙ ap (λ b. take (suc n) (slice_set (take b xs ++ (take m (drop i xs) ++ drop (suc n) xs)) i x)) next
      ∙ insert_front xs n i m x e k

  pub remove_down : (xs : List X) (n i m : ℕ) → n ≡ i + m → n < length xs → take n (take i xs ++ (take m (drop (i + 1) xs) ++ drop n xs)) ≡ take i (take (n + 1) xs) ++ drop (suc i) (take (n + 1) xs)
  remove_down xs n i m e k =
      let top : suc n ≡ n + 1 = omega arith in
      let next : i + 1 ≡ suc i = omega arith in
      ap (λ b. take n (take i xs ++ (take m (drop b xs) ++ drop n xs))) next
      ∙ remove_front xs n i m (omega arith) k
      ∙ ap (λ a. take i (take a xs) ++ drop (suc i) (take a xs)) top

  pub inserted : (xs : List X) (n i : ℕ) (x : X) → i ≤ n → n < length xs → take (n + 1) (slice_set (copy_within xs i n (i + 1)) i x) ≡ insert (take n xs) i x
  inserted xs n i x h k =
      let end : (i + 1) + (n - i) ≡ n + 1 = omega arith in
      ap (λ t. take (n + 1) (slice_set t i x)) (append_assoc (take (i + 1) xs) (take (n - i) (drop i xs)) (drop ((i + 1) + (n - i)) xs))
      ∙ ap (λ j. take (n + 1) (slice_set (take (i + 1) xs ++ (take (n - i) (drop i xs) ++ drop j xs)) i x)) end
      ∙ insert_up xs n i (n - i) x (omega arith) k

  pub removed : (xs : List X) (n i : ℕ) → i < n → n ≤ length xs → take (n - 1) (copy_within xs (i + 1) n i) ≡ remove (take n xs) i
  removed xs n i h k =
      let end : i + (n - (i + 1)) ≡ n - 1 = omega arith in
      let whole : (n - 1) + 1 ≡ n = omega arith in
      ap (take (n - 1)) (append_assoc (take i xs) (take (n - (i + 1)) (drop (i + 1) xs)) (drop (i + (n - (i + 1))) xs))
      ∙ ap (λ j. take (n - 1) (take i xs ++ (take (n - (i + 1)) (drop (i + 1) xs) ++ drop j xs))) end
      ∙ remove_down xs (n - 1) i (n - (i + 1)) (omega arith) (omega arith)
      ∙ ap (λ j. take i (take j xs) ++ drop (suc i) (take j xs)) whole

  -- a write to one of the first n elements
  pub set_front : (xs : List X) (n i : ℕ) (x : X) → i < n → take n (slice_set xs i x) ≡ slice_set (take n xs) i x
  set_front [] zero i x h = refl
  set_front [] (suc n) zero x h = refl
  set_front [] (suc n) (suc i) x h = refl
  set_front (y ∷ ys) zero i x h = absurd (omega arith)
  set_front (y ∷ ys) (suc n) zero x h = refl
  set_front (y ∷ ys) (suc n) (suc i) x h = ap (λ zs. y ∷ zs) (set_front ys n i x (omega arith))

  take_none : (n : ℕ) → take {A = X} n [] ≡ []
  take_none zero = refl
  take_none (suc n) = refl

  -- the first elements of a list that begins with a whole other list
  take_beyond : (fs xs : List X) (i n : ℕ) → length fs ≡ i → take (i + n) (fs ++ xs) ≡ fs ++ take n xs
  take_beyond [] xs zero n e = let same : 0 + n ≡ n = omega arith in ap (λ k. take k xs) same
  take_beyond [] xs (suc i) n e = absurd (omega arith)
  take_beyond (f ∷ fs) xs zero n e = absurd (omega arith)
  take_beyond (f ∷ fs) xs (suc i) n e =
      let up : suc i + n ≡ suc (i + n) = omega arith in
      ap (λ k. take k (f ∷ (fs ++ xs))) up ∙ ap (λ zs. f ∷ zs) (take_beyond fs xs i n (omega arith))

  -- the elements after the first i of the first n
  pub drop_front : (xs : List X) (n i : ℕ) → i ≤ n → take (n - i) (drop i xs) ≡ drop i (take n xs)
  drop_front xs n zero h = let same : n - 0 ≡ n = omega arith in ap (λ k. take k xs) same
  drop_front [] zero (suc i) h = absurd (omega arith)
  drop_front [] (suc n) (suc i) h = take_none (suc n - suc i)
  drop_front (y ∷ ys) zero (suc i) h = absurd (omega arith)
  drop_front (y ∷ ys) (suc n) (suc i) h =
      let same : suc n - suc i ≡ n - i = omega arith in
      ap (λ k. take k (drop i ys)) same ∙ drop_front ys n i (omega arith)

  -- removing the first i of the first n elements, where those up to m moved down
  pub removed_front : (xs : List X) (n i m : ℕ) → i ≤ n → n ≤ m → m ≤ length xs → take (n - i) (copy_within xs i m 0) ≡ drop i (take n xs)
  removed_front xs n i m h k room =
      let size : length (take (m - i) (drop i xs)) ≡ m - i = length-take-le (m - i) (drop i xs) (omega (arith, length-drop i xs)) in
      take-append-le (n - i) (take (m - i) (drop i xs)) (drop (0 + (m - i)) xs) (omega (arith, size))
      ∙ take-take (n - i) (m - i) (drop i xs) (omega arith)
      ∙ drop_front xs n i h

  -- inserting the first i elements of another list before the first n, where those up to m moved up
  pub put_front : (xs fs : List X) (n i m : ℕ) → n ≤ m → m + i ≤ length xs → i ≤ length fs → take (i + n) (take i fs ++ drop i (copy_within xs 0 m i)) ≡ take i fs ++ take n xs
  put_front xs fs n i m h room front =
      let whole : m - 0 ≡ m = omega arith in
      let e : drop i (copy_within xs 0 m i) ≡ take m xs ++ drop (i + m) xs =
      ap (drop i) (append_assoc (take i xs) (take (m - 0) xs) (drop (i + (m - 0)) xs))
      ∙ drop_at (take i xs) (take (m - 0) xs ++ drop (i + (m - 0)) xs) i (length-take-le i xs (omega arith))
      ∙ ap (λ k. take k xs ++ drop (i + k) xs) whole in
      ap (λ zs. take (i + n) (take i fs ++ zs)) e
      ∙ take_beyond (take i fs) (take m xs ++ drop (i + m) xs) i n (length-take-le i fs front)
      ∙ ap (λ zs. take i fs ++ zs) (take-append-le n (take m xs) (drop (i + m) xs) (omega (arith, length-take-le m xs)) ∙ take-take n m xs h)

  -- an element of the first n
  pub at_front : (xs : List X) (n i : ℕ) (x : X) → i < n → slice_get xs i ≡ Some x → slice_get (take n xs) i ≡ Some x
  at_front [] zero i x h e = e
  at_front [] (suc n) i x h e = e
  at_front (y ∷ ys) zero i x h e = absurd (omega arith)
  at_front (y ∷ ys) (suc n) zero x h e = e
  at_front (y ∷ ys) (suc n) (suc i) x h e = at_front ys n i x (omega arith) e

  -- the last of the first n + 1 elements
  pub last_front : (xs : List X) (n m : ℕ) (x : X) → m ≡ suc n → slice_get (take m xs) n ≡ Some x → take m xs ≡ take n xs ++ x ∷ []
  last_front xs n m x e found =
      let twice : take (suc n) (take m xs) ≡ take m xs = ap (λ k. take k (take m xs)) (sym e) ∙ take-take m m xs (omega arith) in
      let once : take n (take m xs) ≡ take n xs = take-take n m xs (omega arith) in
      sym twice ∙ last_taken (take m xs) n x found ∙ ap (λ ys. ys ++ x ∷ []) once
