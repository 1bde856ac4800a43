-- A row whose elements were chosen place by place, as one list.
use Rattle.std.proofs.Common.{◌≡◌, ℕ, ◌+◌, ◌-◌, ◌<◌, ◌≤◌, List, [], ◌∷◌, length, take, insert, remove, slice_set, get_or, if◌then◌else◌, nat_le, nat_lt, refl, ap, arith}
use Rattle.std.proofs.lemmas.Grind.{common_steps}
use Rattle.std.proofs.lemmas.List.{ext_get_or}
use Rattle.std.proofs.lemmas.List.Edits.{get_or-insert_at, get_or-insert_below, get_or-insert_above, get_or-remove_below, get_or-remove_above, length-insert, length-remove}

-- the places before `at` have the elements that were at the places given by `from`
pub record Moved {X : Type 0} (from : ℕ → ℕ) (old items : List X) (at : ℕ) : Type 0 where
  pub len : length items ≡ length old
  pub each : (j : ℕ) (d : X) → j < at → get_or items j d ≡ get_or old (from j) d

module _ {X : Type 0} (xs ys : List X) (n i : ℕ) where
  -- moving the elements after i up and writing x at i inserts x
  pub risen : (x : X) → i ≤ n → n < length xs → n < length ys → ((j : ℕ) (d : X) → j ≤ n → get_or ys j d ≡ get_or xs (if nat_le j i then j else j - 1) d) → take (n + 1) (slice_set ys i x) ≡ insert (take n xs) i x
  risen x within room_xs room_ys chosen = ext_get_or x (take (n + 1) (slice_set ys i x)) (insert (take n xs) i x) (grind (arith, common_steps, length-insert))
      (λ j low. grind (arith, common_steps, length-insert, get_or-insert_at, get_or-insert_below, get_or-insert_above))

  -- moving the elements after i down removes the one at i
  pub sunk : i < n → n ≤ length xs → n ≤ length ys → ((j : ℕ) (d : X) → j + 1 < n → get_or ys j d ≡ get_or xs (if nat_lt j i then j else j + 1) d) → take (n - 1) ys ≡ remove (take n xs) i
  sunk within room_xs room_ys chosen = go xs refl
    where
      go : (zs : List X) → xs ≡ zs → take (n - 1) ys ≡ remove (take n xs) i
      go [] none = absurd (omega (arith, within, room_xs, ap length none))
      go (x ∷ zs) some = ext_get_or x (take (n - 1) ys) (remove (take n xs) i) (grind (arith, common_steps, length-remove))
          (λ j low. grind (arith, common_steps, length-remove, get_or-remove_below, get_or-remove_above))

module _ {X : Type 0} (xs : List X) (n i : ℕ) where
  -- inserting after the last element
  pub ended : (x : X) → i ≤ n → n ≤ i → n < length xs → take (n + 1) (slice_set xs i x) ≡ insert (take n xs) i x
  ended x within end room = risen xs xs n i x within room room (λ j d low. grind (arith, common_steps))
