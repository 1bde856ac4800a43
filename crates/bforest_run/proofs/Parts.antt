-- The first part of bytes that are split.
use Rattle.std.proofs.Common.{Bool, List, None, Some, [], ap, arith, cond, drop, false, length, length-drop, refl, sym, take, true, ◌==◌, ◌+◌, ◌-◌, ◌∙◌, ◌∷◌, ◌≡◌, ◌≤◌, ℕ}
use Rattle.bforest_run.specs.Lines.{lines_of, without_return}
use Rattle.std.proofs.lemmas.List.Splits.{length-slice_split, slice_split_first, slice_split_none}
use Rattle.std.proofs.lemmas.List.Sums.{count_by-le-length, fails_before_first}
use Rattle.std.proofs.lemmas.List.{length-map, take_all}
use Rattle.std.specs.List.{position, position_or_len, slice_split}
use borrow.Author.Tests.{ltb-false, ltb-true}
use lib.Dec.{ltb}

module _ (p : ℕ → Bool) (xs : List ℕ) where
  -- a list with an element that passes is split there
  pub slice_split-at : (e : ℕ) → Some e ≡ position p xs → slice_split p xs ≡ take e xs ∷ slice_split p (take (length xs - (e + 1)) (drop (e + 1) xs))
  slice_split-at e h = go (ltb (position_or_len p xs) (length xs)) refl h
    where
      all_behind : take (length xs - (e + 1)) (drop (e + 1) xs) ≡ drop (e + 1) xs
      all_behind = take_all (length xs - (e + 1)) (drop (e + 1) xs) (omega (arith, length-drop (e + 1) xs))

      go : (b : Bool) → ltb (position_or_len p xs) (length xs) ≡ b → Some e ≡ cond b (Some (position_or_len p xs)) None → slice_split p xs ≡ take e xs ∷ slice_split p (take (length xs - (e + 1)) (drop (e + 1) xs))
      go true t h =
          let here : position_or_len p xs ≡ e = cc in
          let within = ltb-true (position_or_len p xs) (length xs) t in
          slice_split_first p xs 0 within ∙ (λ j. take (here j) xs ∷ slice_split p (drop (here j + 1) xs)) ∙ ap (λ l. take e xs ∷ slice_split p l) (sym all_behind)
      go false t h = absurd (cc)

  -- a list without an element that passes is one part
  pub slice_split-whole : None ≡ position p xs → slice_split p xs ≡ xs ∷ []
  slice_split-whole h = go (ltb (position_or_len p xs) (length xs)) refl h
    where
      go : (b : Bool) → ltb (position_or_len p xs) (length xs) ≡ b → None ≡ cond b (Some (position_or_len p xs)) None → slice_split p xs ≡ xs ∷ []
      go true t h = absurd (cc)
      go false t h =
          let far = ltb-false (position_or_len p xs) (length xs) t in
          slice_split_none p xs (λ k d within. fails_before_first p xs k d (omega (arith, far, within)))

-- there is at most one line more than bytes
pub few_lines : (bytes : List ℕ) → length (lines_of bytes) ≤ length bytes + 1
few_lines bytes =
    let parts = length-map (slice_split (λ b. b == 10) bytes) without_return in
    omega (arith, parts, length-slice_split (λ b. b == 10) bytes, count_by-le-length (λ b. b == 10) bytes)
