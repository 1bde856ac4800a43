-- Texts with a space before each, as a loop writes them.
use Rattle.bforest_run.specs.Shown.{more_texts}
use Rattle.std.proofs.Common.{List, [], ap, append_assoc, codes, get_or, length, sym, take, ◌+◌, ◌++◌, ◌<◌, ◌∙◌, ◌∷◌, ◌≡◌, ℕ}
use Rattle.std.proofs.lemmas.List.{append-nil, take_more}

module _ {X : Type 0} (text : X → List ℕ) where
  -- the texts of a list with one more element at the end
  more_texts-push : (xs : List X) (x : X) → more_texts text (xs ++ x ∷ []) ≡ more_texts text xs ++ (codes " " ++ text x)
  more_texts-push [] x = append-nil (codes " " ++ text x)
  more_texts-push (y ∷ xs) x = ap (λ t. (codes " " ++ text y) ++ t) (more_texts-push xs x) ∙ sym (append_assoc (codes " " ++ text y) (more_texts text xs) (codes " " ++ text x))

  -- the texts of the first i elements and of the next one
  pub more_texts-take : (xs : List X) (i : ℕ) (d : X) → i < length xs → more_texts text (take i xs) ++ (codes " " ++ text (get_or xs i d)) ≡ more_texts text (take (i + 1) xs)
  more_texts-take xs i d within = sym (more_texts-push (take i xs) (get_or xs i d)) ∙ ap (more_texts text) (sym (take_more xs i d within))
