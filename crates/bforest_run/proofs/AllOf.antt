-- The values that all words of a list name.
use Rattle.bforest_run.specs.Grammar.{all2, all_of}
use Rattle.std.proofs.Common.{List, None, Option, Some, [], ap, arith, get_or, length, map, option_map, refl, suc, take, zero, ◌+◌, ◌++◌, ◌<◌, ◌∙◌, ◌∷◌, ◌≡◌, ℕ}
use Rattle.std.proofs.lemmas.List.{take_more}

module _ {W X : Type 0} (named : W → Option X) where
  abbrev onto : Option X → Option (List X) → Option (List X)
  onto x xs = option_map (λ all. all.0 ∷ all.1) (all2 x xs)

  onto-none : (x : Option X) → onto x None ≡ None
  onto-none None = refl
  onto-none (Some x) = refl

  all_of-push : (ws : List W) (w : W) (xs : List X) (x : X) → all_of named ws ≡ Some xs → named w ≡ Some x → all_of named (ws ++ w ∷ []) ≡ Some (xs ++ x ∷ [])
  all_of-push [] w [] x all one = ap (λ o. onto o (Some [])) one
  all_of-push [] w (y ∷ xs) x all one = absurd (cc)
  all_of-push (v ∷ ws) w xs x all one = go (named v) (all_of named ws) (λ ys is. all_of-push ws w ys x is one) xs all
    where
      go : (o : Option X) (rest : Option (List X)) → ((ys : List X) → rest ≡ Some ys → all_of named (ws ++ w ∷ []) ≡ Some (ys ++ x ∷ [])) → (xs : List X) → onto o rest ≡ Some xs → onto o (all_of named (ws ++ w ∷ [])) ≡ Some (xs ++ x ∷ [])
      go None rest more xs e = absurd (cc)
      go (Some y) None more xs e = absurd (cc)
      go (Some y) (Some ys) more [] e = absurd (cc)
      go (Some y) (Some ys) more (z ∷ xs) e =
          let same : (y ∷ ys) ≡ z ∷ xs = cc in
          ap (onto (Some y)) (more ys refl) ∙ ap (λ l. Some (l ++ x ∷ [])) same

  -- one more word, which names a value
  pub all_of-more : (ws : List W) (i : ℕ) (d : W) (xs : List X) (x : X) → i < length ws → all_of named (take i ws) ≡ Some xs → named (get_or ws i d) ≡ Some x → all_of named (take (i + 1) ws) ≡ Some (xs ++ x ∷ [])
  all_of-more ws i d xs x within all one = ap (all_of named) (take_more ws i d within) ∙ all_of-push (take i ws) (get_or ws i d) xs x all one

  -- a list with a word that names nothing names nothing
  pub all_of-lacks : (ws : List W) (i : ℕ) (d : W) → i < length ws → named (get_or ws i d) ≡ None → all_of named ws ≡ None
  all_of-lacks [] i d within lacks = absurd (omega (arith, within))
  all_of-lacks (w ∷ ws) zero d within lacks = ap (λ o. onto o (all_of named ws)) lacks
  all_of-lacks (w ∷ ws) (suc i) d within lacks = ap (onto (named w)) (all_of-lacks ws i d (omega (arith, within)) lacks) ∙ onto-none (named w)

-- naming the views of words
pub all_of-map : {V W X : Type 0} (named : W → Option X) (v : V → W) (ws : List V) → all_of named (map v ws) ≡ all_of (λ w. named (v w)) ws
all_of-map named v [] = refl
all_of-map named v (w ∷ ws) = ap (λ all. option_map (λ a. a.0 ∷ a.1) (all2 (named (v w)) all)) (all_of-map named v ws)
