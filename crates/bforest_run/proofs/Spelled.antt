-- The line of a verb and the other words.
use Rattle.bforest_run.specs.Grammar.{Reads, Spells, verbs}
use Rattle.bforest_run.specs.Words.{Word, row_of}
use Rattle.bforest_run.specs.declared.line.Line.{Line}
use Rattle.bforest_run.specs.declared.line.Verb.{Verb}
use Rattle.std.proofs.Common.{Bor, Err, IfOk, List, None, Ok, Option, Result, Some, [], arith, drop, get_or, length, map, subst, sym, take, ◌-◌, ◌∙◌, ◌∷◌, ◌≡◌, ◌≤◌, ℕ}
use Rattle.std.proofs.lemmas.List.{take_all}

module _ {V : Type 0} (Says : Verb → List Word → Line V → Type 0) where
  -- a line that is read from the words behind its verb is read from all words
  begun : (first : Word) (rest : List Word) (v : Verb) → row_of verbs first ≡ Some v → (o : Option (Line V)) → Reads (Says v rest) o → Reads (Spells Says (first ∷ rest)) o
  begun first rest v is (Some line) says = (v, is, says)
  begun first rest v is None none = λ line s. none line (subst (λ w. Says w rest line) (same s.0 (sym s.1 ∙ is)) s.2)
    where
      same : (w : Verb) → Some w ≡ Some v → w ≡ v
      same w e = cc

  begun-ok : {E : Type 0} (first : Word) (rest : List Word) (v : Verb) → row_of verbs first ≡ Some v → (r : Result (Option (Line V)) E) → IfOk r (Reads (Says v rest)) → IfOk r (Reads (Spells Says (first ∷ rest)))
  begun-ok first rest v is (Ok o) says = begun first rest v is o says
  begun-ok first rest v is (Err e) says = tt

  -- a line that is read from the words behind its verb is read from all words, given as a slice
  pub spelled : {E : Type 0} (words : List (Bor (List ℕ))) (d : Bor (List ℕ)) (v : Verb) (r : Result (Option (Line V)) E) → 1 ≤ length words → row_of verbs (get_or words 0 d).now ≡ Some v → IfOk r (Reads (Says v (map (λ w. w.now) (take (length words - 1) (drop 1 words))))) → IfOk r (Reads (Spells Says (map (λ w. w.now) words)))
  spelled [] d v r some is says = absurd (omega (arith, some))
  spelled (w ∷ ws) d v r some is says =
      let rest : take (length (w ∷ ws) - 1) ws ≡ ws = take_all (length (w ∷ ws) - 1) ws (omega arith) in
      begun-ok w.now (map (λ w. w.now) ws) v is r (subst (λ l. IfOk r (Reads (Says v (map (λ w. w.now) l)))) rest says)
