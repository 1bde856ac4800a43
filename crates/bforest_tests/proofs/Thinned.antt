-- A loop that removes every second entry, at the place of a cursor.
use Rattle.bforest.specs.Calls.{RemovesAt}
use Rattle.bforest.specs.Cursor.{Goes, IsCursor, Moves, entries, forest_now, map_now, spot}
use Rattle.bforest.specs.Forest.{Becomes}
use Rattle.bforest.specs.declared.map_cursor_mut.MapCursorMut.{MapCursorMut}
use Rattle.bforest.proofs.Loops.{Changed, changed-list, changed-moved, changed-none, changed-removed, moved-entries, next-spot}
use Rattle.bforest_tests.specs.Walks.{every_other}
use Rattle.std.proofs.Common.{List, [], ap, arith, drop, length, min, refl, remove, suc, sym, take, zero, ◌+◌, ◌++◌, ◌-◌, ◌<◌, ◌≤◌, ◌∙◌, ◌≡◌, ◌∷◌, ℕ}
use Rattle.std.proofs.lemmas.List.Edits.{length-remove}
use Rattle.std.specs.declared.cmp.Ordering.{Ordering}

module _ {X : Type 0} where
  -- a list without every second entry behind place p
  abbrev pub thinned_from : ℕ → List X → List X
  thinned_from p es = take p es ++ every_other (drop p es)

  pub thinned-first : (es : List X) → thinned_from 0 es ≡ every_other es
  thinned-first [] = refl
  thinned-first (x ∷ es) = refl

  -- a list with at most one entry from place p on stays
  pub thinned-last : (p : ℕ) (es : List X) → length es ≤ p + 1 → thinned_from p es ≡ es
  thinned-last zero [] few = refl
  thinned-last zero (x ∷ []) few = refl
  thinned-last zero (x ∷ y ∷ es) few = absurd (omega (arith, few))
  thinned-last (suc p) [] few = refl
  thinned-last (suc p) (x ∷ es) few = ap (λ z. x ∷ z) (thinned-last p es (omega (arith, few)))

  -- after a removal of the next entry, the rest is thinned from the entry that follows
  pub thinned-step : (p : ℕ) (es : List X) → suc p < length es → thinned_from (suc p) (remove es (suc p)) ≡ thinned_from p es
  thinned-step zero [] more = absurd (omega (arith, more))
  thinned-step zero (x ∷ []) more = absurd (omega (arith, more))
  thinned-step zero (x ∷ y ∷ es) more = refl
  thinned-step (suc p) [] more = absurd (omega (arith, more))
  thinned-step (suc p) (x ∷ es) more = ap (λ z. x ∷ z) (thinned-step p es (omega (arith, more)))

module _ {K X C : Type 0} (order : C → K → K → Ordering) where
  -- the loop has gone from c to d
  pub record Thins (c d : MapCursorMut K X C) : Type 0 where
    pub changed : Changed order c d
    pub rest : thinned_from (spot d) (entries d) ≡ every_other (entries c)

  pub thins-first : (c : MapCursorMut K X C) → IsCursor order c → spot c ≡ 0 → Thins c c
  thins-first c valid first = record { changed = changed-none order c valid; rest = ap (λ p. thinned_from p (entries c)) first ∙ thinned-first (entries c) }

  -- one step of the loop, to the next entry, which is removed
  module _ (c d e f : MapCursorMut K X C) (next : Moves order d e (min (spot d + 1) (length (entries d)))) (more : spot d + 1 < length (entries d)) (gone : RemovesAt 7 (forest_now e) (map_now e) (spot e) (forest_now f) (map_now f)) (goes : Goes order e f (spot e)) where
    within : suc (spot d) < length (entries d)
    within = omega (arith, more)

    there : spot f ≡ suc (spot d)
    there = goes.spot ∙ next-spot order next more

    left : entries f ≡ remove (entries d) (suc (spot d))
    left = gone.removed.list ∙ (λ j. remove (moved-entries order next j) (next-spot order next more j))

    pub thins-next : Thins c d → Thins c f
    thins-next t = record {
      changed = changed-removed order (changed-moved order t.changed next) goes gone;
      rest = (λ j. thinned_from (there j) (left j)) ∙ thinned-step (spot d) (entries d) within ∙ t.rest;
    }

    pub thins-fewer : length (entries f) - spot f < length (entries d) - spot d
    thins-fewer = omega (arith, there, within, ap length left, length-remove (entries d) (suc (spot d)) within)

  -- the list after the last step of the loop
  pub thins-last : (c d e : MapCursorMut K X C) → Thins c d → Moves order d e (min (spot d + 1) (length (entries d))) → length (entries d) ≤ spot d + 1 → Becomes (forest_now c) (map_now c) (forest_now e) (map_now e) (every_other (entries c))
  thins-last c d e t next past = changed-list order (changed-moved order t.changed next)
      (moved-entries order next ∙ sym (thinned-last (spot d) (entries d) past) ∙ t.rest)
