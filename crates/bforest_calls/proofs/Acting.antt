-- One step of a writing cursor.
use Rattle.bforest.specs.Cursor as map
use Rattle.bforest.specs.SetCursor as set
use Rattle.bforest.specs.declared.map_cursor_mut.MapCursorMut.{MapCursorMut}
use Rattle.bforest.specs.declared.set_cursor.SetCursor.{SetCursor}
use Rattle.bforest_calls.specs.State.{Acts}
use Rattle.bforest_calls.specs.Steps.{ActsBy, View, map_view, set_view}
use Rattle.bforest_calls.specs.declared.call.Act.{Act}
use Rattle.bforest_calls.specs.declared.call.Seen.{Seen}
use Rattle.std.proofs.Common.{Bool, List, [], ap, false, refl, true, ◌≡◌, ◌∷◌, ℕ}
use Rattle.std.specs.Prelude.{IsTrue, is_none, slice_get, ◌↔◌}
use Rattle.std.specs.declared.cmp.Ordering.{Ordering}

module _ {S K V : Type 0} {most : ℕ} {view : View S K V} {old : S} {step : Act K V} {sight : Seen K V} where
  -- a step after which the cursor stands at p
  acts-by : {new : S} {p : ℕ} → view.spot new ≡ p → view.order new ≡ view.order old → view.handle_loan new ≡ view.handle_loan old
      → view.forest_loan new ≡ view.forest_loan old → Acts most (view.order old) (view.held old) (view.spot old) step sight (view.held new) p
      → ActsBy most view old step sight new
  acts-by spot order handle_loan forest_loan a = record { acts = rw spot a; order = order; handle_loan = handle_loan; forest_loan = forest_loan }

  -- a step that leaves the cursor as it is
  pub stays : Acts most (view.order old) (view.held old) (view.spot old) step sight (view.held old) (view.spot old) → ActsBy most view old step sight old
  stays a = acts-by refl refl refl refl a

module _ {K V C : Type 0} {order : C → K → K → Ordering} {old new : MapCursorMut K V C} {p : ℕ} where
  pub map-held : map.Moves order old new p → (map_view order).held new ≡ (map_view order).held old
  map-held m = λ j. record { forest = m.forest j; number = m.map j }

  pub map-acts : {step : Act K V} {sight : Seen K V} → map.Goes order old new p
      → Acts 7 (order (map.comparator old)) ((map_view order).held old) (map.spot old) step sight ((map_view order).held new) p
      → ActsBy 7 (map_view order) old step sight new
  map-acts m a = acts-by m.spot (ap order m.comparator) m.map_loan m.forest_loan a

module _ {K C : Type 0} {order : C → K → K → Ordering} {old new : SetCursor K C} {p : ℕ} where
  pub set-held : set.Moves order old new p → (set_view order).held new ≡ (set_view order).held old
  set-held m = λ j. record { forest = m.forest j; number = m.set j }

  pub set-acts : {step : Act K (Unit {0})} {sight : Seen K (Unit {0})} → set.Goes order old new p
      → Acts 15 (order (set.comparator old)) ((set_view order).held old) (set.spot old) step sight ((set_view order).held new) p
      → ActsBy 15 (set_view order) old step sight new
  set-acts m a = acts-by m.spot (ap order m.comparator) m.set_loan m.forest_loan a

-- the flag for an empty list is whether the list has no first entry
pub flag-empty : {X : Type 0} (b : Bool) (es : List X) → (IsTrue b ↔ (es ≡ [])) → b ≡ is_none (slice_get es 0)
flag-empty true [] h = refl
flag-empty true (e ∷ es) h = let no = h.0 refl in absurd (cc)
flag-empty false [] h = let no = h.1 refl in absurd (cc)
flag-empty false (e ∷ es) h = refl
