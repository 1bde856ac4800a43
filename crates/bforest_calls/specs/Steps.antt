-- What one step of a cursor or of a range answers, and the steps of a script in turn.
use Rattle.bforest.specs.Cursor as map
use Rattle.bforest.specs.Cursor.{Cursor, at_place}
use Rattle.bforest.specs.SetCursor as set
use Rattle.bforest.specs.declared.map_cursor_mut.MapCursorMut.{MapCursorMut}
use Rattle.bforest.specs.declared.set_cursor.SetCursor.{SetCursor}
use Rattle.bforest_calls.specs.Looks.{left_after, place_after, sight_of, taken}
use Rattle.bforest_calls.specs.State.{Acts, Held}
use Rattle.bforest_calls.specs.declared.call.Act.{Act}
use Rattle.bforest_calls.specs.declared.call.Answer.TheVariants as answer
use Rattle.bforest_calls.specs.declared.call.Answer.{Answer}
use Rattle.bforest_calls.specs.declared.call.Look.{Look}
use Rattle.bforest_calls.specs.declared.call.Seen.{Seen}
use Rattle.bforest_calls.specs.declared.call.Side.{Side}
use Rattle.std.specs.Borrow.{GName}
use Rattle.std.specs.Global.{Global}
use Rattle.std.specs.Prelude.{List, Vec, [], ◌≡◌, ◌∷◌, ℕ}
use Rattle.std.specs.declared.cmp.Ordering.{Ordering}

-- the steps in turn, each from where the step before led
module _ {A S Y : Type 0} (goes : S → A → Y → S → Type 0) where
  abbrev pub Chain : S → List A → List Y → S → Type 0
  Chain old [] [] new = new ≡ old
  Chain old (step ∷ steps) (sight ∷ sights) new = (mid : S) × goes old step sight mid × Chain mid steps sights new
  Chain old [] (sight ∷ sights) new = ⊥
  Chain old (step ∷ steps) [] new = ⊥

-- an answer that lists those of all steps
abbrev pub Chained : {A S K V : Type 0} → (S → A → Seen K V → S → Type 0) → S → List A → S → Answer K V → Type 0
Chained {K = K} {V = V} goes old steps new given = (sights : Vec (Seen K V) Global) × (given ≡ answer.Script sights) × Chain goes old steps sights.items new

-- a step of a reading cursor
abbrev pub LooksBy : {K V C : Type 0} → (C → K → K → Ordering) → Cursor K V C → Look K → Seen K V → Cursor K V C → Type 0
LooksBy order old step sight new =
    (sight ≡ sight_of (order old.comparator) old.entries old.spot step) × (new ≡ at_place old (place_after (order old.comparator) old.entries old.spot step))

-- a step from one end of what a range has left, as entries
abbrev pub TakesFrom : {S K V : Type 0} → (S → List (K × V)) → S → Side → Seen K V → S → Type 0
TakesFrom entries old side sight new = (sight ≡ taken (entries old) side) × (entries new ≡ left_after (entries old) side)

-- What is seen of a writing cursor of a type S: its handle and forest, its place, its order and its two loans.
pub record View (S K V : Type 0) : Type 0 where
  pub held : S → Held K V
  pub spot : S → ℕ
  pub order : S → K → K → Ordering
  pub handle_loan : S → GName
  pub forest_loan : S → GName

-- a step of a writing cursor, whose order and loans stay
pub record ActsBy {S K V : Type 0} (most : ℕ) (view : View S K V) (old : S) (step : Act K V) (sight : Seen K V) (new : S) : Type 0 where
  pub acts : Acts most (view.order old) (view.held old) (view.spot old) step sight (view.held new) (view.spot new)
  pub order : view.order new ≡ view.order old
  pub handle_loan : view.handle_loan new ≡ view.handle_loan old
  pub forest_loan : view.forest_loan new ≡ view.forest_loan old

-- what is seen of a map's writing cursor, and of a set's cursor
abbrev pub map_view : {K V C : Type 0} → (C → K → K → Ordering) → View (MapCursorMut K V C) K V
map_view order = record {
  held = λ c. record { forest = map.forest_now c; number = map.map_now c };
  spot = map.spot;
  order = λ c. order (map.comparator c);
  handle_loan = map.map_loan;
  forest_loan = map.forest_loan;
}

abbrev pub set_view : {K C : Type 0} → (C → K → K → Ordering) → View (SetCursor K C) K (Unit {0})
set_view order = record {
  held = λ c. record { forest = set.forest_now c; number = set.set_now c };
  spot = set.spot;
  order = λ c. order (set.comparator c);
  handle_loan = set.set_loan;
  forest_loan = set.forest_loan;
}
