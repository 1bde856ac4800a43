-- The answer to a line, and what the line leaves.
use Rattle.bforest.specs.Forest.{empty, free_of, sizes_of, slots_of}
use Rattle.bforest_calls.specs.Machine.{Live, Orders, State, Step, number_at}
use Rattle.bforest_calls.specs.declared.call.Answer.{Answer}
use Rattle.bforest_run.specs.Grammar.{SpellsMap, SpellsSet}
use Rattle.bforest_run.specs.Orders.{order_of}
use Rattle.bforest_run.specs.Shown.{counts_text, map_text, set_text, truth_text}
use Rattle.bforest_run.specs.Words.{Word}
use Rattle.bforest_run.specs.declared.line.Line.TheVariants.{Holds, Made, Stat}
use Rattle.bforest_run.specs.declared.line.Line.{Line}
use Rattle.bforest_run.specs.declared.order.Order.TheVariants.{Down, Tens, Up}
use Rattle.std.specs.Prelude.{Bool, IsTrue, List, None, [], codes, false, length, replicate, true, ◌↔◌, ◌≡◌, ◌∷◌, ℕ}

-- the comparators that lines name
abbrev pub all_orders : Orders ℕ
all_orders = order_of Up ∷ order_of Down ∷ order_of Tens ∷ []

-- an empty forest, and eight empty handles
abbrev pub at_start : {V : Type 0} → ℕ → State ℕ V
at_start limit = record { forest = empty limit; handles = replicate 8 None }

module _ {V : Type 0} (most : ℕ) (reads : Bool) (shown : Answer ℕ V → List ℕ) where
  -- The text of the answer to a line, from the state before it to the state after it. A call is one step of
  -- the machine.
  abbrev pub Tells : State ℕ V → Line V → List ℕ → State ℕ V → Type 0
  Tells old (Made call) text new = (given : Answer ℕ V) × Step most reads all_orders old call given new × (text ≡ shown given)
  Tells old (Holds h) text new = (so : Bool) × (IsTrue so ↔ Live old h) × (text ≡ truth_text so) × (new ≡ old)
  Tells old (Stat h) text new =
      ((Live old h → ⊥) → text ≡ codes "dead")
      × (Live old h → text ≡ counts_text (length (sizes_of old.forest (number_at old h))) (slots_of old.forest) (free_of old.forest))
      × (new ≡ old)

  -- the answer to the words of a line
  abbrev pub TellsBy : (List Word → Line V → Type 0) → State ℕ V → List Word → List ℕ → State ℕ V → Type 0
  TellsBy spells old words text new = (line : Line V) × spells words line × Tells old line text new

-- words that spell no line
abbrev pub IsBadBy : {V : Type 0} → (List Word → Line V → Type 0) → List Word → Type 0
IsBadBy {V} spells words = (line : Line V) → spells words line → ⊥

-- both, for maps and for sets
abbrev pub MapTells : State ℕ ℕ → List Word → List ℕ → State ℕ ℕ → Type 0
MapTells = TellsBy 7 true map_text SpellsMap

abbrev pub SetTells : State ℕ (Unit {0}) → List Word → List ℕ → State ℕ (Unit {0}) → Type 0
SetTells = TellsBy 15 false set_text SpellsSet

abbrev pub IsBadForMaps : List Word → Type 0
IsBadForMaps = IsBadBy SpellsMap

abbrev pub IsBadForSets : List Word → Type 0
IsBadForSets = IsBadBy SpellsSet
