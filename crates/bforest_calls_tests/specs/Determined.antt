-- Two runs of one list of calls that go in step.
use Rattle.bforest.specs.Forest.{free_of, limit_of, list_at, sizes_at, slots_of}
use Rattle.bforest_calls.specs.Machine.{Orders, State, Step}
use Rattle.bforest_calls.specs.declared.call.Answer.TheVariants as answer
use Rattle.bforest_calls.specs.declared.call.Answer.{Answer}
use Rattle.bforest_calls.specs.declared.call.Call.{Call}
use Rattle.bforest_calls.specs.declared.call.Seen.TheVariants as seen
use Rattle.bforest.specs.Refusal.{Memory}
use Rattle.std.specs.List.{AllZip}
use Rattle.std.specs.Prelude.{All, Bool, Err, List, [], ◌≡◌, ◌≢◌, ◌∷◌, ℕ}

module _ {K V : Type 0} where
  -- equal handles, lists and sizes of each number, and numbers of slots, of free slots and of allowed slots
  pub record AreAlike (one other : State K V) : Type 0 where
    pub handles : other.handles ≡ one.handles
    pub lists : (n : ℕ) → list_at other.forest n ≡ list_at one.forest n
    pub sizes : (n : ℕ) → sizes_at other.forest n ≡ sizes_at one.forest n
    pub slots : slots_of other.forest ≡ slots_of one.forest
    pub free : free_of other.forest ≡ free_of one.forest
    pub limit : limit_of other.forest ≡ limit_of one.forest

  -- equal answers, where answers that are lists are compared by their items
  abbrev pub IsSameAnswer : Answer K V → Answer K V → Type 0
  IsSameAnswer (answer.Pairs one) (answer.Pairs other) = other.items ≡ one.items
  IsSameAnswer (answer.Script one) (answer.Script other) = other.items ≡ one.items
  IsSameAnswer one other = other ≡ one

  -- no memory was refused to the call or to a step of its cursor
  abbrev pub HadMemory : Answer K V → Type 0
  HadMemory (answer.Put result) = result ≢ Err Memory
  HadMemory (answer.Made result) = result ≢ Err Memory
  HadMemory (answer.United result) = result ≢ Err Memory
  HadMemory (answer.Script sights) = All (λ sight. sight ≢ seen.Put (Err Memory)) sights.items
  HadMemory given = Unit {0}

  -- after each call the handles of both runs have the same numbers
  abbrev pub GoInStep : List (State K V) → List (State K V) → Type 0
  GoInStep = AllZip (λ one other. other.handles ≡ one.handles)

  module _ (most : ℕ) (reads : Bool) (orders : Orders K) where
    -- a run of the machine through these states, one after each call
    abbrev pub RunsThrough : State K V → List (Call K V) → List (Answer K V) → List (State K V) → State K V → Type 0
    RunsThrough old [] [] [] new = new ≡ old
    RunsThrough old (call ∷ calls) (given ∷ answers) (state ∷ states) new = Step most reads orders old call given state × RunsThrough state calls answers states new
    RunsThrough old calls answers states new = ⊥

    -- Two runs of the same calls; `run` and `run'` are states that they go through. Through whatever states they
    -- go, where they begin alike, had memory and go in step, they answer the same and end alike.
    pub record AreDetermined (calls : List (Call K V)) (old : State K V) (answers : List (Answer K V)) (new old' : State K V) (answers' : List (Answer K V)) (new' : State K V) : Type 0 where
      pub run : (states : List (State K V)) × RunsThrough old calls answers states new
      pub run' : (states : List (State K V)) × RunsThrough old' calls answers' states new'
      pub same : (states states' : List (State K V)) → RunsThrough old calls answers states new → RunsThrough old' calls answers' states' new'
          → AreAlike old old' → All HadMemory answers → All HadMemory answers' → GoInStep states states' → AllZip IsSameAnswer answers answers' × AreAlike new new'
