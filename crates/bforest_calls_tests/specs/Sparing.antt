-- Calls that do not change a tree, and what stays of the tree.
use Rattle.bforest.specs.Forest.{list_at, sizes_at}
use Rattle.bforest_calls.specs.Machine.{State, number_at}
use Rattle.bforest_calls.specs.declared.call.Call.TheVariants as call
use Rattle.bforest_calls.specs.declared.call.Call.{Call}
use Rattle.std.specs.Prelude.{Some, ◌≡◌, ◌≢◌, ℕ}

module _ {K V : Type 0} where
  -- Where the handles have the numbers of this state, the call neither changes the tree of number m nor
  -- copies a handle of m. It may read
  -- the tree, and overwrite its handles.
  abbrev pub Spares : ℕ → State K V → Call K V → Type 0
  Spares m state (call.Insert h c k v) = number_at state h ≢ Some m
  Spares m state (call.GetOrInsert h c k v) = number_at state h ≢ Some m
  Spares m state (call.Update h c k v) = number_at state h ≢ Some m
  Spares m state (call.UpdateOrInsert h c k v put) = number_at state h ≢ Some m
  Spares m state (call.Shift h c from keys) = number_at state h ≢ Some m
  Spares m state (call.Remove h c k) = number_at state h ≢ Some m
  Spares m state (call.PopFirst h) = number_at state h ≢ Some m
  Spares m state (call.PopLast h) = number_at state h ≢ Some m
  Spares m state (call.Compact h) = number_at state h ≢ Some m
  Spares m state (call.RemoveRange h c lo hi) = number_at state h ≢ Some m
  Spares m state (call.Unite h other c) = number_at state h ≢ Some m
  Spares m state (call.Intersect h other c) = number_at state h ≢ Some m
  Spares m state (call.Subtract h other c) = number_at state h ≢ Some m
  Spares m state (call.Clear h) = number_at state h ≢ Some m
  Spares m state (call.Edit h c steps) = number_at state h ≢ Some m
  Spares m state (call.Retain h c keys put) = number_at state h ≢ Some m
  Spares m state (call.Alias from to) = number_at state from ≢ Some m
  Spares m state (call.SplitOff h c k to) = number_at state h ≢ Some m
  Spares m state call.ForestClear = ⊥
  Spares m state reading = Unit {0}

  -- number m keeps its list and sizes, and no other handle has this number in the new state
  pub record IsSpared (m : ℕ) (old new : State K V) : Type 0 where
    pub list : list_at new.forest m ≡ list_at old.forest m
    pub sizes : sizes_at new.forest m ≡ sizes_at old.forest m
    pub handles : (h : ℕ) → number_at new h ≡ Some m → number_at old h ≡ Some m
