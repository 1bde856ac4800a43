-- What a call may change, and which handles it leaves their number and their list.
use Rattle.bforest_calls.specs.declared.call.Call.TheVariants as call
use Rattle.bforest_calls.specs.declared.call.Call.{Call}
use Rattle.bforest_calls.specs.declared.known.Reach.TheVariants.{Forest, Name, Nothing, Parts, Sublist, Tree}
use Rattle.bforest_calls.specs.declared.known.Reach.{Reach}
use Rattle.std.specs.Prelude.{List, None, Option, get_or, ◌≢◌, ℕ}

-- what a call may change
abbrev pub reach_of : {K V : Type 0} → Call K V → Reach
reach_of (call.Insert h c k v) = Tree h
reach_of (call.GetOrInsert h c k v) = Tree h
reach_of (call.Update h c k v) = Tree h
reach_of (call.UpdateOrInsert h c k v put) = Tree h
reach_of (call.Shift h c from keys) = Tree h
reach_of (call.Remove h c k) = Tree h
reach_of (call.PopFirst h) = Sublist h
reach_of (call.PopLast h) = Sublist h
reach_of (call.Compact h) = Sublist h
reach_of (call.RemoveRange h c lo hi) = Tree h
reach_of (call.Unite h other c) = Tree h
reach_of (call.Intersect h other c) = Tree h
reach_of (call.Subtract h other c) = Tree h
reach_of (call.Clear h) = Sublist h
reach_of (call.Edit h c steps) = Tree h
reach_of (call.Retain h c keys put) = Sublist h
reach_of (call.Alias from to) = Name to
reach_of (call.DeepClone from to) = Name to
reach_of (call.Load h entries) = Name h
reach_of (call.SplitOff h c k to) = Parts h to
reach_of call.ForestClear = Forest
reach_of looks = Nothing

-- After a call with this reach, the list of handle g increases under each comparator under which it did, and g is live, where the handles
-- have these numbers: g is no copy of a handle whose tree changes, and is not the handle that gets another tree.
abbrev pub IsSpared : List (Option ℕ) → Reach → ℕ → Type 0
IsSpared handles Nothing g = Unit {0}
IsSpared handles (Tree h) g = get_or handles h None ≢ get_or handles g None
IsSpared handles (Sublist h) g = h ≢ g → get_or handles h None ≢ get_or handles g None
IsSpared handles (Name to) g = to ≢ g
IsSpared handles (Parts h to) g = (to ≢ g) × (get_or handles h None ≢ get_or handles g None)
IsSpared handles Forest g = ⊥
