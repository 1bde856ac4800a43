-- Exchanging two handles.
use Rattle.bforest_calls.specs.declared.call.Call.TheVariants as call
use Rattle.bforest_calls.specs.declared.call.Call.{Call}
use Rattle.std.specs.Prelude.{List, None, Option, get_or, if◌then◌else◌, length, nat_eq, ◌<◌, ◌≡◌, ℕ}

-- the index j for i and i for j; each other index stays
abbrev pub exchange : ℕ → ℕ → ℕ → ℕ
exchange i j h = if nat_eq h i then j else if nat_eq h j then i else h

-- the call with handles i and j exchanged
abbrev pub exchanged : {K V : Type 0} → ℕ → ℕ → Call K V → Call K V
exchanged i j (call.Get h c k) = call.Get (exchange i j h) c k
exchanged i j (call.GetOrLess h c k) = call.GetOrLess (exchange i j h) c k
exchanged i j (call.GetOrGreater h c k) = call.GetOrGreater (exchange i j h) c k
exchanged i j (call.First h) = call.First (exchange i j h)
exchanged i j (call.Last h) = call.Last (exchange i j h)
exchanged i j (call.Insert h c k v) = call.Insert (exchange i j h) c k v
exchanged i j (call.GetOrInsert h c k v) = call.GetOrInsert (exchange i j h) c k v
exchanged i j (call.Update h c k v) = call.Update (exchange i j h) c k v
exchanged i j (call.UpdateOrInsert h c k v put) = call.UpdateOrInsert (exchange i j h) c k v put
exchanged i j (call.Shift h c from keys) = call.Shift (exchange i j h) c from keys
exchanged i j (call.Remove h c k) = call.Remove (exchange i j h) c k
exchanged i j (call.PopFirst h) = call.PopFirst (exchange i j h)
exchanged i j (call.PopLast h) = call.PopLast (exchange i j h)
exchanged i j (call.Len h) = call.Len (exchange i j h)
exchanged i j (call.Compact h) = call.Compact (exchange i j h)
exchanged i j (call.RemoveRange h c lo hi) = call.RemoveRange (exchange i j h) c lo hi
exchanged i j (call.Unite h other c) = call.Unite (exchange i j h) (exchange i j other) c
exchanged i j (call.Intersect h other c) = call.Intersect (exchange i j h) (exchange i j other) c
exchanged i j (call.Subtract h other c) = call.Subtract (exchange i j h) (exchange i j other) c
exchanged i j (call.IsSubset h other c) = call.IsSubset (exchange i j h) (exchange i j other) c
exchanged i j (call.IsDisjoint h other c) = call.IsDisjoint (exchange i j h) (exchange i j other) c
exchanged i j (call.Clear h) = call.Clear (exchange i j h)
exchanged i j (call.Iter h) = call.Iter (exchange i j h)
exchanged i j (call.IterBack h) = call.IterBack (exchange i j h)
exchanged i j (call.Read h c steps) = call.Read (exchange i j h) c steps
exchanged i j (call.Edit h c steps) = call.Edit (exchange i j h) c steps
exchanged i j (call.Range h c lo hi ends) = call.Range (exchange i j h) c lo hi ends
exchanged i j (call.Retain h c keys put) = call.Retain (exchange i j h) c keys put
exchanged i j (call.Alias from to) = call.Alias (exchange i j from) (exchange i j to)
exchanged i j (call.DeepClone from to) = call.DeepClone (exchange i j from) (exchange i j to)
exchanged i j (call.SplitOff h c k to) = call.SplitOff (exchange i j h) c k (exchange i j to)
exchanged i j (call.Load h entries) = call.Load (exchange i j h) entries
exchanged i j call.ForestClear = call.ForestClear

-- both indices are in range, and their handles have one number
abbrev pub AreAliases : List (Option ℕ) → ℕ → ℕ → Type 0
AreAliases handles i j = (i < length handles) × (j < length handles) × (get_or handles i None ≡ get_or handles j None)
