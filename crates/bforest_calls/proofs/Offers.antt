-- A call is one of those that the engine makes as it does.
use Rattle.bforest_calls.specs.Beside.{IsBeside}
use Rattle.bforest_calls.specs.Compared.{IsComparing}
use Rattle.bforest_calls.specs.Alone.{IsAlone}
use Rattle.bforest_calls.specs.declared.call.Act.{Act}
use Rattle.bforest_calls.specs.declared.call.Call.TheVariants as call
use Rattle.bforest_calls.specs.declared.call.Call.{Call}
use Rattle.bforest_calls.specs.declared.call.Look.{Look}
use Rattle.bforest_calls.specs.declared.call.Side.{Side}
use Rattle.std.proofs.Common.{Bool, Vec, refl, true, ◌≡◌, ℕ}
use Rattle.std.specs.Global.{Global}
use Rattle.std.specs.declared.ops.Bound.{Bound}

module _ {K V : Type 0} where
  pub no-other-alone : (made : Call K V) → (h : ℕ) × IsAlone h made → ((h : ℕ) → made ≡ call.First h → ⊥) → ((h : ℕ) → made ≡ call.Last h → ⊥)
      → ((h : ℕ) → made ≡ call.PopFirst h → ⊥) → ((h : ℕ) → made ≡ call.PopLast h → ⊥)
      → ((h : ℕ) → made ≡ call.Len h → ⊥) → ((h : ℕ) → made ≡ call.Compact h → ⊥) → ⊥
  no-other-alone (call.First h) w first last pop_first pop_last len compact = first h refl
  no-other-alone (call.Last h) w first last pop_first pop_last len compact = last h refl
  no-other-alone (call.PopFirst h) w first last pop_first pop_last len compact = pop_first h refl
  no-other-alone (call.PopLast h) w first last pop_first pop_last len compact = pop_last h refl
  no-other-alone (call.Len h) w first last pop_first pop_last len compact = len h refl
  no-other-alone (call.Compact h) w first last pop_first pop_last len compact = compact h refl
  no-other-alone other w first last pop_first pop_last len compact = absurd w.1

  pub comparing-alone : (reads : Bool) (made : Call K V) → (h : ℕ) × (c : ℕ) × IsComparing reads h c made
      → ((h c : ℕ) (k : K) → made ≡ call.Get h c k → ⊥) → ((h c : ℕ) (k : K) → made ≡ call.GetOrLess h c k → ⊥)
      → ((h c : ℕ) (k : K) → made ≡ call.GetOrGreater h c k → ⊥) → ((h c : ℕ) (k : K) (v : V) → made ≡ call.Insert h c k v → ⊥)
      → (reads ≡ true → (h c : ℕ) (k : K) (v : V) → made ≡ call.GetOrInsert h c k v → ⊥)
      → (reads ≡ true → (h c : ℕ) (k : K) (v : V) → made ≡ call.Update h c k v → ⊥)
      → (reads ≡ true → (h c : ℕ) (k : K) (v put : V) → made ≡ call.UpdateOrInsert h c k v put → ⊥)
      → ((h c : ℕ) (from : K) (keys : Vec (K × K) Global) → made ≡ call.Shift h c from keys → ⊥)
      → ((h c : ℕ) (k : K) → made ≡ call.Remove h c k → ⊥)
      → (reads ≡ true → (h c : ℕ) (steps : Vec (Look K) Global) → made ≡ call.Read h c steps → ⊥)
      → ((h c : ℕ) (steps : Vec (Act K V) Global) → made ≡ call.Edit h c steps → ⊥)
      → ((h c : ℕ) (lo hi : Bound K) (ends : Vec Side Global) → made ≡ call.Range h c lo hi ends → ⊥)
      → ((h c : ℕ) (lo hi : Bound K) → made ≡ call.RemoveRange h c lo hi → ⊥) → ⊥
  comparing-alone reads (call.Get h c k) w get less greater insert got update put shift remove read edit range out = get h c k refl
  comparing-alone reads (call.GetOrLess h c k) w get less greater insert got update put shift remove read edit range out = less h c k refl
  comparing-alone reads (call.GetOrGreater h c k) w get less greater insert got update put shift remove read edit range out = greater h c k refl
  comparing-alone reads (call.Insert h c k v) w get less greater insert got update put shift remove read edit range out = insert h c k v refl
  comparing-alone reads (call.GetOrInsert h c k v) w get less greater insert got update put shift remove read edit range out = got w.2.2 h c k v refl
  comparing-alone reads (call.Update h c k v) w get less greater insert got update put shift remove read edit range out = update w.2.2 h c k v refl
  comparing-alone reads (call.UpdateOrInsert h c k v x) w get less greater insert got update put shift remove read edit range out = put w.2.2 h c k v x refl
  comparing-alone reads (call.Shift h c from keys) w get less greater insert got update put shift remove read edit range out = shift h c from keys refl
  comparing-alone reads (call.Remove h c k) w get less greater insert got update put shift remove read edit range out = remove h c k refl
  comparing-alone reads (call.Read h c steps) w get less greater insert got update put shift remove read edit range out = read w.2.2 h c steps refl
  comparing-alone reads (call.Edit h c steps) w get less greater insert got update put shift remove read edit range out = edit h c steps refl
  comparing-alone reads (call.Range h c lo hi ends) w get less greater insert got update put shift remove read edit range out = range h c lo hi ends refl
  comparing-alone reads (call.RemoveRange h c lo hi) w get less greater insert got update put shift remove read edit range out = out h c lo hi refl
  comparing-alone reads other w get less greater insert got update put shift remove read edit range out = absurd w.2

  pub beside-alone : (made : Call K V) → (h : ℕ) × (o : ℕ) × (c : ℕ) × IsBeside h o c made → ((h o c : ℕ) → made ≡ call.Unite h o c → ⊥)
      → ((h o c : ℕ) → made ≡ call.Intersect h o c → ⊥) → ((h o c : ℕ) → made ≡ call.Subtract h o c → ⊥)
      → ((h o c : ℕ) → made ≡ call.IsSubset h o c → ⊥) → ((h o c : ℕ) → made ≡ call.IsDisjoint h o c → ⊥) → ⊥
  beside-alone (call.Unite h o c) w unite intersect subtract subset disjoint = unite h o c refl
  beside-alone (call.Intersect h o c) w unite intersect subtract subset disjoint = intersect h o c refl
  beside-alone (call.Subtract h o c) w unite intersect subtract subset disjoint = subtract h o c refl
  beside-alone (call.IsSubset h o c) w unite intersect subtract subset disjoint = subset h o c refl
  beside-alone (call.IsDisjoint h o c) w unite intersect subtract subset disjoint = disjoint h o c refl
  beside-alone other w unite intersect subtract subset disjoint = absurd w.3
