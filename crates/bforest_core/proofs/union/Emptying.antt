-- Freeing what is below some children of a node.
use Rattle.bforest_core.proofs.Words.{◌≡◌, ℕ, suc, ◌+◌, ◌-◌, ◌≤◌, ◌<◌, [], ◌++◌, length, slice_get, Some, reverse, sym, subst, ◌∙◌, arith}
use Rattle.bforest_core.proofs.Words.{Heads, Row, Rows, IsLeafCapacity, Table, Frees, entry_items, flat_map, inner_content, numbers_down, numbers_under}
use Rattle.bforest_core.proofs.{table.Lists.{slice_get-append-add, slice_get-left}, table.Tables.count-append, union.Sweep.{Swept, Turn, item_at, sweep-first, sweep-last, sweep-next, sweep-turn}}
use Rattle.bforest_core.specs.Cut.{Between}

module _ {K V : Type 0} {most : ℕ} {old : Table K V} {number from to : ℕ} {leaves : Row K V} {lower : Rows K} {top : Heads K} (b : Between most old number from to leaves lower top) where
  -- what is below the children up to an index is freed
  pub record Emptying (now : Table K V) (index : ℕ) : Type 0 where
    pub swept : Swept most old now leaves lower top (index - from)
    pub low : from ≤ index
    pub slot_is : slice_get now.nodes number ≡ Some (inner_content (b.before ++ (top ++ b.after)))

  emptying : {now : Table K V} {index : ℕ} → Swept most old now leaves lower top (index - from) → from ≤ index → Emptying now index
  emptying s low = record { swept = s; low = low; slot_is = s.frees.others number (omega (arith, b.outside, s.split number, count-append)) ∙ b.slot_is }

  pub emptying-first : IsLeafCapacity most → Emptying old from
  emptying-first capacity = let none : 0 ≡ from - from = omega arith in emptying (subst (Swept most old old leaves lower top) none (sweep-first capacity old leaves lower top b.under)) (omega arith)

  -- the child at the index
  pub emptying-turn : (capacity : IsLeafCapacity most) {now : Table K V} {index child : ℕ} → index < to → Emptying now index → slice_get (entry_items (b.before ++ (top ++ b.after))) index ≡ Some child →
      (x : K × ℕ) × (x.1 ≡ child) × Turn capacity old leaves lower top now (index - from) x
  emptying-turn capacity {now} {index} {child} small s found = let i = item_at (b.before ++ (top ++ b.after)) index child found in
      let at : length b.before + (index - from) ≡ index = omega (arith, s.low, b.from_is) in
      let rest : slice_get (top ++ b.after) (index - from) ≡ Some i.0 = sym (slice_get-append-add b.before (top ++ b.after) (index - from)) ∙ subst (λ z. slice_get (b.before ++ (top ++ b.after)) z ≡ Some i.0) (sym at) i.1 in
      let here : slice_get top (index - from) ≡ Some i.0 = sym (slice_get-left top b.after (index - from) (omega (arith, small, s.low, b.to_is))) ∙ rest in
      (i.0, i.2, sweep-turn capacity old leaves lower top now (index - from) i.0 b.apart s.swept here)

  pub emptying-next : (capacity : IsLeafCapacity most) {now new : Table K V} {index : ℕ} (x : K × ℕ) → Emptying now index → (t : Turn capacity old leaves lower top now (index - from) x) →
      Frees now new (numbers_under t.cut.leaves_left t.cut.lower_left) [] (numbers_down now.nodes (length t.cut.lower_left) x.1) → Emptying new (suc index)
  emptying-next capacity {new = new} {index} x s t gone = let at : suc (index - from) ≡ suc index - from = omega (arith, s.low) in
      emptying (subst (Swept most old new leaves lower top) at (sweep-next capacity old leaves lower top x b.apart t gone)) (omega (arith, s.low))

  pub emptying-last : (capacity : IsLeafCapacity most) {now : Table K V} {index : ℕ} → Emptying now index → length top ≤ index - from → Frees old now (numbers_under leaves lower) [] (flat_map (numbers_down old.nodes (length lower)) (reverse (entry_items top)))
  emptying-last capacity s past = sweep-last capacity old leaves lower top past s.swept
