-- A path's node goes to the next one, or to the previous one, by its turn: the lowest level above it where the path can go on.
use Rattle.bforest_core.proofs.Words.{AreFirst, AreLast, Turned, TurnedBack, TurnedBy, ◌≡◌, ◌≢◌, ℕ, zero, suc, ◌+◌, ◌-◌, ◌≤◌, ◌<◌, List, length, get_or}
use Rattle.bforest_core.proofs.Words.{slice_get, Some, Bool, false, IsTrue, ◌↔◌, inl, inr, refl, sym, subst, ◌∙◌, arith, cases_lt, false≢true, Content}
use Rattle.bforest_core.proofs.Words.{HasOver, LastAt, MoreAt, OnLevels, OnOver, heads, inner_content, Over}
use Rattle.bforest_core.proofs.walks.Turns.{ChildAt, Went, back_asks, before_turn, first_moves, first_turn, last_moves, last_turn, next_turn, turn_asks}
use Rattle.bforest_core.proofs.{walks.Turns.turn_moves, walks.Reading.{LastAsked, LastRead}, walks.Steps.{not_less, only}, rows.Zipper.on_row}

-- two runs of levels, one above the other
pub both : {Holds : ℕ → Type 0} (low between high : ℕ) → OnLevels Holds low between → OnLevels Holds between high → OnLevels Holds low high
both low between high below above i from to = elim (cases_lt i between) [ inl less ↦ below i from less | inr more ↦ above i more to ]

-- a level lower
down : {AtEnd Moves Moves' : ℕ → Type 0} {level from size : ℕ} → TurnedBy AtEnd Moves level from size → level < from → (AtEnd from → Moves' (from - 1))
    → TurnedBy AtEnd Moves' level (from - 1) size
down {from} t low goes = record {
  height = t.height;
  within = omega arith;
  ends = λ i above below. t.ends i above (omega arith);
  moved = goes (t.ends from (omega arith) (omega arith));
}

module _ {K V : Type 0} (slots : List (Content K V)) (path indices : _) where
  -- on one level the path's child is the last, where the test for a further one failed
  pub here-last : {low high level : _} → low ≡ level → high ≡ suc level → {has : Bool} → ((entries : _) → slice_get slots (get_or path level 0) ≡ Some
      (inner_content entries) → IsTrue has ↔ (get_or indices level 0 + 1 < length entries)) → has ≡ false → AreLast slots path indices low high
  here-last low_is high_is test is i low high = subst (LastAt slots path indices) (omega arith)
      (λ entries slot. not_less _ _ (λ more. false≢true (sym is ∙ (test entries slot).1 more)))

module _ {K V : Type 0} {slots : List (Content K V)} {path indices : _} where
  -- the rows from a higher level on
  over-up : (steps : ℕ) {level size rows list place : _} (to : ℕ)
      → Over slots path indices level size rows list place → to ≡ level + steps → to ≤ size → HasOver slots path indices to size
  over-up zero {size} {rows} {list} {place} to p is low = (rows, list, place, subst (λ z. Over slots path indices z size rows list place) (omega arith) p)
  over-up (suc steps) to p is low = over-up steps to (on_row p (λ e. omega arith)).over (omega arith) low

  -- the node on a level meets what the test for a child requires
  pub turn-asks : {level size rows list place : _} → Over slots path indices level size rows list place → level ≢ size → size ≤ 17 → (level ≤ 16)
      × ((entries : _) × (slice_get slots (get_or path level 0) ≡ Some (inner_content entries)))
  turn-asks p other height = let s = on_row p other in (omega arith, (s.entries, s.slot_is))

  -- the rows above the node meet what a search for the turn from there requires
  pub turn-above : {level size rows list place : _} (to : ℕ)
      → Over slots path indices level size rows list place → level ≢ size → to ≡ suc level → HasOver slots path indices to size
  turn-above to p other is = let s = on_row p other in (s.rest, heads s.row, length s.before, rw is s.over)

  -- where each child up to the root is the last, the node is the last of its level
  all-last : (steps : ℕ) {level : ℕ} {size rows list place : _} → Over slots path indices (suc level) size rows list place → size ≡ suc level + steps
      → size ≤ 17 → AreLast slots path indices (suc level) size → suc place ≡ length list
  all-last zero p is height last = (only p (omega arith)).1
  all-last (suc steps) {level} p is height last = last_moves p refl (λ e. omega arith) height (last (suc level) (omega arith) (omega arith))
      (λ rows list place o. all-last steps o (omega arith) height (λ i from to. last i (omega arith) to))

  -- where each child up to the root is the first, the node is the first of its level
  all-first : (steps : ℕ) {level : ℕ} {size rows list place : _} → Over slots path indices (suc level) size rows list place → size ≡ suc level + steps
      → size ≤ 17 → AreFirst indices (suc level) size → place ≡ 0
  all-first zero p is height first = (only p (omega arith)).0
  all-first (suc steps) p is height first = first_moves p refl (λ e. omega arith) height (λ rows list place o. all-first steps o (omega arith) height (λ i from
      to. first i (omega arith) to)) (omega arith)

  -- the path's node on level `from` has moved, and the path goes on down from it
  module _ {level from : ℕ} (low : level < from) where
    module _ {path1 indices1 size : _} (t : Turned slots path indices path1 indices1 level from size) where
      -- the node meets what going to its first child requires
      pub down-asks : HasOver slots path indices (suc level) size → ChildAt slots path1 (from - 1) 0
      down-asks w = let o = over-up (from - suc level) (suc (from - 1)) w.3 (omega arith) (omega arith) in
          turn_asks {up = from} o.3 (omega arith) (λ e. omega arith) t.height (first_turn o.3 (omega arith) (λ e. omega arith)
          t.height (t.ends from (omega arith) (omega arith)) t.moved)

      -- the path went there, and that child is the next node of its level
      pub down-turned : {path2 indices2 : _} → Went slots path1 indices1 (from - 1) 0 path2 indices2
          → Turned slots path indices path2 indices2 level (from - 1) size
      down-turned g = down t low (λ last rows list place p.
          turn_moves {up = from} p (omega arith) (λ e. omega arith) t.height (first_turn p (omega arith) (λ e. omega arith) t.height last t.moved) g)

    module _ {path1 indices1 size : _} (t : TurnedBack slots path indices path1 indices1 level from size) (r : ℕ) (wide : 17 ≤ length path1) where
      -- the node meets what reading its last index requires
      pub last-held : HasOver slots path indices (suc level) size → LastAsked slots (get_or path1 from r)
      last-held w = let o = over-up (from - suc level) (suc (from - 1)) w.3 (omega arith) (omega arith) in
          back_asks o.3 (omega arith) (λ e. omega arith) t.height t.moved r wide

      module _ {last : ℕ} (says : LastRead slots (get_or path1 from r) last) where
        -- the node meets what going to its last child requires
        pub last-goes : HasOver slots path indices (suc level) size → ChildAt slots path1 (from - 1) last
        last-goes w = let o = over-up (from - suc level) (suc (from - 1)) w.3 (omega arith) (omega arith) in
            turn_asks o.3 (omega arith) (λ e. omega arith) t.height
            (last_turn o.3 (omega arith) (λ e. omega arith) t.height t.moved r wide
            (omega arith) says).1

        -- the path went there, and that child is the previous node of its level
        pub back-turned : {path2 indices2 : _} → Went slots path1 indices1 (from - 1) last path2 indices2
            → TurnedBack slots path indices path2 indices2 level (from - 1) size
        back-turned g = down t low (λ first rows list place p.
            let w = last_turn p (omega arith) (λ e. omega arith) t.height t.moved r wide (omega arith) says in
            (w.0, turn_moves p (omega arith) (λ e. omega arith) t.height w.1 g))

  -- the turn, where the path goes to the next child
  module _ {level turn size : ℕ} (height : size ≤ 17) (within : (level + 2 ≤ turn) × (turn ≤ size)) (here : AreLast slots path indices (suc level) (level + 2))
      (last : AreLast slots path indices (level + 2) turn) where
    -- where no level has a further child, the node is the last
    pub far-last : turn ≡ size → OnOver slots path indices (suc level) size (λ rows list place. suc place ≡ length list)
    far-last end rows list place p = all-last (size - suc level) p (omega arith) height (rw (← end) (both _ _ _ here last))

    module _ (other : turn ≢ size) (more : MoreAt slots path indices turn) where
      pub turn-goes : HasOver slots path indices (suc level) size → ChildAt slots path (turn - 1) (get_or indices turn 0 + 1)
      turn-goes w = let o = over-up (turn - suc level - 1 + 1) (suc (turn - 1)) w.3 (omega arith) (omega arith) in
          turn_asks o.3 (omega arith) other height (next_turn o.3 (omega arith) other height more)

      pub turned : {path1 indices1 : _} → Went slots path indices (turn - 1) (get_or indices turn 0 + 1) path1 indices1
          → Turned slots path indices path1 indices1 level (turn - 1) size
      turned g = record {
        height = height;
        within = omega arith;
        ends = λ i above below. both _ _ _ here last i above (omega arith);
        moved = λ rows list place p. turn_moves p (omega arith) other height (next_turn p (omega arith) other height more) g;
      }

  -- the turn, where the path goes to the previous child
  module _ {level turn size : ℕ} (height : size ≤ 17) (within : (level + 1 ≤ turn) × (turn ≤ size)) (first : AreFirst indices (level + 1) turn) where
    -- where no level has a child before, the node is the first
    pub far-first : turn ≡ size → OnOver slots path indices (suc level) size (λ rows list place. place ≡ 0)
    far-first end rows list place p = all-first (size - suc level) p (omega arith) height (λ i above below. first i (omega arith) (omega arith))

    module _ (other : turn ≢ size) (some : 0 < get_or indices turn 0) where
      pub before-goes : HasOver slots path indices (suc level) size → ChildAt slots path (turn - 1) (get_or indices turn 0 - 1)
      before-goes w = let o = over-up (turn - suc level) (suc (turn - 1)) w.3 (omega arith) (omega arith) in
          turn_asks o.3 (omega arith) other height (before_turn o.3 (omega arith) other height some).1

      pub turned-back : {path1 indices1 : _} → Went slots path indices (turn - 1) (get_or indices turn 0 - 1) path1 indices1
          → TurnedBack slots path indices path1 indices1 level (turn - 1) size
      turned-back g = record {
        height = height;
        within = omega arith;
        ends = λ i above below. first i (omega arith) (omega arith);
        moved = λ rows list place p. let w = before_turn p (omega arith) other height some in (w.0, turn_moves p (omega arith) other height w.1 g);
      }
