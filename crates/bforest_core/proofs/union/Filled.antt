-- Levels of sizes, of which the first node of each is filled from its neighbour.
use Rattle.bforest_core.proofs.Words.{◌≡◌, ℕ, ◌+◌, ◌-◌, ◌*◌, ◌/◌, ◌≤◌, ◌<◌, List, [], ◌∷◌, ◌++◌, length, refl, ap, arith, append_assoc, length-append}
use Rattle.bforest_core.proofs.Words.{cases_lt, inl, inr, le-leb, le-ltb, lt-leb, lt-ltb, Every}
use Rattle.bforest_core.specs.{Detach.IsReady, Sizes.{filled, filled_above, filled_levels, lessened}}

-- a node that is more than half full stays
pub filled-half : {most size : ℕ} (after : List ℕ) → most < 2 * size → filled most (size ∷ after) ≡ size ∷ after
filled-half [] more = refl
filled-half {most} {size} (next ∷ after) more = let e = lt-ltb most (2 * size) more in rw e refl

-- an only node stays
pub filled-one : (most : ℕ) (level : List ℕ) → length level ≤ 1 → filled most level ≡ level
filled-one most [] one = refl
filled-one most (size ∷ []) one = refl
filled-one most (size ∷ next ∷ level) one = absurd (omega arith)

-- a node that is at most half full is merged into the second where everything fits there
pub filled-merged : (most size next : ℕ) (after : List ℕ) → 2 * size ≤ most → size + next ≤ most → filled most (size ∷ next ∷ after) ≡ (size + next) ∷ after
filled-merged most size next after few fits = rw (le-ltb most (2 * size) few, le-leb (size + next) most fits) refl

-- else the two share
pub filled-shared : (most size next : ℕ) (after : List ℕ) → 2 * size ≤ most → most < size + next →
    filled most (size ∷ next ∷ after) ≡ ((size + next) - (size + next) / 2) ∷ (size + next) / 2 ∷ after
filled-shared most size next after few more = rw (le-ltb most (2 * size) few, lt-leb (size + next) most more) refl

-- the first node of the level has two entries or children or more
abbrev pub IsWide : List ℕ → Type 0
IsWide [] = Unit {0}
IsWide (size ∷ rest) = 2 ≤ size

-- what the first two nodes of a level become, whatever is behind them
pub record FilledPair (most size next : ℕ) : Type 0 where
  pub pair : List ℕ
  pub is : (after : List ℕ) → filled most (size ∷ next ∷ after) ≡ pair ++ after
  pub some : 1 ≤ length pair
  pub few : length pair ≤ 2
  pub wide : 3 ≤ most → 1 ≤ size → 1 ≤ next → (after : List ℕ) → IsWide (pair ++ after)

-- there are three cases
pub filled-pair : (most size next : ℕ) → FilledPair most size next
filled-pair most size next = elim (cases_lt most (2 * size)) [
  | inl more ↦ record { pair = size ∷ next ∷ []; is = λ after. filled-half (next ∷ after) more; some = omega arith; few = omega arith; wide = λ three some some' after. omega arith }
  | inr few ↦ elim (cases_lt most (size + next)) [
    | inl over ↦ record {
      pair = ((size + next) - (size + next) / 2) ∷ (size + next) / 2 ∷ [];
      is = λ after. filled-shared most size next after few over;
      some = omega arith;
      few = omega arith;
      wide = λ three some some' after. omega arith;
    }
    | inr fits ↦ record { pair = (size + next) ∷ []; is = λ after. filled-merged most size next after few fits; some = omega arith; few = omega arith; wide = λ three some some' after. omega arith }
  ]
]

-- what is behind the first two nodes stays
pub filled-behind : (most : ℕ) (level after : List ℕ) → 2 ≤ length level → filled most (level ++ after) ≡ filled most level ++ after
filled-behind most [] after two = absurd (omega arith)
filled-behind most (size ∷ []) after two = absurd (omega arith)
filled-behind most (size ∷ next ∷ level) after two = let p = filled-pair most size next in cc (p.is (level ++ after), p.is level, append_assoc p.pair level after)

-- no node is added
pub filled-fewer : (most : ℕ) (level : List ℕ) → length (filled most level) ≤ length level
filled-fewer most [] = omega arith
filled-fewer most (size ∷ []) = omega arith
filled-fewer most (size ∷ next ∷ level) = let p = filled-pair most size next in omega (arith, ap length (p.is level), length-append p.pair level, p.few)

-- the first of two nodes or more is wide once it is filled
pub filled-wide : (most : ℕ) (level : List ℕ) → 3 ≤ most → Every (λ size. 1 ≤ size) level → 2 ≤ length level → IsWide (filled most level)
filled-wide most [] three some two = absurd (omega arith)
filled-wide most (size ∷ []) three some two = absurd (omega arith)
filled-wide most (size ∷ next ∷ level) three some two = let p = filled-pair most size next in rw (p.is level) (p.wide three some.0 some.1.0 level)

-- the first nodes of a level, so many, are as many as before less what the level has lost
pub filled-left : (most : ℕ) (level after : List ℕ) → filled most (level ++ after) ≡ filled most level ++ after →
    length level - (length (level ++ after) - length (filled most (level ++ after))) ≡ length (filled most level)
filled-left most level after is = omega (arith, length-append level after, ap length is, length-append (filled most level) after, filled-fewer most level)

-- the last of these levels
abbrev pub last_level : List ℕ → List (List ℕ) → List ℕ
last_level level [] = level
last_level level (next ∷ levels) = last_level next levels

-- a level at their end
pub last-is : (level : List ℕ) (levels : List (List ℕ)) (last : List ℕ) → last_level level (levels ++ last ∷ []) ≡ last
last-is level [] last = refl
last-is level (next ∷ levels) last = last-is next levels last

-- how many entries or children a node of the last of these levels has at most
abbrev pub last_most : ℕ → List (List ℕ) → ℕ
last_most most [] = most
last_most most (next ∷ levels) = last_most 8 levels

-- where the first node of the last level is more than half full, filling it changes nothing
pub ready-stays : (most : ℕ) (level : List ℕ) (levels : List (List ℕ)) → IsReady most (level ∷ levels) → filled (last_most most levels) (last_level level levels) ≡ last_level level levels
ready-stays most [] [] ready = refl
ready-stays most (size ∷ rest) [] ready = filled-half rest ready
ready-stays most [] (next ∷ levels) ready = ready-stays 8 next levels ready
ready-stays most (size ∷ rest) (next ∷ levels) ready = ready-stays 8 next levels ready

-- the first node of a level that is ready is wide
pub ready-wide : (most : ℕ) (level : List ℕ) (levels : List (List ℕ)) → 3 ≤ most → IsReady most (level ∷ levels) → IsWide (last_level level levels)
ready-wide most [] [] three ready = tt
ready-wide most (size ∷ rest) [] three ready = omega arith
ready-wide most [] (next ∷ levels) three ready = ready-wide 8 next levels (omega arith) ready
ready-wide most (size ∷ rest) (next ∷ levels) three ready = ready-wide 8 next levels (omega arith) ready

-- The levels with the first node of each but the last filled. The lowest lost so many children before, and its nodes have at most `most`.
abbrev pub filled_below : ℕ → ℕ → List ℕ → List (List ℕ) → List (List ℕ)
filled_below most lost level [] = lessened lost level ∷ []
filled_below most lost level (next ∷ levels) = lessened lost (filled most level) ∷ filled_below 8 (length level - length (filled most level)) next levels

-- a level that lost nothing
pub lessened-none : (level : List ℕ) → lessened 0 level ≡ level
lessened-none [] = refl
lessened-none (size ∷ after) = let e : size - 0 ≡ size = omega arith in rw e refl

-- where filling does not change the last level, all levels are filled
below-all : (most lost : ℕ) (level : List ℕ) (levels : List (List ℕ)) → filled (last_most most levels) (last_level level levels) ≡ last_level level levels →
    filled_below most lost level levels ≡ lessened lost (filled most level) ∷ filled_above (length level - length (filled most level)) levels
below-all most lost level [] same = cc
below-all most lost level (next ∷ levels) same = ap (λ z. lessened lost (filled most level) ∷ z) (below-all 8 (length level - length (filled most level)) next levels same)

-- of a tree's levels the lowest lost nothing before
pub below-levels : (most : ℕ) (level : List ℕ) (levels : List (List ℕ)) → filled (last_most most levels) (last_level level levels) ≡ last_level level levels →
    filled_below most 0 level levels ≡ filled_levels most (level ∷ levels)
below-levels most level levels same = cc (below-all most 0 level levels same, lessened-none (filled most level))

-- the last level but one is filled first, and then what is below that
pub below-next : (most lost : ℕ) (level : List ℕ) (levels : List (List ℕ)) (under last : List ℕ) →
    filled_below most lost level (levels ++ under ∷ last ∷ []) ≡ filled_below most lost level (levels ++ filled 8 under ∷ []) ++ lessened (length under - length (filled 8 under)) last ∷ []
below-next most lost level [] under last = refl
below-next most lost level (next ∷ levels) under last =
    ap (λ z. lessened lost (filled most level) ∷ z) (below-next 8 (length level - length (filled most level)) next levels under last)
