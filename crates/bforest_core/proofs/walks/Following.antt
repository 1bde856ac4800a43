-- The way of a code followed from the root down, digit by digit: the answers of `far`.
use Rattle.bforest_core.proofs.Words.{shr-shr, Direction, EndsAt, Followed, IsBesideOf, IsLower, IsTurn, Leads, Way, ◌≡◌, ℕ, zero, suc, Some, None, Option}
use Rattle.bforest_core.proofs.Words.{slice_get, inl, inr, IfSome, refl, ◌+◌, ◌-◌, ◌*◌, ◌/◌, ◌%◌, ◌^◌, ◌≤◌, ◌<◌, List, sym, ap, subst, ◌∙◌, arith, Content}
use Rattle.bforest_core.proofs.{Words.eqb_tells, table.Stored.some_same, walks.Codes.{above, IsBelow, root-leads, way-none}, walks.OnLevel.leads-on}
use Rattle.bforest_core.proofs.walks.Reading.{ChildRead}
use Rattle.bforest_core.specs.declared.spot.Spot.{Spot}

-- a code without its last digits
up-code : (code n : ℕ) → code / 2 ^ (3 * n) / 8 ≡ code / 2 ^ (3 * suc n)
up-code code n = shr-shr code (3 * n) 3 ∙ ap (λ z. code / 2 ^ z) (omega arith)

up-none : (code : ℕ) → code / 2 ^ (3 * 0) ≡ code
up-none code = omega arith

module _ {K V : Type 0} {slots : List (Content K V)} {root code height : ℕ} (o : Way slots root code height) where
  -- the ways to the nodes above the one at which a way ends
  ways : (n : ℕ) → n ≤ height → Way slots root (code / 2 ^ (3 * n)) (height - n)
  ways zero low = let none : height ≡ height - 0 = omega arith in rw (← none) (rw ((up-none code)) o)
  ways (suc n) low = rw (← up-code code n) (above (subst (Way slots root (code / 2 ^ (3 * n))) (omega arith) (ways n (omega arith))))

  -- at the root
  pub begun : (spot : Spot) → spot.code ≡ 0 → spot.height ≡ 0 → Followed slots root code height height spot root
  begun spot code_is none = let nought = (way-none (ways height (omega arith)).over (omega arith)).3 in
      record { low = omega arith; height_is = omega (arith, none); code_is = code_is ∙ sym nought; leads = root-leads spot none }

-- what is said of a code and its levels holds of a spot that has them, one level further down
pub moved : (Of : ℕ → ℕ → Type 0) {spot next : Spot} {node index : ℕ} → IsBelow spot node index next →
    Of (spot.code * 8 + index) (suc spot.height) → Of next.code next.height
moved Of {next} b says = rw b.height (rw b.code says)

module _ {K V : Type 0} {slots : List (Content K V)} {root code height left : ℕ} {spot : Spot} {node : ℕ}
    (f : Followed slots root code height left spot node) where
  -- at the end of the way
  pub ended : (Of : ℕ → ℕ → Type 0) → left ≤ 0 → Of spot.code spot.height → Of code height
  ended Of none says = let nought : left ≡ 0 = omega (arith, none) in let whole : spot.height ≡ height = omega (arith, none) in
      rw (← whole) (rw (← (f.code_is ∙ ap (λ z. code / 2 ^ (3 * z)) nought ∙ up-none code)) says)

  module _ (some : 0 < left) where
    abbrev digit : ℕ
    digit = code / 2 ^ (3 * (left - 1)) % 8

    up : code / 2 ^ (3 * (left - 1)) / 8 ≡ spot.code
    up = let back : suc (left - 1) ≡ left = omega (arith, some) in cc (up-code _ _)

    turn-code : spot.code * 8 + digit ≡ code / 2 ^ (3 * (left - 1))
    turn-code = omega (arith, up)

    turn-height : suc spot.height ≡ height - (left - 1)
    turn-height = omega (arith, some)

    pub turn-high : height ≤ 16 → spot.height < 16
    turn-high low = omega (arith, some)

    -- the way to the child to which the code goes
    pub turn-way : Way slots root code height → Way slots root (spot.code * 8 + digit) (suc spot.height)
    turn-way o = rw turn-height (rw turn-code (ways o (left - 1) (omega arith)))

    pub turned : {next : Spot} {child : ℕ} → IsBelow spot node digit next → ChildRead slots node digit child →
        Followed slots root code height (left - 1) next child
    turned {next} {child} b reads = record {
      low = omega arith;
      height_is = b.height ∙ turn-height;
      code_is = b.code ∙ turn-code;
      leads = moved (λ c d. Leads slots root c d next child) b (leads-on (omega arith) f.leads b reads);
    }

-- what was found so far beside the way of a code, with some levels left: the lowest node, or nothing where there is none
pub record Turning {K V : Type 0} (slots : List (Content K V)) (root code height : ℕ) (d : Direction K V) (left : ℕ) (here : Spot) (found : Option (Spot × ℕ)) : Type 0 where
  pub some : (turn : Spot × ℕ) → found ≡ Some turn → IsTurn slots root code height d left turn.0 turn.1
  pub none : found ≡ None → IsBesideOf slots root here.code here.height d None

-- what is said of each value that there may be
if-found : {A : Type 0} {Says : A → Type 0} (found : Option A) → ((it : A) → found ≡ Some it → Says it) → IfSome found Says
if-found None says = tt
if-found (Some it) says = says it refl

module _ {K V : Type 0} {slots : List (Content K V)} {root code height : ℕ} {d : Direction K V} where
  -- at the root nothing was found
  pub turning-none : {here : Spot} → IsBesideOf slots root here.code here.height d None → Turning slots root code height d height here None
  turning-none end = record { some = λ turn is. absurd (let no = is in cc); none = λ none. end }

  module _ {left : ℕ} {here : Spot} {node : ℕ} (f : Followed slots root code height left here node) where
    -- at the end of the way
    pub turning-ends : {found : Option (Spot × ℕ)} → Turning slots root code height d left here found → left ≤ 0
        → IfSome found (λ turn. IsTurn slots root code height d 0 turn.0 turn.1) × (found ≡ None → IsBesideOf slots root code height d None)
    turning-ends {found} t low = let nought : left ≡ 0 = omega arith in
        (if-found found (λ turn is. rw (← nought) (t.some turn is)), λ none. ended f (λ c l. IsBesideOf slots root c l d None) low (t.none none))

    module _ (some : 0 < left) where
      -- a node beside the way on the level below is the lowest
      turn-here : {child : Spot × ℕ} → IsBesideOf slots root (here.code * 8 + digit f some) (suc here.height) d (Some child)
          → child.0.height ≡ suc here.height → IsTurn slots root code height d (left - 1) child.0 child.1
      turn-here {child} beside height_is = record {
        level = left - 1;
        height_is = height_is ∙ turn-height f some;
        within = omega arith;
        low = omega arith;
        beside = rw (← turn-height f some) (rw (← (turn-code f some)) beside);
        ends = λ j more less. absurd (omega arith);
      }

      -- what was found further up stays the lowest
      turn-above : {content : Content K V} → slice_get slots node ≡ Some content → ¬ d.HasChild content (digit f some) → {spot : Spot} {number : ℕ}
          → IsTurn slots root code height d left spot number → IsTurn slots root code height d (left - 1) spot number
      turn-above {content} slot_is ends_here t = record {
        level = t.level;
        height_is = t.height_is;
        within = t.within;
        low = omega arith;
        beside = t.beside;
        ends = λ j more less. elim (eqb_tells j left) [
          | inl same ↦ subst (EndsAt slots root code height d) (sym same.1)
              (record { spot = here; node = node; content = content; way = f; slot_is = slot_is; none = ends_here })
          | inr other ↦ t.ends j (omega arith) less
        ];
      }

      -- one level further down
      pub turning-on : {above found : Option (Spot × ℕ)} {next : Spot} → IsLower slots root here node d (digit f some) above found
          → Turning slots root code height d left here above
          → ((content : Content K V) → slice_get slots node ≡ Some content → ¬ d.HasChild content (digit f some)
          → IsBesideOf slots root here.code here.height d None → IsBesideOf slots root (here.code * 8 + digit f some) (suc here.height) d None)
          → IsBelow here node (digit f some) next → Turning slots root code height d (left - 1) next found
      turning-on lower t ends b = elim lower [
        | inl w ↦ record { some = λ turn is. rw (← some_same {x = w.0} {y = turn} (cc)) (turn-here w.2 w.3); none = λ none. absurd (let no = sym w.1 ∙ none in cc) }
        | inr w ↦ record {
          some = λ turn is. turn-above w.1 w.2 (t.some turn (cc));
          none = λ none. moved (λ c l. IsBesideOf slots root c l d None) b (ends w.0 w.1 w.2 (t.none (sym w.3 ∙ none)));
        }
      ]

-- the lowest node beside a way, on the way down to the level on which the way ends
module _ {K V : Type 0} {slots : List (Content K V)} {root code height : ℕ} {d : Direction K V} {spot : Spot} {number : ℕ}
    (t : IsTurn slots root code height d 0 spot number) where
  pub turn-more : spot.height < height → 0 < t.level
  turn-more low = omega arith

  -- there it is the node beside the one at which the way ends
  pub turn-done : height ≤ spot.height → IsBesideOf slots root code height d (Some (spot, number))
  turn-done past = let none : t.level ≡ 0 = omega arith in let same = ap (λ z. code / 2 ^ (3 * z)) none ∙ up-none code in
      rw (← same) (subst (λ z. IsBesideOf slots root (code / 2 ^ (3 * t.level)) z d (Some (spot, number))) (omega (arith, none)) t.beside)

  module _ (some : 0 < t.level) where
    -- the way's node on this level
    abbrev pub turn-end : EndsAt slots root code height d t.level
    turn-end = t.ends t.level some (omega arith)

    abbrev pub turn-digit : ℕ
    turn-digit = code / 2 ^ (3 * (t.level - 1)) % 8

    pub turn-beside : IsBesideOf slots root turn-end.spot.code turn-end.spot.height d (Some (spot, number))
    turn-beside = rw turn-end.way.code_is
        (rw turn-end.way.height_is t.beside)

    pub turn-down : {child : Spot × ℕ} → IsBesideOf slots root (turn-end.spot.code * 8 + turn-digit) (suc turn-end.spot.height) d (Some child)
        → child.0.height ≡ suc spot.height → IsTurn slots root code height d 0 child.0 child.1
    unfolding turn-here
    turn-down beside height_is = let h = turn-here turn-end.way some beside (cc (turn-end.way.height_is)) in
        record { level = t.level - 1; height_is = h.height_is; within = h.within; low = omega arith; beside = h.beside; ends = λ j more less. t.ends j more (omega arith) }
