-- The node beside the one at which the way of a code ends, one level further down: what `turn` and `far` find there.
use Rattle.bforest_core.proofs.Words.{Bool, Direction, HasBeside, IsBesideOf, IsWay, Leads, NumberAt, Way, backwards, entry_count, nearest, onwards, toward, ◌≡◌, ℕ, suc, ◌+◌, ◌-◌, ◌*◌, ◌/◌, ◌≤◌, ◌<◌, List}
use Rattle.bforest_core.proofs.{Words.{◌∷◌, ap, drop, false, length, slice_get, subst, true, Some, None, refl, sym, ◌∙◌, arith, Content, heads}, walks.Branches.{Branch, branch-asks}}
use Rattle.bforest_core.proofs.walks.Branches.{branch-at, branch-child, branch-low, first-of, last-asks, last-of, last-some, next-own, none-next, none-prev}
use Rattle.bforest_core.proofs.{walks.Branches.{own, prev-own, prev-some}, walks.Codes.{IsBelow, Parent, code-low, count-asks, digit-put, here, read-same}}
use Rattle.bforest_core.proofs.{walks.Codes.way-below, walks.Reading.{ChildAsked, ChildRead, CountAsked, CountRead, LastAsked, LastRead}}
use Rattle.bforest_core.proofs.table.Stored.{some_same}
use Rattle.bforest_core.specs.declared.spot.Spot.{Spot}

-- a level down, to the child at an index of the node at which the way of a spot ends
module _ {K V : Type 0} {slots : List (Content K V)} {root : ℕ} {spot : Spot} {node index : ℕ} (digit : index < 8)
    (leads : Leads slots root spot.code spot.height spot node) where
  abbrev code : ℕ
  code = spot.code * 8 + index

  -- the way to the child
  abbrev There : Type 0
  There = Way slots root code (suc spot.height)

  pub above-is : code / 8 ≡ spot.code
  above-is = (digit-put _ _ _ digit refl).1

  pub said : (w : Way slots root (code / 8) spot.height) → NumberAt w.list w.place node
  said = rw above-is (λ w. (leads w).1)

  module _ (p : There) where
    abbrev pub parent : Parent p node index
    parent = record { same = read-same p node said; digit = (digit-put _ _ _ digit refl).0 }

    -- the way to the node
    abbrev pub up : Way slots root spot.code spot.height
    up = record { numbers = drop 1 p.numbers; rows = (here p).rest; list = heads (here p).row; place = (here p).top; over = rw above-is at (here p).over }

    its : IsWay (drop 1 p.numbers) spot (here p).rest (here p).top
    its = (leads up).0

    -- the child at an index of a node, of which this is the spot, stands beside the way's end
    pub record Stands (Beside : ℕ → Type 0) (above : Spot) (number index1 : ℕ) : Type 0 where
      pub to : ℕ
      pub is : Beside to
      pub branch : Branch p number index1 to
      pub others : List ℕ
      pub way : IsWay others above (here p).rest branch.top

    module _ {Beside : ℕ → Type 0} {above : Spot} {number index1 : ℕ} (b : Stands Beside above number index1) where
      pub stands-low : spot.height < 16 → (above.code < 35184372088832) × (above.height < 16)
      stands-low low = (code-low 15 (here p).rest b.others above.code b.branch.top b.way.coded (omega (arith, up.depth_is)), omega (arith, up.depth_is))

      -- the spot of that child
      stands-spot : {next : Spot} → IsBelow above number index1 next → IsWay (number ∷ b.others) next p.rows b.to
      stands-spot below = rw (here p).rows_are (way-below (branch-at b.branch) (branch-low b.branch)
          (rw b.branch.at.at b.way) below)

    own-at : Stands (λ to. to ≡ p.place) spot node index
    own-at = record { to = p.place; is = refl; branch = own parent; others = drop 1 p.numbers; way = its }

    pub index-asked : ChildAsked slots node index
    index-asked = branch-asks (own parent)

    pub code-low-here : spot.height < 16 → spot.code < 35184372088832
    code-low-here low = (stands-low own-at low).0

    pub count-asked : CountAsked slots node
    count-asked = count-asks parent

  -- the child, and its spot
  pub leads-on : {next : Spot} {child : ℕ} → IsBelow spot node index next → ChildRead slots node index child →
      Leads slots root code (suc spot.height) next child
  leads-on b reads p = (
    record {
      coded = rw b.code p.coded;
      parent_is = λ low. (parent p).same ∙ sym b.parent;
      grand_is = λ low. (its p).parent_is (omega arith) ∙ sym b.grand;
      height_is = b.height ∙ p.depth_is;
    },
    branch-child (own (parent p)) reads,
  )

  -- the child that was read is the one beside
  pub said-some : {d : Direction K V} {above : Spot} {number index1 : ℕ} → ((p : There) → Stands p (d.Beside p.place) above number index1)
      → {next : Spot} {child : ℕ} → IsBelow above number index1 next → ChildRead slots number index1 child
      → IsBesideOf slots root code (suc spot.height) d (Some (next, child))
  said-some {number} stands b reads = record {
    some = λ p. let w = stands p in (w.to, w.is, number ∷ w.others, stands-spot p w b, branch-child w.branch reads);
    none = λ bad. absurd (let no = bad in cc);
  }

  -- nothing is beside it, where nothing is beside the node
  said-none : {d : Direction K V} → ((p : There) → d.AtEnd (here p).top (length (heads (here p).row)) → d.AtEnd p.place (length p.list))
      → IsBesideOf slots root spot.code spot.height d None → IsBesideOf slots root code (suc spot.height) d None
  said-none ends says = record { some = tt; none = λ none p. ends p (says.none refl (up p)) }

  module _ {count : ℕ} (counts : CountRead slots node count) where
    -- the next child of the same node
    module _ (low : index + 1 < count) where
      next-at : (p : There) → Stands p (λ to. to ≡ suc p.place) spot node (index + 1)
      next-at p = record { to = suc p.place; is = refl; branch = next-own (parent p) counts low; others = drop 1 p.numbers; way = its p }

    module _ (high : count ≤ index + 1) where
      last-said : IsBesideOf slots root spot.code spot.height onwards None → IsBesideOf slots root code (suc spot.height) onwards None
      last-said says = said-none (λ p. none-next (parent p) counts high) says

      -- the first child of the node behind
      module _ {above : Spot} {number : ℕ} (on : IsBesideOf slots root spot.code spot.height onwards (Some (above, number))) where
        turn-at : (p : There) → Stands p (λ to. to ≡ suc p.place) above number 0
        turn-at p = let w = on.some (up p) in
            record { to = suc p.place; is = refl; branch = first-of (parent p) counts high w.1 w.4; others = w.2; way = w.3 }

  -- the child before, of the same node
  module _ (low : 0 < index) where
    prev-at : (p : There) → Stands p (λ to. suc to ≡ p.place) spot node (index - 1)
    prev-at p = record {
      to = p.place - 1;
      is = omega (arith, prev-some (parent p) low);
      branch = prev-own (parent p) low;
      others = drop 1 p.numbers;
      way = its p;
    }

  module _ (none : index ≤ 0) where
    first-said : IsBesideOf slots root spot.code spot.height backwards None → IsBesideOf slots root code (suc spot.height) backwards None
    first-said says = said-none (λ p. none-prev (parent p) none) says

    -- the last child of the node before
    module _ {above : Spot} {number : ℕ} (on : IsBesideOf slots root spot.code spot.height backwards (Some (above, number))) where
      module _ {last : ℕ} (says : LastRead slots number last) where
        back-at : (p : There) → Stands p (λ to. suc to ≡ p.place) above number last
        back-at p = let w = on.some (up p) in record {
          to = p.place - 1;
          is = omega (arith, last-some (parent p) none w.1 w.4 says);
          branch = last-of (parent p) none w.1 w.4 says;
          others = w.2;
          way = w.3;
        }

  -- the child beside, of the same node
  pub side-at : (on : Bool) {to : ℕ} → HasBeside {K = K} {V = V} (toward on) slots node index to → (p : There)
      → Stands p ((toward {K = K} {V = V} on).Beside p.place) spot node to
  side-at true {to} w p = let n = count-asked p in let is : index + 1 ≡ to = omega (arith, w.0) in
      subst (Stands p (λ z. z ≡ suc p.place) spot node) is (next-at (λ other found. ap entry_count (some_same (sym n.1 ∙ found))) (w.1 n.0 n.1) p)
  side-at false {to} w p = let low : 0 < index = omega (arith, w.0) in let is : index - 1 ≡ to = omega (arith, w.0) in
      subst (Stands p (λ z. suc z ≡ p.place) spot node) is (prev-at low p)

  -- nothing is beside it, where nothing is beside the node
  pub none-said : (on : Bool) {content : Content K V} → slice_get slots node ≡ Some content → ((toward {K = K} {V = V} on).HasChild content index → ⊥)
      → IsBesideOf slots root spot.code spot.height (toward on) None → IsBesideOf slots root code (suc spot.height) (toward on) None
  none-said true slot_is none = last-said (λ other found. ap entry_count (some_same (sym slot_is ∙ found))) (omega (arith, none))
  none-said false slot_is none = first-said (omega (arith, none))

  -- what the index of that child asks, by which a way comes into the node beside, and the child
  pub enter-asks : {d : Direction K V} {above : Spot} {number : ℕ} → IsBesideOf slots root spot.code spot.height d (Some (above, number)) → There
      → LastAsked slots number
  enter-asks beside p = last-asks p _ (beside.some (up p)).4

  pub enter-at : (on : Bool) {content : Content K V} → slice_get slots node ≡ Some content → ((toward {K = K} {V = V} on).HasChild content index → ⊥)
      → {above : Spot} {number : ℕ} → IsBesideOf slots root spot.code spot.height (toward on) (Some (above, number)) → {to : ℕ}
      → ((other : Content K V) → slice_get slots number ≡ Some other → to ≡ nearest on (entry_count other)) → (p : There)
      → Stands p ((toward {K = K} {V = V} on).Beside p.place) above number to
  enter-at true slot_is none {above} {number} beside enters p = let n = last-asks p _ (beside.some (up p)).4 in
      subst (Stands p (λ z. z ≡ suc p.place) above number) (sym (enters n.0 n.1))
      (turn-at (λ other found. ap entry_count (some_same (sym slot_is ∙ found))) (omega (arith, none)) beside p)
  enter-at false slot_is none beside enters p = back-at (omega (arith, none)) beside enters p
