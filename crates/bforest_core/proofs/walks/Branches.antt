-- The children of the level at which the way of a code ends: the way's own, those beside it, and the ways there.
use Rattle.bforest_core.proofs.Words.{Coded, IsAt, NumberAt, Way, ◌≡◌, ℕ, suc, ◌+◌, ◌-◌, ◌*◌, ◌≤◌, ◌<◌, List, ◌∷◌, drop, length, slice_get}
use Rattle.bforest_core.proofs.Words.{option_map, Some, sym, ap, ◌∙◌, arith, Content, entry_items, entry_keys, flat, heads, inner_content}
use Rattle.bforest_core.proofs.{walks.Codes.{Parent, coded-below, count-is, here, node-above, node-here}, walks.RowNodes.{NodeIn, entry_at, none-behind, seam}}
use Rattle.bforest_core.proofs.{table.Stored.{item_count, some_same}, walks.Reading.{ChildAsked, ChildRead, CountRead, LastAsked, LastRead}}
use Rattle.bforest_core.proofs.{walks.LeafSearch.items-read, walks.Steps.read, walks.TopNode.none_flat}

-- the child at an index of the node with this number on the level above is at this place
pub record Branch {K V : Type 0} {slots : List (Content K V)} {root code depth : ℕ} (p : Way slots root code (suc depth)) (number index to : ℕ) : Type 0 where
  pub top : ℕ
  pub at : NodeIn inner_content slots 8 (here p).row number top
  pub low : index < length at.entries
  pub to_is : to ≡ length (flat at.before) + index

module _ {K V : Type 0} {slots : List (Content K V)} {root code depth : ℕ} {p : Way slots root code (suc depth)} {number index to : ℕ} (b : Branch p number index to) where
  pub branch-asks : ChildAsked slots number index
  branch-asks = (drop 1 (entry_keys b.at.entries), entry_items b.at.entries, b.at.slot_is, omega (arith, item_count b.at.entries))

  pub branch-low : index < 8
  branch-low = omega arith

  abbrev pub branch-at : IsAt (here p).row number index to
  branch-at = record { before = b.at.before; entries = b.at.entries; after = b.at.after; row_is = b.at.row_is; within = b.low; place_is = b.to_is }

  -- what the child is, as it was read
  pub branch-child : {child : ℕ} → ChildRead slots number index child → NumberAt p.list to child
  branch-child reads = let w = b.at in let e = read w.entries index b.low in let item = items-read w.entries index ∙ ap (λ z. option_map (λ x. x.1) z) e.1 in
      let same = some_same (sym item ∙ reads (drop 1 (entry_keys w.entries)) (entry_items w.entries) w.slot_is) in (
        e.0.0,
        ap (λ z. slice_get z to) (sym (here p).flat_is) ∙ ap (λ z. slice_get (flat (here p).row) z) b.to_is
            ∙ entry_at w.before number w.entries w.after index w.row_is e.1 ∙ ap (λ z. Some (e.0.0, z)) same,
      )

  -- the way to the child, by the way to the node
  pub branch-way : (above : ℕ) (others : List ℕ) → Coded others (here p).rest above b.top → {code1 : ℕ} → code1 ≡ above * 8 + index → Coded (number ∷ others) p.rows code1 to
  branch-way above others c code_is = rw (here p).rows_are (coded-below branch-at branch-low others _ above (rw b.at.at c) code_is)

-- what the index of a node's last child asks
pub last-asks : {K V : Type 0} {slots : List (Content K V)} {root code depth : ℕ} (p : Way slots root code (suc depth)) {number : ℕ} (top : ℕ) → NumberAt (heads (here p).row) top number → LastAsked slots number
last-asks p top n = let w = node-above p n in (inner_content w.entries, w.slot_is, omega (arith, item_count w.entries))

module _ {K V : Type 0} {slots : List (Content K V)} {root code depth : ℕ} {p : Way slots root code (suc depth)} {parent index : ℕ} (d : Parent p parent index) where
  -- the child to which the code goes
  abbrev pub own : Branch p parent index p.place
  own = record { top = (here p).top; at = node-here d; low = omega (arith, (here p).within, d.digit); to_is = omega (arith, (here p).place_is, d.digit) }

  -- the child before, of the same node
  pub prev-some : 0 < index → 0 < p.place
  prev-some low = omega (arith, low, own.to_is)

  abbrev pub prev-own : 0 < index → Branch p parent (index - 1) (p.place - 1)
  prev-own low = record { top = (here p).top; at = node-here d; low = omega (arith, own.low); to_is = omega (arith, low, own.to_is) }

  module _ (none : index ≤ 0) where
    -- the first child of the first node is the first of its level
    pub none-prev : (here p).top ≡ 0 → p.place ≡ 0
    none-prev first = omega (arith, own.to_is, none_flat _ ((here p).at.at ∙ first))

    -- the last child of the node before
    module _ {top number : ℕ} (before : suc top ≡ (here p).top) (n : NumberAt (heads (here p).row) top number) {last : ℕ} (says : LastRead slots number last) where
      abbrev node-before : NodeIn inner_content slots 8 (here p).row number top
      node-before = node-above p n

      pub last-is : suc last ≡ length node-before.entries
      last-is = omega (arith, says (inner_content node-before.entries) node-before.slot_is, item_count node-before.entries, node-before.some)

      pub meets : p.place ≡ length (flat node-before.before) + suc last
      meets = omega (arith, seam node-before (here p).at (sym before), last-is, own.to_is)

      pub last-some : 0 < p.place
      last-some = omega (arith, meets)

      abbrev pub last-of : Branch p number last (p.place - 1)
      last-of = record { top = top; at = node-before; low = omega (arith, last-is); to_is = omega (arith, meets) }

  module _ {count : ℕ} (counts : CountRead slots parent count) where
    -- the next child of the same node
    abbrev pub next-own : index + 1 < count → Branch p parent (index + 1) (suc p.place)
    next-own low = record { top = (here p).top; at = node-here d; low = omega (arith, low, count-is d counts); to_is = omega (arith, own.to_is) }

    module _ (high : count ≤ index + 1) where
      pub past : length (here p).at.entries ≡ index + 1
      past = omega (arith, count-is d counts, own.low)

      -- the last child of the last node is the last of its level
      pub none-next : suc (here p).top ≡ length (heads (here p).row) → suc p.place ≡ length p.list
      none-next last = omega (arith, past, own.to_is, ap length (here p).flat_is, none-behind (here p).at 4 (omega arith) (here p).fit last)

      -- the first child of the node behind
      abbrev pub first-of : {top number : ℕ} → top ≡ suc (here p).top → NumberAt (heads (here p).row) top number → Branch p number 0 (suc p.place)
      first-of {top} behind n = let w = node-above p n in
          record { top = top; at = w; low = w.some; to_is = omega (arith, seam (here p).at w behind, own.to_is, past) }
