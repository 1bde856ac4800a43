-- Freeing everything below a node, child by child.
use Rattle.bforest_core.proofs.Words.{last_taken, ◌≡◌, ℕ, zero, suc, ◌+◌, ◌≤◌, ◌<◌, List, [], ◌∷◌, ◌++◌, length, drop, take, reverse, slice_get, Some, refl}
use Rattle.bforest_core.proofs.Words.{sym, ap, subst, ◌∙◌, arith, Heads, Row, Rows, flat_map, Content, IsInner, children_of, Table, with_freed, heads}
use Rattle.bforest_core.proofs.Words.{numbers, entry_items, count, Distinct, StackedTo, Under, numbers_down, slot, Frees, numbers_under, drop_all, length-map}
use Rattle.bforest_core.proofs.{Words.{reverse-append, take_all, slice_get_within, IsLeafCapacity}, table.Lists.drop-read}
use Rattle.bforest_core.proofs.{table.Trading.{frees-one, frees-then, trades-none, trades-wider}, table.Tables.{count-append, count-same}}
use Rattle.bforest_core.proofs.{walks.LeafSearch.items-read, walks.RowNodes.no_heads, table.Stored.{childless, some_same}}
use Rattle.bforest_core.proofs.{union.Opened.{UnderCut, under-cut, Opened}, walks.Steps.read, rows.LevelRows.some_leaf, union.Exchange.tree-same}
use Rattle.bforest_core.proofs.union.FreeSlots.{slot_same}

-- rows below no nodes have no nodes
rows_none : {K : Type 0} (list : Heads K) (rows : Rows K) → StackedTo list rows [] → (list ≡ []) × ((m : ℕ) → count m (flat_map numbers rows) ≡ 0)
rows_none list [] s = (s, λ m. refl)
rows_none list (row ∷ rows) s = let r = rows_none (heads row) rows s.2 in let none = no_heads 4 8 (omega arith) row s.1 r.0 in
    (cc, λ m. omega (arith, count-append, ap (λ z. count m (numbers z)) none, r.1 m))

module _ {K V : Type 0} where
  -- the rows under some nodes are in any slots that agree on their numbers
  pub under-same : {most : _} {old : List (Content K V)} (new : List (Content K V)) {leaves : Row K V} {lower : _} {top : _} → ((m : ℕ) → 0 < count m (numbers_under leaves lower) → slice_get new m ≡ slice_get old m)
      → Under most old leaves lower top → Under most new leaves lower top
  under-same new {leaves} {lower} same u =
      let i = tree-same new {tree = record { leaves = leaves; above = lower }} same (record { leaves_in = u.leaves_in; rows_in = u.rows_in }) in
      record { leaves_fit = u.leaves_fit; leaves_in = i.leaves_in; stacked = u.stacked; rows_in = i.rows_in }

  pub under_none : (most : ℕ) → IsLeafCapacity most → {slots : List (Content K V)} {leaves lower : _} → Under most slots leaves lower [] → (m : ℕ) → count m (numbers_under leaves lower) ≡ 0
  under_none most capacity u m = let r = rows_none _ _ u.stacked in let none = no_heads _ _ (some_leaf capacity) _ u.leaves_fit r.0 in
      omega (arith, count-append, ap (λ z. count m (numbers z)) none, r.1 m)

  -- the numbers below a node are the same in any slots that agree on them
  down-same : (old new : List (Content K V)) (levels number : ℕ) → ((m : ℕ) → 0 < count m (numbers_down old levels number) → slice_get new m ≡ slice_get old m) → numbers_down new levels number ≡ numbers_down old levels number
  down-same old new zero number same = refl
  down-same old new (suc levels) number same =
      let kids = reverse (children_of (slot old number)) in let here = slot_same old new number (same number (omega (arith, count-same number []))) in
      cc (all (down-same old new levels) kids (λ m some. same m (omega (arith, count-append))))
    where
      all : ((kid : ℕ) → ((m : ℕ) → 0 < count m (numbers_down old levels kid) → slice_get new m ≡ slice_get old m) → numbers_down new levels kid ≡ numbers_down
          old levels kid) → (kids : _) → ((m : ℕ) → 0 < count m (flat_map (numbers_down old levels) kids) → slice_get new m ≡ slice_get old m) → flat_map
          (numbers_down new levels) kids ≡ flat_map (numbers_down old levels) kids
      all again [] same = refl
      all again (kid ∷ kids) same =
          cc (again kid (λ m some. same m (omega (arith, count-append))), all again kids (λ m some. same m (omega (arith, count-append))))

  -- everything below the first `index` nodes of the top is freed, and everything below the others unchanged
  pub record Swept (most : ℕ) (old now : Table K V) (leaves : Row K V) (rows : Rows K) (top : Heads K) (index : ℕ) : Type 0 where
    pub left_leaves : Row K V
    pub left_rows : Rows K
    pub own : List ℕ
    pub given : List ℕ
    pub under : Under most old.nodes left_leaves left_rows (drop index top)
    pub height : length left_rows ≡ length rows
    pub frees : Frees old now own [] given
    pub order : given ≡ flat_map (numbers_down old.nodes (length rows)) (reverse (take index (entry_items top)))
    pub split : (m : ℕ) → count m (numbers_under leaves rows) ≡ count m own + count m (numbers_under left_leaves left_rows)

  module _ {most : ℕ} (capacity : IsLeafCapacity most) (old : Table K V) (leaves : Row K V) (rows : Rows K) (top : Heads K) where
    -- at first nothing is freed
    pub sweep-first : Under most old.nodes leaves rows top → Swept most old old leaves rows top 0
    sweep-first u = record { left_leaves = leaves; left_rows = rows; own = []; given = []; under = u; height = refl; frees = trades-none old []; order = refl; split = λ m. omega arith }

    -- the next child of the top, and everything below it
    pub record Turn (now : Table K V) (index : ℕ) (x : K × ℕ) : Type 0 where
      pub swept : Swept most old now leaves rows top index
      pub found : slice_get top index ≡ Some x
      pub cut : UnderCut most old.nodes swept.left_leaves swept.left_rows (x ∷ []) (drop (suc index) top)
      pub under : Under most now.nodes cut.leaves_left cut.lower_left (x ∷ [])
      pub apart : Distinct (numbers_under cut.leaves_left cut.lower_left ++ now.chain)

    -- while the index is one of the top's, there is a next child
    pub sweep-turn : (now index x : _) → Distinct (numbers_under leaves rows ++ old.chain) → Swept most old now leaves rows top index → slice_get top index ≡ Some x → Turn now index x
    sweep-turn now index x apart s found = let todo = drop-read top index x found in
        let cut = under-cut most old.nodes (some_leaf capacity) (x ∷ []) (drop (suc index) top) (rw (← todo) s.under) in record {
          swept = s;
          found = found;
          cut = cut;
          under = under-same _ (λ m some. s.frees.others m (omega (arith, apart m, count-append, s.split m, cut.counted m))) cut.left;
          apart = λ m. omega (arith, apart m, s.split m, cut.counted m, s.frees.numbers_are m, ap (count m) s.frees.chain_is, count-append);
        }

    -- the next child is freed with everything below it
    pub sweep-next : {now new index : _} (x : _) → Distinct (numbers_under leaves rows ++ old.chain) → (t : Turn now index x) → Frees now new (numbers_under
        t.cut.leaves_left t.cut.lower_left) [] (numbers_down now.nodes (length t.cut.lower_left) x.1) → Swept most old new leaves rows top (suc index)
    sweep-next {now} {index} x apart t g = let own = numbers_under t.cut.leaves_left t.cut.lower_left in let n = λ (m : ℕ). count-append m t.swept.own own in
        record {
          left_leaves = t.cut.leaves_right;
          left_rows = t.cut.lower_right;
          own = t.swept.own ++ own;
          given = numbers_down now.nodes (length t.cut.lower_left) x.1 ++ t.swept.given;
          under = t.cut.right;
          height = cc;
          frees = frees-then _ _ (λ m. omega (arith, n m))
              (λ m. omega (arith, apart m, t.swept.split m, t.cut.counted m, count-append)) t.swept.frees g;
          order =
              cc (
                down-same now.nodes old.nodes (length t.cut.lower_left) x.1 (λ m some. sym (t.swept.frees.others m (omega (arith, g.numbers_are m, apart m, count-append, t.swept.split m, t.cut.counted m)))),
                last_taken (entry_items top) index x.1 (simp (items-read top index, t.found)),
                reverse-append (take index (entry_items top)) (x.1 ∷ []),
              );
          split = λ m. omega (arith, n m, t.swept.split m, t.cut.counted m);
        }

    -- at last everything below the top is freed
    pub sweep-last : {now : Table K V} {index : ℕ} → length top ≤ index → Swept most old now leaves rows top index → Frees old now (numbers_under leaves rows) [] (flat_map (numbers_down old.nodes (length rows)) (reverse (entry_items top)))
    sweep-last {index} past s =
        let left = under_none most capacity (subst (Under most old.nodes s.left_leaves s.left_rows) (drop_all _ _ past) s.under) in
        let whole = s.order ∙ ap (λ z. flat_map (numbers_down old.nodes (length rows)) (reverse z)) (take_all index _ (omega (arith, length-map top (λ e. e.1)))) in
        rw (← whole) (trades-wider _ _ (λ m. omega (arith, s.split m, left m)) s.frees)

-- the entry whose item is at an index
pub item_at : {K : Type 0} (top : Heads K) (index child : ℕ) → slice_get (entry_items top) index ≡ Some child → (x : K × ℕ) × (slice_get top index ≡ Some x) × (x.1 ≡ child)
item_at top index child found = let r = read top index (omega (arith, slice_get_within (entry_items top) index child found, length-map top (λ w. w.1))) in
    (r.0, r.1, some_same (cc (items-read _ _, found)))

module _ {K V : Type 0} where
  -- the progress of freeing a node's children, and the node itself
  pub record Sweeping (most : ℕ) (old now : Table K V) (leaves : Row K V) (lower : Rows K) (number index : ℕ) : Type 0 where
    pub opened : Opened most old.nodes leaves lower number
    pub swept : Swept most old now opened.low opened.rows opened.top index
    pub whole : Distinct (numbers_under leaves lower ++ old.chain)
    pub apart : Distinct (numbers_under opened.low opened.rows ++ old.chain)
    pub slot_is : slice_get now.nodes number ≡ Some opened.content
    pub off_chain : count number now.chain ≡ 0

  pub sweeping : {most : ℕ} {old now : Table K V} {leaves lower number index : _} → Distinct (numbers_under leaves lower ++ old.chain) → (o : Opened most
      old.nodes leaves lower number) → Swept most old now o.low o.rows o.top index → Sweeping most old now leaves lower number index
  sweeping {number} apart o s = let one = count-same number [] in
      record {
        opened = o;
        swept = s;
        whole = apart;
        apart = λ m. omega (arith, apart m, o.counted m, count-append);
        slot_is = s.frees.others number (omega (arith, apart number, o.counted number, s.split number, count-append)) ∙ o.slot_is;
        off_chain = omega (arith, apart number, o.counted number, s.split number, s.frees.numbers_are number, ap (count number) s.frees.chain_is, count-append);
      }

  -- the node is freed after its children
  pub gives-down : {most : _} {old now : _} {leaves lower number index : _} → (s : Sweeping most old now leaves lower number index) →
      Frees old now (numbers_under s.opened.low s.opened.rows) [] (flat_map (numbers_down old.nodes (length s.opened.rows)) (reverse (entry_items s.opened.top))) →
      Frees old (with_freed now number) (numbers_under leaves lower) [] (numbers_down old.nodes (length lower) number)
  gives-down {old} {now} {number} s all = rw s.opened.down (frees-then _ _ (λ m. omega (arith, s.opened.counted m)) s.whole all
      (frees-one now (with_freed now number) number s.slot_is refl))

  -- a leaf has nothing below it and is freed alone
  pub gives-leaf : {most : ℕ} (capacity : IsLeafCapacity most) (old : Table K V) {leaves : Row K V}
      {lower number : _} → Distinct (numbers_under leaves lower ++ old.chain) → (o : Opened most old.nodes leaves lower number) → (IsInner o.content → ⊥)
      → Frees old (with_freed old number) (numbers_under leaves lower) [] (numbers_down old.nodes (length lower) number)
  unfolding sweeping
  gives-leaf capacity old apart o other = let first = sweep-first capacity old o.low o.rows o.top o.under in
      let all = sweep-last capacity old o.low o.rows o.top (omega (arith, childless _ other, ap length o.children_are, length-map o.top (λ e. e.1))) first in
      gives-down (sweeping apart o first) all

  -- the child at the index, and everything below it
  pub child_turn : {most : ℕ} (capacity : IsLeafCapacity most) {old now : _} {leaves lower number index : _} {child : ℕ} → (s : Sweeping most old now leaves lower number index)
      → slice_get (children_of s.opened.content) index ≡ Some child → (x : K × ℕ) × (x.1 ≡ child) × (index < length s.opened.top)
      × Turn capacity old s.opened.low s.opened.rows s.opened.top now index x
  child_turn capacity {now} {index} {child} s found = let i = item_at s.opened.top index child (cc) in
      (i.0, i.2, slice_get_within _ _ _ i.1, sweep-turn _ _ _ s.opened.rows s.opened.top now index i.0 s.apart s.swept i.1)
