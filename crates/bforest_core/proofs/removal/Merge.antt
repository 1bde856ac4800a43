-- Removing an entry from a level of leaves or inner nodes, and from the levels of sizes: its row is rebalanced, then those above.
use Rattle.bforest_core.proofs.Words.{◌≡◌, ℕ, suc, ◌+◌, ◌-◌, ◌≤◌, ◌<◌, Some, List, [], ◌∷◌, ◌++◌, map, length, get_or, refl, sym, ap, ◌∙◌, append_assoc}
use Rattle.bforest_core.proofs.Words.{length-append, arith, Heads, Row, Rows, flat_map, Content, Table, node, flat, heads, sizes, numbers, inner_content}
use Rattle.bforest_core.proofs.Words.{count, lt-ltb, le-ltb, zero, Option, None, true, false, Bool, if◌then◌else◌, option_map, loss, rebalanced, loss_above}
use Rattle.bforest_core.proofs.Words.{nodes_up, subst, FitRow, RowIn, Above, TwoAbove, Frees, Rebuilt, Loosened, Healed, Joined, Loses, least, false≢true}
use Rattle.bforest_core.proofs.{Words.{Keeps, OnLevel, remove}, removal.Asked.{keeps-refl, remove_at}, removal.Rebalance.Ceded, removal.Collapse.length-sizes}
use Rattle.bforest_core.proofs.rows.LevelRows.{least-pos, flat-append, heads-append, sizes-append, FitRow-join, FitRow-split, Solid-full}
use Rattle.bforest_core.proofs.{rows.Zipper.stands_here, table.Tables.{count-append, count-row, counts, row-same}, table.Trading.{frees-after, frees-then}}

-- the index of the node after `k` others, if it is removed
abbrev pub placed : ℕ → Bool → Option ℕ
placed k b = if b then Some k else None

one_placed : (k b : _) → option_map (λ index. suc index) (placed k b) ≡ placed (suc k) b
one_placed k true = refl
one_placed k false = refl

-- the sizes after the node behind these lost an entry
pub loss_at : {K X : Type 0} (q : ℕ) (before : Row K X) (m e after : _) → e < suc m → loss q (length (flat before) + e) (sizes before ++ suc m ∷ after) ≡ (placed (length before) (rebalanced q m after).0, sizes before ++ (rebalanced q m after).1)
loss_at q [] m e after low = let z : 0 + e ≡ e = omega arith in let a = lt-ltb e (suc m) low in let s : suc m - 1 ≡ m = omega arith in rw (z, a, s) refl
loss_at {K} {X} q (node k fs ∷ before) m e after low =
    let len : length (flat (node k fs ∷ before)) + e ≡ length fs + (length (flat before) + e) = omega (arith, length-append fs (flat before)) in
    let a = le-ltb (length fs + (length (flat before) + e)) (length fs) (omega arith) in
    let s : length fs + (length (flat before) + e) - length fs ≡ length (flat before) + e = omega arith in let ih = loss_at q before m e after low in
    rw (len, a, s) (cc (one_placed (length before) (rebalanced q m after).0))

-- the levels after a removal at a place of the lowest, whose nodes have at most `q` entries
abbrev pub lost : ℕ → ℕ → List (List ℕ) → List (List ℕ)
lost q place [] = []
lost q place (level ∷ levels) = (loss q place level).1 ∷ loss_above (loss q place level).0 levels

-- a level of inner nodes is one of those above another
pub lost_above : (place levels : _) → lost 8 place levels ≡ loss_above (Some place) levels
lost_above place [] = refl
lost_above place (level ∷ levels) = refl

-- a removal in one level, for a known outcome of its rebalancing
pub loss_level : {K X : Type 0} (q : ℕ) (before : Row K X) (m e p after levels all : _) → all ≡ (sizes before ++ suc m ∷ after) ∷ levels → e ≤ m → p ≡ length
    (flat before) + e → lost q p all ≡ (sizes before ++ (rebalanced q m after).1) ∷ loss_above (placed (length before) (rebalanced q m after).0) levels
loss_level q before m e p after levels all all_is low p_is =
    ap (λ z. lost q p z) all_is ∙ rw p_is (ap (λ z. z.1 ∷ loss_above z.0 levels) (loss_at q _ m e _ (omega arith)))

-- two paths that agree from a level up have the same nodes there
pub nodes_up-same : (path path' : List ℕ) (level count : ℕ) → ((i : ℕ) → level ≤ i → get_or path' i 0 ≡ get_or path i 0) → nodes_up path' level count ≡ nodes_up path level count
nodes_up-same path path' level zero same = refl
nodes_up-same path path' level (suc count) same = cc (nodes_up-same path path' (suc level) count (λ i above. same i (omega arith)), same level (omega arith))

-- a level that lost entries is rebalanced, with the rows above it: its entries are `list`, nodes of these numbers
-- were freed, and the path goes through one of its nodes
pub record Restored {K V X : Type 0} (content : List (K × X) → Content K V) (half most : ℕ) (old new : Table K V) (path indices : List ℕ) (level size : ℕ)
    (sizes_after : List (List ℕ)) (own : List ℕ) (list : List (K × X)) (place : ℕ) (freed : List ℕ) : Type 0 where
  pub row : Row K X
  pub front : Row K X
  pub entries : List (K × X)
  pub after : Row K X
  pub rows : Rows K
  pub row_is : row ≡ front ++ node (get_or path level 0) entries ∷ after
  pub list_is : flat row ≡ list
  pub fit : FitRow half most row
  pub inside : RowIn content new.nodes row
  pub above : Above new path indices (suc level) size rows (heads row) (length (heads front))
  pub sizes_are : sizes row ∷ map sizes rows ≡ sizes_after
  pub frees : Frees old new own (numbers row ++ flat_map numbers rows) freed
  pub place_is : place ≡ length (flat front) + get_or indices level 0

module _ {K V X : Type 0} {content : List (K × X) → Content K V} {half most old mid path indices level size : _}
    {were own list place : _} (l : Loosened content half most old mid path indices level size were own list place) where
  -- the level is rebalanced, and the path is as it was below it
  abbrev pub Restores : Table K V → List ℕ → List ℕ → List ℕ → Type 0
  Restores new path' indices' freed =
      Restored content half most old new path' indices' level size (lost most place were) own list place freed × Keeps path indices path' indices' level size

  -- the level is rebalanced, and the path stands in it, where an entry follows
  abbrev pub Stays : Table K V → List ℕ → List ℕ → List ℕ → Type 0
  Stays new path' indices' freed = (r : Restores new path' indices' freed) × (place < length list → get_or indices' level 0 < length r.0.entries)

  abbrev num : ℕ
  num = get_or path level 0

  -- an entry follows the path's place
  pub low : place < length list → get_or indices level 0 < length (l.entries ++ flat l.after)
  low some = omega (arith, simp (flat-append, length-append) at (ap length l.list_is), length-append l.entries (flat l.after))

  abbrev outcome : Bool × List ℕ
  outcome = rebalanced most (length l.entries) (sizes l.after)

  pub lost_is : lost most place were ≡ (sizes l.before ++ outcome.1) ∷ loss_above (placed (length l.before) outcome.0) (map sizes l.rest)
  lost_is = loss_level _ _ _ _ _ _ _ _ l.sizes_were l.on_level.entry_was l.place_is

  -- a level whose node is half full or the last stays
  abbrev pub kept_restored : (least half l.after ≤ length l.entries) × (outcome ≡ (false, length l.entries ∷ sizes l.after)) → Restores mid path indices []
  kept_restored stays = (
    record {
      row = l.before ++ node num l.entries ∷ l.after;
      front = l.before;
      entries = l.entries;
      after = l.after;
      rows = l.rest;
      row_is = refl;
      list_is = l.list_is;
      fit = FitRow-join _ _ _ (node num l.entries) l.after l.on_level.solid (stays.0, l.on_level.most_is, l.on_level.fits);
      inside = l.on_level.inside;
      above = l.on_level.above;
      sizes_are = cc (rw stays.1 at lost_is, sizes-append _ _);
      frees = l.frees;
      place_is = l.place_is;
    },
    keeps-refl,
  )

  -- a level whose node stays is rebalanced
  abbrev pub healed_restored : {new path' indices' : _} →
      Healed content half most mid new path indices path' indices' level size l.before num l.entries l.after l.rest → Stays new path' indices' []
  healed_restored {new} h = (
    (
      record {
        row = h.before' ++ node h.number' h.entries' ∷ h.after';
        front = h.before';
        entries = h.entries';
        after = h.after';
        rows = h.rest';
        row_is = cc;
        list_is = cc;
        fit = h.fit;
        inside = h.inside;
        above = h.above;
        sizes_are = cc (lost_is);
        frees = frees-after _ _ (λ m. omega arith) l.frees h.frees;
        place_is = omega arith;
      },
      h.keeps,
    ),
    λ some. h.within (low some),
  )

  module _ {w path1 indices1 : _} (j : Joined content half most mid w path indices path1 indices1 level size l.before num l.entries l.after l.rest) where
    abbrev pub merge_asks : {up' size' : ℕ} → up' ≡ suc level → size' ≡ size → TwoAbove w path1 indices1 up' size'
    merge_asks up_is size_is = record { rows = l.rest; before = heads l.before; x = (j.first.0, num); y = (j.key, j.right); after = heads j.after'; above = rw (up_is, size_is) j.above }

    -- a level is rebalanced once the rows above lost the entry of a merged node
    pub joined_restored : {new : Table K V} {path' indices' : List ℕ} {up' size' : ℕ} → up' ≡ suc level → size' ≡ size → (levels : ℕ) →
        Rebuilt w new path1 indices1 path' indices' up' size' l.rest (heads l.before ++ (j.first.0, j.right) ∷ heads j.after') (length (heads l.before))
        (loss_above (Some (length (heads l.before))) (map sizes l.rest)) (nodes_up path1 up' levels) → 1 ≤ half →
        Stays new path' indices' (nodes_up path level (suc levels))
    joined_restored {new} {path'} {indices'} up_is size_is levels again one = let both = l.entries ++ j.right_entries in let row =
        l.before ++ node j.right both ∷ j.after' in
        let freed = nodes_up path (suc level) levels in let r =
        rw (up_is, size_is, nodes_up-same path path1 (suc level) levels (λ i above. j.nodes_above i (omega arith))) at again in
        let own1 = numbers (l.before ++ node num l.entries ∷ l.after) ++ flat_map numbers l.rest in let p = l.on_level in
        let full = Solid-full half most one l.before p.solid in let c = λ (m : ℕ). counts m l.before num l.entries l.after l.rest mid.chain in
        let c0 = λ (m : ℕ). ap (λ z. count m (num ∷ numbers z)) j.after_is in let list_is = sym (cc (heads-append _ _)) in
        let fits = subst (λ z. FitRow half most z) j.after_is p.fits in
        let left = frees-then own1 (numbers row ++ flat_map numbers r.rows')
        (λ m. omega (arith, c m, count-append m (numbers row) (flat_map numbers r.rows'))) p.apart j.frees r.frees in (
          (
            record {
              row = row;
              front = l.before;
              entries = both;
              after = j.after';
              rows = r.rows';
              row_is = ap (λ z. l.before ++ node z both ∷ j.after') (sym (cc (r.nodes_below level (omega arith))));
              list_is = cc (flat-append _ _, append_assoc _ _ _, flat-append _ _);
              fit = j.fit;
              inside = row-same _ _ _ _ (λ m more. r.frees.others m (omega (arith, c0 m, c m, count-row m l.before j.right both j.after'))) j.inside;
              above = subst (λ z. Above new path' indices' (suc level) size r.rows' z (length (heads l.before))) list_is r.above;
              sizes_are = cc (rw j.outcome at lost_is, sizes-append _ _);
              frees = frees-after _ _ (λ m. omega arith) l.frees left;
              place_is = omega arith;
            },
            record {
              nodes_below = λ i low. r.nodes_below i (omega arith) ∙ j.nodes_below i low;
              entries_below = λ i low. r.entries_below i (omega arith) ∙ j.entries_below i low;
              same_top = r.same_top ∙ j.same_top;
            },
          ),
          λ some. omega (arith, length-append l.entries j.right_entries, least-pos half one j.after'),
        )

module _ {K V : Type 0} {t u : Table K V} {path indices : List ℕ} {up size : ℕ} (rows : Rows K) {hs : Heads K} {p : ℕ}
    (l : Loosened inner_content 4 8 t u path indices up size (map sizes rows) (flat_map numbers rows) hs p) (at : p < length hs) where
  -- the node that lost an entry, as rebalancing it requires it
  abbrev pub loses_child : (num : ℕ) → Loses num 4 u path indices up size
  loses_child n = record { leaf = false; capacity = λ is. absurd (false≢true is); least_is = refl; before = l.before; entries = l.entries; after = l.after; rest = l.rest; on = l.on_level; at_entry = λ some. low l at }

  -- the rebalanced level is one of the rows
  pub rebuilt : {v : Table K V} {path' indices' freed : _} → Stays l v path' indices' freed →
      Rebuilt t v path indices path' indices' up size rows hs p (loss_above (Some p) (map sizes rows)) freed
  rebuilt {path'} restored =
      let r = restored.0.0 in let n' = get_or path' up 0 in let solid = (FitRow-split 4 8 r.front (node n' r.entries) r.after (rw (← r.row_is) r.fit)).0 in
      record {
        rows' = r.row ∷ r.rows;
        above = record {
          over = record {
            stacked = (r.list_is, r.fit, r.above.stacked);
            inside = (r.inside, r.above.inside);
            stands = stands_here _ _ _ _ _ _ _ _ _ _ p solid r.row_is refl refl (restored.1 at) r.place_is r.above.stands;
            height = omega arith;
          };
          apart = λ i. omega (arith, l.on_level.apart i, l.frees.numbers_are i, r.frees.numbers_are i, ap (λ z. count i z) r.frees.chain_is, ap (λ z. count i z) l.frees.chain_is, count-append);
        };
        sizes_are = cc (lost_above p _);
        frees = r.frees;
        keeps = restored.0.1;
      }

-- a node's right neighbour has its entries, and the rows above lost the node
module _ {K V X : Type 0} {content : List (K × X) → Content K V} {half most t v path indices path1 level size before n e es q f fs after rest : _}
    (p : OnLevel content half most t path indices level size before n (e ∷ es) (node q (f ∷ fs) ∷ after) rest)
    (c : Ceded content half most t v path indices path1 level size before n e es q f fs after rest (e ∷ es)) where
  abbrev pub cede_asks : {up' size' : ℕ} → up' ≡ suc level → size' ≡ size → TwoAbove v path1 indices up' size'
  cede_asks up_is size_is = record { rows = rest; before = heads before; x = (e.0, n); y = (f.0, q); after = heads after; above = rw (up_is, size_is) c.above }

  abbrev pub row : Row K X
  row = before ++ node n (e ∷ es) ∷ node q (f ∷ fs) ∷ after

  -- the level without the neighbour's entries, under the rows as they are now
  pub ceded_restored : {new : Table K V} {path' indices' : List ℕ} {up' size' place : ℕ} {leaves : Row K X} {list : List (K × X)} → up' ≡ suc level → size' ≡ size → (levels : ℕ) →
      Rebuilt v new path1 indices path' indices' up' size' rest (heads before ++ (e.0, q) ∷ heads after) (length (heads before))
      (loss_above (Some (length (heads before))) (map sizes rest)) (nodes_up path1 up' levels) → 1 ≤ half → place ≡ length (flat before) + get_or indices level 0 →
      leaves ≡ row → list ≡ flat (before ++ node n (e ∷ es) ∷ after) → get_or indices level 0 < length (e ∷ es) →
      (r : Restored content half most t new path' indices' level size (remove (sizes leaves) (suc (length before)) ∷ loss_above (Some (length before)) (map sizes rest))
      (numbers leaves ++ flat_map numbers rest) list place (nodes_up path level (suc levels)))
      × Keeps path indices path' indices' level size × (get_or indices' level 0 < length r.entries)
  ceded_restored {new} {path'} {indices'} up_is size_is levels again one place_is whole list_was within = let left = before ++ node q (e ∷ es) ∷ after in
      let freed = nodes_up path (suc level) levels in let r =
      rw (up_is, size_is, nodes_up-same path path1 (suc level) levels (λ i above. c.nodes_above i (omega arith))) at again in
      let full = Solid-full half most one before p.solid in let k = λ (m : ℕ). counts m before n (e ∷ es) (node q (f ∷ fs) ∷ after) rest t.chain in
      let list_is = sym (cc (heads-append before (node q (e ∷ es) ∷ after))) in
      let gone = remove_at (sizes before ++ length (e ∷ es) ∷ []) (length (f ∷ fs)) (sizes after) in
      let len : length (sizes before ++ length (e ∷ es) ∷ []) ≡ suc (length before) = omega (arith, length-append (sizes before) (length (e ∷ es) ∷ []), length-sizes before) in
      let was : sizes row ≡ (sizes before ++ length (e ∷ es) ∷ []) ++ length (f ∷ fs) ∷ sizes after = simp (sizes-append, append_assoc) in
      let are : sizes left ≡ (sizes before ++ length (e ∷ es) ∷ []) ++ sizes after = simp (sizes-append, append_assoc) in
      let without : remove (sizes row) (suc (length before)) ≡ sizes left = rw (was, are, ← len) gone in
      let frees = frees-then (numbers row ++ flat_map numbers rest) (numbers left ++ flat_map numbers r.rows')
      (λ m. omega (arith, k m, count-append m (numbers left) (flat_map numbers r.rows'))) p.apart c.frees r.frees in
      let index_is = r.entries_below level (omega arith) in (
        record {
          row = left;
          front = before;
          entries = e ∷ es;
          after = after;
          rows = r.rows';
          row_is = ap (λ z. before ++ node z (e ∷ es) ∷ after) (sym (cc (r.nodes_below level (omega arith))));
          list_is = rw list_was (simp flat-append);
          fit = c.fit;
          inside = row-same _ _ _ _ (λ m more. r.frees.others m (omega (arith, k m, count-row m before q (e ∷ es) after))) c.inside;
          above = subst (λ z. Above new path' indices' (suc level) size r.rows' z (length (heads before))) list_is r.above;
          sizes_are = cc (whole, without, full, r.sizes_are);
          frees = subst (λ z. Frees t new (numbers z ++ flat_map numbers rest) (numbers left ++ flat_map numbers r.rows') (nodes_up path level (suc levels))) (sym whole)
              (subst (λ z. Frees t new (numbers row ++ flat_map numbers rest) (numbers left ++ flat_map numbers r.rows') (freed ++ z ∷ [])) (sym p.number_is) frees);
          place_is = place_is ∙ ap (λ z. length (flat before) + z) (sym index_is);
        },
        record {
          nodes_below = λ i low. r.nodes_below i (omega arith) ∙ c.nodes_below i low;
          entries_below = λ i low. r.entries_below i (omega arith) ∙ c.entries_below i low;
          same_top = r.same_top ∙ c.same_top;
        },
        omega (arith, index_is, within),
      )
