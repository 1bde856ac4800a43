-- Discarding roots with a single child: from the root down, and in the sizes from the leaves up.
use Rattle.bforest_core.proofs.Words.{◌≡◌, ◌≢◌, ℕ, suc, ◌+◌, ◌-◌, ◌≤◌, ◌<◌, Some, List, [], ◌∷◌, ◌++◌, map, length, drop, get_or, slice_get, refl, sym, ap}
use Rattle.bforest_core.proofs.Words.{◌∙◌, append_assoc, append-nil, length-append, arith, Heads, Row, Rows, nil_from_length, flat_map, flat_map-append}
use Rattle.bforest_core.proofs.Words.{Content, IsUsed, Table, with_freed, node, flat, heads, sizes, numbers, Stacked, Topped, trimmed, RowsIn, inner_content}
use Rattle.bforest_core.proofs.Words.{entry_keys, entry_items, count, root_above, first_number, StandsAbove, UpTo, Trimmed}
use Rattle.bforest_core.proofs.{table.Tables.{count-append, count-same, rows-same, is_used}, removal.Asked.{NodeAt, ChildAt, ReadsChild, Counts, some_first}}
use Rattle.bforest_core.proofs.{table.Stored.{item_count, some_same}, rows.LevelRows.least-pos, walks.RowNodes.fit_full}
use Rattle.bforest_core.proofs.table.Trading.{not_there, trades-none, frees-then, freed_other, frees-one}

-- a row has one size per node
pub length-sizes : {K X : Type 0} (row : Row K X) → length (sizes row) ≡ length row
length-sizes [] = refl
length-sizes (node n es ∷ row) = ap suc (length-sizes row)

-- a row has no fewer entries than heads
pub heads-flat : {K X : Type 0} (row : Row K X) → length (heads row) ≤ length (flat row)
heads-flat [] = omega arith
heads-flat (node n [] ∷ row) = heads-flat row
heads-flat (node n (e ∷ es) ∷ row) = omega (arith, heads-flat row, length-append es (flat row))

module _ {K : Type 0} where
  -- the rows up to a root, split below the root's row
  pub record Top (rows : Rows K) (root : ℕ) : Type 0 where
    pub init : Rows K
    pub entries : Heads K
    pub rows_are : rows ≡ init ++ (node root entries ∷ []) ∷ []
    pub some : 1 ≤ length entries

  top_here : (list row root : _) → Stacked list (row ∷ []) → root_above list (row ∷ []) ≡ root → Top (row ∷ []) root
  top_here list [] root s is = absurd (omega arith)
  top_here list (node n [] ∷ row) root s is = absurd (omega (arith, least-pos 4 (omega arith) row))
  top_here list (node n (e ∷ es) ∷ []) root s is = record { init = []; entries = e ∷ es; rows_are = cc; some = omega arith }
  top_here list (node n (e ∷ es) ∷ next ∷ row) root s is = absurd (omega (arith, fit_full 4 8 (omega arith) (node n (e ∷ es) ∷ next ∷ row) s.1))

  -- nonempty rows have a root's row on top
  top_of_rows : (list row rows root : _) → Stacked list (row ∷ rows) → root_above list (row ∷ rows) ≡ root → Top (row ∷ rows) root
  top_of_rows list row [] root s is = top_here _ _ _ s is
  top_of_rows list row (next ∷ rows) root s is =
      let t = top_of_rows (heads row) next rows root s.2 is in record { init = row ∷ t.init; entries = t.entries; rows_are = cc; some = t.some }

  -- the rows below a root with a single child have the child as their root
  below-root : (list : Heads K) (init : Rows K) (root : ℕ) (x : K × ℕ) → Stacked list (init ++ (node root (x ∷ []) ∷ []) ∷ []) → Stacked list init × (root_above list init ≡ x.1)
  below-root list [] root x s = (ap length (sym s.0), ap first_number (sym s.0))
  below-root list (row ∷ init) root x s = let r = below-root (heads row) init root x s.2 in ((s.0, s.1, r.0), r.1)

  -- a root with two children or more is over levels of two nodes or more
  topped-here : (list : Heads K) (init : Rows K) (root : ℕ) (es : Heads K) → 2 ≤ length es → Stacked list (init ++ (node root es ∷ []) ∷ []) → (2 ≤ length list) × Topped list (init ++ (node root es ∷ []) ∷ [])
  topped-here list [] root es two s = let low : 2 ≤ length list = omega (arith, ap length s.0, length-append es []) in (low, (low, tt))
  topped-here list (row ∷ init) root es two s =
      let t = topped-here (heads row) init root es two s.2 in let low : 2 ≤ length list = omega (arith, heads-flat row, ap length s.0) in (low, (low, t.1))

  -- the trimmed sizes of a tree are those of its levels up to the first of one node
  pub trimmed-is : (leaves : List ℕ) (list : Heads K) (rows gone : Rows K) → length leaves ≡ length list → Stacked list (rows ++ gone) → Stacked list rows → Topped list rows →
      trimmed (leaves ∷ map sizes (rows ++ gone)) ≡ leaves ∷ map sizes rows
  trimmed-is (size ∷ []) list [] gone len s one t = refl
  trimmed-is (size ∷ next ∷ after) list (row ∷ rows) gone len s u t =
      ap (λ z. (size ∷ next ∷ after) ∷ z) (trimmed-is (sizes row) (heads row) rows gone (length-sizes row ∙ sym (fit_full 4 8 (omega arith) row u.1)) s.2 u.2 t.1)
  trimmed-is leaves list [] gone len s u t = absurd (omega arith)
  trimmed-is leaves list (row ∷ rows) gone len s u t = absurd (omega arith)

  -- rows of the same sizes over as many nodes have two nodes or more on the same levels
  pub topped-sizes : (list list' : Heads K) (rows rows' : Rows K) → Stacked list rows → Stacked list' rows' → length list' ≡ length list → map sizes rows' ≡ map sizes rows → Topped list rows → Topped list' rows'
  topped-sizes list list' rows [] s s' len same t = tt
  topped-sizes list list' [] (row' ∷ rows') s s' len same t = absurd cc
  topped-sizes list list' (row ∷ rows) (row' ∷ rows') s s' len same t =
      let here : sizes row' ≡ sizes row = cc in let rest : map sizes rows' ≡ map sizes rows = cc in let a = fit_full 4 8 (omega arith) row s.1 in
      let b = fit_full 4 8 (omega arith) row' s'.1 in
      (omega arith, topped-sizes (heads row) (heads row') rows rows' s.2 s'.2 (omega (arith, length-sizes row, length-sizes row', ap length here)) rest t.1)

  -- where the lowest row has as many nodes as before, and those above it have the same sizes
  pub topped-above : {low low' : List ℕ} {high : List (List ℕ)} (list list' : Heads K) (rows rows' : Rows K) → Stacked list rows → Stacked list' rows' → 2 ≤ length list' →
      map sizes rows ≡ low ∷ high → map sizes rows' ≡ low' ∷ high → length low' ≡ length low → Topped list rows → Topped list' rows'
  topped-above list list' rows [] s s' two was is same t = tt
  topped-above list list' [] (row' ∷ rows') s s' two was is same t = absurd cc
  topped-above {low} {low'} list list' (row ∷ rows) (row' ∷ rows') s s' two was is same t =
      let here : sizes row ≡ low = cc in let here' : sizes row' ≡ low' = cc in let rest : map sizes rows' ≡ map sizes rows = cc in let a = fit_full 4 8 (omega arith) row s.1 in
      let b = fit_full 4 8 (omega arith) row' s'.1 in
      (two, topped-sizes (heads row) (heads row') rows rows' s.2 s'.2 (omega (arith, length-sizes row, length-sizes row', ap length here, ap length here')) rest t.1)

  -- a path through the rows is a path through the lower ones
  pub stands-below : (path indices : List ℕ) (level : ℕ) (list : Heads K) (rows gone : Rows K) (place : ℕ) → place < length list → Stacked list rows → StandsAbove path indices level (rows ++ gone) place → StandsAbove path indices level rows place
  stands-below path indices level list [] gone place low s st = omega arith
  stands-below path indices level list (row ∷ rows) gone place low s st = let at = st.0 in let full = fit_full 4 8 (omega arith) row s.1 in
      let within : length at.before < length (heads row) = omega (arith, ap length at.row_is, length-append at.before (node (get_or path level 0) at.entries ∷ at.after)) in
      (at, stands-below _ _ (suc level) (heads row) rows gone (length at.before) within s.2 st.1)

-- how often a number occurs in rows with a row of one node on top
pub count_top : {K : Type 0} (m : ℕ) (init : Rows K) (root : ℕ) (es : Heads K) → count m (flat_map numbers (init ++ (node root es ∷ []) ∷ [])) ≡ count m (flat_map numbers init) + count m (root ∷ [])
count_top m init root es = cc (flat_map-append _ _ _, count-append m (flat_map numbers init) (root ∷ []))

module _ {K V : Type 0} where
  -- the lower and the upper rows are each in the table
  pub rows-parts : (slots : List (Content K V)) (rows more : _) → RowsIn slots (rows ++ more) → RowsIn slots rows × RowsIn slots more
  rows-parts slots [] more i = (tt, i)
  rows-parts slots (row ∷ rows) more i = let r = rows-parts slots rows more i.1 in ((i.0, r.0), r.1)

  -- no root is discarded
  unfoldable pub trim_none : {t : Table K V} {size rows list root : _} → UpTo t size rows list root → Topped list rows → Trimmed t t size size rows list root root []
  trim_none {t} {rows} u topped = record {
    rows' = rows;
    discarded = [];
    rows_are = sym (append-nil rows);
    stacked = u.stacked;
    topped = topped;
    size_is = u.height;
    one_each = refl;
    root_is = u.root_is;
    same_root = λ e. refl;
    old_root = λ ne. absurd (ne refl);
    frees = trades-none t [];
  }

  -- a leaf that is the root stays
  pub trim_leaf : {t : Table K V} {size rows list root : _} → UpTo t size rows list root → size ≡ 1 → Trimmed t t size size rows list root root []
  trim_leaf {rows} u one = trim_none u (rw (nil_from_length rows (omega arith)) tt)

  -- there is a level above the leaves
  module _ {t : Table K V} {size rows list root : _} (u : UpTo t size rows list root) (more : size ≢ 1) where
    pub root_row : Top rows root
    root_row = let w = some_first rows (omega arith) in rw w.2 (top_of_rows _ w.0 w.1 root (rw w.2 at u.stacked) (rw w.2 at u.root_is))

    rows_up : UpTo t size (root_row.init ++ (node root root_row.entries ∷ []) ∷ []) list root
    rows_up = rw (← root_row.rows_are) u

    pub inside : RowsIn t.nodes root_row.init × RowsIn t.nodes ((node root root_row.entries ∷ []) ∷ [])
    inside = rows-parts _ _ _ rows_up.inside

    slot_is : slice_get t.nodes root ≡ Some (inner_content root_row.entries)
    slot_is = inside.1.0.0

    none_else : (count root (flat_map numbers root_row.init) ≡ 0) × (count root t.chain ≡ 0)
    none_else = omega (arith, rows_up.apart root, count-append, count_top root root_row.init root root_row.entries, count-same root [])

    pub counted_asks : NodeAt t root
    counted_asks = (inner_content root_row.entries, slot_is, λ free. free)

    module _ (n : ℕ) (counted : Counts t root n) where
      pub count_is : n ≡ length root_row.entries
      count_is = counted (inner_content root_row.entries) slot_is ∙ item_count _

      -- a root with two children or more stays
      pub trim_stays : 1 < n → Trimmed t t size size rows list root root []
      trim_stays two = trim_none u (rw root_row.rows_are (topped-here _ _ _ _ (omega (arith, count_is)) rows_up.stacked).1)

      -- the root has a single child
      module _ (few : n ≤ 1) where
        child : (x : _) × (root_row.entries ≡ x ∷ [])
        child = let h = some_first root_row.entries root_row.some in (h.0, cc (nil_from_length h.1 (omega (arith, count_is, ap length h.2))))

        pub child_asks : ChildAt t root 0
        child_asks = (drop 1 (entry_keys root_row.entries), entry_items root_row.entries, slot_is, omega (arith, item_count root_row.entries, root_row.some))

        pub free_asks : IsUsed t root
        free_asks = is_used _ _ _ slot_is none_else.1

        module _ (only : ℕ) (reads : ReadsChild t root 0 only) (v : Table K V) (freed : v ≡ with_freed t root) where
          below : Stacked list root_row.init × (root_above list root_row.init ≡ child.0.1)
          below = below-root list root_row.init root child.0 (rw (← child.1) rows_up.stacked)

          -- the rows below the root, after it was freed
          pub trim_down : UpTo v (size - 1) root_row.init list only
          trim_down = record {
            stacked = below.0;
            inside = rows-same _ _ _ (λ m some. freed_other _ _ _ freed m (not_there m root _ some none_else.0)) inside.0;
            height = omega (arith, simp length-append at rows_up.height);
            root_is = below.1 ∙ some_same
                (ap (λ z. slice_get (entry_items z) 0) (sym child.1) ∙ reads (drop 1 (entry_keys root_row.entries)) (entry_items root_row.entries) slot_is);
            apart = λ m. omega (arith, rows_up.apart m, count_top m root_row.init root root_row.entries, ap (λ z. count m z.chain) freed, count-append);
          }

          -- the rows below the root, after further roots were discarded
          pub trim_then : {w size' root' gone : _} → Trimmed v w (size - 1) size' root_row.init list only root' gone →
              Trimmed t w size size' rows list root root' (gone ++ root ∷ [])
          trim_then {size'} {gone} r = let row = node root root_row.entries ∷ [] in let c = λ (m : ℕ). count_top m r.discarded root root_row.entries in
              let parts = λ (m : ℕ). ap (λ z. count m z) (ap (flat_map numbers) r.rows_are ∙ flat_map-append numbers r.rows' r.discarded) in
              let less : size' < size = omega (arith, simp length-append at rows_up.height, simp length-append at (ap length r.rows_are)) in
              record {
                rows' = r.rows';
                discarded = r.discarded ++ row ∷ [];
                rows_are = cc (root_row.rows_are, append_assoc _ _ _);
                stacked = r.stacked;
                topped = r.topped;
                size_is = r.size_is;
                one_each = simp length-append (omega arith);
                root_is = r.root_is;
                same_root = λ same. absurd (omega arith);
                old_root = λ ne. omega (arith, count-append, count-same root []);
                frees = frees-then _ _ (λ m. omega (arith, c m, count-append m (flat_map numbers r.discarded) (root ∷ [])))
                    (λ m. omega (arith, rows_up.apart m, c m, count_top m root_row.init root root_row.entries, parts m, count-append))
                    (frees-one _ _ _ slot_is freed) r.frees;
              }
