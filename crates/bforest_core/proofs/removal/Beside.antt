-- Balancing the short leaf of a way with its right neighbour under the same parent, which keeps 4 children or more, or is the root: the answers of `balance_on`.
use Rattle.bforest_core.proofs.Words.{◌≡◌, ◌≢◌, ℕ, suc, ◌+◌, ◌-◌, ◌*◌, ◌/◌, ◌%◌, ◌^◌, ◌≤◌, ◌<◌, List, [], ◌∷◌, ◌++◌, length, get_or, set, slice_get, Option, Some, None, inl, refl, sym, ap, ◌∙◌}
use Rattle.bforest_core.proofs.Words.{arith, subst, length-append, length-set, map, Heads, RowsIn, IsUsed, IsHalfFullAt, IsBalancedAt, Table, with_freed, entry_count, inner_content, heads, sizes}
use Rattle.bforest_core.proofs.Words.{cases_lt, inr, nil_from_length, ◌⊎◌, Rows, Trimmed, UpTo, Loses, Joins, OneAbove, TwoAbove, LoosenedRows, Rebuilt, Shrunk, ShortOn, loss_above, nodes_up, node}
use Rattle.bforest_core.proofs.removal.{Asked.{no_nodes, some_first, Beside, ChildAt, Counts, KeyAt, ReadsChild, ReadsKey, Removes, Seen, Writes}, Healing.leaf_loses, Merge.{kept_restored, merge_asks, rebuilt}}
use Rattle.bforest_core.proofs.removal.{Neighbours.{beside_same, item_asks, one_seen}, Rebalance.judged, RemovingMerged.{here, merge_same, remove_asks, same_parent}, Removing.{collapse_asks, healed_removed, joined_removed}}
use Rattle.bforest_core.proofs.removal.Rebalancing.{balance_asks, beside_asks, count_read, counted_asks, free_asks, free_joins, rekey_asks, rekey_heals}
use Rattle.bforest_core.proofs.{removal.Lifted.{headed, top_one}, table.Stored.{item_count, some_same}, table.Tables.row-split, walks.Ways.up-none}
use Rattle.bforest_core.specs.declared.path.way.Way.{Way}

module _ {K V : Type 0} {t u : Table K V} {path indices : List ℕ} {size : ℕ} (rows : Rows K) (list : Heads K) (place : ℕ) (l : LoosenedRows t u path indices 1 size rows list place) where
  -- a root is alone on its level
  top-alone : size ≤ 2 → l.after ≡ []
  top-alone low = let h = some_first l.entries l.some in let one = top_one (headed l.before (get_or path 1 0) l.after h l.on_level.above) low in
      no_nodes 4 8 (omega arith) l.after l.on_level.fits (nil_from_length (heads l.after) (omega (arith, one, length-append (heads l.before) ((h.0.0, get_or path 1 0) ∷ heads l.after))))

module _ {K V : Type 0} {most : ℕ} {t : Table K V} {root : ℕ} {way : Way} (s : ShortOn most t root way) where
  open s use {path, indices, size, follows as f, unbalanced as u}

  height : size ≤ 17
  height = omega (arith, f.size_is, f.low)

  wide : length path ≡ 17
  wide = f.wide

  -- the leaf, as rebalancing it requires it
  abbrev loses : Loses most (most - most / 2) t path indices 0 size
  loses = leaf_loses s.capacity u

  abbrev left : ℕ
  left = entry_count (counted_asks loses 0 wide height).0

  left-read : Counts t (get_or path 0 0) left
  left-read content is = ap entry_count (some_same (sym (counted_asks loses 0 wide height).1 ∙ is))

  under : left < most - most / 2
  under = omega (arith, count_read loses 0 wide height left left-read, s.short, loses.least_is)

  parent-is : get_or path 1 0 ≡ way.parent
  parent-is = f.parent_is s.high

  other : 1 ≢ size
  other = λ e. omega (arith, f.size_is, s.high)

  abbrev one : OneAbove t path indices 1 size
  one = beside_asks loses 0 wide height

  see : Seen t path indices 1 size one.rows one.before one.x one.after 0
  see = one_seen one other 0 wide height

  abbrev es : Heads K
  es = see.d.l ++ one.x ∷ see.d.r

  -- the parent, where the rows above the leaves are in the slots
  parent-slot : (v : Table K V) → RowsIn v.nodes u.lost.rest → slice_get v.nodes (get_or path 1 0) ≡ Some (inner_content es)
  parent-slot v inside = (row-split _ _ _ (node (get_or path 1 0) es ∷ see.d.after) (subst (λ z. RowsIn v.nodes z) see.d.rows_are inside).0).1.0

  counts : (v : Table K V) → RowsIn v.nodes u.lost.rest → Counts v (get_or path 1 0) (length es)
  counts v inside content is = sym (item_count es) ∙ ap entry_count (some_same (sym (parent-slot v inside) ∙ is))

  index-is : {digit : ℕ} → digit ≡ way.code / 2 ^ (3 * 0) % 8 → get_or indices 1 0 ≡ digit
  index-is is = f.digits 0 s.high ∙ sym is

  many : (1 < way.height → 4 < length es) × (get_or indices 1 0 + 1 < length es)
  many = let c = s.children (inner_content es) (ap (slice_get t.nodes) (sym parent-is) ∙ parent-slot t one.above.inside) in
      (λ high. omega (arith, c.0 high, item_count es), omega (arith, c.1, item_count es, f.digits 0 s.high, ap (λ z. z % 8) (up-none way.code)))

  now : Counts t (get_or path 1 0) (length es)
  now = counts t one.above.inside

  module _ {digit : ℕ} (is : digit ≡ way.code / 2 ^ (3 * 0) % 8) where
    pub separator-asks : KeyAt t way.parent digit
    separator-asks = rw (← parent-is, ← index-is is) (see.key_asks (length es) (get_or indices 1 0) now many.1)

    pub child-asks : ChildAt t way.parent (digit + 1)
    child-asks = rw (← parent-is, ← index-is is) (item_asks see (length es) now many.1)

    module _ {key : K} {right : ℕ} (reads-key : ReadsKey t way.parent digit key) (reads-child : ReadsChild t way.parent (digit + 1) right) where
      beside : Beside t path indices 1 size (Some (key, right))
      beside w = beside_same (one_seen w other 0 wide height) (length es) now key right many.1 (rw (parent-is, index-is is) reads-key) (rw (parent-is, index-is is) reads-child)

      pub balance-asks : IsUsed t way.leaf × (IsUsed t right × ((way.leaf ≢ right) × IsHalfFullAt most t.nodes way.leaf right))
      balance-asks = rw (← f.leaf_is) (balance_asks loses 0 wide height left left-read under refl beside)

      module _ {v : Table K V} {got : Option K} (balanced : IsBalancedAt most t way.leaf key right got v) where
        told : IsBalancedAt most t (get_or path 0 0) key right got v
        told = rw f.leaf_is balanced

        -- the leaf took entries of its neighbour
        module _ {new-key : K} (got-is : got ≡ Some new-key) where
          abbrev two : TwoAbove v path indices 1 size
          two = rekey_asks loses 0 wide height left left-read under refl beside told got-is

          pub rekey-asks : IsUsed v way.parent × KeyAt v way.parent digit
          rekey-asks = let h = here two 0 wide height in rw (← parent-is, ← index-is is) (h.used, h.key_asks (length es) (get_or indices 1 0) (counts v two.above.inside) many.1)

          pub filled : {z : Table K V} → Writes v z way.parent digit new-key → Shrunk most u.old z path u.tree u.place root
          filled {z} writes = let h = rekey_heals loses 0 wide height left left-read under refl beside told got-is z
              (λ w. same_parent (here w 0 wide height) (length es) (counts v two.above.inside) many.1 z new-key (rw (parent-is, index-is is) writes)) in
              (healed_removed u.stands u.lost u.root_is h refl).shrunk

        -- the leaf was merged into its neighbour
        module _ (got-is : got ≡ None) where
          pub free-asks : IsUsed v way.leaf
          free-asks = rw (← f.leaf_is) (free_asks loses 0 wide height left left-read under refl beside told got-is)

          module _ {z : Table K V} (freed : z ≡ with_freed v way.leaf) where
            abbrev path1 : List ℕ
            path1 = set path 0 right

            wide1 : length path1 ≡ 17
            wide1 = length-set path 0 right ∙ wide

            joins : Joins loses z path1 indices
            joins = free_joins loses 0 wide height left left-read under refl beside told got-is z (rw f.leaf_is freed)

            same-parent : get_or path1 1 0 ≡ get_or path 1 0
            same-parent = joins.nodes_above 1 (omega arith)

            parent1-is : get_or path1 1 0 ≡ way.parent
            parent1-is = same-parent ∙ parent-is

            abbrev both : TwoAbove z path1 indices 1 size
            both = merge_asks u.lost.loss joins refl refl

            slot1 : slice_get z.nodes (get_or path1 1 0) ≡ Some (inner_content es)
            slot1 = ap (slice_get z.nodes) same-parent ∙ parent-slot z both.above.inside

            counts1 : Counts z (get_or path1 1 0) (length es)
            counts1 content there = sym (item_count es) ∙ ap entry_count (some_same (sym slot1 ∙ there))

            pub low-key-asks : {low : ℕ} → low ≡ digit - 1 → KeyAt z way.parent low
            low-key-asks {low} low-is = rw (← parent1-is) ((here both 0 wide1 height).key_asks (length es) low counts1 (omega (arith, many, index-is is)))

            pub set-asks : IsUsed z way.parent × KeyAt z way.parent digit
            set-asks = let h = here both 0 wide1 height in rw (← parent1-is, ← index-is is) (h.used, h.key_asks (length es) (get_or indices 1 0) counts1 many.1)

            module _ {low : ℕ} {low-key : K} (low-is : low ≡ digit - 1) (reads : ReadsKey z way.parent low low-key) {y : Table K V} (writes : Writes z y way.parent digit low-key) where
              pub remove-child-asks : IsUsed y way.parent × ChildAt y way.parent digit
              remove-child-asks = rw (← parent1-is, ← index-is is) (remove_asks (here both 0 wide1 height) (length es) counts1 many.1 y low-key (rw (parent1-is, index-is is) writes))

              module _ {x : Table K V} (removes : Removes y x way.parent digit) where
                passed : (w : TwoAbove z path1 indices 1 size) → LoosenedRows z x path1 indices 1 size w.rows (w.before ++ (w.x.0, w.y.1) ∷ w.after) (length w.before)
                passed w = merge_same (here w 0 wide1 height) (length es) counts1 many.1 y low-key (rw (parent1-is, index-is is) writes) x low
                    (low-is ∙ ap (λ n. n - 1) (sym (index-is is))) (rw parent1-is reads) (rw (parent1-is, index-is is) removes)

                -- the parent has one child less, 4 or more
                left-there : (w : TwoAbove z path1 indices 1 size) → length es ≡ suc (length (passed w).entries)
                left-there w = (passed w).was es slot1

                -- the parent is the root, or has 4 children or more
                parent-kept : (w : TwoAbove z path1 indices 1 size) → (4 ≤ length (passed w).entries) ⊎ ((passed w).after ≡ [])
                parent-kept w = elim (cases_lt 1 way.height) [
                  | inl high ↦ inl (omega (arith, many.0 high, left-there w))
                  | inr low ↦ inr (top-alone _ _ _ (passed w) (omega (arith, f.size_is)))
                ]

                merged : (w : TwoAbove z path1 indices 1 size) → (levels : ℕ)
                    × Rebuilt z x path1 indices path1 indices 1 size w.rows (w.before ++ (w.x.0, w.y.1) ∷ w.after) (length w.before) (loss_above (Some (length w.before)) (map sizes w.rows)) (nodes_up path1 1 levels)
                merged w = let l = passed w in let at : length w.before < length (w.before ++ (w.x.0, w.y.1) ∷ w.after) = omega (arith, length-append w.before ((w.x.0, w.y.1) ∷ w.after)) in
                    (0, rebuilt w.rows l at (kept_restored l (judged 4 8 l.entries l.after (omega arith) l.some (parent-kept w)), λ more. omega (arith, many.1, left-there w)))

                same-size : way.height + 1 ≡ size
                same-size = omega (arith, f.size_is)

                pub collapse-asks : (rows : _) × (list : _) × UpTo x (way.height + 1) rows list root
                collapse-asks = collapse_asks u.stands u.lost u.root_is joins refl merged same-size

                pub joined : {v1 : Table K V} {root' : ℕ} → ((size' : ℕ) × ((rows list : _) → UpTo x (way.height + 1) rows list root → (freed : _) × Trimmed x v1 (way.height + 1) size' rows list root root' freed)) → Shrunk most u.old v1 path u.tree u.place root'
                joined trims = (joined_removed u.stands u.lost u.root_is joins refl merged same-size trims.1 refl refl).shrunk
