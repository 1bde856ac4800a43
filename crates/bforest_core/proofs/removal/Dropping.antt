-- The leaf behind a path's, and the tree without it: the answers of `next_leaf` and `remove_next_leaf`.
use Rattle.bforest_core.proofs.Words.{◌≡◌, ℕ, suc, ◌-◌, ◌≤◌, ◌<◌, Some, None, List, [], ◌∷◌, ◌++◌, map, length, get_or, set, slice_get, refl, sym, ap, ◌∙◌}
use Rattle.bforest_core.proofs.Words.{length-append, map-append, arith, Row, flat_map, Content, Table, node, flat, heads, sizes, numbers}
use Rattle.bforest_core.proofs.Words.{Above, FitRow, Solid, RowIn, Distinct, IsAt, IsUsed, IsLeafCapacity, Leaf, NextIs, OneAbove, TwoAbove, OnLevel}
use Rattle.bforest_core.proofs.Words.{StandsIn, UpTo, Trimmed, Rebuilt, Reduced, count, entry_items, entry_keys, half_of, leaf_content, nodes_up, numbers_of}
use Rattle.bforest_core.proofs.Words.{loss_above, root_of, sizes_of, with_freed, with_node, without_next, get_or_default, Stands, Keeps, remove, subst, true, ◌≢◌}
use Rattle.bforest_core.proofs.removal.{Asked.{First, no_nodes, some_first}, Balance.{IsHalf, kind_half}, Lifted.{NextNode, headed, next_of}, Merge.{Restored, cede_asks, ceded_restored}}
use Rattle.bforest_core.proofs.removal.{Rebalance.{Ceded, apart as two_apart, settle_cede}, Removing.{pending, stands, trimmed_reduced, up_here}}
use Rattle.bforest_core.proofs.{rows.LevelRows.{FitRow-split, Solid-full, least-pos}, rows.Zipper.apart_here, table.Stored.{slice_get_at, some_same}}
use Rattle.bforest_core.proofs.{table.Tables.{count-append, is_used, row-split}, table.Trading.{Puts, apart_from, puts}}

-- a list with an element, cut in front of its last
pub to_last : {A : Type 0} (x : A) (xs : List A) → (front : List A) × (last : A) × (x ∷ xs ≡ front ++ last ∷ [])
to_last x [] = ([], x, refl)
to_last x (y ∷ ys) = let r = to_last y ys in (x ∷ r.0, r.1, cc (r.2))

module _ {K V : Type 0} {most : ℕ} {t : Table K V} {path indices size tree place : _} (s : StandsIn most t path indices size tree place) where
  abbrev n : ℕ
  n = get_or path 0 0

  abbrev leaf : IsAt tree.leaves n (get_or indices 0 0) place
  leaf = s.stands.leaf

  abbrev rest : Row K V
  rest = leaf.after

  parts : Solid (half_of most) most leaf.before × FitRow (half_of most) most (node n leaf.entries ∷ rest)
  parts = FitRow-split (half_of most) most leaf.before (node n leaf.entries) rest (rw leaf.row_is at s.fit.leaves_fit)

  -- half of a leaf is some entries
  half : 1 ≤ half_of most
  half = let p = parts.1.1 in let within = leaf.within in let one : 1 ≤ most = omega (arith, p, within) in omega (arith, one)

  pub some : First leaf.entries
  some = some_first leaf.entries (omega (arith, leaf.within))

  inside : RowIn leaf_content t.nodes (leaf.before ++ node n leaf.entries ∷ rest)
  inside = rw leaf.row_is at s.inside.leaves_in

  apart : Distinct ((numbers (leaf.before ++ node n leaf.entries ∷ rest) ++ flat_map numbers tree.above) ++ t.chain)
  apart = rw leaf.row_is at s.apart

  pub above : Above t path indices 1 size tree.above (heads (leaf.before ++ node n leaf.entries ∷ rest)) (length (heads leaf.before))
  above = let full = Solid-full (half_of most) most half leaf.before parts.0 in let st = s.stands.above in
      record { over = record { stacked = rw leaf.row_is at s.fit.stacked; inside = s.inside.rows_in; stands = rw full st; height = omega (arith, s.stands.size_is) }; apart = λ m. omega (arith, apart m, count-append) }

  abbrev pub beside_asks : OneAbove t path indices 1 size
  beside_asks = record { rows = tree.above; before = heads leaf.before; x = (some.0.0, n); after = heads rest; above = headed leaf.before n rest some above }

  fits : FitRow (half_of most) most rest
  fits = parts.1.2

  -- no leaf is behind the last
  pub none_next : NextIs None (heads rest) → rest ≡ []
  none_next is = no_nodes (half_of most) most half rest fits is

  module _ {next : K × ℕ} (is : NextIs (Some next) (heads rest)) where
    pub next_node : NextNode rest next.0 next.1
    next_node = next_of (half_of most) most half rest _ _ _ fits is.1

    slot_next : slice_get t.nodes next.1 ≡ Some (leaf_content (next_node.f ∷ next_node.fs))
    slot_next = (row-split leaf_content t.nodes leaf.before (node n leaf.entries ∷ node next.1 (next_node.f ∷ next_node.fs) ∷ next_node.rest) (subst (λ z. RowIn leaf_content t.nodes (leaf.before ++ node n leaf.entries ∷ z)) next_node.after_is inside)).1.1.0

    pub key_asks : (keys : List K) × (vals : List V) × (slice_get t.nodes next.1 ≡ Some (Leaf keys vals)) × (0 < length keys)
    key_asks = (entry_keys (next_node.f ∷ next_node.fs), entry_items (next_node.f ∷ next_node.fs), slot_next, omega arith)

    -- the key that was read is that of the leaf's last entry
    pub next_is : (key : K) → ((keys : List K) (vals : List V) → slice_get t.nodes next.1 ≡ Some (Leaf keys vals) → slice_get keys (length keys - 1) ≡ Some key) →
        (front : List (K × V)) × (last : K × V) × (others : Row K V) × (rest ≡ node next.1 (front ++ last ∷ []) ∷ others) × (last.0 ≡ key)
    next_is key reads = let d = next_node in let e = to_last d.f d.fs in
        let read = reads (entry_keys (d.f ∷ d.fs)) (entry_items (d.f ∷ d.fs)) slot_next in
        let keys : entry_keys (d.f ∷ d.fs) ≡ entry_keys e.0 ++ e.1.0 ∷ [] = ap entry_keys e.2 ∙ map-append (λ w. w.0) e.0 (e.1 ∷ []) in
        let found = slice_get_at (entry_keys e.0) e.1.0 [] (length (entry_keys (d.f ∷ d.fs)) - 1) (omega (arith, ap length keys, length-append (entry_keys e.0) (e.1.0 ∷ []))) in
        (e.0, e.1, d.rest, d.after_is ∙ ap (λ z. node next.1 z ∷ d.rest) e.2, sym (some_same (sym read ∙ ap (λ z. slice_get z (length (entry_keys (d.f ∷ d.fs)) - 1)) keys ∙ found)))

  -- this leaf is behind the path's
  module _ {q : ℕ} {gone : List (K × V)} {after : Row K V} (after_is : rest ≡ node q gone ∷ after) where
    fits_next : FitRow (half_of most) most (node q gone ∷ after)
    fits_next = subst (FitRow (half_of most) most) after_is fits

    pub first : First gone
    first = some_first gone (omega (arith, fits_next.0, least-pos (half_of most) half after))

    abbrev row : Row K V
    row = leaf.before ++ node n (some.0 ∷ some.1) ∷ node q (first.0 ∷ first.1) ∷ after

    whole : tree.leaves ≡ row
    whole = leaf.row_is ∙ ap (λ z. leaf.before ++ node n leaf.entries ∷ z) (after_is ∙ ap (λ z. node q z ∷ after) first.2)
        ∙ ap (λ z. leaf.before ++ node n z ∷ node q (first.0 ∷ first.1) ∷ after) some.2

    healthy : half_of most ≤ length (some.0 ∷ some.1)
    healthy = let least = subst (λ z. FitRow (half_of most) most (node n leaf.entries ∷ z)) after_is parts.1 in omega (arith, least.0, ap length some.2)

    pub level : OnLevel leaf_content (half_of most) most t path indices 0 size leaf.before n (some.0 ∷ some.1) (node q (first.0 ∷ first.1) ∷ after) tree.above
    level = record {
      inside = subst (RowIn leaf_content t.nodes) whole s.inside.leaves_in;
      solid = parts.0;
      fits = subst (λ z. FitRow (half_of most) most (node q z ∷ after)) first.2 fits_next;
      some = omega arith;
      lost_one = omega (arith, healthy);
      most_is = omega (arith, parts.1.1, ap length some.2);
      above = subst (λ z. Above t path indices 1 size tree.above (heads z) (length (heads leaf.before))) (sym leaf.row_is ∙ whole) above;
      number_is = refl;
      entry_was = omega (arith, leaf.within, ap length some.2);
      apart = subst (λ z. Distinct ((numbers z ++ flat_map numbers tree.above) ++ t.chain)) whole s.apart;
    }

    slots : (slice_get t.nodes n ≡ Some (leaf_content (some.0 ∷ some.1))) × (slice_get t.nodes q ≡ Some (leaf_content (first.0 ∷ first.1)))
    slots = let both = (row-split _ _ _ (node n (some.0 ∷ some.1) ∷ node q (first.0 ∷ first.1) ∷ after) level.inside).1 in (both.0, both.1.0)

    none_here : count n t.chain ≡ 0
    none_here = (apart_here n _ _ _ _ _ level.apart).2

    -- the path's leaf as the code reads it, in a table of leaves of this capacity
    module _ (capacity : IsLeafCapacity most) (i : ℕ) (wide : 0 < length path) where
      abbrev read : ℕ
      read = get_or path 0 i

      num_is : read ≡ n
      num_is = get_or_default path 0 i 0 wide

      hm : IsHalf (half_of most) most
      hm = kind_half true (λ is. capacity)

      differ : (n ≢ q) × (count q t.chain ≡ 0)
      differ = let all = two_apart hm level in (all.0, all.3)

      pub copy_asks : IsUsed t q × IsUsed t read
      copy_asks = (is_used t q _ slots.1 differ.1, rw num_is (is_used t n _ slots.0 none_here))

      module _ {u : Table K V} (copied : (content : Content K V) → slice_get t.nodes read ≡ Some content → u ≡ with_node t q content) where
        w : Puts t u q (leaf_content (some.0 ∷ some.1))
        w = puts t u q _ _ slots.1 (copied _ (ap (λ z. slice_get t.nodes z) num_is ∙ slots.0))

        pub free_asks : IsUsed u read
        free_asks = rw num_is (is_used u n _ (w.others n (apart_from n q differ.0) ∙ slots.0) (cc (w.chain_is, none_here)))

        module _ {v : Table K V} (freed : v ≡ with_freed u read) where
          pub ceded : Ceded leaf_content (half_of most) most t v path indices (set path 0 q) 0 size leaf.before n some.0 some.1 q first.0 first.1 after tree.above (some.0 ∷ some.1)
          ceded = settle_cede hm level v healthy w (freed ∙ ap (with_freed u) num_is) wide

          abbrev pub merge_asks : TwoAbove v (set path 0 q) indices 1 size
          merge_asks = cede_asks level ceded refl refl

          module _ {new : Table K V} {path' indices' : List ℕ} (merged : (w : TwoAbove v (set path 0 q) indices 1 size) → (levels : ℕ)
              × Rebuilt v new (set path 0 q) indices path' indices' 1 size w.rows (w.before ++ (w.x.0, w.y.1) ∷ w.after) (length w.before) (loss_above (Some (length w.before)) (map sizes w.rows)) (nodes_up (set path 0 q) 1 levels)) {root : ℕ} (root_is : root_of tree ≡ root) where
            abbrev pub list : List (K × V)
            list = flat (leaf.before ++ node n leaf.entries ∷ after)

            abbrev levels : ℕ
            levels = (merged merge_asks).0

            restored : (r : Restored leaf_content (half_of most) most t new path' indices' 0 size (remove (sizes tree.leaves) (suc (length leaf.before)) ∷ loss_above (Some (length leaf.before)) (map sizes tree.above)) (numbers_of tree) list place (nodes_up path 0 (suc levels)))
                × Keeps path indices path' indices' 0 size × (get_or indices' 0 0 < length r.entries)
            restored = ceded_restored level ceded refl refl levels (merged merge_asks).1 half leaf.place_is whole (ap (λ z. flat (leaf.before ++ node n z ∷ after)) some.2) (omega (arith, leaf.within, ap length some.2))

            pub collapse_asks : {size1 : ℕ} → size1 ≡ size → (rows : _) × (heads : _) × UpTo new size1 rows heads root
            collapse_asks is = (restored.0.rows, heads restored.0.row, up_here s half root_is restored.0 restored.1 is)

            -- the tree without the leaf, where the path stands as before
            pub dropped : {new2 : Table K V} {path2 indices2 : List ℕ} {size1 size2 root' : ℕ} → size1 ≡ size
                → ((rows list : _) → UpTo new size1 rows list root → (gone : _) × Trimmed new new2 size1 size2 rows list root root' gone) → path2 ≡ path' → indices2 ≡ indices' →
                (r : Reduced most t new2 path tree list (without_next (length leaf.before) (sizes_of tree)) root') × Stands path2 indices2 size2 r.tree' place
            dropped {size2 = size2} is trims path_is indices_is = let k = restored in
                let trim = trims k.0.rows (heads k.0.row) (up_here s half root_is k.0 k.1 is) in
                let r = trimmed_reduced (suc levels) s (pending s half root_is k.0 k.1) root_is trim.1 is in
                (r.0, rw (path_is, indices_is) (subst (λ z. Stands path' indices' size2 z place) (sym r.1) (stands s half root_is k.0 k.1 k.2 trim.1)))
