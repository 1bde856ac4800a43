-- Removing the only entry of a leaf together with the leaf, which is the rightmost.
use Rattle.bforest_core.proofs.Words.{sizes_of, ◌≡◌, ℕ, suc, ◌+◌, ◌≤◌, ◌<◌, List, [], ◌∷◌, ◌++◌, map, length, get_or, slice_get, refl, sym, ap, ◌∙◌}
use Rattle.bforest_core.proofs.Words.{length-append, arith, flat_map, Table, node, flat, heads, numbers, FitRow, Tree, half_of, count, Distinct, numbers_of}
use Rattle.bforest_core.proofs.Words.{StandsIn, nil_from_length, get_or_default, ◌≢◌, IsSingle, IsUsed, Heads, Rows, append-nil, with_freed, sizes, LastAbove}
use Rattle.bforest_core.proofs.Words.{nodes_up, IsLeafCapacity, Topped, root_of, IsPathAt, UpTo, Trimmed, Removed, Emptied}
use Rattle.bforest_core.proofs.table.Tables.{count-append, counts, row-split, row-same}
use Rattle.bforest_core.proofs.removal.RemovingEmptied.{Drops, LastOf, above_freed, fit_solid, last_of}
use Rattle.bforest_core.proofs.{removal.LeafAt.{LeafAt, leaf_at, leaf_count, remove_flat}, removal.Removing.{Untrimmed, up_to, trimmed_removed}}
use Rattle.bforest_core.proofs.{removal.Collapse.heads-flat, removal.Merge.loss_level, rows.LevelRows.{flat-append, sizes-append, Solid-full, heads-append}}
use Rattle.bforest_core.proofs.{rows.Tops.root-stands, table.Trading.{not_there, trades-wider, frees-then, freed_other, frees-one}}

-- no node follows a node of one entry
none_after : {K X : Type 0} (half most m : ℕ) (es : List (K × X)) (after : _) → 2 ≤ half → length es ≡ 1 → FitRow half most (node m es ∷ after) → after ≡ []
none_after half most m es [] two one f = refl
none_after half most m es (next ∷ after) two one f = absurd (omega arith)

two_leaves : {K : Type 0} (list : Heads K) (rows : Rows K) → Topped list rows → length rows ≢ 0 → 2 ≤ length list
two_leaves list [] topped ne = absurd (ne refl)
two_leaves list (row ∷ rows) topped ne = topped.0

module _ {K V : Type 0} {most : ℕ} {t : Table K V} {path indices size : _} (capacity : IsLeafCapacity most) {p : Table K V}
    (alone : IsSingle t p (get_or path 0 0))
    {tree : Tree K V} {place : ℕ} (s : StandsIn most t path indices size tree place) where
  pub f : LeafAt most t path indices size tree place
  f = leaf_at s

  open f use {before, x}

  abbrev leaf : ℕ
  leaf = get_or path 0 0

  one_entry : length (f.l ++ x ∷ f.r) ≡ 1
  one_entry = leaf_count (f.l ++ x ∷ f.r) (alone.entry ∷ []) (slice_get t.nodes leaf) f.slot_is alone.slot_was

  none_left : f.l ≡ []
  none_left = nil_from_length f.l (omega (arith, one_entry, length-append f.l (x ∷ f.r)))

  -- a leaf of one entry is the last
  pub row_is : before ++ node leaf (f.l ++ x ∷ f.r) ∷ f.after ≡ before ++ node leaf (x ∷ []) ∷ []
  row_is = let none = none_after _ _ leaf _ _ (omega arith) one_entry f.fits in
      simp (none_left, nil_from_length f.r (omega (arith, one_entry, length-append f.l (x ∷ f.r))), none)

  leaves_are : tree.leaves ≡ before ++ node leaf (x ∷ []) ∷ []
  leaves_are = f.leaves_are ∙ row_is

  heads_are : length (heads tree.leaves) ≡ suc (length (heads before))
  heads_are = ap (λ z. length (heads z)) leaves_are ∙ simp (heads-append, length-append) (omega arith)

  place_is : place ≡ length (flat before)
  place_is = omega (arith, f.place_is, ap length none_left)

  pub apart : Distinct ((numbers (before ++ node leaf (x ∷ []) ∷ []) ++ flat_map numbers tree.above) ++ t.chain)
  apart = rw (← row_is) f.apart

  -- the only leaf was removed, so the tree is empty
  pub emptied_tree : (v : Table K V) → v ≡ with_freed t leaf → size ≡ 1 → Emptied most t v tree place
  emptied_tree v freed_is one_child =
      let above_is = nil_from_length tree.above (omega arith) in let seen = rw above_is at s.fit.stacked in let seen_is = seen in
      let none = nil_from_length _ (omega (arith, Solid-full (half_of most) most f.half before f.solid, heads_are)) in
      let only = leaves_are ∙ ap (λ z. z ++ node leaf (x ∷ []) ∷ []) none in
      let levels : sizes_of tree ≡ (1 ∷ []) ∷ [] = simp (only, above_is) in
      let nums : (m : ℕ) → count m (leaf ∷ []) ≡ count m (numbers_of tree) = λ m. sym (simp (only, above_is)) in
      record {
        single = simp only;
        none_left = cc (place_is);
        levels_are = levels;
        freed = leaf ∷ [];
        one = refl;
        frees = trades-wider _ _ (λ m. omega (arith, nums m)) (frees-one _ _ _ f.slot_is freed_is);
      }

  -- the leaf as the code reads it
  module _ (r : ℕ) (wide : 0 < length path) where
    leaf_num : get_or path 0 r ≡ leaf
    leaf_num = get_or_default path 0 r 0 wide

    pub free_asks : IsUsed p leaf → IsUsed p (get_or path 0 r)
    free_asks used = rw leaf_num used

    module _ (v : Table K V) (freed : v ≡ with_freed p (get_or path 0 r)) where
      pub freed_is : v ≡ with_freed t leaf
      freed_is = cc (leaf_num)

      pub leaf_emptied : size ≡ 1 → Emptied most t v tree place
      leaf_emptied = emptied_tree v freed_is

      module _ (more : size ≢ 1) where
        -- the last of the leaves before it
        pub last_leaf : LastOf (heads before)
        last_leaf = let two = two_leaves _ _ s.fit.topped (λ e. more (omega arith)) in last_of _ (omega (arith, heads_are))

        abbrev pub leaf_asks : LastAbove v path indices 1 size
        leaf_asks = record { rows = tree.above; before = last_leaf.init; y = last_leaf.last; x = (x.0, leaf); above = above_freed v leaf before x last_leaf apart freed_is (rw (← row_is) f.above) }

        -- the rows above after the leaf's entry was removed
        module _ (u : Table K V) (drops : (w : LastAbove v path indices 1 size) → Drops v u path 1 size w.rows w.before w.y) where
          dropped : Drops v u path 1 size tree.above last_leaf.init last_leaf.last
          dropped = drops leaf_asks

          untrimmed : Untrimmed most t u tree place before dropped.1.rows' (nodes_up path 0 (suc dropped.0))
          untrimmed =
              let said = dropped.1 in let hs = last_leaf.is in let full = Solid-full (half_of most) most f.half before f.solid in
              let len : suc (length last_leaf.init) ≡ length before = omega (arith, ap length hs, length-append last_leaf.init (last_leaf.last ∷ [])) in
              let first : place ≡ length (flat before) + 0 = omega (arith, place_is) in
              let in_v = row-same _ _ _ _ (λ m some. freed_other _ _ _ freed_is m (not_there m leaf (numbers before) some (omega (arith, f.none))))
              (row-split _ _ _ _ f.inside).0 in
              let c = λ (m : ℕ). ap (λ z. count m (numbers z)) leaves_are in let c1 = λ (m : ℕ). counts m before leaf (x ∷ []) [] tree.above t.chain in
              record {
                flat_is = sym (cc (leaves_are, place_is, remove_flat before leaf [] x [] [], flat-append _ _, append-nil _));
                sizes_are = cc (append-nil (sizes before), loss_level most before 0 0 place [] (map sizes tree.above) (sizes_of tree) (cc (leaves_are, sizes-append before (node leaf (x ∷ []) ∷ []))) (omega arith) (omega arith));
                half = f.half;
                leaves_fit = fit_solid (half_of most) most f.half before f.solid;
                leaves_in = row-same _ _ _ _ (λ m some. said.frees.others m (omega (arith, apart m, c1 m))) in_v;
                some = omega (arith, heads-flat before);
                stacked = rw hs said.stacked;
                rows_in = said.inside;
                height = said.height;
                root_is = cc (root-stands s.fit s.stands);
                frees = frees-then _ _ (λ m. omega (arith, c m, c1 m, count-append m (numbers tree.leaves) (flat_map numbers tree.above), count-append m (numbers before) (flat_map numbers said.rows'))) s.apart (frees-one _ _ _ f.slot_is freed_is) said.frees;
              }

          module _ (root : ℕ) (root_is : root_of tree ≡ root) where
            pub collapse_asks : (rows : _) × (list : _) × UpTo u size rows list root
            collapse_asks = (dropped.1.rows', heads before, up_to _ _ s untrimmed refl root_is)

            -- the tree after roots with a single child were discarded: the path is at the end
            pub drop_removed : (u2 : Table K V) (path' indices' size2 root' : _) → ((rows list : _) → UpTo u size rows list root → (gone : _)
                × Trimmed u u2 size size2 rows list root root' gone) → Removed most t u2 path (λ z. IsPathAt path' indices' 0 z place) tree place root'
            drop_removed u2 path' indices' size2 root' trims =
                trimmed_removed (suc dropped.0) (λ z. IsPathAt path' indices' 0 z place) s untrimmed root_is
                (trims dropped.1.rows' (heads before) (up_to _ _ s untrimmed refl root_is)).1 refl place_is
