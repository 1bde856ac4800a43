-- A tree after a removal, before and after roots with a single child are discarded, and a removal from a leaf that has other entries.
use Rattle.bforest_core.proofs.Words.{◌≡◌, ℕ, suc, ◌+◌, ◌≤◌, List, [], ◌∷◌, ◌++◌, map, length, refl, sym, ap, ◌∙◌, length-append, arith, Row, Rows, flat_map}
use Rattle.bforest_core.proofs.Words.{flat_map-append, Table, node, flat, heads, sizes, numbers, Stacked, RowsIn, count, root_above, UpTo, Trimmed, zero, Reduced, subst, trimmed}
use Rattle.bforest_core.proofs.Words.{nodes_up, FitRow, RowIn, Frees, remove, Tree, half_of, leaf_content, root_of, numbers_of, Stands, IsPathAt, StandsIn}
use Rattle.bforest_core.proofs.Words.{Keeps, Removed, sizes_of, ◌<◌, Some, get_or, loss_above, TwoAbove, Rebuilt, Healed, Joined, ◌⊎◌, inr, LeafLoss, Solid}
use Rattle.bforest_core.proofs.removal.Collapse.{length-sizes, rows-parts, trimmed-is, trim_none, stands-below, topped-sizes}
use Rattle.bforest_core.proofs.removal.Merge.{lost, Restored, Restores, Stays, healed_restored, joined_restored, kept_restored, low, merge_asks}
use Rattle.bforest_core.proofs.{removal.Rebalance.judged, table.Tables.{count-append, rows-same, row-same}, rows.Tops.{root-stands, top_tree}}
use Rattle.bforest_core.proofs.{rows.LevelRows.{least-pos, flat-append, FitRow-split, Solid-full}, walks.RowNodes.fit_full, table.Trading.frees-then}

-- a row has one number per node
pub length-numbers : {K X : Type 0} (row : Row K X) → length (numbers row) ≡ length row
length-numbers [] = refl
length-numbers (node n es ∷ row) = ap suc (length-numbers row)

module _ {K V : Type 0} where
  -- two trees in which one path stands have the same root
  pub stands_root : {most : ℕ} {t t1 : Table K V} {path indices size tree tree1 place place1 : _} (root : ℕ) → StandsIn most t path indices size tree place →
      StandsIn most t1 path indices size tree1 place1 → root_of tree1 ≡ root → root_of tree ≡ root
  stands_root root s s1 is = root-stands s.fit s.stands ∙ sym (root-stands s1.fit s1.stands) ∙ is

  -- a path that stands in a tree is at an entry
  pub path-at : {path indices : _} (size : ℕ) {tree : Tree K V} {place : ℕ} → Stands path indices size tree place → IsPathAt path indices size tree place
  path-at zero s = absurd (omega arith)
  path-at (suc size) s = s

  -- a removal, with another fact of the tree that it leaves
  pub removed_at : {most : ℕ} {old new : Table K V} {path : _} {Now : Tree K V → Type 0} (Then : Tree K V → Type 0) {tree : Tree K V} {place root' : ℕ} →
      ((z : Tree K V) → flat z.leaves ≡ remove (flat tree.leaves) place → Now z → Then z) →
      Removed most old new path Now tree place root' → Removed most old new path Then tree place root'
  removed_at Then shows r = record { shrunk = r.shrunk; at = shows r.tree' r.flat_is r.at }

  -- the tree with this list: its levels have these sizes, but the root may have a single child
  pub record Pending (most : ℕ) (old new : Table K V) (tree : Tree K V) (list : List (K × V)) (sizes_after : List (List ℕ)) (leaves : Row K V) (rows : Rows K) (freed : List ℕ) : Type 0 where
    pub flat_is : flat leaves ≡ list
    pub sizes_are : sizes leaves ∷ map sizes rows ≡ sizes_after
    pub half : 1 ≤ half_of most
    pub leaves_fit : FitRow (half_of most) most leaves
    pub leaves_in : RowIn leaf_content new.nodes leaves
    pub some : 1 ≤ length (flat leaves)
    pub stacked : Stacked (heads leaves) rows
    pub rows_in : RowsIn new.nodes rows
    pub height : length rows ≡ length tree.above
    pub root_is : root_above (heads leaves) rows ≡ root_of tree
    pub frees : Frees old new (numbers_of tree) (numbers leaves ++ flat_map numbers rows) freed

  -- the tree without the entry: its levels have the sizes of a removal, but the root may have a single child
  abbrev pub Untrimmed : ℕ → Table K V → Table K V → Tree K V → ℕ → Row K V → Rows K → List ℕ → Type 0
  Untrimmed most old new tree place leaves rows freed =
      Pending most old new tree (remove (flat tree.leaves) place) (lost most place (sizes_of tree)) leaves rows freed

  -- the rows of the tree meet what discarding roots requires
  pub up_to : {most old new path indices size : _} (size1 : ℕ) {tree place : _} (root : ℕ) {list sizes_after leaves rows freed : _} →
      StandsIn most old path indices size tree place →
      Pending most old new tree list sizes_after leaves rows freed → size1 ≡ size → root_of tree ≡ root → UpTo new size1 rows (heads leaves) root
  up_to size1 root s u size_is root_is = record {
    stacked = u.stacked;
    inside = u.rows_in;
    height = omega arith;
    root_is = u.root_is ∙ root_is;
    apart = λ m. omega (arith, s.apart m, u.frees.numbers_are m, ap (λ z. count m z) u.frees.chain_is, count-append);
  }

  -- the tree after roots were discarded
  pub trimmed_reduced : {most old mid new path indices size tree place root list sizes_after leaves rows : _} (up : ℕ) {size1 size2 root' gone : _} →
      StandsIn most old path indices size tree place → Pending most old mid tree list sizes_after leaves rows (nodes_up path 0 up) → root_of tree ≡ root →
      (t : Trimmed mid new size1 size2 rows (heads leaves) root root' gone) → size1 ≡ size →
      (r : Reduced most old new path tree list (trimmed sizes_after) root') × (r.tree' ≡ record { leaves = leaves; above = t.rows' })
  trimmed_reduced {most} {old} {mid} {new} {path} {tree = tree} {leaves = leaves} {rows} up {gone = gone} s u root_is t size_is = let freed = nodes_up path 0 up in
      let parts = λ (m : ℕ). ap (λ z. count m z) (ap (flat_map numbers) t.rows_are ∙ flat_map-append numbers t.rows' t.discarded) in
      let rows_in = rows-parts mid.nodes t.rows' t.discarded (rw (← t.rows_are) u.rows_in) in
      let len = length-sizes leaves ∙ sym (fit_full (half_of most) most u.half leaves u.leaves_fit) in
      let count_is = simp length-append at (ap length t.rows_are) in (
        record {
          tree' = record { leaves = leaves; above = t.rows' };
          freed = gone ++ freed;
          flat_is = u.flat_is;
          sizes_are = sym (cc (trimmed-is (sizes leaves) (heads leaves) t.rows' t.discarded len (rw (← t.rows_are) u.stacked) t.stacked t.topped));
          fit = record { leaves_fit = u.leaves_fit; stacked = t.stacked; topped = t.topped };
          inside = record {
            leaves_in = row-same _ _ _ _ (λ m some. t.frees.others m (omega (arith, u.frees.numbers_are m, parts m, s.apart m, count-append))) u.leaves_in;
            rows_in = rows-same _ _ _ (λ m some. t.frees.others m (omega (arith, u.frees.numbers_are m, parts m, s.apart m, count-append))) rows_in.0;
          };
          some = u.some;
          root_is = t.root_is;
          same_root = λ same. t.same_root (omega arith) ∙ sym root_is;
          old_root = λ ne. omega (arith, count-append, ap (λ z. count z gone) root_is);
          low = omega arith;
          order = record { roots = gone; up = up; freed_is = refl; roots_are = omega arith };
          frees = frees-then _ _ (λ m. omega (arith, parts m, count-append m (numbers leaves) (flat_map numbers t.rows'), count-append m (flat_map numbers t.rows') (flat_map numbers t.discarded), count-append)) s.apart u.frees t.frees;
        },
        refl,
      )

  -- the tree without an entry, after roots were discarded
  pub trimmed_removed : {most old mid new path indices size tree place root leaves rows : _} (up : ℕ) {size1 size2 root' gone : _} (Now : Tree K V → Type 0) →
      StandsIn most old path indices size tree place → Untrimmed most old mid tree place leaves rows (nodes_up path 0 up) → root_of tree ≡ root →
      (t : Trimmed mid new size1 size2 rows (heads leaves) root root' gone) → size1 ≡ size →
      Now (record { leaves = leaves; above = t.rows' }) → Removed most old new path Now tree place root'
  trimmed_removed up Now s u root_is t size_is at = let r = trimmed_reduced up s u root_is t size_is in record { shrunk = r.0; at = subst Now (sym r.1) at }

-- the leaves of the tree under a root and the rows above them, which a path leads through, once the leaves lost entries
module _ {K V : Type 0} {most : ℕ} {old : Table K V} {path indices size tree place : _} (s : StandsIn most old path indices size tree place) (half : 1 ≤ half_of most) {root : ℕ} (root_is : root_of tree ≡ root)
    {new : Table K V} {path' indices' sizes_after list freed : _} (r : Restored leaf_content (half_of most) most old new path' indices' 0 size sizes_after (numbers_of tree) list place freed) (k : Keeps path indices path' indices' 0 size) where
  abbrev m : ℕ
  m = get_or path' 0 0

  fit : Solid (half_of most) most r.front × FitRow (half_of most) most (node m r.entries ∷ r.after)
  fit = FitRow-split (half_of most) most r.front (node m r.entries) r.after (rw (← r.row_is) r.fit)

  some : 1 ≤ length r.entries
  some = omega (arith, fit.1.0, least-pos (half_of most) half r.after)

  full : length (heads r.front) ≡ length r.front
  full = Solid-full (half_of most) most half r.front fit.0

  -- the tree once the leaf and the rows above it are rebalanced
  pub pending : Pending most old new tree list sizes_after r.row r.rows freed
  pending = record {
    flat_is = r.list_is;
    sizes_are = r.sizes_are;
    half = half;
    leaves_fit = r.fit;
    leaves_in = r.inside;
    some = rw r.row_is (simp (flat-append, length-append) (omega (arith, some)));
    stacked = r.above.stacked;
    rows_in = r.above.inside;
    height = omega arith;
    root_is = top_tree _ _ _ _ _ _ _ _ _ r.row_is some r.above.stacked r.above.stands (omega arith) ∙ k.same_top ∙ sym (root-stands s.fit s.stands);
    frees = r.frees;
  }

  pub up_here : {size1 : ℕ} → size1 ≡ size → UpTo new size1 r.rows (heads r.row) root
  up_here is = up_to _ root s pending is root_is

  -- the path stands at the place, in the rows that stay
  pub stands : {new2 : Table K V} {size1 size2 root' gone : _} → get_or indices' 0 0 < length r.entries →
      (t : Trimmed new new2 size1 size2 r.rows (heads r.row) root root' gone) →
      Stands path' indices' size2 (record { leaves = r.row; above = t.rows' }) place
  stands within t = let st = rw t.rows_are at r.above.stands in
      let few : length (heads r.front) < length (heads r.row) =
      omega (arith, full, fit_full _ _ half _ r.fit, simp length-append at (ap length r.row_is)) in
      record {
        leaf = record { before = r.front; entries = r.entries; after = r.after; row_is = r.row_is; within = within; place_is = r.place_is };
        above = rw full at (stands-below _ _ 1 _ _ _ _ few t.stacked st);
        size_is = sym t.size_is;
      }

module _ {K V : Type 0} {most : ℕ} {old mid : Table K V} {path indices size tree place : _} (s : StandsIn most old path indices size tree place) (l : LeafLoss most old mid path indices size tree place) {root : ℕ} (root_is : root_of tree ≡ root) where
  abbrev n : ℕ
  n = get_or path 0 0

  half : 1 ≤ half_of most
  half = let one : 1 ≤ most = omega arith in omega arith

  -- the leaves and the rows above them were as many
  sizes_were : (sizes tree.leaves ≡ sizes l.before ++ suc (length l.entries) ∷ sizes l.after) × (map sizes tree.above ≡ map sizes l.rest)
  sizes_were = let w = l.sizes_were in (cc, cc)

  as_many : length (l.before ++ node n l.entries ∷ l.after) ≡ length tree.leaves
  as_many = omega (arith, simp (length-append, length-sizes) at (ap length sizes_were.0), length-append l.before (node n l.entries ∷ l.after))

  module _ {new : Table K V} {path' indices' freed : _} (r : Restores l.loss new path' indices' freed) where
    -- the tree once the leaf and the rows above it are rebalanced
    untrimmed : Untrimmed most old new tree place r.0.row r.0.rows freed
    untrimmed = pending s half root_is r.0 r.1

    -- no root is discarded where each level keeps its nodes
    whole : {size1 : ℕ} → size1 ≡ size → length r.0.row ≡ length tree.leaves → map sizes r.0.rows ≡ map sizes tree.above →
        Trimmed new new size1 size1 r.0.rows (heads r.0.row) root root []
    whole is len same =
        let many : length (heads r.0.row) ≡ length (heads tree.leaves) = omega (arith, fit_full _ _ half _ r.0.fit, fit_full _ _ half _ s.fit.leaves_fit) in
        trim_none (up_here s half root_is r.0 r.1 is) (topped-sizes _ _ _ _ s.fit.stacked r.0.above.stacked many same s.fit.topped)

    -- the removal is complete once roots with a single child are discarded: the path stands at the place, where an entry follows
    completed : (up : ℕ) → freed ≡ nodes_up path 0 up → (place < length (remove (flat tree.leaves) place) → get_or indices' 0 0 < length r.0.entries)
        → {new2 : Table K V} {size1 size2 root' gone : _} → (t : Trimmed new new2 size1 size2 r.0.rows (heads r.0.row) root root' gone) → size1 ≡ size
        → Removed most old new2 path (λ z. place < length (flat z.leaves) → IsPathAt path' indices' size2 z place) tree place root'
    completed up freed_is within {size2 = size2} t size_is =
        trimmed_removed up (λ z. place < length (flat z.leaves) → IsPathAt path' indices' size2 z place) s (rw (← freed_is) untrimmed) root_is t size_is
        (λ low. path-at size2 (stands s half root_is r.0 r.1 (within (rw (← r.0.list_is) low)) t))

  -- the removal is complete where the leaf is still half full or the last
  pub kept_removed : (Now : Tree K V → Type 0) → (half_of most ≤ length l.entries) ⊎ (l.after ≡ []) → ((z : Tree K V) → flat z.leaves ≡ remove (flat tree.leaves) place → Now z) → Removed most old mid path Now tree place root
  kept_removed Now why now = let r = kept_restored l.loss (judged _ _ _ _ (omega arith) l.some why) in
      trimmed_removed 0 Now s (untrimmed r) root_is (whole r refl as_many (sym sizes_were.1)) refl (now _ r.0.list_is)

  -- how many entries are left
  left_is : (z : Tree K V) → flat z.leaves ≡ remove (flat tree.leaves) place →
      length (flat z.leaves) ≡ length (flat l.before) + length (l.entries ++ flat l.after)
  left_is z is = rw (is, ← l.list_is) (simp (flat-append, length-append))

  -- an entry follows in what is left
  pub entry_follows : get_or indices 0 0 < length (l.entries ++ flat l.after) → (z : Tree K V) → flat z.leaves ≡ remove (flat tree.leaves) place → place < length (flat z.leaves)
  entry_follows low z is = omega (arith, left_is z is)

  -- the removal is complete where the path was at the last entry
  pub past_removed : l.after ≡ [] → get_or indices 0 0 ≡ length l.entries → Removed most old mid path (λ z. IsPathAt path indices 0 z place) tree place root
  past_removed none last = kept_removed _ (inr none) (λ z is. omega (arith, left_is z is, l.place_is, length-append l.entries (flat l.after), ap (λ z. length (flat z)) none))

  -- the removal is complete where the leaf was rebalanced and stays
  pub healed_removed : {new : Table K V} {path' indices' size1 : _} → Healed leaf_content (half_of most) most mid new path indices path' indices' 0 size l.before n l.entries l.after l.rest → size1 ≡ size →
      Removed most old new path (λ z. place < length (flat z.leaves) → IsPathAt path' indices' size1 z place) tree place root
  healed_removed h size_is = let r = healed_restored l.loss h in let row = h.before' ++ node h.number' h.entries' ∷ h.after' in
      let len : length row ≡ length tree.leaves = omega (arith, as_many, simp length-numbers at (ap length h.row_numbers)) in
      completed r.0 0 refl r.1 (whole r.0 size_is len (cc (sizes_were.1))) size_is

  -- the leaf was merged into its neighbour
  module _ {mid2 path1 indices1 : _} (j : Joined leaf_content (half_of most) most mid mid2 path indices path1 indices1 0 size l.before n l.entries l.after l.rest) {size1 : ℕ} (size_is : size1 ≡ size) where
    -- the rows above after the leaf's entry was removed
    module _ {new path' indices' : _} (merged : (w : TwoAbove mid2 path1 indices1 1 size1) → (levels : ℕ)
        × Rebuilt mid2 new path1 indices1 path' indices' 1 size1 w.rows (w.before ++ (w.x.0, w.y.1) ∷ w.after) (length w.before) (loss_above (Some (length w.before)) (map sizes w.rows)) (nodes_up path1 1 levels)) {size2 : ℕ} (size2_is : size2 ≡ size) where
      joined : (levels : ℕ) × Stays l.loss new path' indices' (nodes_up path 0 (suc levels))
      joined = let m = merged (merge_asks l.loss j refl size_is) in (m.0, joined_restored l.loss j refl size_is m.0 m.1 half)

      pub collapse_asks : (rows : _) × (list : _) × UpTo new size2 rows list root
      collapse_asks = (joined.1.0.0.rows, heads joined.1.0.0.row, up_here s half root_is joined.1.0.0 joined.1.0.1 size2_is)

      -- the removal is complete after roots with a single child were discarded
      pub joined_removed : {new2 path2 indices2 size3 root' : _}
          → ((rows list : _) → UpTo new size2 rows list root → (gone : _) × Trimmed new new2 size2 size3 rows list root root' gone) → path2 ≡ path' → indices2 ≡ indices' →
          Removed most old new2 path (λ z. place < length (flat z.leaves) → IsPathAt path2 indices2 size3 z place) tree place root'
      joined_removed trims path_is indices_is = let r = joined.1 in let t = trims r.0.0.rows (heads r.0.0.row) (up_here s half root_is r.0.0 r.0.1 size2_is) in
          rw (path_is, indices_is) (completed r.0 (suc joined.0) refl r.1 t.1 size2_is)
