-- The leaf where a path stands, cut at the path's entry, the leaf without it, and whether the path is past all entries then.
use Rattle.bforest_core.proofs.Words.{◌≡◌, ℕ, suc, ◌+◌, ◌≤◌, ◌<◌, Some, Option, List, [], ◌∷◌, ◌++◌, length, get_or, slice_get, refl, sym, ap, ◌∙◌}
use Rattle.bforest_core.proofs.Words.{append_assoc, length-append, arith, Row, remove, Content, without_entry, Table, node, flat, heads, numbers, Tree}
use Rattle.bforest_core.proofs.Words.{half_of, leaf_content, entry_keys, Above, StandsIn, LeafLoss, None, Bool, true, false, not, is_some, nil_from_length}
use Rattle.bforest_core.proofs.Words.{OneAbove, NextIs, get_or_default, entry_count, Rekeyed, drop, take, length-drop, length-remove, flat_map}
use Rattle.bforest_core.proofs.{table.Tables.{count-append, counts, row-split, row-same}, table.Stored.keys_count}
use Rattle.bforest_core.proofs.{removal.Asked.{remove_at, remove_map, NodeAt, Beside, some_first, no_nodes, First}, removal.Lifted.{headed, top_one}}
use Rattle.bforest_core.proofs.{removal.Collapse.heads-flat, rows.LevelRows.{flat-append, sizes-append, Solid-full, heads-append}}
use Rattle.bforest_core.proofs.{rows.Zipper.{LeafCut, cut_leaf}, table.Trading.{frees-after, Puts, row-put, trades-apart}}

-- removing an entry of a node removes it from the list of the row
pub remove_flat : {K V : Type 0} (before : Row K V) (n l x r after : _) →
    remove (flat (before ++ node n (l ++ x ∷ r) ∷ after)) (length (flat before) + length l) ≡ flat (before ++ node n (l ++ r) ∷ after)
remove_flat before n l x r after = simp (flat-append, append_assoc) (simp (append_assoc, length-append) at (remove_at (flat before ++ l) x (r ++ flat after)))

-- two lists of entries in the same slot are equally long
pub leaf_count : {K V : Type 0} (es fs : List (K × V)) (c : Option (Content K V)) → c ≡ Some (leaf_content es) → c ≡ Some (leaf_content fs) → length es ≡ length fs
leaf_count es fs c e f = let same : entry_keys es ≡ entry_keys fs = cc in cc (keys_count es, keys_count fs)

-- a row has as many heads where a node has other entries
pub as_many_heads : {K X : Type 0} (before : Row K X) (n es fs after : _) → 1 ≤ length es → 1 ≤ length fs → length (heads (before ++ node n fs ∷ after)) ≡ length (heads (before ++ node n es ∷ after))
as_many_heads before n [] fs after some too = absurd (omega arith)
as_many_heads before n (e ∷ es) [] after some too = absurd (omega arith)
as_many_heads before n (e ∷ es) (f ∷ fs) after some too = simp (heads-append, length-append)

module _ {K V : Type 0} where
  -- removing an entry from a leaf
  pub without_entry_is : (l : List (K × V)) (x r e : _) → length l ≡ e → without_entry (leaf_content (l ++ x ∷ r)) e ≡ leaf_content (l ++ r)
  without_entry_is l x r e is = cc (remove_map (λ w. w.0) l x r, remove_map (λ w. w.1) l x r)

  -- the tree, cut at the entry in its leaf
  pub record LeafAt (most : ℕ) (t : Table K V) (path indices : List ℕ) (size : ℕ) (tree : Tree K V) (place : ℕ) : Type 0 where
    pub l : List (K × V)
    pub x : K × V
    pub r : List (K × V)
    pub cut : LeafCut most t path indices tree place l (x ∷ r)
    pub open cut use *
    pub half : 1 ≤ half_of most
    pub above : Above t path indices 1 size tree.above (heads (before ++ node (get_or path 0 0) (l ++ x ∷ r) ∷ after)) (length (heads before))

  -- a tree in which a path stands can be cut at the path's entry
  pub leaf_at : {most t path indices size tree place : _} → StandsIn most t path indices size tree place → LeafAt most t path indices size tree place
  leaf_at {most} {t} {indices = indices} s = let at = s.stands.leaf in let e = get_or indices 0 0 in
      let more = some_first (drop e at.entries) (omega (arith, length-drop e at.entries)) in
      let c = rw more.2 at (cut_leaf {t = t} at.before at.entries at.after s.fit s.inside s.apart at.row_is (omega arith) at.place_is s.stands.above) in
      let one : 1 ≤ most = omega (arith, length-append (take e at.entries) (more.0 ∷ more.1)) in let half : 1 ≤ half_of most = omega arith in
      let full = Solid-full (half_of most) most half c.before c.solid in
      record {
        l = take e at.entries;
        x = more.0;
        r = more.1;
        cut = c;
        half = half;
        above = record { over = record { stacked = c.fit.stacked; inside = s.inside.rows_in; stands = rw full c.stands; height = omega arith }; apart = λ m. omega (arith, c.apart m, count-append) };
      }

  -- the leaf without the entry, under rows that have its first key
  pub leaf_loss : {most t u v path indices size tree place : _} → (d : LeafAt most t path indices size tree place) → 1 ≤ length (d.l ++ d.r) → Puts t u (get_or path 0 0) (leaf_content (d.l ++ d.r)) →
      Rekeyed u v path indices 1 size tree.above (heads (d.before ++ node (get_or path 0 0) (d.l ++ d.r) ∷ d.after)) (length (heads d.before)) →
      LeafLoss most t v path indices size tree place
  leaf_loss {t} {u} {v} {path} {tree} d more w b =
      let n = get_or path 0 0 in let old = d.l ++ d.x ∷ d.r in let es = d.l ++ d.r in let row2 = d.before ++ node n es ∷ d.after in
      let len : length old ≡ suc (length es) = simp length-append (omega arith) in
      let c1 = λ (m : ℕ). counts m d.before n old d.after tree.above t.chain in let c2 = λ (m : ℕ). counts m d.before n es d.after b.rows' v.chain in
      let in_u = row-put leaf_content d.before old es d.after d.inside w d.none in
      let frees = frees-after (numbers (d.before ++ node n old ∷ d.after) ++ flat_map numbers tree.above) (numbers row2 ++ flat_map numbers b.rows')
      (λ m. omega (arith, c1 m, c2 m, count-append m (n ∷ []) (numbers d.after))) w.frees b.frees in
      record {
        loss = record {
          before = d.before;
          entries = es;
          after = d.after;
          rest = b.rows';
          on_level = record {
            inside = row-same _ _ _ _ (λ m some. b.frees.others m (omega (arith, c1 m, c2 m))) in_u;
            solid = d.solid;
            fits = d.fits.2;
            some = more;
            lost_one = omega arith;
            most_is = omega arith;
            above = b.above;
            number_is = refl;
            entry_was = omega (arith, length-append d.l d.r);
            apart = trades-apart frees d.apart;
          };
          list_is = sym (cc (remove_flat d.before n d.l d.x d.r d.after));
          place_is = omega arith;
          was = λ fs slot. leaf_count _ _ (slice_get t.nodes n) slot d.slot_is ∙ len;
          sizes_were = cc (sizes-append d.before (node n old ∷ d.after));
          frees = rw d.leaves_are frees;
        };
      }

module _ {K V : Type 0} {most : ℕ} {t v : Table K V} {path indices size tree place : _} (l : LeafLoss most t v path indices size tree place) where
  pub named : First l.entries
  named = some_first _ l.some

  abbrev pub beside_asks : OneAbove v path indices 1 size
  beside_asks = record { rows = l.rest; before = heads l.before; x = (named.0.0, get_or path 0 0); after = heads l.after; above = headed l.before _ l.after named l.above }

  -- half of a leaf is at least one entry
  pub loss_half : 1 ≤ half_of most
  loss_half = let one : 1 ≤ most = omega arith in omega arith

  -- no leaf follows
  none_follows : (found : Option (K × ℕ)) → NextIs found (heads l.after) → is_some found ≡ false → l.after ≡ []
  none_follows None next is = no_nodes _ _ loss_half _ l.fits next
  none_follows (Some x) next is = absurd cc

  -- no leaf follows where the leaf is the whole tree
  pub alone_last : size ≤ 1 → l.after ≡ []
  alone_last low = let one = top_one beside_asks.above low in
      no_nodes (half_of most) most loss_half l.after l.fits (nil_from_length (heads l.after) (omega (arith, length-append (heads l.before) ((named.0.0, get_or path 0 0) ∷ heads l.after))))

  -- no leaf follows where the entry was the tree's last
  pub end_last : suc place ≡ length (flat tree.leaves) → l.after ≡ []
  end_last last = let left = length-remove (flat tree.leaves) place (omega (arith, last)) in
      let parts = sym (ap length (flat-append l.before (node (get_or path 0 0) l.entries ∷ l.after))) ∙ ap length l.list_is in
      no_nodes (half_of most) most loss_half l.after l.fits (nil_from_length (heads l.after)
      (omega (arith, heads-flat l.after, left, parts, last, l.place_is, l.entry_was, length-append (flat l.before) (l.entries ++ flat l.after), length-append l.entries (flat l.after))))

  -- a leaf follows
  pub one_follows : (found : Option (K × ℕ)) (none : Bool) → Beside v path indices 1 size found → is_some found ≡ not none → none ≡ false → get_or indices 0 0 < length (l.entries ++ flat l.after)
  one_follows None none beside is so = absurd (let e = ap not so in cc)
  one_follows (Some x) none beside is so = omega (arith, ap length (beside beside_asks).1, heads-flat l.after, length-append l.entries (flat l.after))

  module _ (r : ℕ) (wide : length path ≡ 17) where
    slot_left : slice_get v.nodes (get_or path 0 r) ≡ Some (leaf_content l.entries)
    slot_left = cc (get_or_default path 0 r 0 (omega arith), (row-split _ _ _ (node (get_or path 0 0) l.entries ∷ l.after) l.inside).1.0)

    pub left_asks : NodeAt v (get_or path 0 r)
    left_asks = (leaf_content l.entries, slot_left, λ free. free)

    module _ (m : ℕ) (value : (x : Content K V) → slice_get v.nodes (get_or path 0 r) ≡ Some x → m ≡ entry_count x) where
      left_is : m ≡ length l.entries
      left_is = value (leaf_content l.entries) slot_left ∙ keys_count _

      -- the path is at an entry of the leaf
      pub in_leaf : get_or indices 0 0 < m → get_or indices 0 0 < length (l.entries ++ flat l.after)
      in_leaf low = omega (arith, left_is, length-append l.entries (flat l.after))

      -- the path is past all entries
      pub behind_all : (found : Option (K × ℕ)) (none : Bool) → m ≤ get_or indices 0 0 → Beside v path indices 1 size found → is_some found ≡ not none → none ≡ true → (l.after ≡ []) × (get_or indices 0 0 ≡ length l.entries)
      behind_all found none high beside is so = (none_follows found (beside beside_asks) cc, omega (arith, left_is))
