-- Writing the key of an entry of a tree, which keeps its nodes and values: the answers of `set_key`.
use Rattle.bforest_core.proofs.Words.{◌≡◌, ℕ, ◌+◌, ◌≤◌, ◌<◌, List, [], ◌∷◌, ◌++◌, length, get_or, slice_get, Some, refl, sym, ap, ◌∙◌, length-append, append_assoc, arith}
use Rattle.bforest_core.proofs.Words.{Table, Leaf, Tree, Row, node, flat, heads, numbers, flat_map, half_of, leaf_content, with_entry_key, with_node, rekeyed, Above}
use Rattle.bforest_core.proofs.Words.{entry_items, entry_keys, StandsIn, StandsUnder, Stands, OneAbove, Rekeyed, Frees, Changes, IsUnion, tree_of, sizes_of, numbers_of, root_of, nil_from_length}
use Rattle.bforest_core.proofs.{removal.LeafAt.{LeafAt, as_many_heads, leaf_at}, removal.Lifted.{above_written, headed, heads-put, key_set, rebuilt_same}, removal.Collapse.topped-sizes}
use Rattle.bforest_core.proofs.{removal.Asked.{First, some_first}, rows.LevelRows.{FitRow-join, Solid-full, flat-append, heads-append, sizes-append}}
use Rattle.bforest_core.proofs.{rows.Tops.root-stands, table.Tables.{count-append, counts, row-same}, table.Trading.{Puts, frees-after, puts, row-put}}
use Rattle.bforest_core.proofs.{union.Exchange.IsPlanted, union.Roots.{exchanged-freed, exchanged-changes}, union.Unions.rooted, removal.Removal.stands_in}

module _ {K X : Type 0} where
  -- writing the key of the entry between two lists
  pub rekeyed-at : (p : List (K × X)) (x : K × X) (r : List (K × X)) (k : K) → rekeyed (p ++ x ∷ r) (length p) k ≡ p ++ (k, x.1) ∷ r
  rekeyed-at [] x r k = refl
  rekeyed-at (z ∷ p) x r k = cc (rekeyed-at p x r k)

  -- writing the key of an entry of a node writes it in the list of the row
  rekeyed_flat : (before : Row K X) (n l x r after k : _) →
      rekeyed (flat (before ++ node n (l ++ x ∷ r) ∷ after)) (length (flat before) + length l) k ≡ flat (before ++ node n (l ++ (k, x.1) ∷ r) ∷ after)
  rekeyed_flat before n l x r after k = simp (flat-append, append_assoc) (simp (append_assoc, length-append) at (rekeyed-at (flat before ++ l) x (r ++ flat after) k))

module _ {K V : Type 0} {most : ℕ} {t : Table K V} {path indices size tree place : _} (d : LeafAt most t path indices size tree place) (k : K) where
  open d use {before, l, x, r, after}

  abbrev n : ℕ
  n = get_or path 0 0

  -- the entries of the leaf, before and after
  abbrev pub es : List (K × V)
  es = l ++ x ∷ r

  abbrev pub fs : List (K × V)
  fs = l ++ (k, x.1) ∷ r

  -- the leaf after the write
  key_written : with_entry_key (leaf_content es) (get_or indices 0 0) k ≡ leaf_content fs
  key_written = let w = key_set l x r k in cc (w.0, w.1, d.index_is)

  pub leaf_put : (u : Table K V) (read : ℕ) → read ≡ n →
      ((keys : List K) (vals : List V) → slice_get t.nodes read ≡ Some (Leaf keys vals) → u ≡ with_node t read (with_entry_key (Leaf keys vals) (get_or indices 0 0) k)) → Puts t u n (leaf_content fs)
  leaf_put u read is writes = puts t u n _ _ d.slot_is (cc (writes (entry_keys es) (entry_items es) (cc (is, d.slot_is)), is, key_written))

  module _ {u : Table K V} (w : Puts t u n (leaf_content fs)) where
    pub above_then : Above u path indices 1 size tree.above (heads (before ++ node n es ∷ after)) (length (heads before))
    above_then = above_written w d.none_rows d.above

    -- the key of an entry that is not the first was written
    pub behind : 0 < get_or indices 0 0 → Rekeyed u u path indices 1 size tree.above (heads (before ++ node n fs ∷ after)) (length (heads before))
    behind high = let f = some_first l (omega (arith, d.index_is)) in rebuilt_same (rw (heads-put before n es fs after (rw f.2)) at above_then)

    -- the key of the first entry was written
    pub named : First es
    named = some_first es (omega (arith, length-append l (x ∷ r)))

    abbrev pub above_asks : OneAbove u path indices 1 size
    above_asks = record { rows = tree.above; before = heads before; x = (named.0.0, n); after = heads after; above = headed before n after named above_then }

    pub ahead : get_or indices 0 0 ≤ 0 → (v : Table K V) →
        ((o : OneAbove u path indices 1 size) → Rekeyed u v path indices 1 size o.rows (o.before ++ (k, o.x.1) ∷ o.after) (length o.before)) →
        Rekeyed u v path indices 1 size tree.above (heads (before ++ node n fs ∷ after)) (length (heads before))
    ahead first v rekeys = let none : l ≡ [] = nil_from_length l (omega (arith, d.index_is)) in
        let new : heads before ++ ((k, n) ∷ heads after) ≡ heads (before ++ node n fs ∷ after) = simp (none, heads-append) in
        rw (← new) (rekeys above_asks)

    module _ {v : Table K V} (b : Rekeyed u v path indices 1 size tree.above (heads (before ++ node n fs ∷ after)) (length (heads before))) where
      abbrev now : Tree K V
      now = record { leaves = before ++ node n fs ∷ after; above = b.rows' }

      as_long : length fs ≡ length es
      as_long = omega (arith, length-append l (x ∷ r), length-append l ((k, x.1) ∷ r))

      changed : Frees t v (numbers_of tree) (numbers_of now) []
      changed = let c1 = λ (m : ℕ). counts m before n es after tree.above t.chain in let c2 = λ (m : ℕ). counts m before n fs after b.rows' v.chain in
          rw d.leaves_are (frees-after (numbers (before ++ node n es ∷ after) ++ flat_map numbers tree.above) (numbers (before ++ node n fs ∷ after) ++ flat_map numbers b.rows')
          (λ m. omega (arith, c1 m, c2 m, count-append m (n ∷ []) (numbers after))) w.frees b.frees)

      stands_now : Stands path indices size now place
      stands_now = let full = Solid-full (half_of most) most d.half before d.solid in record {
        leaf = record { before = before; entries = fs; after = after; row_is = refl; within = omega (arith, d.index_is, length-append l ((k, x.1) ∷ r)); place_is = omega (arith, d.index_is, d.place_is) };
        above = rw (← full) b.above.stands;
        size_is = omega (arith, b.above.height);
      }

      planted : StandsIn most t path indices size tree place → IsPlanted most v.nodes now
      planted s = let some : 1 ≤ length es = omega (arith, length-append l (x ∷ r)) in record {
        fit = record {
          leaves_fit = FitRow-join (half_of most) most before (node n fs) after d.solid (omega (arith, as_long, d.fits.0), omega (arith, as_long, d.fits.1), d.fits.2);
          stacked = b.above.stacked;
          topped = topped-sizes _ _ _ _ d.fit.stacked b.above.stacked (as_many_heads before n es fs after some (omega (arith, as_long))) b.sizes_are d.fit.topped;
        };
        inside = record {
          leaves_in = row-same _ _ _ _ (λ m has. b.frees.others m (omega (arith, has, d.apart m, counts m before n es after tree.above t.chain, counts m before n fs after b.rows' v.chain)))
              (row-put leaf_content before es fs after d.inside w d.none);
          rows_in = b.above.inside;
        };
        some = simp (flat-append, length-append) (omega (arith, some));
        low = omega (arith, s.low, b.above.height, d.above.height);
      }

      -- the same root
      root_stays : StandsIn most t path indices size tree place → root_of now ≡ root_of tree
      root_stays s = root-stands (planted s).fit stands_now ∙ sym (root-stands s.fit s.stands)

      list_now : flat now.leaves ≡ rekeyed (flat tree.leaves) place k
      list_now = sym (cc (rekeyed_flat before n l x r after k))

      sizes_now : sizes_of now ≡ sizes_of tree
      sizes_now = cc (sizes-append before (node n fs ∷ after), sizes-append before (node n es ∷ after), as_long)

-- the key of an entry on which a path stands was written, in its leaf and where a row above names the leaf
pub record KeyWritten {K V : Type 0} (most : ℕ) (t v : Table K V) (root : ℕ) (path indices : List ℕ) (size place : ℕ) (k : K) : Type 0 where
  pub changes : Changes most t v root root (rekeyed (flat (tree_of t.nodes root).leaves) place k) (sizes_of (tree_of t.nodes root))
  pub stands : StandsUnder v.nodes root path indices size place
  pub slots : length v.nodes ≡ length t.nodes
  pub chain : v.chain ≡ t.chain
  pub memory : v.memory ≡ t.memory

module _ {K V : Type 0} {most : ℕ} {t : Table K V} {root place path indices size : _} (union : IsUnion most t) (at : StandsUnder t.nodes root path indices size place) where
  pub stood : StandsIn most t path indices size (tree_of t.nodes root) place
  stood = stands_in most t union at

  pub size_low : size ≤ 17
  size_low = let s = stood in omega (arith, s.low, s.stands.size_is)

  pub leaf_on : LeafAt most t path indices size (tree_of t.nodes root) place
  leaf_on = leaf_at stood

  pub key-written : (k : K) {u v : Table K V} (w : Puts t u (get_or path 0 0) (leaf_content (fs leaf_on k))) →
      Rekeyed u v path indices 1 size (tree_of t.nodes root).above (heads (leaf_on.before ++ node (get_or path 0 0) (fs leaf_on k) ∷ leaf_on.after)) (length (heads leaf_on.before)) →
      KeyWritten most t v root path indices size place k
  key-written k {v = v} w b = let p = planted leaf_on k w b stood in let f = changed leaf_on k w b in let e = exchanged-freed root union at.root_is p f in
      let same_root = root_stays leaf_on k w b stood ∙ (rooted _ _ _ union at.root_is).root_is in
      let c = exchanged-changes e same_root f.limit_is in
      record {
        changes = rw (← list_now leaf_on k w b) (rw (← sizes_now leaf_on k w b) c);
        stands = record { root_is = c.root_is; stands = rw (ap (tree_of v.nodes) (sym same_root) ∙ e.tree_is) (stands_now leaf_on k w b) };
        slots = f.slots_are;
        chain = f.chain_is;
        memory = f.memory_is;
      }
