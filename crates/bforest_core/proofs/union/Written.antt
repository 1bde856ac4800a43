-- Writing the value of an entry of a tree, which keeps its nodes and keys.
use Rattle.bforest_core.proofs.Words.{IsTrue, is_root, numbers_of, ◌≡◌, ℕ, zero, suc, ◌+◌, ◌<◌, List, [], ◌∷◌, ◌++◌, map, length, get_or, set, slice_get, Some, refl, sym, ap}
use Rattle.bforest_core.proofs.Words.{◌∙◌, length-set, arith, flat_map, Table, IsUsed, IsEntryAt, value_at, with_node, with_value_at, value_at_place, node}
use Rattle.bforest_core.proofs.Words.{flat, head_of, heads, sizes, sizes_of, numbers, Tree, half_of, leaf_content, entry_keys, entry_items, count, IsAt}
use Rattle.bforest_core.proofs.{Words.{root_above, tree_of, IsUnion, Changes, StandsUnder}, union.Roots.{exchanged, exchanged-changes}}
use Rattle.bforest_core.proofs.{rows.LevelRows.{flat-append, heads-append, sizes-append, numbers-append, FitRow-split, FitRow-join}}
use Rattle.bforest_core.proofs.{walks.RowNodes.entry_at, table.Stored.{keys_count, item_count}, walks.LeafSearch.items-read, union.Unions.{Rooted, rooted}}
use Rattle.bforest_core.proofs.{table.Tables.{count-append, count-row, row-split, rows-same, is_used}, union.Exchange.IsPlanted, rows.Zipper.apart_here}
use Rattle.bforest_core.proofs.{walks.Steps.read, table.Read.slot-is, table.Trading.{not_there, trades-wider, puts, row-put}}
use Rattle.bforest_nodes.specs.Entries.{with_value}

module _ {K X : Type 0} where
  pub keys-written : (es : List (K × X)) (i : ℕ) (v : X) → entry_keys (with_value es i v) ≡ entry_keys es
  keys-written [] i v = refl
  keys-written (e ∷ es) zero v = refl
  keys-written (e ∷ es) (suc i) v = cc (keys-written es i v)

  items-written : (es : List (K × X)) (i : ℕ) (v : X) → entry_items (with_value es i v) ≡ set (entry_items es) i v
  items-written [] i v = refl
  items-written (e ∷ es) zero v = refl
  items-written (e ∷ es) (suc i) v = cc (items-written es i v)

  length-written : (es : List (K × X)) (i : ℕ) (v : X) → length (with_value es i v) ≡ length es
  length-written es i v = omega (arith, item_count (with_value es i v), ap length (items-written es i v), length-set (entry_items es) i v, item_count es)

  head-written : (n : ℕ) (es : List (K × X)) (i : ℕ) (v : X) → head_of n (with_value es i v) ≡ head_of n es
  head-written n [] i v = refl
  head-written n (e ∷ es) zero v = refl
  head-written n (e ∷ es) (suc i) v = refl

  -- writing a value in the first of two lists
  written-front : (es fs : List (K × X)) (i : ℕ) (v : X) → i < length es → with_value (es ++ fs) i v ≡ with_value es i v ++ fs
  written-front [] fs i v low = absurd (omega arith)
  written-front (e ∷ es) fs zero v low = refl
  written-front (e ∷ es) fs (suc i) v low = cc (written-front es fs i v (omega arith))

  -- writing a value in the second of two lists
  written-behind : (es fs : List (K × X)) (p i : ℕ) (v : X) → p ≡ length es + i → with_value (es ++ fs) p v ≡ es ++ with_value fs i v
  written-behind [] fs p i v is = let e : p ≡ i = omega arith in ap (λ z. with_value fs z v) e
  written-behind (e ∷ es) fs zero i v is = absurd (omega arith)
  written-behind (e ∷ es) fs (suc p) i v is = cc (written-behind es fs p i v (omega arith))

-- an entry of a leaf of a tree
module _ {K V : Type 0} {most : ℕ} {table : Table K V} (root : ℕ) {n i place : ℕ} (union : IsUnion most table) (is : IsTrue (is_root table.nodes root)) (at : IsAt (tree_of table.nodes root).leaves n i place) where
  abbrev r : Rooted most table root (tree_of table.nodes root)
  r = rooted _ _ _ union is

  leaf_at : slice_get table.nodes n ≡ Some (leaf_content at.entries)
  leaf_at = (row-split leaf_content table.nodes at.before (node n at.entries ∷ at.after) (rw (← at.row_is) r.inside.leaves_in)).1.0

  -- the leaf occurs once among the numbers of the tree and the chain
  once_here : (count n (numbers at.before) + count n (numbers at.after) ≡ 0) × (count n (flat_map numbers (tree_of table.nodes root).above) ≡ 0) × (count n table.chain ≡ 0)
  once_here = apart_here n at.before at.entries at.after (flat_map numbers (tree_of table.nodes root).above) table.chain (rw (← at.row_is) r.apart)

  -- the leaf is used, and has an entry at the index
  pub place-used : IsUsed table n × IsEntryAt table.nodes n i
  place-used = (is_used _ _ _ leaf_at once_here.2, record { content = leaf_content at.entries; is = leaf_at; leaf = tt; within = omega (arith, at.within, keys_count at.entries) })

  -- the value at the index is the value at the place
  pub place-value : value_at table.nodes n i ≡ value_at_place (flat (tree_of table.nodes root).leaves) place
  place-value = let x = read _ _ at.within in
      simp (leaf_at, items-read at.entries i, x.1, at.place_is, entry_at at.before n at.entries at.after i at.row_is x.1)

  -- writing the value writes it at the place of the tree's list, in the same nodes
  pub place-written : (v : V) → Changes most table (with_value_at table n i v) root root (with_value (flat (tree_of table.nodes root).leaves) place v) (sizes_of (tree_of table.nodes root))
      × (tree_of (with_value_at table n i v).nodes root ≡ record { leaves = at.before ++ node n (with_value at.entries i v) ∷ at.after; above = (tree_of table.nodes root).above })
  place-written v = let tree = tree_of table.nodes root in let new = with_value_at table n i v in
      let w = puts table new n (leaf_content (with_value at.entries i v)) (leaf_content at.entries) leaf_at (ap (λ z. with_node table n z)
      (simp (slot-is table.nodes n leaf_at, keys-written at.entries i v, items-written at.entries i v))) in
      let row' = at.before ++ node n (with_value at.entries i v) ∷ at.after in let tree' : Tree K V = record { leaves = row'; above = tree.above } in
      let hs : heads row' ≡ heads tree.leaves = heads-append at.before _ ∙ ap (λ z. heads at.before ++ (z ++ heads at.after)) (head-written n at.entries i v) ∙ sym (simp (at.row_is, heads-append)) in
      let ns : numbers row' ≡ numbers tree.leaves = numbers-append at.before _ ∙ sym (simp (at.row_is, numbers-append)) in
      let fl : flat row' ≡ with_value (flat tree.leaves) place v =
      flat-append at.before _ ∙ ap (λ z. flat at.before ++ z) (sym (written-front at.entries (flat at.after) i v at.within)) ∙ sym (written-behind (flat at.before) (at.entries ++ flat at.after) place i v at.place_is)
      ∙ ap (λ z. with_value z place v) (sym (simp (at.row_is, flat-append))) in
      let ss : sizes_of tree' ≡ sizes_of tree = ap (λ z. z ∷ map sizes tree.above) (sizes-append at.before _ ∙ ap (λ z. sizes at.before ++ z ∷ sizes at.after) (length-written at.entries i v) ∙ sym (simp (at.row_is, sizes-append))) in
      let fit = FitRow-split (half_of most) most at.before (node n at.entries) at.after (rw (← at.row_is) r.fit.leaves_fit) in
      let p : IsPlanted most new.nodes tree' = record {
        fit = record {
          leaves_fit = FitRow-join (half_of most) most at.before (node n (with_value at.entries i v)) at.after fit.0 (omega (arith, length-written at.entries i v), omega (arith, length-written at.entries i v), fit.1.2);
          stacked = rw hs r.fit.stacked;
          topped = rw hs r.fit.topped;
        };
        inside = record {
          leaves_in = row-put leaf_content at.before at.entries (with_value at.entries i v) at.after (rw (← at.row_is) r.inside.leaves_in) w once_here.0;
          rows_in = rows-same table.nodes new.nodes tree.above (λ m some. w.others m (not_there m n (flat_map numbers tree.above) some once_here.1)) r.inside.rows_in;
        };
        some = omega (arith, r.some, ap length fl, length-written (flat tree.leaves) place v);
        low = r.low;
      } in
      let same_root = ap (λ z. root_above z tree.above) hs ∙ r.root_is in
      let frees = trades-wider (numbers_of tree) (numbers_of tree')
      (λ m. omega (
        arith,
        ap (λ z. count m (numbers z)) at.row_is,
        count-row m at.before n at.entries at.after,
        count-append m (n ∷ []) (numbers at.after),
        count-append m (numbers tree.leaves) (flat_map numbers tree.above),
        ap (λ z. count m (z ++ flat_map numbers tree.above)) ns,
      )) w.frees in
      let e = exchanged root union is p frees in
      (rw (← ss) (rw (← fl) (exchanged-changes e same_root w.limit_is)), ap (tree_of new.nodes) (sym same_root) ∙ e.tree_is)

-- the entry on which a path stands
module _ {K V : Type 0} {most : ℕ} {table : Table K V} {root place path indices size : _} (union : IsUnion most table) (s : StandsUnder table.nodes root path indices size place) where
  -- the path's leaf is used, and has an entry at the path's index
  pub entry-used : IsUsed table (get_or path 0 0) × IsEntryAt table.nodes (get_or path 0 0) (get_or indices 0 0)
  entry-used = place-used _ union s.root_is s.stands.leaf

  -- the value at the path's index is the value at the place
  pub value-under : value_at table.nodes (get_or path 0 0) (get_or indices 0 0) ≡ value_at_place (flat (tree_of table.nodes root).leaves) place
  value-under = place-value _ union s.root_is s.stands.leaf

  -- writing the value writes it at the place of the tree's list, and the path stands there as before
  pub value-written : (v : V) → Changes most table (with_value_at table (get_or path 0 0) (get_or indices 0 0) v) root root
      (with_value (flat (tree_of table.nodes root).leaves) place v) (sizes_of (tree_of table.nodes root))
      × StandsUnder (with_value_at table (get_or path 0 0) (get_or indices 0 0) v).nodes root path indices size place
  value-written v = let at = s.stands.leaf in let i = get_or indices 0 0 in let w = place-written _ union s.root_is at v in (
    w.0,
    record {
      root_is = w.0.root_is;
      stands = rw w.1 (record {
        leaf = record { before = at.before; entries = with_value at.entries i v; after = at.after; row_is = refl; within = omega (arith, at.within, length-written at.entries i v); place_is = at.place_is };
        above = s.stands.above;
        size_is = s.stands.size_is;
      });
    },
  )
