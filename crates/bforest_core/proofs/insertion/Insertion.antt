-- The effect of an insertion into the tree under a root on the table, where nodes were reserved for it.
use Rattle.bforest_core.proofs.Words.{drop-append_seam, ◌≡◌, ℕ, ◌-◌, ◌^◌, ◌≤◌, ◌<◌, ◌≢◌, ◌↔◌, IsTrue, Option, Some, None, List, [], ◌∷◌, ◌++◌, map, length}
use Rattle.bforest_core.proofs.Words.{insert, slice_get, sym, ap, ◌∙◌, subst, inl, inr, length-append, arith, Heads, Row, Rows, flat_map, cases_lt, eqb_tells}
use Rattle.bforest_core.proofs.Words.{length-map, Table, fresh_nodes, front_of, free_count, slot_count, room, reserved, IsFullAt, node, IsFit, heads, sizes}
use Rattle.bforest_core.proofs.Words.{numbers, Stacked, Topped, Tree, sizes_of, leaf_gain, gain_above, growth, need, Stands, count, root_of, numbers_of}
use Rattle.bforest_core.proofs.Words.{top_of, Placed, Inserted, GrowsFor, tree_of, is_root, IsUnion, Changes, TakesNodes, PlacedUnder, StandsUnder}
use Rattle.bforest_core.proofs.Words.{InsertsHere, list_under, Ok, Path, Placing, refl, place}
use Rattle.bforest_core.proofs.{union.Reserved.{reserved-union, reserved-roots, reserved-then}, rows.Counts.{once_below, below-one, few-below}}
use Rattle.bforest_core.proofs.{table.Allocating.{grows-alike, grows-not, reserved-enough, reserved-free}, table.Lists.slice_get-append_left, table.Chains.length-fresh_nodes}
use Rattle.bforest_core.proofs.{rows.Bounds.climb-seventeen, union.Unions.{Rooted, rooted}, table.Tables.count-append, rows.Tops.{root-points, root-stands}}
use Rattle.bforest_core.proofs.{union.Forests.root-among, union.Exchange.IsPlanted, union.Roots.exchanged, removal.Removal.place_low}
use Rattle.bforest_core.specs.Paths.{sizes_under}

-- a row has no more heads than nodes
heads-few : {K X : Type 0} (row : Row K X) → length (heads row) ≤ length (numbers row)
heads-few [] = omega arith
heads-few (node n [] ∷ row) = omega (arith, heads-few row)
heads-few (node n (e ∷ es) ∷ row) = omega (arith, heads-few row)

-- an insertion leaves at most 16 rows above the leaves
gain-low : {K : Type 0} (k : Option ℕ) (hs : Heads K) (rows : Rows K) → Stacked hs rows → Topped hs rows → length hs < 2 ^ 32 → length rows ≤ 16 →
    length (gain_above k (map sizes rows)) ≤ 16
gain-low None hs rows s t few low = omega (arith, low, length-map rows sizes)
gain-low (Some p) hs rows s t few low = climb-seventeen p hs rows s t few low

module _ {K V : Type 0} where
  -- a tree has no more leaves than there are slots
  leaves_within : {most : ℕ} {table : Table K V} {root tree : _} → Rooted most table root tree → length (heads tree.leaves) ≤ length table.nodes
  leaves_within {table} {tree} r = let c = λ (m : ℕ). count-append m (numbers tree.leaves) (flat_map numbers tree.above) in
      let once : (m : ℕ) → count m (numbers tree.leaves) ≤ once_below m (length table.nodes) = λ m. elim (cases_lt m (length table.nodes)) [
        | inl low ↦ omega (arith, below-one m _ low, c m, count-append m (numbers_of tree) table.chain, r.apart m)
        | inr past ↦ elim (cases_lt 0 (count m (numbers tree.leaves))) [
          | inl some ↦ absurd (omega (arith, r.within m (omega (arith, some, c m))))
          | inr none ↦ omega arith
        ]
      ] in
      omega (arith, heads-few tree.leaves, few-below _ _ once)

  -- an insertion leaves at most 17 levels, where the slots have numbers
  pub growth-low : (most : ℕ) (table : Table K V) (root place : ℕ) → IsUnion most table → IsTrue (is_root table.nodes root) → slot_count table ≤ 4294967295 →
      length (growth most place (sizes_of (tree_of table.nodes root))) ≤ 17
  growth-low most table root place union is slots = let r = rooted _ _ _ union is in let tree = tree_of table.nodes root in
      omega (arith, gain-low (leaf_gain most place (sizes tree.leaves)).0 (heads tree.leaves) tree.above r.fit.stacked r.fit.topped (omega (arith, leaves_within r)) r.low)

  -- a path under a root is where an entry may be inserted in its tree, which is in the table
  pub placed-under : (most : ℕ) (table : Table K V) {root place path indices size : _} → IsUnion most table →
      PlacedUnder table.nodes root path indices size place → Placed most table path indices size (tree_of table.nodes root) place
  placed-under most table union p = let r = rooted _ _ _ union p.root_is in record { fit = r.fit; inside = r.inside; apart = r.apart; at = p.at }

  -- a path under a root has at least one level and at most 17
  pub under-low : (most : ℕ) (table : Table K V) {root place path indices size : _} → IsUnion most table →
      PlacedUnder table.nodes root path indices size place → (0 < size) × (size ≤ 17)
  under-low most table union p = (omega arith, omega (arith, (rooted _ _ _ union p.root_is).low))

  -- what an insertion states of the table and of the path
  pub record Put (most : ℕ) (old new : Table K V) (root place : ℕ) (entry : K × V) (path' indices' : List ℕ) (size' : ℕ) : Type 0 where
    pub some : 0 < size'
    pub low : size' ≤ 17
    pub enough : need most place (sizes_under old root) ≤ room old
    pub changes : Changes most old new root (top_of path' size') (insert (list_under old root) place entry) (growth most place (sizes_under old root))
    pub takes : TakesNodes (need most place (sizes_under old root)) old new
    pub stands : StandsUnder new.nodes (top_of path' size') path' indices' size' place
    pub same_root : (top_of path' size' ≡ root) ↔ (length (growth most place (sizes_under old root)) ≡ length (sizes_under old root))

  -- a root that was on the chain differs from the old root
  new_ne : {most : ℕ} {table : Table K V} (new : Table K V) {root : ℕ} {tree : Tree K V} (root' taken : _) → Rooted most table root tree →
      table.chain ≡ taken ++ new.chain → 0 < count root' taken → root' ≢ root
  new_ne new root' taken r chain_is some same = let among = rw (r.root_is ∙ sym same) at (root-among _ _ _ r.fit r.inside r.some) in
      omega (arith, some, r.apart root', ap (λ z. count root' z) chain_is, count-append)

  -- inserting an entry into the tree under a root, after the nodes that it needs were reserved
  pub insertion : {most : ℕ} (old : _) {new : _} (root memory : ℕ) {place path indices size path' indices' size' entry : _} → IsUnion most old →
      PlacedUnder old.nodes root path indices size place → size' ≤ 17 → need most place (sizes_under old root) ≤ room old →
      GrowsFor (need most place (sizes_under old root)) old (reserved old (need most place (sizes_under old root)) memory) →
      Inserted most (reserved old (need most place (sizes_under old root)) memory) new path indices path' indices' size size'
      (tree_of old.nodes root) place entry →
      Put most old new root place entry path' indices' size'
  insertion {most} old {new} root memory {place} {size = size} {path'} {indices'} {size'} union p low enough held i =
      let tree = tree_of old.nodes root in let n = need most place (sizes_of tree) in let mid = reserved old n memory in
      let roots = reserved-roots most old n memory union root in let same = roots.1 p.root_is in let union_mid = reserved-union most old n memory union in
      let r = rw same at (rooted most mid root union_mid (roots.0 ∙ p.root_is)) in
      let tree' : Tree K V = record { leaves = i.row'; above = i.rows' } in
      let fit : IsFit most tree' = record { leaves_fit = i.fit; stacked = i.above.stacked; topped = i.topped r.fit.topped } in
      let stands : Stands path' indices' size' tree' place = record { leaf = i.at; above = i.above.stands; size_is = omega (arith, i.above.height) } in
      let planted : IsPlanted most new.nodes tree' =
      record { fit = fit; inside = record { leaves_in = i.inside; rows_in = i.above.inside }; some = omega (arith, place_low path' indices' size' tree' place stands); low = omega (arith, low, i.above.height) } in
      let e = exchanged root {taken = i.taken} union_mid (roots.0 ∙ p.root_is) planted (rw same i.draws) in
      let levels : length (growth most place (sizes_of tree)) ≡ size' = omega (arith, ap length i.sizes_are, length-map i.rows' sizes, i.above.height) in
      let root_is = root-stands fit stands in
      record {
        some = omega (arith, i.above.height);
        low = low;
        enough = enough;
        changes = rw (← root_is) (record {
          union = e.union;
          root_is = e.root_is;
          list_is = simp (e.tree_is, i.flat_is);
          sizes_are = ap sizes_of e.tree_is ∙ i.sizes_are;
          others = reserved-then most old n memory new root (root_of tree') union e.others;
          old_gone = e.old_gone;
          new_came = λ ne was. e.new_came ne ((reserved-roots most old n memory union (root_of tree')).0 ∙ was);
          limit_is = i.limit_is;
        });
        takes = record {
          slots = omega (arith, i.slots_are, length-append old.nodes (fresh_nodes (slot_count old) (n - free_count old) (front_of old.chain)), length-fresh_nodes K V (slot_count old) (n - free_count old) (front_of old.chain));
          free = omega (arith, i.taken_is, ap length i.chain_is, length-append i.taken new.chain, reserved-free old n memory);
          memory = grows-alike i.memory_is held;
          chain_is = cc (i.chain_is, i.taken_is, drop-append_seam i.taken new.chain);
        };
        stands = rw (← root_is) (record { root_is = e.root_is; stands = subst (λ z. Stands path' indices' size' z place) (sym e.tree_is) stands });
        same_root = (
          λ same. elim (eqb_tells size' size) [
            | inl w ↦ omega (arith, length-map tree.above sizes, levels)
            | inr w ↦ absurd (new_ne new (top_of path' size') i.taken r (sym i.chain_is) (i.new_top w.1) same)
          ],
          λ same. i.same_top (omega (arith, length-map tree.above sizes, levels)) ∙ sym (root-points _ _ _ _ _ _ (omega arith) r.fit p.at.points) ∙ r.root_is,
        );
      }

  -- inserting an entry into a leaf with room
  pub put-here : {most : ℕ} {old new : Table K V} {root place path indices size entry : _} → IsUnion most old →
      PlacedUnder old.nodes root path indices size place →
      Inserted most old new path indices path indices size size (tree_of old.nodes root) place entry → Put most old new root place entry path indices size
  put-here {most} {old} {new} {root} {place} {path} {indices} {size} {entry} union p i = let n = need most place (sizes_under old root) in
      let enough : n ≤ free_count old = omega (arith, i.taken_is, ap length i.chain_is, length-append i.taken new.chain) in
      insertion old root old.memory union p (under-low most old union p).1 (omega (arith, enough)) (grows-not refl)
      (rw (reserved-enough old n enough) i)

  -- reserving nodes leaves the path at its place
  pub placed-mid : (most : ℕ) (old mid : Table K V) {root place path indices size : _} (n : ℕ) {memory : ℕ} → IsUnion most old →
      PlacedUnder old.nodes root path indices size place → mid ≡ reserved old n memory → Placed most mid path indices size (tree_of old.nodes root) place
  placed-mid most old mid {root} n {memory} union p mid_is =
      let same = reserved-roots most old n memory union root in
      let r = rooted most (reserved old n memory) root (reserved-union most old n memory union) (cc) in
      let s = rw (same.1 p.root_is) at r in rw mid_is (record { fit = s.fit; inside = s.inside; apart = s.apart; at = p.at })

  -- inserting an entry by a split of the leaf, after the nodes were reserved
  pub put-split : (most : ℕ) (old mid new : Table K V) {root place path indices size : _} (n path' indices' size' : _) (entry : K × V) → IsUnion most old →
      PlacedUnder old.nodes root path indices size place → slot_count old ≤ 4294967295 →
      ((tree place : _) → Placed most old path indices size tree place → n ≡ need most place (sizes_of tree)) → ¬ (room old < n) →
      mid ≡ reserved old n mid.memory → GrowsFor n old mid →
      ((tree place : _) → Placed most mid path indices size tree place → Inserted most mid new path indices path' indices' size size' tree place entry) →
      Put most old new root place entry path' indices' size'
  put-split most old mid new {root} {place} n path' indices' size' entry union p slots needs enough mid_is held inserts =
      let tree = tree_of old.nodes root in let n_is = needs tree place (placed-under most old union p) in
      let mid_old = mid_is ∙ ap (λ z. reserved old z mid.memory) n_is in let i = inserts tree place (placed-mid _ _ _ _ union p mid_old) in
      let low : size' ≤ 17 =
      omega (arith, i.above.height, ap length i.sizes_are, length-map i.rows' sizes, growth-low most old root place union p.root_is slots) in
      insertion old root mid.memory union p low (omega (arith, enough)) (subst (λ z. GrowsFor z old (reserved old z mid.memory)) n_is (rw mid_is at held))
      (rw mid_old at i)

  -- a full leaf is full after nodes were reserved
  pub full-reserved : (most : ℕ) (table : Table K V) (n memory m content : _) → slice_get table.nodes m ≡ Some content → IsFullAt most table.nodes m →
      IsFullAt most (reserved table n memory).nodes m
  full-reserved most table n memory m content found full = rw (slice_get-append_left _ _ m _ found) (rw found at full)

  -- what is said of an insertion that was made
  pub inserts : {most : ℕ} {old new : Table K V} {path path' : Path K V most} {key : K} {value : V} (root' : ℕ) → root' ≡ top_of path'.node path'.size
      → ((at : Placing old path) → Put most old new at.root at.place (key, value) path'.node path'.entry path'.size) →
      InsertsHere old new path path' key value (Ok root')
  inserts root' is put = record {
    inserted = λ at. rw is (put at).changes;
    account = λ at. (put at).takes;
    stands = λ at. rw is (put at).stands;
    same_root = λ at. rw is (put at).same_root;
    full = λ at. (λ is. absurd cc, λ short. absurd (omega (arith, (put at).enough)));
    memory = λ at is. absurd cc;
    enough = λ at enough. refl;
    refused_pool = tt;
    refused_path = tt;
  }
