-- A whole tree as the leaves and rows under its root, and a path that descended from there.
use Rattle.bforest_core.proofs.Words.{◌≡◌, ℕ, suc, true, false, IsTrue, ◌<◌, List, [], ◌∷◌, length, get_or, ap, arith, Rows, Content, EndsIn, Reached, Table}
use Rattle.bforest_core.proofs.Words.{place, is_present, flat, heads, Stacked, Tree, StandsAbove, Stands, root_above, NodeOver, StackedTo, StandsTo, Under, GoesThrough}
use Rattle.bforest_core.proofs.Words.{Descended, Led, IsRooted, PlacedUnder, PointsAt, StandsUnder, is_root, tree_of}
use Rattle.std.specs.declared.cmp.Ordering.{Ordering}

module _ {K : Type 0} where
  -- the root alone is the top level
  top : (list rows : _) {root : ℕ} → Stacked list rows → root_above list rows ≡ root → (first : K) × StackedTo list rows ((first, root) ∷ [])
  top [] [] s e = absurd (omega arith)
  top (x ∷ y ∷ list) [] s e = absurd (omega arith)
  top (x ∷ []) [] s e = (x.0, ap (λ z. (x.0, z) ∷ []) e)
  top list (row ∷ rows) s e = let t = top (heads row) rows s.2 e in (t.0, (s.0, s.1, t.1))

  -- a path that reaches the root stands on all rows
  stands_above : (path indices : List ℕ) (level : ℕ) (rows : Rows K) (place : ℕ) → StandsTo path indices level rows place 0 → StandsAbove path indices level rows place
  stands_above path indices level [] place s = s
  stands_above path indices level (row ∷ rows) place s = (s.0, stands_above path indices (suc level) rows (length s.0.before) s.1)

pub led_stands : {K V : Type 0} (tree : Tree K V) {place path indices path' indices' : _} (size : ℕ) → Led tree.leaves tree.above place 0 path indices path' indices' → size ≡ suc (length tree.above) → Stands path' indices' size tree place
led_stands tree size d e = record { leaf = d.leaf; above = stands_above _ _ 1 _ _ d.stands; size_is = e }

module _ {K V : Type 0} {most : ℕ} {slots : List (Content K V)} {root tree : _} (r : IsRooted most slots root tree) where
  -- the leaves and rows under the root are the whole tree
  pub whole_under : (first : K) × Under most slots tree.leaves tree.above ((first, root) ∷ [])
  whole_under = let t = top _ _ r.fit.stacked r.root_is in (t.0, record { leaves_fit = r.fit.leaves_fit; leaves_in = r.inside.leaves_in; stacked = t.1; rows_in = r.inside.rows_in })

  -- the root, as a node over them
  abbrev pub root-node : NodeOver most slots tree.leaves root
  root-node = record { lower = tree.above; before = []; first = whole_under.0; after = []; under = whole_under.1 }

pub all_through : {K : Type 0} (cmp : K → K → Ordering) (first key : K) → GoesThrough cmp [] first [] key
all_through cmp first key = record { from = tt; upto = tt }

-- a path that points to an entry of its leaf stands on it
pub stands-pointed : {K V : Type 0} {path indices size place : _} {tree : Tree K V} (p : PointsAt path indices size tree place) → get_or indices 0 0 < length p.entries → Stands path indices size tree place
stands-pointed p low = record { leaf = record { before = p.before; entries = p.entries; after = p.after; row_is = p.leaves_are; within = low; place_is = p.place_is }; above = p.above; size_is = p.size_is }

-- where a search ended: at the key's entry where the key is present, else where it may be inserted
module _ {K V : Type 0} {cmp : K → K → Ordering} (slots : List (Content K V)) (root : ℕ) (is : IsTrue (is_root slots root)) {key path indices path' indices' : _} {size : ℕ}
    (d : Descended cmp (tree_of slots root).leaves (tree_of slots root).above key 0 path indices path' indices') (size_is : size ≡ suc (length (tree_of slots root).above)) where
  abbrev points : PointsAt path' indices' size (tree_of slots root) (place cmp (flat (tree_of slots root).leaves) key)
  points = record { before = d.leaf.before; entries = d.leaf.entries; after = d.leaf.after; leaves_are = d.leaf.row_is; within = d.leaf.within; place_is = d.leaf.place_is; above = stands_above _ _ 1 _ _ d.stands; size_is = size_is }

  stands-found : is_present cmp (flat (tree_of slots root).leaves) key ≡ true → StandsUnder slots root path' indices' size (place cmp (flat (tree_of slots root).leaves) key)
  stands-found here = record { root_is = is; stands = stands-pointed points (d.leaf.found here) }

  placed-found : is_present cmp (flat (tree_of slots root).leaves) key ≡ false → PlacedUnder slots root path' indices' size (place cmp (flat (tree_of slots root).leaves) key)
  placed-found none = record { root_is = is; at = record { points = points; first = d.leaf.first none } }

-- the leaf that a search reached under a root is the one in which it ends
pub ends-in : {K V : Type 0} {cmp : K → K → Ordering} (table : Table K V) (root : ℕ) → IsTrue (is_root table.nodes root) → {key path indices path' indices' size leaf : _} →
    Reached cmp table.nodes (tree_of table.nodes root).leaves (tree_of table.nodes root).above key 0 path indices path' indices' leaf → size ≡ suc (length (tree_of table.nodes root).above) → length path' ≡ 17 → length indices' ≡ 17 → EndsIn cmp table root key leaf path' indices' size
ends-in table root is r size_is wide indexed = record {
  root_is = is;
  leaf_is = r.leaf_is;
  entries = r.entries;
  slot_is = r.slot_is;
  increasing = r.increasing;
  value_is = r.value_is;
  found_is = r.found_is;
  wide = wide;
  indexed = omega arith;
  present = stands-found table.nodes root is r.descended size_is;
  absent = placed-found table.nodes root is r.descended size_is;
}
