-- The leaf in which a path stands, and its entries in the list; a tree of one leaf, where a search ends there, and a path of one level.
use Rattle.bforest_core.proofs.Words.{◌≡◌, ℕ, ◌+◌, IsTrue, List, [], ◌∷◌, ◌++◌, drop, length, get_or, slice_get, Some, refl, sym, ap, subst, ◌∙◌, arith}
use Rattle.bforest_core.proofs.Words.{append_assoc, length-append, drop_at, Content, IsInner, IsLeaf, Path, Tree, flat, node, OnLeaf, StandsOn, index_of}
use Rattle.bforest_core.proofs.Words.{Stands, Table, IsUnion, is_root, slot, suc, inl, inr, EndsIn, IsTotalOrder, IsIncreasing, LevelNode, PlacedUnder}
use Rattle.bforest_core.proofs.{Words.{StandsAbove, tree_of}, rows.LevelRows.flat-append, table.Read.slot-is, union.Unions.is-rooted, walks.Descent.leaf_step}
use Rattle.bforest_core.proofs.{walks.Descent.reached, walks.Searches.search-root, walks.Standing.on-leaf-in, walks.TopNode.{leaf_under, node_under}}
use Rattle.bforest_core.proofs.walks.Whole.{root-node, ends-in}
use Rattle.std.specs.declared.cmp.Ordering.{Ordering}

-- the list from the first entry of the path's leaf on is the leaf's entries and the rest
leaf-rest : {K V : Type 0} {path indices size : _} {tree : Tree K V} {place : _} (s : Stands path indices size tree place) → drop (length (flat s.leaf.before)) (flat tree.leaves) ≡ s.leaf.entries ++ drop (length (flat s.leaf.before) + length s.leaf.entries) (flat tree.leaves)
leaf-rest {path} s = let front = flat s.leaf.before in let entries = s.leaf.entries in let rest = flat s.leaf.after in
    let whole = ap flat s.leaf.row_is ∙ flat-append s.leaf.before (node (get_or path 0 0) entries ∷ s.leaf.after) in
    let behind = ap (λ z. drop (length front + length entries) z) (cc (append_assoc _ _ _)) ∙ drop_at (front ++ entries) rest (length front + length entries) (length-append _ _) in
    ap (λ z. drop (length front) z) whole ∙ drop_at front (entries ++ rest) (length front) refl ∙ ap (λ z. entries ++ z) (sym behind)

-- a root that is no inner node is a leaf
pub root-leaf : {K V : Type 0} {most : ℕ} {table : Table K V} (union : IsUnion most table) (root : ℕ) (content : Content K V) → IsTrue (is_root table.nodes root) → slice_get table.nodes root ≡ Some content → (IsInner content → ⊥) → IsLeaf (slot table.nodes root)
root-leaf {table} union root content is found other = subst IsLeaf (sym (slot-is table.nodes root (leaf_under union.1.capacity (root-node (is-rooted root union is)) found other).slot_is)) tt

module _ {K V : Type 0} {n : ℕ} {table : Table K V} (union : IsUnion n table) {root : ℕ} where
  -- a path on a leaf's first entry, with all entries of the leaf
  pub leaf-front : (place : ℕ) (path : Path K V n) → StandsOn table root path place → index_of path ≡ 0 → (entries : List (K × V)) × OnLeaf table root path place entries
  leaf-front place path on first = let s = on.stands in
      let here : length (flat s.leaf.before) ≡ place = omega arith in (
        s.leaf.entries,
        record {
          on = subst (StandsOn table root path) (omega arith) on;
          within = s.leaf.within;
          leaf = (on-leaf-in union path on).slot_is;
          list = rw (← here) (leaf-rest s);
        },
      )

-- a path's list of numbers whose lowest is this one
abbrev pub lone : ℕ → List ℕ
lone n = n ∷ 0 ∷ 0 ∷ 0 ∷ 0 ∷ 0 ∷ 0 ∷ 0 ∷ 0 ∷ 0 ∷ 0 ∷ 0 ∷ 0 ∷ 0 ∷ 0 ∷ 0 ∷ 0 ∷ []

-- a search under a root that is a leaf ends there
pub ends-alone : {K V : Type 0} (cmp : K → K → Ordering) → IsTotalOrder cmp → {most : ℕ} (table : Table K V) (root : ℕ) (key : K) → IsUnion most table → IsTrue (is_root table.nodes root) → IsLeaf (slot table.nodes root) → IsIncreasing cmp (flat (tree_of table.nodes root).leaves) →
    EndsIn cmp table root key root (lone root) (lone 0) 1
ends-alone cmp o table root key union is leaf inc =
    let t = search-root union is inc 0 refl in elim (node_under union.1.capacity t.on) [
      | inl s ↦ (let step = leaf_step o union.1.capacity t s in
          ends-in table root is (reached o union.1.capacity step (lone 0) (lone 0)
          (lone root) (lone 0) (omega arith) (omega arith) refl refl) (sym (ap (λ z. suc (length z)) s.lower_is)) refl refl)
      | inr s ↦ absurd (subst IsLeaf (slot-is table.nodes root s.slot_is) leaf)
    ]

-- no row is above a path of one level
none-above : {K : Type 0} (path indices path' indices' : List ℕ) (rows : List (List (LevelNode K ℕ))) (place : ℕ) → 1 ≡ suc (length rows) → StandsAbove path indices 1 rows place → StandsAbove path' indices' 1 rows place
none-above path indices path' indices' [] place low s = s
none-above path indices path' indices' (row ∷ rows) place low s = absurd (omega arith)

-- of a path of one level only the leaf and the index there tell where an entry may be inserted
pub placed-alone : {K V : Type 0} (slots : List (Content K V)) (root : ℕ) (path indices path' indices' : List ℕ) {place : ℕ} → get_or path 0 0 ≡ get_or path' 0 0 → get_or indices 0 0 ≡ get_or indices' 0 0 → PlacedUnder slots root path indices 1 place → PlacedUnder slots root path' indices' 1 place
placed-alone slots root path indices path' indices' node_is index_is p = let q = p.at.points in
    record {
      root_is = p.root_is;
      at = record {
        points = record {
          before = q.before;
          entries = q.entries;
          after = q.after;
          leaves_are = q.leaves_are ∙ ap (λ z. q.before ++ node z q.entries ∷ q.after) node_is;
          within = rw (← index_is) q.within;
          place_is = q.place_is ∙ ap (λ z. length (flat q.before) + z) index_is;
          above = none-above _ _ _ _ _ _ q.size_is q.above;
          size_is = q.size_is;
        };
        first = λ front. p.at.first (index_is ∙ front);
      };
    }
