-- Replacing the value of a key, in its leaf: the answers of `update`.
use Rattle.bforest_core.proofs.Words.{◌≡◌, ℕ, IsTrue, Some, List, is_some, refl, sym, ap, ◌∙◌, true, arith, Table, IsUnion, IsAt, IsUsed, IsEntryAt}
use Rattle.bforest_core.proofs.Words.{Changes, None, SearchEndsAt, flat, is_root, is_present, length-set, place, place-present, value_for, sizes_of, tree_of, with_value_at}
use Rattle.bforest_core.proofs.union.Written.{place-used, place-written}
use Rattle.bforest_core.proofs.walks.LeafSearch.{some-mapped}
use Rattle.bforest_nodes.proofs.Found.{put-present}
use Rattle.bforest_core.specs.Updates.{UpdatesUnder}
use Rattle.bforest_nodes.specs.Entries.{put}
use Rattle.std.specs.Fn.{FnOnceReturns, Once}
use Rattle.std.specs.declared.cmp.Ordering.{Ordering}

-- a key with a value is present
pub valued-here : {K V : Type 0} (cmp : K → K → Ordering) (es : List (K × V)) (key : K) {v : V} → value_for cmp es key ≡ Some v → is_present cmp es key ≡ true
valued-here {K} {V} cmp es key found = sym (some-mapped (λ (e : K × V). e.1) _) ∙ ap is_some found

-- the entry of a key in a leaf of the tree under a root, at an index of the leaf
module _ {K V : Type 0} (cmp : K → K → Ordering) {most : ℕ} {table : Table K V} (union : IsUnion most table) (root : ℕ) (is : IsTrue (is_root table.nodes root))
    (key : K) {v : V} (found : value_for cmp (flat (tree_of table.nodes root).leaves) key ≡ Some v)
    {number index : ℕ} (entry : IsAt (tree_of table.nodes root).leaves number index (place cmp (flat (tree_of table.nodes root).leaves) key)) where
  abbrev list : List (K × V)
  list = flat (tree_of table.nodes root).leaves

  -- the leaf is used, and has an entry at the key's place
  pub key-used : IsUsed table number × IsEntryAt table.nodes number index
  key-used = place-used _ union is entry

  -- writing the value puts it in at the key
  key-written : (w : V) → Changes most table (with_value_at table number index w) root root (put cmp list key w) (sizes_of (tree_of table.nodes root))
  key-written w = rw (put-present cmp list key w (valued-here cmp list key found)) (place-written _ union is entry w).0

  -- what a call of `change` with the value returned is the key's value
  pub updated : {F : Type 0} {g : Once F (V × Unit {0}) V} {change : F} {w : V} → FnOnceReturns g change (v, tt) w
      → UpdatesUnder g most cmp table (with_value_at table number index w) root key change (Some w)
  updated {w} says = record {
    called = (v, found, says);
    written = key-written w;
    absent = λ none. absurd cc;
    same = λ none. absurd cc;
    slots = length-set _ _ _;
    chain = refl;
    memory = refl;
  }

-- the place of a present key in the leaf in which a search for it ends, and in the list
pub key-at : {K V : Type 0} {cmp : K → K → Ordering} {table : Table K V} {root key at number : _} (e : SearchEndsAt cmp table root key at number) {v : V}
    → value_for cmp e.leaf.entries key ≡ Some v → {index : ℕ} → index ≡ place cmp e.leaf.entries key
    → IsAt (tree_of table.nodes root).leaves number index (place cmp (flat (tree_of table.nodes root).leaves) key)
key-at {cmp} {key} e found index_is = record {
  before = e.leaf.before;
  entries = e.leaf.entries;
  after = e.leaf.after;
  row_is = e.leaf.leaves_are;
  within = omega (arith, index_is, place-present cmp e.leaf.entries key (valued-here cmp e.leaf.entries key found));
  place_is = omega (arith, index_is, e.tells.place_is);
}

-- nothing is written where the key is absent
pub left-out : {K V F : Type 0} {g : Once F (V × Unit {0}) V} {cmp : K → K → Ordering} {most : ℕ} {table : Table K V} {root key : _} {change : F}
    → value_for cmp (flat (tree_of table.nodes root).leaves) key ≡ None → UpdatesUnder g most cmp table table root key change None
left-out none = record { called = tt; written = tt; absent = λ is. none; same = λ is. refl; slots = refl; chain = refl; memory = refl }
