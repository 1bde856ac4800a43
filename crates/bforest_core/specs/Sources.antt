-- Entries of which a tree is built, leaf after leaf. They may be read from other trees of its table.
use Rattle.bforest_core.specs.Packed.{Built, width}
use Rattle.bforest_core.specs.Place.{leaf_content}
use Rattle.bforest_core.specs.Table.{IsUsed, Table, front_of, with_front}
use Rattle.bforest_core.specs.Trees.{IsUnion, is_root, tree_of}
use Rattle.std.specs.Prelude.{IsTrue, List, Some, drop, length, slice_get, take, ◌≡◌, ◌≤◌, ℕ}

module _ {K V : Type 0} where
  -- each tree of `base` is one of `now`, too, under the same root
  pub record Adds (most : ℕ) (base now : Table K V) : Type 0 where
    pub union : IsUnion most now
    pub trees : (root : ℕ) → IsTrue (is_root base.nodes root) → IsTrue (is_root now.nodes root) × (tree_of now.nodes root ≡ tree_of base.nodes root)

  -- at least so many entries are left to a source, which is read from `base`, and trees may have been added to that
  pub record Feeds (most : ℕ) (Reads : Table K V → Type 0) (left : Table K V → List (K × V)) (base now : Table K V) (count : ℕ) : Type 0 where
    pub adds : Adds most base now
    pub reads : Reads base
    pub enough : count ≤ length (left base)

  -- the first `count` entries of a list were taken from a source, to which the rest is left, and `key` is the first key
  pub record TakesEntries (list rest : List (K × V)) (count : ℕ) (Reads : Type 0) (key : K) : Type 0 where
    pub value : V
    pub first_is : slice_get list 0 ≡ Some (key, value)
    pub reads : Reads
    pub rest_is : rest ≡ drop count list

  -- the front of the free list became a leaf of the first `count` entries of a list
  pub record MakesLeaf (old new : Table K V) (list : List (K × V)) (count leaf : ℕ) : Type 0 where
    pub front : front_of old.chain ≡ Some leaf
    pub table_is : new ≡ with_front old old.chain (leaf_content (take count list))
    pub used : IsUsed new leaf

  -- a node of this level was built of the first `count` entries of a list, and is the root of a tree where it is full
  pub record Builds (most : ℕ) (base old new : Table K V) (list : List (K × V)) (count level number : ℕ) : Type 0 where
    pub built : Built most old new (take count list) level number
    pub full : count ≡ width most level → Adds most base new
