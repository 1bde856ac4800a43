-- Copies of nodes under other numbers.
use Rattle.std.specs.Prelude.{◌≡◌, ℕ, ◌<◌, List, [], map, slice_get, Some}
use Rattle.bforest_nodes.specs.Content.{Content, Inner, Leaf, Free, children_of}
use Rattle.bforest_core.specs.Table.{Table}
use Rattle.bforest_core.specs.Place.{count}
use Rattle.bforest_core.specs.Trades.{Draws}

module _ {K V : Type 0} where
  -- the content of a node whose children have other numbers
  abbrev pub renamed : (ℕ → ℕ) → Content K V → Content K V
  renamed name (Inner keys children) = Inner keys (map name children)
  renamed name (Leaf keys vals) = Leaf keys vals
  renamed name (Free next) = Free next

  -- the nodes with the numbers `own`, and with them all their children, have copies under the numbers that `name` gives
  pub record AreCopied (old new : List (Content K V)) (own : List ℕ) (name : ℕ → ℕ) : Type 0 where
    pub closed : (m k : ℕ) (content : Content K V) → 0 < count m own → slice_get old m ≡ Some content → 0 < count k (children_of content) → 0 < count k own
    pub copied : (m : ℕ) (content : Content K V) → 0 < count m own → slice_get old m ≡ Some content → slice_get new (name m) ≡ Some (renamed name content)

  -- the nodes were copied into nodes from the front of the free list, and one of them to this number
  pub record Copies (old new : Table K V) (own : List ℕ) (node copy : ℕ) : Type 0 where
    pub name : ℕ → ℕ
    pub taken : List ℕ
    pub copies : AreCopied old.nodes new.nodes own name
    pub among : 0 < count node own
    pub copy_is : name node ≡ copy
    pub draws : Draws old new [] (map name own) taken
