-- How a `NodeData` keeps its content. No public clause cites this module.
use Rattle.bforest_nodes.specs.Content.{Content, Free, Inner, Leaf}
use Rattle.bforest_nodes.specs.declared.entries.Entries.{Entries as LeafEntries}
use Rattle.bforest_nodes.specs.declared.node.State.TheVariants.{Branch, Entries, Vacant}
use Rattle.bforest_nodes.specs.declared.node.State.{State}
use Rattle.std.specs.Prelude.{List, map, take, ◌+◌, ◌≡◌, ◌≤◌, ℕ}

module _ {K V : Type 0} {n : ℕ} where
  -- the content that a state represents
  abbrev pub content_of : State K V n → Content K V
  content_of (Branch size keys tree) = Inner (take size keys.items) (take (size + 1) tree.items)
  content_of (Entries size e) = Leaf (take size e.keys.items) (take size e.vals.items)
  content_of (Vacant next) = Free next

  -- the size is within the capacity
  abbrev pub Fits : State K V n → Type 0
  Fits (Branch size keys tree) = size ≤ 7
  Fits (Entries size e) = size ≤ n
  Fits (Vacant next) = Unit {0}

  -- the first entries are the first of these
  pub record HasFront (count : ℕ) (entries : List (K × V)) (e : LeafEntries K V n) : Type 0 where
    pub keys : take count e.keys.items ≡ map (λ entry. entry.0) (take count entries)
    pub vals : take count e.vals.items ≡ map (λ entry. entry.1) (take count entries)
