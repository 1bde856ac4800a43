-- What a contract states of a `NodePool`: numbered nodes, the list of the free ones, and a limit.
use Rattle.std.specs.Prelude.{◌≡◌, ℕ, ◌+◌, ◌-◌, ◌*◌, ◌<◌, ◌≤◌, true, false, List, [], ◌∷◌, ◌++◌, length, max, slice_set, nat_eq, Option, Some, None, IfSome, slice_get, slice_index_or, option_and_then, zero, suc, Bool, IsTrue, ◌↔◌, if◌then◌else◌}
use Rattle.std.specs.List.{list_any, IsDistinct}
use Rattle.bforest_nodes.specs.Content.{Content, Free, Inner, Leaf, with_child, with_entry, IsLeaf, vals_of, with_value, IsFree, IsCut, entry_count, entry_capacity, left_half, IsSameKind, Balances}
use Rattle.bforest_nodes.specs.declared.node.SplitOff.{SplitOff}

-- the content of each slot, the numbers of the free slots from the front of the free list on, the most slots
-- allowed, and for how many slots memory is held
pub record Table (K V : Type 0) : Type 0 where
  pub nodes : List (Content K V)
  pub chain : List ℕ
  pub limit : ℕ
  pub memory : ℕ

-- the front of a free list
abbrev pub front_of : List ℕ → Option ℕ
front_of [] = None
front_of (node ∷ rest) = Some node

-- the numbers of `count` slots from the first on, the greatest in front
abbrev pub down_from : ℕ → ℕ → List ℕ
down_from first zero = []
down_from first (suc count) = (first + count) ∷ down_from first count

-- the front of the free list after `count` slots from the first on were added
abbrev pub front_of_new : ℕ → ℕ → Option ℕ → Option ℕ
front_of_new first zero next = next
front_of_new first (suc count) next = Some (first + count)

module _ {K V : Type 0} where
  abbrev pub slot_count : Table K V → ℕ
  slot_count table = length table.nodes

  abbrev pub free_count : Table K V → ℕ
  free_count table = length table.chain

  -- how many nodes can be taken if there is memory for them
  abbrev pub room : Table K V → ℕ
  room table = free_count table + (table.limit - slot_count table)

  -- the number of slots once `n` nodes are free
  abbrev pub slots_with : ℕ → Table K V → ℕ
  slots_with n table = slot_count table + (n - free_count table)

  -- fewer than `n` nodes are free, the limit allows `n`, and the memory that is held is too little for the slots
  -- that are to be added
  pub record NeedsGrowth (n : ℕ) (table : Table K V) : Type 0 where
    pub scarce : free_count table < n
    pub allowed : n ≤ room table
    pub short : table.memory < slots_with n table

  -- No memory is given back. None is taken where `n` nodes were free, nor where what was held suffices for the
  -- slots that they lacked. Else it is taken for at most twice the slots that there are then, or for four.
  pub record GrowsFor (n : ℕ) (old new : Table K V) : Type 0 where
    pub grows : old.memory ≤ new.memory
    pub stays : n ≤ free_count old → new.memory ≡ old.memory
    pub suffices : slots_with n old ≤ old.memory → new.memory ≡ old.memory
    pub bounded : new.memory ≤ max old.memory (max (2 * slots_with n old) 4)

  -- the number is that of a slot that is not on the free list
  pub record IsUsed (table : Table K V) (node : ℕ) : Type 0 where
    pub within : node < slot_count table
    pub off_chain : list_any (nat_eq node) table.chain ≡ false

  -- the slot of this number is free
  abbrev pub IsFreeAt : List (Content K V) → ℕ → Type 0
  IsFreeAt nodes number = (next : Option ℕ) × (slice_get nodes number ≡ Some (Free next))

  -- the free list names different slots, all of which are free, and the slots are within the limit
  pub record IsTable (table : Table K V) : Type 0 where
    pub distinct : IsDistinct nat_eq table.chain
    pub free : (number : ℕ) → list_any (nat_eq number) table.chain ≡ true → IsFreeAt table.nodes number
    pub free_within : free_count table ≤ slot_count table
    pub slots_within : slot_count table ≤ table.limit
    pub limit_within : table.limit ≤ 4294967295

  -- the table with this content written to the slot
  abbrev pub with_node : Table K V → ℕ → Content K V → Table K V
  with_node table node content = record table { nodes = slice_set table.nodes node content }

  -- `count` free nodes from this number on, of which each names the one before, and the first names `next`
  abbrev pub fresh_nodes : ℕ → ℕ → Option ℕ → List (Content K V)
  fresh_nodes first zero next = []
  fresh_nodes first (suc count) next =
      fresh_nodes first count next ++ Free (front_of_new first count next) ∷ []

  -- the table with `count` new slots, all in front of the free list, which holds memory for `memory` slots then
  abbrev pub with_slots : Table K V → ℕ → ℕ → Table K V
  with_slots table count memory = record table {
    nodes = table.nodes ++ fresh_nodes (slot_count table) count (front_of table.chain);
    chain = down_from (slot_count table) count ++ table.chain;
    memory = memory;
  }

  -- the table in which at least n nodes are free, with slots added where fewer were, which holds memory for
  -- `memory` slots then
  abbrev pub reserved : Table K V → ℕ → ℕ → Table K V
  reserved table n memory = with_slots table (n - free_count table) memory

  -- the table without the front of its free list
  abbrev pub without_front : Table K V → List ℕ → Table K V
  without_front table [] = table
  without_front table (node ∷ rest) = record table { chain = rest }

  -- the table with this content in the front of the free list, which leaves the free list
  abbrev pub with_front : Table K V → List ℕ → Content K V → Table K V
  with_front table [] content = table
  with_front table (node ∷ rest) content =
      record table { nodes = slice_set table.nodes node content; chain = rest }

  -- the table with this node freed and in front of the free list
  abbrev pub with_freed : Table K V → ℕ → Table K V
  with_freed table node = record table {
    nodes = slice_set table.nodes node (Free (front_of table.chain));
    chain = node ∷ table.chain;
  }

  -- what an insertion into a node returns and leaves: the node, which holds keys and as many items, is written where it
  -- has room for one more, and else stays
  pub record PutsIn {X : Type 0} (kind : List K → List X → Content K V) (size : List K → List X → ℕ) (most : ℕ) (write : Content K V → Content K V) (old new : Table K V) (number : ℕ) (put : Bool) : Type 0 where
    pub room : (keys : List K) (items : List X) → slice_get old.nodes number ≡ Some (kind keys items) → IsTrue put ↔ (size keys items < most)
    pub node : (keys : List K) (items : List X) → slice_get old.nodes number ≡ Some (kind keys items) → new ≡ with_node old number (if put then write (kind keys items) else kind keys items)

  -- an entry, into a leaf with room for so many
  abbrev pub PutsEntry : ℕ → Table K V → Table K V → ℕ → ℕ → K → V → Bool → Type 0
  PutsEntry most old new number index key value =
      PutsIn Leaf (λ keys vals. length keys) most (λ node. with_entry node index key value) old new number

  -- a child and its first key, into an inner node, after the child at the index
  abbrev pub PutsChild : Table K V → Table K V → ℕ → ℕ → K → ℕ → Bool → Type 0
  PutsChild old new number index key child =
      PutsIn Inner (λ keys children. length children) 8 (λ node. with_child node index key child) old new number

  -- the slot holds a node that is not free and is full
  abbrev pub IsFullAt : ℕ → List (Content K V) → ℕ → Type 0
  IsFullAt n nodes node = IfSome (slice_get nodes node) (λ content. (¬ IsFree content) × (entry_count content ≡ entry_capacity n content))

  -- the full node is split into these parts, and its right half is in the node that was the front of the free list
  pub record IsSplitAt (n : ℕ) (old : Table K V) (left index : ℕ) (parts : SplitOff K) (new : Table K V) : Type 0 where
    pub whole : Content K V
    pub was : slice_get old.nodes left ≡ Some whole
    pub left_half_is : Content K V
    pub right_half_is : Content K V
    pub counted : parts.lhs_entries ≡ left_half n whole index
    pub all : parts.lhs_entries + parts.rhs_entries ≡ entry_count whole
    pub cut : IsCut whole parts.lhs_entries left_half_is parts.crit_key right_half_is
    pub after : new ≡ with_node (with_front old old.chain right_half_is) left left_half_is

  -- the two slots hold nonempty nodes of one kind, the first of which is at most half full
  pub record IsHalfFullAt (n : ℕ) (nodes : List (Content K V)) (left right : ℕ) : Type 0 where
    pub under : Content K V
    pub neighbour : Content K V
    pub left_is : slice_get nodes left ≡ Some under
    pub right_is : slice_get nodes right ≡ Some neighbour
    pub kind : IsSameKind under neighbour
    pub filled : 0 < entry_count under
    pub neighbour_filled : 0 < entry_count neighbour
    pub half_full : 2 * entry_count under ≤ entry_capacity n under

  -- the two neighbours are balanced
  pub record IsBalancedAt (n : ℕ) (old : Table K V) (left : ℕ) (key : K) (right : ℕ) (new_key : Option K) (new : Table K V) : Type 0 where
    pub under : Content K V
    pub neighbour : Content K V
    pub left_was : slice_get old.nodes left ≡ Some under
    pub right_was : slice_get old.nodes right ≡ Some neighbour
    pub new_left : Content K V
    pub new_right : Content K V
    pub balances : Balances n under key neighbour new_key new_left new_right
    pub after : new ≡ with_node (with_node old left new_left) right new_right

  -- the slot holds a leaf with an entry at the index
  pub record IsEntryAt (nodes : List (Content K V)) (node index : ℕ) : Type 0 where
    pub content : Content K V
    pub is : slice_get nodes node ≡ Some content
    pub leaf : IsLeaf content
    pub within : index < entry_count content

  -- the value of the entry, if present
  abbrev pub value_at : List (Content K V) → ℕ → ℕ → Option V
  value_at nodes node index = option_and_then (λ content. slice_get (vals_of content) index) (slice_get nodes node)

  -- the table with this value at the entry
  abbrev pub with_value_at : Table K V → ℕ → ℕ → V → Table K V
  with_value_at table node index value = record table {
    nodes = slice_set table.nodes node (with_value (slice_index_or table.nodes node (Free None)) index value);
  }
