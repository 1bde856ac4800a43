-- What a node holds, and how each call changes it.
use Rattle.std.specs.Prelude.{◌≡◌, ℕ, ◌+◌, ◌-◌, ◌*◌, ◌/◌, ◌%◌, ◌<◌, ◌≤◌, ◌==◌, nat_lt, nat_le, List, [], ◌∷◌, ◌++◌, length, take, drop, insert, remove, slice_get, slice_set, Option, Some, None, Result, Ok, Err, option_map, if◌then◌else◌}
use Rattle.bforest_nodes.specs.declared.node.Removed.TheVariants.{Empty, Healthy, Rightmost, Underflow}
use Rattle.bforest_nodes.specs.declared.node.Removed.{Removed}

-- an inner node has keys and one child more, a leaf has keys and as many values, and a free node names the
-- next free one
pub data Content (K V : Type 0) : Type 0 where
  Inner : List K → List ℕ → Content K V
  Leaf : List K → List V → Content K V
  Free : Option ℕ → Content K V

-- how many children an inner node has at most
abbrev pub most_children : ℕ
most_children = 8

-- how many of `total` children or entries the left neighbour gets
abbrev pub left_share : ℕ → ℕ
left_share total = total - total / 2

-- how many entries a leaf may have at most: an odd number from 3 to 255
pub record IsLeafCapacity (n : ℕ) : Type 0 where
  pub least : 3 ≤ n
  pub most : n ≤ 255
  pub odd : n % 2 ≡ 1

module _ {K V : Type 0} where
  abbrev pub IsInner : Content K V → Type 0
  IsInner (Inner keys children) = Unit {0}
  IsInner (Leaf keys vals) = ⊥
  IsInner (Free next) = ⊥

  abbrev pub IsLeaf : Content K V → Type 0
  IsLeaf (Inner keys children) = ⊥
  IsLeaf (Leaf keys vals) = Unit {0}
  IsLeaf (Free next) = ⊥

  abbrev pub IsFree : Content K V → Type 0
  IsFree (Inner keys children) = ⊥
  IsFree (Leaf keys vals) = ⊥
  IsFree (Free next) = Unit {0}

  -- both are inner nodes, or both are leaves
  abbrev pub IsSameKind : Content K V → Content K V → Type 0
  IsSameKind (Inner keys children) other = IsInner other
  IsSameKind (Leaf keys vals) other = IsLeaf other
  IsSameKind (Free next) other = ⊥

  -- the children of an inner node, or the entries of a leaf
  abbrev pub entry_count : Content K V → ℕ
  entry_count (Inner keys children) = length children
  entry_count (Leaf keys vals) = length keys
  entry_count (Free next) = 0

  -- how many children or entries the node has at most, where a leaf has n
  abbrev pub entry_capacity : ℕ → Content K V → ℕ
  entry_capacity n (Inner keys children) = most_children
  entry_capacity n (Leaf keys vals) = n
  entry_capacity n (Free next) = 0

  abbrev pub keys_of : Content K V → List K
  keys_of (Inner keys children) = keys
  keys_of (Leaf keys vals) = keys
  keys_of (Free next) = []

  -- an inner node has one child more than keys, and at most 8; a leaf has as many values as keys, and at most
  -- n
  abbrev pub HasShape : ℕ → Content K V → Type 0
  HasShape n (Inner keys children) = (length children ≡ length keys + 1) × (length children ≤ 8)
  HasShape n (Leaf keys vals) = (length keys ≡ length vals) × (length keys ≤ n)
  HasShape n (Free next) = Unit {0}

  abbrev pub vals_of : Content K V → List V
  vals_of (Inner keys children) = []
  vals_of (Leaf keys vals) = vals
  vals_of (Free next) = []

  abbrev pub children_of : Content K V → List ℕ
  children_of (Inner keys children) = children
  children_of (Leaf keys vals) = []
  children_of (Free next) = []

  -- the inner node with the key inserted at this index and the child after it
  abbrev pub with_child : Content K V → ℕ → K → ℕ → Content K V
  with_child (Inner keys children) index key child =
      Inner (insert keys index key) (insert children (index + 1) child)
  with_child (Leaf keys vals) index key child = Leaf keys vals
  with_child (Free next) index key child = Free next

  -- the leaf with the entry inserted at this index
  abbrev pub with_entry : Content K V → ℕ → K → V → Content K V
  with_entry (Inner keys children) index key value = Inner keys children
  with_entry (Leaf keys vals) index key value = Leaf (insert keys index key) (insert vals index value)
  with_entry (Free next) index key value = Free next

  -- the inner node without the child at this index and without the key before it (the first key for the first
  -- child); an only child stays
  abbrev pub without_child : Content K V → ℕ → Content K V
  without_child (Inner keys children) index =
      if length children == 1 then Inner keys children
      else Inner (remove keys (index - 1)) (remove children index)
  without_child (Leaf keys vals) index = Leaf keys vals
  without_child (Free next) index = Free next

  -- a leaf whose first values are replaced by these
  abbrev pub with_vals : Content K V → List V → Content K V
  with_vals (Inner keys children) vals = Inner keys children
  with_vals (Leaf keys old) vals = Leaf keys (take (length old) (vals ++ drop (length vals) old))
  with_vals (Free next) vals = Free next

  -- a leaf with this value at the index
  abbrev pub with_value : Content K V → ℕ → V → Content K V
  with_value (Inner keys children) index value = Inner keys children
  with_value (Leaf keys vals) index value = Leaf keys (slice_set vals index value)
  with_value (Free next) index value = Free next

  -- a leaf with this key at the index
  abbrev pub with_entry_key : Content K V → ℕ → K → Content K V
  with_entry_key (Inner keys children) index key = Inner keys children
  with_entry_key (Leaf keys vals) index key = Leaf (slice_set keys index key) vals
  with_entry_key (Free next) index key = Free next

  -- an inner node with this separator at the index
  abbrev pub with_key : Content K V → ℕ → K → Content K V
  with_key (Inner keys children) index key = Inner (slice_set keys index key) children
  with_key (Leaf keys vals) index key = Leaf keys vals
  with_key (Free next) index key = Free next

  -- an inner node with this child at the index
  abbrev pub with_child_at : Content K V → ℕ → ℕ → Content K V
  with_child_at (Inner keys children) index child = Inner keys (slice_set children index child)
  with_child_at (Leaf keys vals) index child = Leaf keys vals
  with_child_at (Free next) index child = Free next

  -- the leaf without the entry at this index
  abbrev pub without_entry : Content K V → ℕ → Content K V
  without_entry (Inner keys children) index = Inner keys children
  without_entry (Leaf keys vals) index = Leaf (remove keys index) (remove vals index)
  without_entry (Free next) index = Free next

  -- the answer of putting a value in at a key, from the answer of a search for the key, where at most n
  -- entries fit: the old value, nothing if there is room for the key, or the key's place if there is none
  abbrev pub put_answer : ℕ → Content K V → Result ℕ ℕ → Result (Option V) ℕ
  put_answer n node (Ok index) = Ok (slice_get (vals_of node) index)
  put_answer n node (Err index) = if nat_lt (entry_count node) n then Ok None else Err index

  -- the node after a value was put in at a key, from the answer of a search for the key
  abbrev pub with_put : ℕ → Content K V → Result ℕ ℕ → K → V → Content K V
  with_put n node (Ok index) key value = with_value node index value
  with_put n node (Err index) key value = if nat_lt (entry_count node) n then with_entry node index key value else node

  -- the answer of taking a key out, from the answer of a search for it: its place and its value, or nothing
  abbrev pub take_answer : Content K V → Result ℕ ℕ → Option (ℕ × V)
  take_answer node (Ok index) = option_map (λ v. (index, v)) (slice_get (vals_of node) index)
  take_answer node (Err index) = None

  -- the node after a key was taken out, from the answer of a search for it
  abbrev pub with_taken : Content K V → Result ℕ ℕ → Content K V
  with_taken node (Ok index) = without_entry node index
  with_taken node (Err index) = node

  -- the first `count` children or entries
  abbrev pub first_part : ℕ → Content K V → Content K V
  first_part count (Inner keys children) = Inner (take (count - 1) keys) (take count children)
  first_part count (Leaf keys vals) = Leaf (take count keys) (take count vals)
  first_part count (Free next) = Free next

  -- the children or entries after the first `count`
  abbrev pub last_part : ℕ → Content K V → Content K V
  last_part count (Inner keys children) = Inner (drop count keys) (drop count children)
  last_part count (Leaf keys vals) = Leaf (drop count keys) (drop count vals)
  last_part count (Free next) = Free next

  -- the key between the first `count` and the rest: for a leaf the first key of the rest, for an inner node
  -- the key between two children, which is in neither part
  abbrev pub separator : ℕ → Content K V → Option K
  separator count (Inner keys children) = slice_get keys (count - 1)
  separator count (Leaf keys vals) = slice_get keys count
  separator count (Free next) = None

  -- two neighbours of one kind merged into one node, with the key between them, which a leaf does not keep
  abbrev pub joined : Content K V → K → Content K V → Content K V
  joined (Inner keys children) key (Inner more_keys more_children) =
      Inner (keys ++ key ∷ more_keys) (children ++ more_children)
  joined (Inner keys children) key (Leaf more_keys more_vals) = Free None
  joined (Inner keys children) key (Free next) = Free None
  joined (Leaf keys vals) key (Inner more_keys more_children) = Free None
  joined (Leaf keys vals) key (Leaf more_keys more_vals) = Leaf (keys ++ more_keys) (vals ++ more_vals)
  joined (Leaf keys vals) key (Free next) = Free None
  joined (Free first) key other = Free None

  -- `left` and `right` are `whole` cut after its first `count` children or entries, with the key between them
  pub record IsCut (whole : Content K V) (count : ℕ) (left : Content K V) (key : K) (right : Content K V) : Type 0 where
    pub left_is : left ≡ first_part count whole
    pub key_is : separator count whole ≡ Some key
    pub right_is : right ≡ last_part count whole

  -- how many children or entries stay in the left half of a node that was full at an insertion at this index
  abbrev pub left_half : ℕ → Content K V → ℕ → ℕ
  left_half n (Inner keys children) index = 4
  left_half n (Leaf keys vals) index = if nat_le index (n / 2) then n / 2 else (n + 1) / 2
  left_half n (Free next) index = 0

module _ {K V : Type 0} where
  -- two neighbours after balancing: one node where everything fits into one, else two, of which the left has
  -- as many as the right or one more
  pub record Balances (n : ℕ) (left : Content K V) (key : K) (right : Content K V) (new_key : Option K) (new_left new_right : Content K V) : Type 0 where
    pub merges : entry_count left + entry_count right ≤ entry_capacity n left
        → (new_key ≡ None) × (new_right ≡ joined left key right)
    pub shares : entry_capacity n left < entry_count left + entry_count right
        → (kept : K) × (new_key ≡ Some kept)
        × IsCut (joined left key right) (left_share (entry_count left + entry_count right)) new_left kept new_right
        × (joined new_left kept new_right ≡ joined left key right)

-- the answer after the entry at this index was removed, with this number left and this capacity
abbrev pub removed_answer : ℕ → ℕ → ℕ → Removed
removed_answer most index left =
    if nat_le most (2 * left) then (if index == left then Rightmost else Healthy)
    else (if nat_lt 0 left then Underflow else Empty)
