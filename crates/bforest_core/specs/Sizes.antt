-- The sizes of a tree's nodes, level by level, the leaves first: how an insertion and a removal at a place
-- change them, and how many nodes an insertion needs. Functions of sizes and a place alone.
use Rattle.bforest_core.specs.Levels.{half_of}
use Rattle.std.specs.List.{sum_by}
use Rattle.std.specs.Prelude.{◌≡◌, ◌≤◌, ℕ, zero, suc, ◌+◌, ◌*◌, ◌-◌, ◌/◌, nat_lt, nat_le, Bool, true, false, if◌then◌else◌, Option, None, Some, option_map, List, [], ◌∷◌, length, remove}

-- prepends a node of this size to a change of one level, which is the index of the split or removed entry of
-- the level above, if any, and the new sizes
abbrev pub past : ℕ → Option ℕ × List ℕ → Option ℕ × List ℕ
past size change = (option_map (λ index. suc index) change.0, size ∷ change.1)

-- an insertion at a place of the leaves, in the leftmost leaf that ends at or after the place: a full leaf is
-- split in two
abbrev pub leaf_gain : ℕ → ℕ → List ℕ → Option ℕ × List ℕ
leaf_gain most place [] = (None, [])
leaf_gain most place (size ∷ after) =
    if nat_le place size then (if nat_lt size most then (None, suc size ∷ after) else (Some 0, (most + 1) / 2 ∷ (most + 1) / 2 ∷ after))
    else past size (leaf_gain most (place - size) after)

-- a new child after the child at a place: a full node is split in two, of 5 and 4 children where the place is
-- among its first 4, else of 4 and 5
abbrev pub inner_gain : ℕ → List ℕ → Option ℕ × List ℕ
inner_gain place [] = (None, [])
inner_gain place (size ∷ after) =
    if nat_lt place size then (if nat_lt size 8 then (None, suc size ∷ after) else (Some 0, (if nat_lt place 4 then 5 ∷ 4 ∷ after else 4 ∷ 5 ∷ after)))
    else past size (inner_gain (place - size) after)

-- the levels above one in which this node, if any, was split
abbrev pub gain_above : Option ℕ → List (List ℕ) → List (List ℕ)
gain_above None levels = levels
gain_above (Some place) [] = (2 ∷ []) ∷ []
gain_above (Some place) (level ∷ levels) =
    (inner_gain place level).1 ∷ gain_above (inner_gain place level).0 levels

-- the sizes after an insertion at a place, where leaves have at most n
abbrev pub growth : ℕ → ℕ → List (List ℕ) → List (List ℕ)
growth n place [] = (1 ∷ []) ∷ []
growth n place (leaves ∷ levels) = (leaf_gain n place leaves).1 ∷ gain_above (leaf_gain n place leaves).0 levels

-- a node that lost an entry, before these nodes: whether it is removed, and the sizes from it on. An empty
-- one is removed; one less than half full is merged into the next if everything fits there, else the two share
abbrev pub rebalanced : ℕ → ℕ → List ℕ → Bool × List ℕ
rebalanced most zero after = (true, after)
rebalanced most (suc left) [] = (false, suc left ∷ [])
rebalanced most (suc left) (next ∷ after) =
    if nat_lt (2 * suc left) most then (if nat_le (suc left + next) most then (true, (suc left + next) ∷ after) else (false, ((suc left + next) - (suc left + next) / 2) ∷ (suc left + next) / 2 ∷ after))
    else (false, suc left ∷ next ∷ after)

-- a rebalancing of a level's first node as a change of the level
abbrev pub at_front : Bool × List ℕ → Option ℕ × List ℕ
at_front outcome = ((if outcome.0 then Some 0 else None), outcome.1)

-- a level after the removal of the entry at a place, and of its node where rebalancing removes that
abbrev pub loss : ℕ → ℕ → List ℕ → Option ℕ × List ℕ
loss most place [] = (None, [])
loss most place (size ∷ after) =
    if nat_lt place size then at_front (rebalanced most (size - 1) after) else past size (loss most (place - size) after)

-- the levels above one from which this node, if any, was removed
abbrev pub loss_above : Option ℕ → List (List ℕ) → List (List ℕ)
loss_above None levels = levels
loss_above (Some place) [] = []
loss_above (Some place) (level ∷ levels) = (loss 8 place level).1 ∷ loss_above (loss 8 place level).0 levels

-- the levels up to the first of one node, since a root with a single child is discarded; none without leaves
abbrev pub trimmed : List (List ℕ) → List (List ℕ)
trimmed [] = []
trimmed ([] ∷ levels) = []
trimmed ((size ∷ []) ∷ levels) = (size ∷ []) ∷ []
trimmed ((size ∷ next ∷ after) ∷ levels) = (size ∷ next ∷ after) ∷ trimmed levels

-- the sizes after a removal at a place, where leaves have at most n
abbrev pub shrink : ℕ → ℕ → List (List ℕ) → List (List ℕ)
shrink n place [] = []
shrink n place (leaves ∷ levels) = trimmed ((loss n place leaves).1 ∷ loss_above (loss n place leaves).0 levels)

-- the sizes after the leaf behind the one with this index went, with all its entries
abbrev pub without_next : ℕ → List (List ℕ) → List (List ℕ)
without_next index [] = []
without_next index (leaves ∷ levels) = trimmed (remove leaves (suc index) ∷ loss_above (Some index) levels)

-- the first nodes of a level, which hold so many entries together: the last keeps what is left for it
abbrev pub front : ℕ → List ℕ → List ℕ
front zero level = []
front (suc kept) [] = []
front (suc kept) (size ∷ after) =
    if nat_lt size (suc kept) then size ∷ front (suc kept - size) after else suc kept ∷ []

-- the levels over the first entries alone, so many
abbrev pub fronts : ℕ → List (List ℕ) → List (List ℕ)
fronts kept [] = []
fronts kept (level ∷ levels) = front kept level ∷ fronts (length (front kept level)) levels

-- the sizes after all entries from a place on were removed with the nodes behind them
abbrev pub truncated : ℕ → List (List ℕ) → List (List ℕ)
truncated place levels = trimmed (fronts place levels)

-- the nodes of a level behind its first entries, so many: the first keeps what is left of it
abbrev pub back : ℕ → List ℕ → List ℕ
back zero level = level
back (suc gone) [] = []
back (suc gone) (size ∷ after) =
    if nat_lt (suc gone) size then (size - suc gone) ∷ after else back (suc gone - size) after

-- the levels over the entries behind the first, so many
abbrev pub backs : ℕ → List (List ℕ) → List (List ℕ)
backs gone [] = []
backs gone (level ∷ levels) = back gone level ∷ backs (length level - length (back gone level)) levels

-- A level whose first node is at most half full, with that node filled: it is merged into the second where everything fits there, else the
-- two share.
abbrev pub filled : ℕ → List ℕ → List ℕ
filled most [] = []
filled most (size ∷ []) = size ∷ []
filled most (size ∷ next ∷ after) =
    if nat_lt most (2 * size) then size ∷ next ∷ after
    else (if nat_le (size + next) most then (size + next) ∷ after else ((size + next) - (size + next) / 2) ∷ (size + next) / 2 ∷ after)

-- a level whose first node has so many children less
abbrev pub lessened : ℕ → List ℕ → List ℕ
lessened lost [] = []
lessened lost (size ∷ after) = (size - lost) ∷ after

-- the levels over one that lost so many nodes, with the first node of each filled
abbrev pub filled_above : ℕ → List (List ℕ) → List (List ℕ)
filled_above lost [] = []
filled_above lost (level ∷ levels) = lessened lost (filled 8 level) ∷ filled_above (length level - length (filled 8 level)) levels

-- the levels with the first node of each filled, where leaves have at most `most`
abbrev pub filled_levels : ℕ → List (List ℕ) → List (List ℕ)
filled_levels most [] = []
filled_levels most (leaves ∷ levels) = filled most leaves ∷ filled_above (length leaves - length (filled most leaves)) levels

-- the sizes of the entries behind the first, so many, as a tree of their own: the tree as it is where none is in front
abbrev pub detached : ℕ → ℕ → List (List ℕ) → List (List ℕ)
detached most zero levels = levels
detached most (suc gone) levels = trimmed (filled_levels most (backs (suc gone) levels))

-- how many nodes the split of this node, if any, takes: one for it, one for each node above that is split
-- too, and one for a new root
abbrev pub need_above : Option ℕ → List (List ℕ) → ℕ
need_above None levels = 0
need_above (Some place) [] = 2
need_above (Some place) (level ∷ levels) = suc (need_above (inner_gain place level).0 levels)

-- how many nodes an insertion at a place needs, where leaves have at most n
abbrev pub need : ℕ → ℕ → List (List ℕ) → ℕ
need n place [] = 1
need n place (leaves ∷ levels) = need_above (leaf_gain n place leaves).0 levels

-- the least size of a node before these: only the rightmost may be less than half full
abbrev pub least_size : ℕ → List ℕ → ℕ
least_size half [] = 1
least_size half (next ∷ rest) = half

-- no node of the level exceeds its capacity, and each but the last is at least half full
abbrev pub IsFitLevel : ℕ → ℕ → List ℕ → Type 0
IsFitLevel half most [] = Unit {0}
IsFitLevel half most (size ∷ rest) = (least_size half rest ≤ size) × (size ≤ most) × IsFitLevel half most rest

-- the levels above one of `count` nodes, which are the children of the next level, and so on up to one root
abbrev pub IsFitAbove : ℕ → List (List ℕ) → Type 0
IsFitAbove count [] = count ≡ 1
IsFitAbove count (level ∷ levels) =
    (2 ≤ count) × (sum_by (λ size. size) level ≡ count) × IsFitLevel 4 8 level × IsFitAbove (length level) levels

-- the levels of a tree with this number of entries, whose leaves have at most `most`; without an entry there
-- is no level
abbrev pub IsFitFor : ℕ → ℕ → List (List ℕ) → Type 0
IsFitFor most entries [] = entries ≡ 0
IsFitFor most entries (leaves ∷ levels) =
    (sum_by (λ size. size) leaves ≡ entries) × IsFitLevel (half_of most) most leaves × IsFitAbove (length leaves) levels
