-- What contracts see of a control flow graph, and its invariant.
use Rattle.bforest.specs.Entries.{cut, is_present, put, value_for}
use Rattle.bforest.specs.Set.{the_value}
use Rattle.bforest_indexed.specs.Indexed.{Indexed, count, lists}
use Rattle.std.specs.Ordering.{nat_cmp}
use Rattle.std.specs.Prelude.{List, None, Option, Some, [], get_or, length, slice_set, suc, zero, ◌≡◌, ℕ}

-- for each block its successors, and its predecessors with the branches that lead from them
pub record Graph : Type 0 where
  pub successors : List (List (ℕ × Unit {0}))
  pub predecessors : List (List (ℕ × ℕ))

-- the list of a block, which is empty where there is no such block
abbrev pub list_in : {X : Type 0} → List (List X) → ℕ → List X
list_in lists block = get_or lists block []

-- the number of blocks
abbrev pub blocks : Graph → ℕ
blocks g = length g.predecessors

-- the branch by which a block leads to another, if it does
abbrev pub branch_of : Graph → ℕ → ℕ → Option ℕ
branch_of g from to = value_for nat_cmp (list_in g.predecessors to) from

-- a block is a successor of another exactly where that is its predecessor
abbrev pub IsMirrored : Graph → Type 0
IsMirrored g =
    (from to : ℕ) → is_present nat_cmp (list_in g.successors from) to ≡ is_present nat_cmp (list_in g.predecessors to) from

-- the graph with an edge, by a branch
abbrev pub with_edge : Graph → ℕ → ℕ → ℕ → Graph
with_edge g from branch to = record {
  successors = slice_set g.successors from (put nat_cmp (list_in g.successors from) to the_value);
  predecessors = slice_set g.predecessors to (put nat_cmp (list_in g.predecessors to) from branch);
}

-- the graph without an edge
abbrev pub without_edge : Graph → ℕ → ℕ → Graph
without_edge g from to = record {
  successors = slice_set g.successors from (cut nat_cmp (list_in g.successors from) to);
  predecessors = slice_set g.predecessors to (cut nat_cmp (list_in g.predecessors to) from);
}

-- the graph with the branch of an edge moved to another edge, if there is one
abbrev pub redirected : Graph → ℕ × ℕ → ℕ × ℕ → Option ℕ → Graph
redirected g old new None = g
redirected g old new (Some branch) = without_edge (with_edge g new.0 branch new.1) old.0 old.1

-- the graph with the edges from a block to each of the first n moved to another block
abbrev pub led_over : Graph → ℕ → ℕ → ℕ → Graph
led_over g block tail zero = g
led_over g block tail (suc n) =
    redirected (led_over g block tail n) (block, n) (tail, n) (branch_of (led_over g block tail n) block n)

-- the graph with a block split: all its edges are moved to its tail, and a branch leads there
abbrev pub split_in : Graph → ℕ → ℕ → ℕ → Graph
split_in g block branch tail = with_edge (led_over g block tail (blocks g)) block branch tail

-- the graph of the successors and the predecessors of each block
abbrev pub graph_of : Indexed ℕ (Unit {0}) (Unit {0}) → Indexed ℕ ℕ (Unit {0}) → Graph
graph_of successors predecessors = record { successors = lists successors; predecessors = lists predecessors }

-- the invariant of a graph
pub record AreKept (successors : Indexed ℕ (Unit {0}) (Unit {0})) (predecessors : Indexed ℕ ℕ (Unit {0})) : Type 0 where
  pub same_blocks : count successors ≡ count predecessors
  pub mirrored : IsMirrored (graph_of successors predecessors)
