-- The invariant that a `NodePool` keeps of its slots, and how each change keeps it.
use Rattle.bforest_core.proofs.Words.{eqb-false, ◌≡◌, ℕ, ◌+◌, ◌-◌, ◌<◌, ◌≤◌, zero, suc, false, List, [], ◌∷◌, ◌++◌, length, set, slice_get, nat_eq, Some, None}
use Rattle.bforest_core.proofs.Words.{refl, ap, ◌∙◌, arith, length-set, sym, list_any, IsDistinct, IsSome, length-append, IsDistinct-tail, IsDistinct-head}
use Rattle.bforest_core.proofs.Words.{length-le_from_distinct_below, Content, Free, IsLeafCapacity, next_of, chain_from, IsChain, IsPool, Table, IsUsed}
use Rattle.bforest_core.proofs.table.Chains.{none_apart, IsDistinct-front, length-fresh_nodes, length-down_from, chain_from-is, IsChain-set, IsChain-below}
use Rattle.bforest_core.proofs.Words.{down_from, front_of, front_of_new, fresh_nodes, or_parts, with_node, without_front, with_front}
use Rattle.bforest_core.proofs.table.Chains.{IsChain-fresh, IsChain-freed, IsDistinct-fresh}

module _ {K V : Type 0} where
  -- a chain of `free` different free nodes makes a pool, which reads back that chain
  pub IsPool-made : {n : ℕ} (nodes : List (Content K V)) (chain first free limit : _) → IsLeafCapacity n → IsChain nodes chain first → length chain ≡ free → IsDistinct nat_eq chain → length nodes ≤ limit → limit ≤ 4294967295 →
      IsPool n nodes first free limit × (chain_from nodes free first ≡ chain)
  IsPool-made nodes chain first free limit capacity linked counted distinct slots most =
      let is : chain_from nodes free first ≡ chain = rw (← counted) (chain_from-is _ _ _ linked) in
      (record { capacity = capacity; linked = rw is linked; counted = rw is counted; distinct = rw is distinct; slots_within = slots; limit_within = most }, is)

  -- a pool with no slots
  pub IsPool-empty : {n : ℕ} (limit : ℕ) → IsLeafCapacity n → limit ≤ 4294967295 → IsPool {K = K} {V = V} n [] None 0 limit
  unfolding IsDistinct
  IsPool-empty limit capacity most = (IsPool-made [] [] None 0 limit capacity refl refl tt (omega arith) most).0

  -- a write to a slot that is not on the chain keeps the chain
  pub IsPool-set : {n : ℕ} {nodes : List (Content K V)} {first free limit : _} (at : ℕ) (content : Content K V) → list_any (nat_eq at) (chain_from nodes free first) ≡ false → IsPool n nodes first free limit →
      IsPool n (set nodes at content) first free limit × (chain_from (set nodes at content) free first ≡ chain_from nodes free first)
  IsPool-set {nodes} {first} {free} {limit} at content off pool =
      IsPool-made (set nodes at content) (chain_from nodes free first) first free limit pool.capacity (IsChain-set nodes _ first at content off pool.linked) pool.counted pool.distinct (omega (arith, length-set nodes at content)) pool.limit_within

  -- writes to two slots that are not on the chain keep the chain
  pub IsPool-set_two : {n : ℕ} (nodes : List (Content K V)) (first free limit : _) {memory left right : ℕ} (l r : Content K V) {t : Table K V} {a b : ℕ} →
      record { nodes = nodes; chain = chain_from nodes free first; limit = limit; memory = memory } ≡ t → left ≡ a → right ≡ b →
      list_any (nat_eq a) t.chain ≡ false → list_any (nat_eq b) t.chain ≡ false → IsPool n nodes first free limit → IsPool n (set (set nodes left l) right r) first free limit × (chain_from (set (set nodes left l) right r) free first ≡ chain_from nodes free first)
  IsPool-set_two nodes first free limit {left} {right} l r view left_is right_is off_a off_b pool =
      let once = IsPool-set left l (rw (← view, ← left_is) at off_a) pool in let twice = IsPool-set right r (cc) once.0 in (twice.0, cc)

  -- a used node is used in an equal table, under an equal number
  pub used_inside : {t : Table K V} {u node number : _} → u ≡ t → number ≡ node → IsUsed t node → IsUsed u number
  used_inside same number_is used = rw (same, number_is) used

  -- at most as many nodes are free as there are slots
  pub free_within : {n : _} (nodes : List (Content K V)) (first free : _) {limit : _} → IsPool n nodes first free limit → free ≤ length nodes
  free_within nodes first free pool = let most = length-le_from_distinct_below _ _ pool.distinct (IsChain-below nodes _ first pool.linked) in omega arith

  -- a used slot is freed and put in front of the chain
  pub IsPool-freed : {n : ℕ} (nodes : List (Content K V)) (first free limit at : _) → at < length nodes → list_any (nat_eq at) (chain_from nodes free first) ≡
      false → IsPool n nodes first free limit → IsPool n (set nodes at (Free first)) (Some at) (free + 1) limit × (chain_from (set nodes at (Free
      first)) (free +
      1) (Some at) ≡ at ∷ chain_from nodes free first)
  IsPool-freed nodes first free limit at within off pool =
      IsPool-made (set nodes at (Free first)) (at ∷ chain_from nodes free first) (Some at) (free + 1) limit pool.capacity (IsChain-freed nodes (chain_from nodes free first) first at within off pool.linked)
      (omega arith) (IsDistinct-front at _ off pool.distinct) (omega (arith, length-set nodes at (Free first))) pool.limit_within

  -- where a slot is used, fewer nodes are free than there are slots
  pub free_below : {n : ℕ} (nodes : List (Content K V)) (first free limit at : _) → at < length nodes → list_any (nat_eq at) (chain_from nodes free first) ≡ false → IsPool n nodes first free limit → free < length nodes
  free_below nodes first free limit at within off pool =
      omega (arith, free_within _ _ _ (IsPool-freed nodes first free limit at within off pool).0, length-set nodes at (Free first))

  -- new slots in front of the chain
  pub IsPool-grown : {n : ℕ} (nodes : List (Content K V)) (first free limit count total : _) → total ≡ count + free → length nodes + count ≤ limit → IsPool n
      nodes first free limit → IsPool n (nodes ++ fresh_nodes (length nodes) count first) (front_of_new (length nodes) count first) total limit × (chain_from
      (nodes ++ fresh_nodes (length nodes) count first) total (front_of_new (length nodes) count first) ≡ down_from (length nodes) count ++
      chain_from nodes free
      first)
  IsPool-grown nodes first free limit count total total_is within pool =
      IsPool-made (nodes ++ fresh_nodes (length nodes) count first) (down_from (length nodes) count ++ chain_from nodes free first) (front_of_new (length nodes) count first) total limit pool.capacity (IsChain-fresh nodes (chain_from nodes free first) first count pool.linked)
      (omega (arith, length-append (down_from (length nodes) count) (chain_from nodes free first), length-down_from))
      (IsDistinct-fresh nodes _ first count pool.linked pool.distinct) (omega (arith, length-append nodes (fresh_nodes (length nodes) count first), length-fresh_nodes K V (length nodes) count first)) pool.limit_within

  -- where nodes are free, the chain has a first node
  pub first_some : {n : ℕ} {nodes : List (Content K V)} (first free : _) {limit : ℕ} → 0 < free → IsPool n nodes first free limit → IsSome first
  first_some None zero some pool = absurd (omega arith)
  first_some None (suc count) some pool = absurd (omega arith)
  first_some (Some node) free some pool = refl

  -- the front of the chain is a free node
  pub front_is_free : {n : ℕ} {nodes : List (Content K V)} {node : ℕ} (free : ℕ) {limit : ℕ} → 0 < free → IsPool n nodes (Some node) free limit → (next : _) × (slice_get nodes node ≡ Some (Free next))
  front_is_free zero some pool = absurd (omega arith)
  front_is_free (suc count) some pool = (pool.linked.0, pool.linked.2)

  -- the front of the chain is taken off it
  pub IsPool-taken : {n : ℕ} {nodes : List (Content K V)} {node : ℕ} (next free : _) {limit : ℕ} → 0 < free → IsPool n nodes (Some node) free limit → slice_get nodes node ≡ Some (Free next)
      → IsPool n nodes next (free - 1) limit × (chain_from nodes free (Some node) ≡ node ∷ chain_from nodes (free - 1) next) × (list_any (nat_eq node) (chain_from nodes (free - 1) next) ≡ false)
  IsPool-taken next zero some pool found = absurd (omega arith)
  IsPool-taken {nodes} {node} next (suc count) {limit} some pool found =
      let less : suc count - 1 ≡ count = omega arith in let after = ap next_of found in let same : pool.linked.0 ≡ next = let there = pool.linked.2 in cc in
      let tail = chain_from nodes count next in let distinct : IsDistinct nat_eq (node ∷ tail) = rw after at pool.distinct in
      let counted : length tail ≡ count = omega (arith, rw after at pool.counted) in
      let made = IsPool-made nodes tail next count limit pool.capacity (rw (after, same) at pool.linked.3) counted (IsDistinct-tail nat_eq node tail distinct) pool.slots_within pool.limit_within in
      rw (less, after) (made.0, refl, none_apart _ _ (IsDistinct-head nat_eq node tail distinct))

  -- taking the front off the chain keeps the slots
  pub nodes-without_front : (table : Table K V) (chain : _) → (without_front table chain).nodes ≡ table.nodes
  nodes-without_front table [] = refl
  nodes-without_front table (node ∷ rest) = refl

  -- a number that is not on the chain is not on the chain without its front
  pub off-without_front : (table : Table K V) (chain node : _) → table.chain ≡ chain → list_any (nat_eq node) chain ≡ false → list_any (nat_eq node) (without_front table chain).chain ≡ false
  off-without_front table [] node is off = rw is off
  off-without_front table (front ∷ rest) node is off = (or_parts _ _ off).1

  -- writing the taken front of the chain
  pub with_front-is : (table : Table K V) (chain : _) {node : ℕ} (content : Content K V) → front_of chain ≡ Some node → with_front table chain content ≡ with_node (without_front table chain) node content
  with_front-is table [] content front = cc
  with_front-is table (first ∷ rest) {node} content front = let same : first ≡ node = cc in rw same

  -- a table with no slots, from its fields
  pub empty-is : (table : Table K V) (limit memory : ℕ) → table.nodes ≡ [] → table.chain ≡ [] → table.limit ≡ limit → table.memory ≡ memory →
      table ≡ record { nodes = []; chain = []; limit = limit; memory = memory }
  empty-is table limit memory nodes_are chain_is limit_is memory_is = rw (← nodes_are, ← chain_is, ← limit_is, ← memory_is) refl

-- a number that is not on the chain is not its front
pub apart_front : (chain : _) {node front : ℕ} → front_of chain ≡ Some front → list_any (nat_eq node) chain ≡ false → front ≡ node → ⊥
apart_front [] is off e = cc
apart_front (first ∷ rest) {node} {front} is off e = let same : first ≡ front = cc in eqb-false node first (or_parts _ _ off).0 (sym (same ∙ e))
