-- Chains of free nodes: how each change of the slots keeps them.
use Rattle.bforest_core.proofs.Words.{eqb-false, ◌≡◌, inl, inr, ℕ, ◌+◌, ◌<◌, ◌≤◌, zero, suc, true, false, List, [], ◌∷◌, ◌++◌, length, set, nat_eq, Some, refl}
use Rattle.bforest_core.proofs.Words.{sym, ap, ◌∙◌, subst, arith, append_assoc, append-nil, list_any, IsDistinct, AllByRecursion, length-append, length_push}
use Rattle.bforest_core.proofs.Words.{slice_get_within, or_parts, eqb_tells, IsDistinct-cons, Content, Free, chain_from, IsChain, IsFreeAt, front_of, down_from}
use Rattle.bforest_core.proofs.Words.{front_of_new, fresh_nodes, false_from_ne_true}
use Rattle.bforest_core.proofs.{table.Lists.{slice_get-append_left, slice_get-set_apart, slice_get-set_same}, table.Stored.slice_get_at}

-- a number that is not in a list differs from each of its numbers
all_apart : (x ys : _) → list_any (nat_eq x) ys ≡ false → AllByRecursion (λ y. nat_eq x y ≡ false) ys
all_apart x [] off = tt
all_apart x (y ∷ ys) off = let parts = or_parts _ _ off in (parts.0, all_apart x ys parts.1)

-- a number that differs from each number of a list is not in it
pub none_apart : (x ys : _) → AllByRecursion (λ y. nat_eq x y ≡ false) ys → list_any (nat_eq x) ys ≡ false
none_apart x [] all = refl
none_apart x (y ∷ ys) all = rw all.0 (none_apart x ys all.1)

-- a list of different numbers with another one in front
pub IsDistinct-front : (x ys : _) → list_any (nat_eq x) ys ≡ false → IsDistinct nat_eq ys → IsDistinct nat_eq (x ∷ ys)
IsDistinct-front x ys off distinct = IsDistinct-cons nat_eq x ys (all_apart x ys off) distinct

-- the number of new nodes
pub length-fresh_nodes : (K V : Type 0) (first count next : _) → length (fresh_nodes {K = K} {V = V} first count next) ≡ count
length-fresh_nodes K V first zero next = refl
length-fresh_nodes K V first (suc count) next =
    omega (arith, length_push (fresh_nodes {K = K} {V = V} first count next) (Free (front_of_new first count next)), length-fresh_nodes K V first count next)

-- the number of new slots
pub length-down_from : (first count : ℕ) → length (down_from first count) ≡ count
length-down_from first zero = refl
length-down_from first (suc count) = ap suc (length-down_from _ _)

module _ {K V : Type 0} where
  -- the chain read from its first node is the chain
  pub chain_from-is : (nodes : List (Content K V)) (chain first : _) → IsChain nodes chain first → chain_from nodes (length chain) first ≡ chain
  chain_from-is nodes [] first linked = refl
  chain_from-is nodes (node ∷ rest) first linked = rw (linked.1, linked.2) (ap (λ ns. node ∷ ns) (chain_from-is _ _ _ linked.3))

  -- the front of the chain is its first node
  pub front_of-is : (nodes : List (Content K V)) (chain first : _) → IsChain nodes chain first → front_of chain ≡ first
  front_of-is nodes [] first linked = sym linked
  front_of-is nodes (node ∷ rest) first linked = sym linked.1

  -- a write to a slot that is not on the chain keeps the chain
  pub IsChain-set : (nodes : List (Content K V)) (chain first at content : _) → list_any (nat_eq at) chain ≡ false → IsChain nodes chain first → IsChain (set nodes at content) chain first
  IsChain-set nodes [] first at content off linked = linked
  IsChain-set nodes (node ∷ rest) first at content off linked = let parts = or_parts _ _ off in
      (linked.0, linked.1, slice_get-set_apart nodes at node content (λ same. eqb-false at node parts.0 (sym same)) ∙ linked.2, IsChain-set nodes rest linked.0 at content parts.1 linked.3)

  -- appending slots keeps the chain
  pub IsChain-append : (nodes more : List (Content K V)) (chain first : _) → IsChain nodes chain first → IsChain (nodes ++ more) chain first
  IsChain-append nodes more [] first linked = linked
  IsChain-append nodes more (node ∷ rest) first linked =
      (linked.0, linked.1, slice_get-append_left nodes more node _ linked.2, IsChain-append nodes more rest linked.0 linked.3)

  -- a new node in front of the chain
  pub IsChain-push : (nodes : List (Content K V)) (chain first : _) → IsChain nodes chain first → IsChain (nodes ++ Free first ∷ []) (length nodes ∷ chain) (Some (length nodes))
  IsChain-push nodes chain first linked =
      (first, refl, slice_get_at nodes (Free first) [] (length nodes) refl, IsChain-append nodes (Free first ∷ []) chain first linked)

  -- new nodes in front of the chain
  pub IsChain-fresh : (nodes : List (Content K V)) (chain first count : _) → IsChain nodes chain first → IsChain (nodes ++ fresh_nodes (length nodes) count first) (down_from (length nodes) count ++ chain) (front_of_new (length nodes) count first)
  IsChain-fresh nodes chain first zero linked = rw (append-nil nodes) linked
  IsChain-fresh nodes chain first (suc count) linked = let more = fresh_nodes (length nodes) count first in
      let size : length nodes + count ≡ length (nodes ++ more) = omega (arith, length-append nodes more, length-fresh_nodes K V (length nodes) count first) in
      let made = IsChain-push (nodes ++ more) _ _ (IsChain-fresh nodes chain first count linked) in
      rw size (subst (λ ns. IsChain ns (length (nodes ++ more) ∷ (down_from (length nodes) count ++ chain)) (Some (length (nodes ++ more)))) (append_assoc nodes more (Free (front_of_new (length nodes) count first) ∷ [])) made)

  -- a freed slot in front of the chain
  pub IsChain-freed : (nodes : List (Content K V)) (chain first at : _) → at < length nodes → list_any (nat_eq at) chain ≡ false → IsChain nodes chain first → IsChain (set nodes at (Free first)) (at ∷ chain) (Some at)
  IsChain-freed nodes chain first at within off linked =
      (first, refl, slice_get-set_same nodes at (Free first) within, IsChain-set nodes chain first at (Free first) off linked)

  -- the slots of a chain are free
  pub IsChain-free : (nodes : List (Content K V)) (chain first : _) → IsChain nodes chain first → (q : ℕ) → list_any (nat_eq q) chain ≡ true → IsFreeAt nodes q
  IsChain-free nodes [] first linked q on = cc
  IsChain-free nodes (node ∷ rest) first linked q on =
      elim (eqb_tells q node) [ inl same ↦ (linked.0, cc) | inr other ↦ IsChain-free nodes rest linked.0 linked.3 q (rw other.0 at on) ]

  -- the numbers of a chain are those of slots
  pub IsChain-below : (nodes : List (Content K V)) (chain first : _) → IsChain nodes chain first → (q : ℕ) → list_any (nat_eq q) chain ≡ true → q < length nodes
  IsChain-below nodes chain first linked q on = slice_get_within nodes q _ (IsChain-free nodes chain first linked q on).1

  -- numbers from the number of slots on are not on the chain
  pub off_chain : (nodes : List (Content K V)) (chain first q : _) → IsChain nodes chain first → length nodes ≤ q → list_any (nat_eq q) chain ≡ false
  off_chain nodes chain first q linked past = false_from_ne_true _ (λ on. omega (arith, IsChain-below nodes chain first linked q on))

  -- new nodes in front of the chain keep its numbers different
  pub IsDistinct-fresh : (nodes : List (Content K V)) (chain first count : _) → IsChain nodes chain first → IsDistinct nat_eq chain → IsDistinct nat_eq (down_from (length nodes) count ++ chain)
  IsDistinct-fresh nodes chain first zero linked distinct = distinct
  IsDistinct-fresh nodes chain first (suc count) linked distinct = let before = nodes ++ fresh_nodes (length nodes) count first in
      let size : length before ≡ length nodes + count = omega (arith, length-append nodes (fresh_nodes (length nodes) count first), length-fresh_nodes K V (length nodes) count first) in
      IsDistinct-front (length nodes + count) _ (off_chain _ _ _ _ (IsChain-fresh nodes chain first count linked) (omega arith)) (IsDistinct-fresh nodes chain first count linked distinct)
