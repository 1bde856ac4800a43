use Rattle.bforest_core.proofs.Words.{◌≡◌, ℕ, zero, suc, ◌<◌, ◌↔◌, IsTrue, Bool, true, false, not, nat_eq, nat_lt, List, slice_get, Some, None, refl, sym, ap}
use Rattle.bforest_core.proofs.Words.{◌∙◌, arith, flat_map, false≢true, false_from_ne_true, not_from_false, not_from_true, get_or_past, Content, Inner, Leaf}
use Rattle.bforest_core.proofs.Words.{Free, IsFree, children_of, count, slot, is_used, is_root}
use Rattle.bforest_core.proofs.{table.Read.slot-is, pool.NodePool.is_root.Goals.{then-number-slots, else-number-slots}}
use Rattle.bforest_core.proofs.pool.NodePool.is_root.Goals as goal

-- whether nothing names the node, as a test
none_named : (n : ℕ) (child : Bool) → (IsTrue child ↔ (0 < n)) → nat_eq n 0 ≡ not child
none_named zero child h = sym (not_from_false child (false_from_ne_true child (λ yes. absurd (omega (arith, h.0 yes)))))
none_named (suc n) child h = let some : nat_eq (suc n) 0 ≡ false = grind arith in some ∙ sym (not_from_true child (h.1 (omega arith)))

module _ {K V : Type 0} where
  used_of : (content : Content K V) (free : Bool) → (IsTrue free ↔ IsFree content) → is_used content ≡ not free
  used_of (Inner keys children) free h = sym (not_from_false free (false_from_ne_true free h.0))
  used_of (Leaf keys vals) free h = sym (not_from_false free (false_from_ne_true free h.0))
  used_of (Free next) free h = sym (not_from_true free (h.1 tt))

  -- a used slot that no node names is a root
  root_if : (slots : List (Content K V)) (n : ℕ) (content : Content K V) (free child : Bool) → slice_get slots n ≡ Some content → (IsTrue free ↔ IsFree content) → (IsTrue child ↔ (0 < count n (flat_map children_of slots))) → not free ≡ true → not child ≡ is_root slots n
  unfolding is_root
  root_if slots n content free child found f c used = let b = none_named _ _ c in rw ((ap is_used (slot-is _ n found) ∙ used_of _ _ f ∙ used), b) refl

  -- a free or absent slot is no root
  unused_root : (slots : List (Content K V)) (n : ℕ) → is_used (slot slots n) ≡ false → false ≡ is_root slots n
  unfolding is_root
  unused_root slots n unused = rw unused refl

pub returns-then-not-is_free : goal.returns-then-not-is_free
returns-then-not-is_free g c = record {
  value = elim c.if-number-slots.branch [
    | then-number-slots w ↦ root_if c.args.self.now.nodes c.args.node w.node.result.now w.is_free.result c.is_child.result w.node.ensures.value w.is_free.ensures.free c.is_child.ensures (sym w.value-is ∙ c.if-not-is_free.true)
    | else-number-slots w ↦ (let past : nat_lt c.number.result c.slots.result ≡ false = grind (arith, w.if-number-slots.false) in absurd (false≢true (sym past ∙ sym w.value-is ∙ c.if-not-is_free.true)))
  ];
}

pub returns-else-not-is_free : goal.returns-else-not-is_free
returns-else-not-is_free g c = record {
  value = c.if-not-is_free.false ∙ elim c.if-number-slots.branch [
    | then-number-slots w ↦ unused_root c.args.self.now.nodes c.args.node (ap is_used (slot-is c.args.self.now.nodes c.args.node w.node.ensures.value) ∙ used_of w.node.result.now w.is_free.result w.is_free.ensures.free ∙ sym w.value-is ∙ c.if-not-is_free.false)
    | else-number-slots w ↦ unused_root c.args.self.now.nodes c.args.node (ap is_used (get_or_past c.args.self.now.nodes c.args.node (Free None) (omega arith)))
  ];
}
