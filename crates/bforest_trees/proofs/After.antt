-- What a call that may fail leaves.
use Rattle.bforest_trees.specs.Forest.{Forest, free_of, slots_of}
use Rattle.bforest_core.proofs.table.Chains.{length-down_from, length-fresh_nodes}
use Rattle.bforest_core.specs.Table.{down_from, free_count, fresh_nodes, front_of, reserved, slot_count, with_slots}
use Rattle.std.proofs.lemmas.Result.{err_from_is_err_and}
use Rattle.std.proofs.Common.{Err, IsErrAnd, IsOk, Ok, OnErr, OnOk, Result, ap, append-nil, arith, length-append, ◌+◌, ◌-◌, ◌∙◌, ◌≡◌, ◌≤◌, ℕ}

-- a fact that is stated for `Ok` holds of an answer that is `Ok`
pub ok-then : {A E P : Type 0} (r : Result A E) → IsOk r → OnOk r P → P
ok-then (Ok a) is h = h
ok-then (Err x) is h = absurd (cc)

-- an answer that hands an error on is that error
pub handed-on : {A E : Type 0} {r : Result A E} {e : E} → IsErrAnd r (λ y. y ≡ e) → r ≡ Err e
handed-on {r = r} is = let w = err_from_is_err_and r is in w.1 ∙ ap Err w.2

-- an answer that is `Err` is not `Ok`
pub not-ok : {A E : Type 0} (r : Result A E) (x : E) → r ≡ Err x → IsOk r → ⊥
not-ok (Ok a) x e is = absurd (cc)
not-ok (Err y) x e is = absurd (cc)

module _ {K X : Type 0} where
  -- reserving slots keeps the limit
  pub limit-reserved : {A E : Type 0} (f f' : Forest K X) (n : ℕ) (r : Result A E) → OnOk r (f' ≡ reserved f n f'.memory) → OnErr r (f' ≡ f) →
      f'.limit ≡ f.limit
  limit-reserved f f' n (Ok a) ok err = ap (λ z. z.limit) ok
  limit-reserved f f' n (Err x) ok err = ap (λ z. z.limit) err

  -- the number of free slots after reserving n
  pub free-reserved : (f : Forest K X) (n memory : ℕ) → free_of (reserved f n memory) ≡ (n - free_of f) + free_of f
  free-reserved f n memory = length-append (down_from (slot_count f) (n - free_of f)) f.chain ∙ ap (λ z. z + free_of f) (length-down_from (slot_count f) (n - free_of f))

  -- the number of slots after reserving n
  pub slots-reserved : (f : Forest K X) (n memory : ℕ) → slots_of (reserved f n memory) ≡ slots_of f + (n - free_of f)
  slots-reserved f n memory = length-append f.nodes (fresh_nodes (slot_count f) (n - free_of f) (front_of f.chain)) ∙ ap (λ z. slots_of f + z) (length-fresh_nodes K X (slot_count f) (n - free_of f) (front_of f.chain))

  -- reserving n slots changes nothing where n are free already
  pub reserved-same : (f : Forest K X) (n : ℕ) → n ≤ free_of f → reserved f n f.memory ≡ f
  reserved-same f n h = let z : n - free_count f ≡ 0 = omega (arith, h) in ap (λ d. with_slots f d f.memory) z ∙ ap (λ xs. record f { nodes = xs }) (append-nil f.nodes)
