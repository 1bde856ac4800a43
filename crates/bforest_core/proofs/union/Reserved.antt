-- New slots in front of the chain leave the trees of a table unchanged.
use Rattle.bforest_core.proofs.Words.{same_from_decides, ◌≡◌, ℕ, zero, suc, ◌+◌, ◌-◌, ◌≤◌, ◌<◌, IsTrue, None, List, [], ◌∷◌, ◌++◌, length, slice_get, refl, sym}
use Rattle.bforest_core.proofs.Words.{ap, ◌∙◌, subst, length-append, arith, flat_map, get_or-append_right, slice_get-get_or, Content, Free, IsFree, Table}
use Rattle.bforest_core.proofs.Words.{down_from, fresh_nodes, front_of, free_count, slot_count, with_slots, reserved, KeepsTrees, count, numbers_of, slot}
use Rattle.bforest_core.proofs.{Words.{tree_of, is_root, Every, IsForest, IsUnion, OthersKeep}, table.Chains.{length-down_from, length-fresh_nodes}}
use Rattle.bforest_core.proofs.{table.Tables.count-append, table.Lists.slice_get-append_left, union.FreeSlots.free-same}
use Rattle.bforest_core.proofs.{union.Forests.{every-join, within-slots}, union.Exchange.{trees-same, others-keep}, rows.Counts.{once_below, count-upto}}

-- each of `n` new numbers is at least the first
every-down : (P : ℕ → Type 0) (first : ℕ) → ((m : ℕ) → first ≤ m → P m) → (n : ℕ) → Every P (down_from first n)
every-down P first f zero = tt
every-down P first f (suc n) = (f (first + n) (omega arith), every-down P first f n)

-- the new numbers are those that `n` more slots have
count-down : (m first n : ℕ) → count m (down_from first n) + once_below m first ≡ once_below m (first + n)
count-down m first zero = let e : first + 0 ≡ first = omega arith in rw e (omega arith)
count-down m first (suc n) = let e : first + suc n ≡ suc (first + n) = omega arith in let a = ap (once_below m) e in
    omega (arith, count-upto m (suc (first + n)), count-upto m (first + n), count-append, count-down m first n)

module _ {K V : Type 0} where
  -- free slots followed by one more free slot
  free_more : (xs : List (Content K V)) (next : _) → ((m : ℕ) → IsFree (slot xs m)) → (m : ℕ) → IsFree (slot (xs ++ Free next ∷ []) m)
  free_more [] next f zero = tt
  free_more [] next f (suc m) = tt
  free_more (x ∷ xs) next f zero = f zero
  free_more (x ∷ xs) next f (suc m) = free_more xs next (λ k. f (suc k)) m

-- new slots are free
fresh_free : (K V : Type 0) (first n next m : _) → IsFree (slot (fresh_nodes {K = K} {V = V} first n next) m)
fresh_free K V first zero next m = tt
fresh_free K V first (suc n) next m = free_more _ _ (fresh_free K V _ n _) m

module _ {K V : Type 0} where
  -- each slot from the new ones on is free
  past_free : (xs more : List (Content K V)) → ((m : ℕ) → IsFree (slot more m)) → (m : ℕ) → length xs ≤ m → IsFree (slot (xs ++ more) m)
  past_free xs more f m past = subst IsFree (sym (get_or-append_right xs more (length xs) m (Free None) refl past)) (f (m - length xs))

  -- the slots before the new ones are unchanged
  slots_same : (xs more : List (Content K V)) (m : ℕ) → m < length xs → slice_get (xs ++ more) m ≡ slice_get xs m
  slots_same xs more m low = let e = slice_get-get_or xs m (Free None) low in slice_get-append_left _ _ m _ e ∙ sym e

  -- a table with `n` new slots has the same trees
  with-slots-forest : {most : _} {table : Table K V} (n memory : _) {trees : _} → IsForest most table trees → IsForest most (with_slots table n memory) trees
  with-slots-forest {table} n memory {trees} f =
      let more = fresh_nodes (slot_count table) n (front_of table.chain) in let c = λ (m : ℕ). count-append m (flat_map numbers_of trees) table.chain in
      let low = within-slots f in
      let slots : length (table.nodes ++ more) ≡ length table.nodes + n = omega (arith, length-append table.nodes more, length-fresh_nodes K V (slot_count table) n (front_of table.chain)) in
      record {
        capacity = f.capacity;
        fit = f.fit;
        inside = trees-same table.nodes (table.nodes ++ more) trees (λ m some. slots_same table.nodes more m (low m (omega arith))) f.inside;
        some = f.some;
        low = f.low;
        free = every-join _ _ _ (every-down _ _ (past_free table.nodes more (fresh_free K V (slot_count table) n (front_of table.chain))) n)
            (free-same table.nodes (table.nodes ++ more) table.chain (λ m some. slots_same table.nodes more m (low m (omega arith))) f.free);
        account = λ m. omega (arith, c m, f.account m, count-down m (slot_count table) n, count-append) ∙ ap (once_below m) (sym slots);
      }

  -- the used slots are a union of trees after a reservation
  pub reserved-union : (most : ℕ) (table : Table K V) (n memory : ℕ) → IsUnion most table → IsUnion most (reserved table n memory)
  reserved-union most table n memory union = (union.0, with-slots-forest _ _ union.1)

  -- a reservation keeps the roots and their trees
  pub reserved-roots : (most : ℕ) (table : Table K V) (n memory : ℕ) → IsUnion most table → (number : ℕ) →
      (is_root (reserved table n memory).nodes number ≡ is_root table.nodes number)
      × (IsTrue (is_root table.nodes number) → tree_of (reserved table n memory).nodes number ≡ tree_of table.nodes number)
  reserved-roots most table n memory union number = let k = others-keep [] [] [] union.0 union.1 (with-slots-forest (n - free_count table) memory union.1) number refl refl in
      (same_from_decides (is_root (reserved table n memory).nodes number) (is_root table.nodes number) k.0 (λ is. is, λ is. is), k.1)

  -- a change that keeps the other trees of the table with more slots keeps those of the table
  pub reserved-then : (most : ℕ) (table : Table K V) (n memory : ℕ) (new : Table K V) (root root' : ℕ) → IsUnion most table →
      OthersKeep (reserved table n memory).nodes new.nodes root root' → OthersKeep table.nodes new.nodes root root'
  reserved-then most table n memory new root root' union keep other ne ne' = let r = reserved-roots _ _ n memory union _ in
      let k = keep other ne ne' in ((λ now. sym r.0 ∙ k.0.0 now, λ was. k.0.1 (r.0 ∙ was)), λ was. k.1 (r.0 ∙ was) ∙ r.1 was)

  -- an equal table, or one with reserved nodes, is a union of trees and keeps them
  pub same-keeps : {most : ℕ} {old : Table K V} (new : Table K V) → new ≡ old → IsUnion most old → IsUnion most new × KeepsTrees old.nodes new.nodes
  same-keeps new is union = rw is (union, λ n. (refl, λ there. refl))

  pub reserved-keeps : (most : ℕ) {old : Table K V} (new : Table K V) (n memory : ℕ) → new ≡ reserved old n memory → IsUnion most old →
      IsUnion most new × KeepsTrees old.nodes new.nodes
  reserved-keeps most {old} new n memory is union = rw is (reserved-union most old n memory union, reserved-roots most old n memory union)

  -- at least `n` nodes are free after a reservation of `n`
  pub reserved-frees : (old : Table K V) (n : ℕ) {chain : List ℕ} → chain ≡ (reserved old n old.memory).chain → n ≤ length chain
  reserved-frees old n is = omega (arith, ap length is, length-append (down_from (slot_count old) (n - free_count old)) old.chain, length-down_from)
