-- Nodes that are cut in two and joined again.
use Rattle.std.proofs.lemmas.Grind.{common_steps}
use Rattle.std.specs.Prelude.{◌==◌}
use Rattle.std.proofs.Common.{◌≡◌, false, remove, true, ℕ, ◌+◌, ◌-◌, ◌*◌, ◌<◌, ◌≤◌, suc, List, [], ◌∷◌, ◌++◌, length, take, drop, slice_get, None, Some, refl, sym, ap, ◌∙◌, arith, append_assoc}
use Rattle.std.proofs.Math.Seq.{take-append-add}
use Rattle.std.proofs.lemmas.List.{take-append-drop, take-take, length-append, length-take}
use Rattle.bforest_nodes.proofs.Seams.{around, drop-append-add, front_at, key_at, slice_get-append-add, slice_get-drop}
use Rattle.bforest_nodes.specs.Content.{Content, Inner, Leaf, Free, IsFree, IsInner, IsLeaf, IsSameKind, entry_capacity, entry_count, left_half, joined, IsCut, Balances, left_share, without_child}

module _ {K V : Type 0} where
  -- an inner node whose first `count` keys end with the separator is cut there
  pub IsCut-inner : (keys front : List K) (children : List ℕ) (key : K) (count : ℕ) → take count keys ≡ front ++ key ∷ [] → length front + 1 ≡ count → IsCut {V = V} (Inner keys children) count (Inner front (take count children)) key (Inner (drop count keys) (drop count children))
  IsCut-inner keys front children key count e len = record {
    left_is = ap (λ ks. Inner ks (take count children)) (front_at keys front key count e len);
    key_is = key_at keys front key count e len;
    right_is = refl;
  }

  -- joining both parts of a cut gives the whole
  pub joined-cut : (whole left right : Content K V) (key : K) (count : ℕ) → 0 < count → (IsFree whole → ⊥) → IsCut whole count left key right → joined left key right ≡ whole
  joined-cut (Inner keys children) left right key count some used cut =
      let seam : suc (count - 1) ≡ count = omega arith in
      let keys_are : take (count - 1) keys ++ key ∷ drop count keys ≡ keys = rw seam at (around keys (count - 1) key cut.key_is) in
      rw (cut.left_is, cut.right_is, keys_are, take-append-drop count children)
  joined-cut (Leaf keys vals) left right key count some used cut =
      rw (cut.left_is, cut.right_is, take-append-drop count keys, take-append-drop count vals)
  joined-cut (Free next) left right key count some used cut = absurd (used tt)

  -- a node of eight children is cut after the fourth
  pub IsCut-branch : (size : ℕ) (keys right_keys : List K) (tree right_tree : List ℕ) (key : K)
      → size ≡ 7
      → slice_get (take size keys) 3 ≡ Some key
      → take (size - 4) right_keys ≡ drop 4 (take size keys)
      → take (size + 1 - 4) right_tree ≡ drop 4 (take (size + 1) tree)
      → IsCut {V = V} (Inner (take size keys) (take (size + 1) tree)) 4 (Inner (take 3 keys) (take 4 tree)) key (Inner (take (size - 4) right_keys) (take (size - 4 + 1) right_tree))
  IsCut-branch size keys right_keys tree right_tree key full found rest rest_tree =
      let left : take 3 (take size keys) ≡ take 3 keys = take-take 3 size keys (omega arith) in
      let left_tree : take 4 (take (size + 1) tree) ≡ take 4 tree = take-take 4 (size + 1) tree (omega arith) in
      let same : size - 4 + 1 ≡ size + 1 - 4 = omega arith in
      record {
        left_is = rw (left, left_tree);
        key_is = found;
        right_is = rw (same, rest, rest_tree);
      }

  -- a leaf is cut after its first `half` entries
  pub IsCut-entries : (size half : ℕ) (keys right_keys : List K) (vals right_vals : List V) (key : K)
      → half < size
      → slice_get (take size keys) half ≡ Some key
      → take (size - half) right_keys ≡ drop half (take size keys)
      → take (size - half) right_vals ≡ drop half (take size vals)
      → IsCut (Leaf (take size keys) (take size vals)) half (Leaf (take half keys) (take half vals)) key (Leaf (take (size - half) right_keys) (take (size - half) right_vals))
  IsCut-entries size half keys right_keys vals right_vals key within found rest rest_vals =
      let left : take half (take size keys) ≡ take half keys = take-take half size keys (omega arith) in
      let left_vals : take half (take size vals) ≡ take half vals = take-take half size vals (omega arith) in
      record {
        left_is = rw (left, left_vals);
        key_is = found;
        right_is = rw (rest, rest_vals);
      }

  -- the capacity of an inner node, and the size of its left half
  pub capacity_of_inner : (n : ℕ) (whole : Content K V) → IsInner whole → entry_capacity n whole ≡ 8
  capacity_of_inner n (Inner keys children) inner = refl
  capacity_of_inner n (Leaf keys vals) inner = absurd inner
  capacity_of_inner n (Free next) inner = absurd inner

  -- the kinds of two neighbours, and the size of a left one that is at most half full
  pub inner_beside : (left right : Content K V) → IsInner left → IsSameKind left right → IsInner right
  inner_beside (Inner keys children) right inner kind = kind
  inner_beside (Leaf keys vals) right inner kind = absurd inner
  inner_beside (Free next) right inner kind = absurd inner

  pub leaves_beside : (left right : Content K V) → (IsInner left → ⊥) → IsSameKind left right → IsLeaf left × IsLeaf right
  leaves_beside (Inner keys children) right other kind = absurd (other tt)
  leaves_beside (Leaf keys vals) right other kind = (tt, kind)
  leaves_beside (Free next) right other kind = absurd kind

  pub inner_under : (n : ℕ) (left : Content K V) → IsInner left → 2 * entry_count left ≤ entry_capacity n left → entry_count left ≤ 4
  inner_under n (Inner keys children) inner under = omega arith
  inner_under n (Leaf keys vals) inner under = absurd inner
  inner_under n (Free next) inner under = absurd inner

  pub leaf_under : (n : ℕ) (left : Content K V) → IsLeaf left → 2 * entry_count left ≤ entry_capacity n left → 2 * entry_count left ≤ n
  leaf_under n (Inner keys children) leaf under = absurd leaf
  leaf_under n (Leaf keys vals) leaf under = under
  leaf_under n (Free next) leaf under = absurd leaf

  pub half_of_inner : (n index : ℕ) (whole : Content K V) → IsInner whole → left_half n whole index ≡ 4
  half_of_inner n index (Inner keys children) inner = refl
  half_of_inner n index (Leaf keys vals) inner = absurd inner
  half_of_inner n index (Free next) inner = absurd inner

  -- the left neighbour takes the first children of the right one
  pub Balances-inner : (n moved : ℕ) (kl kr new : List K) (cl cr : List ℕ) (crit key : K)
      → length cl ≡ length kl + 1 → length cr ≡ length kr + 1 → length cr ≤ 8 → length cl ≤ 4 → 8 < length cl + length cr
      → length cl + moved ≡ left_share (length cl + length cr)
      → (kl ++ crit ∷ []) ++ take moved kr ≡ new ++ key ∷ []
      → Balances {V = V} n (Inner kl cl) crit (Inner kr cr) (Some key) (Inner new (cl ++ take moved cr)) (Inner (drop moved kr) (drop moved cr))
  Balances-inner n moved kl kr new cl cr crit key ls rs most under many count_is e =
      let count = left_share (length cl + length cr) in
      let keys = kl ++ crit ∷ kr in
      let front = kl ++ crit ∷ [] in
      let keys_are : keys ≡ front ++ kr = sym (append_assoc kl (crit ∷ []) kr) in
      let place : count ≡ length front + moved = omega (arith, length-append kl (crit ∷ [])) in
      let child_place : count ≡ length cl + moved = omega arith in
      let taken : take count keys ≡ new ++ key ∷ [] = rw (keys_are, place) (take-append-add front kr moved ∙ e) in
      let rest : drop count keys ≡ drop moved kr = rw (keys_are, place) (drop-append-add front kr moved) in
      let taken_children : take count (cl ++ cr) ≡ cl ++ take moved cr = rw child_place (take-append-add cl cr moved) in
      let rest_children : drop count (cl ++ cr) ≡ drop moved cr = rw child_place (drop-append-add cl cr moved) in
      let len : length new + 1 ≡ count = omega (arith, ap length e, length-append new (key ∷ []), length-append front (take moved kr), length-append kl (crit ∷ []), length-take moved kr) in
      let cut = rw (taken_children, rest, rest_children) at (IsCut-inner keys new (cl ++ cr) key count taken len) in
      record {
        merges = λ few. absurd (omega arith);
        shares = λ _. (key, refl, cut, joined-cut (Inner keys (cl ++ cr)) _ _ key count (omega arith) (λ free. free) cut);
      }

  -- the left neighbour takes the first entries of the right one
  pub Balances-leaf : (n moved : ℕ) (kl kr : List K) (vl vr : List V) (crit key : K)
      → length kl ≡ length vl → length kr ≡ length vr → n < length kl + length kr → 0 < length kr
      → length kl + moved ≡ left_share (length kl + length kr)
      → slice_get (drop moved kr) 0 ≡ Some key
      → Balances n (Leaf kl vl) crit (Leaf kr vr) (Some key) (Leaf (kl ++ take moved kr) (vl ++ take moved vr)) (Leaf (drop moved kr) (drop moved vr))
  Balances-leaf n moved kl kr vl vr crit key ls rs many some count_is first =
      let count = left_share (length kl + length kr) in
      let place : count ≡ length kl + moved = omega arith in
      let val_place : count ≡ length vl + moved = omega arith in
      let cut : IsCut (Leaf (kl ++ kr) (vl ++ vr)) count (Leaf (kl ++ take moved kr) (vl ++ take moved vr)) key (Leaf (drop moved kr) (drop moved vr)) = record {
        left_is = ap (λ ks. Leaf ks (vl ++ take moved vr)) (sym (take-append-add kl kr moved) ∙ ap (λ k. take k (kl ++ kr)) (sym place)) ∙ ap (λ vs. Leaf (take count (kl ++ kr)) vs) (sym (take-append-add vl vr moved) ∙ ap (λ k. take k (vl ++ vr)) (sym val_place));
        key_is = ap (slice_get (kl ++ kr)) place ∙ slice_get-append-add kl kr moved ∙ sym (slice_get-drop kr moved) ∙ first;
        right_is = ap (λ ks. Leaf ks (drop moved vr)) (sym (drop-append-add kl kr moved) ∙ ap (λ k. drop k (kl ++ kr)) (sym place)) ∙ ap (λ vs. Leaf (drop count (kl ++ kr)) vs) (sym (drop-append-add vl vr moved) ∙ ap (λ k. drop k (vl ++ vr)) (sym val_place));
      } in
      record {
        merges = λ few. absurd (omega arith);
        shares = λ _. (key, refl, cut, joined-cut (Leaf (kl ++ kr) (vl ++ vr)) _ _ key count (omega arith) (λ free. free) cut);
      }

  -- all entries move to the right neighbour
  pub Balances-one_leaf : (n size right_size : ℕ) (keys right_keys put : List K) (vals right_vals put_vals : List V) (crit : K) (left : Content K V)
      → size + right_size ≤ n
      → take (size + right_size) put ≡ take size keys ++ take right_size right_keys
      → take (size + right_size) put_vals ≡ take size vals ++ take right_size right_vals
      → Balances n (Leaf (take size keys) (take size vals)) crit (Leaf (take right_size right_keys) (take right_size right_vals)) None left (Leaf (take (size + right_size) put) (take (size + right_size) put_vals))
  Balances-one_leaf n size right_size keys right_keys put vals right_vals put_vals crit left few put_is put_vals_is = record {
    merges = λ _. (refl, λ i. Leaf (put_is i) (put_vals_is i));
    shares = λ many. absurd (omega (arith, length-take size keys, length-take right_size right_keys));
  }

  -- all children move to the right neighbour
  pub Balances-one_inner : (n size right_size : ℕ) (keys pushed right_keys put : List K) (tree right_tree put_tree : List ℕ) (crit : K) (left : Content K V)
      → size + right_size + 2 ≤ 8
      → take (size + 1) pushed ≡ take size keys ++ crit ∷ []
      → take (size + 1 + right_size) put ≡ take (size + 1) pushed ++ take right_size right_keys
      → take (size + 1 + (right_size + 1)) put_tree ≡ take (size + 1) tree ++ take (right_size + 1) right_tree
      → Balances {V = V} n (Inner (take size keys) (take (size + 1) tree)) crit (Inner (take right_size right_keys) (take (right_size + 1) right_tree)) None left (Inner (take (size + right_size + 1) put) (take (size + right_size + 1 + 1) put_tree))
  Balances-one_inner n size right_size keys pushed right_keys put tree right_tree put_tree crit left few pushed_is put_is put_tree_is =
      let place : size + right_size + 1 ≡ size + 1 + right_size = omega arith in
      let tree_place : size + right_size + 1 + 1 ≡ size + 1 + (right_size + 1) = omega arith in
      let keys_are = ap (λ k. take k put) place ∙ put_is ∙ ap (λ ks. ks ++ take right_size right_keys) pushed_is ∙ append_assoc (take size keys) (crit ∷ []) (take right_size right_keys) in
      let tree_is = ap (λ k. take k put_tree) tree_place ∙ put_tree_is in
      record {
        merges = λ _. (refl, λ i. Inner (keys_are i) (tree_is i));
        shares = λ many. absurd (omega (arith, length-take (size + 1) tree, length-take (right_size + 1) right_tree));
      }

  -- a child is removed, with the key before it
  pub without_child-many : (size index before : ℕ) (keys new_keys : List K) (tree new_tree : List ℕ)
      → 0 < size
      → length (take (size + 1) tree) ≡ size + 1
      → before ≡ index - 1
      → take (size + 1 - 1) new_tree ≡ remove (take (size + 1) tree) index
      → take (size - 1) new_keys ≡ remove (take size keys) before
      → ◌≡◌ {A = Content K V} (Inner (take (size - 1) new_keys) (take (size - 1 + 1) new_tree)) (without_child (Inner (take size keys) (take (size + 1) tree)) index)
  without_child-many size index before keys new_keys tree new_tree some len at tree_is keys_is =
      let place : size - 1 + 1 ≡ size + 1 - 1 = omega arith in
      let many : (length (take (size + 1) tree) == 1) ≡ false = grind (arith, common_steps) in
      rw (many, place, tree_is, keys_is, at)

  -- the only child is not removed
  pub without_child-one : (size index : ℕ) (keys : List K) (tree : List ℕ)
      → size ≤ 0
      → length (take (size + 1) tree) ≡ size + 1
      → ◌≡◌ {A = Content K V} (Inner (take size keys) (take (size + 1) tree)) (without_child (Inner (take size keys) (take (size + 1) tree)) index)
  without_child-one size index keys tree none len =
      let one : (length (take (size + 1) tree) == 1) ≡ true = grind (arith, common_steps) in
      rw one
