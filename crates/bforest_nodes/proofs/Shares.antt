-- The amounts moved from the right neighbour to the left: the bounds of `balance_inner` and `balance_leaf`.
use Rattle.std.proofs.Common.{◌≡◌, ℕ, ◌+◌, ◌-◌, ◌*◌, ◌<◌, ◌≤◌, List, [], ◌∷◌, ◌++◌, length, take, drop, slice_get, Some, sym, ◌∙◌, arith}
use Rattle.std.proofs.lemmas.List.{length-take-le}
use Rattle.std.specs.Int.{div_ceil}
use Rattle.bforest_nodes.proofs.Cuts.{Balances-inner, Balances-leaf}
use Rattle.bforest_nodes.proofs.Rows.{last_front}
use Rattle.bforest_nodes.specs.Content.{Balances, Inner, Leaf}

-- what appending to a row requires
pub record Appends (len room from_len from_room moved : ℕ) : Type 0 where
  pub fits : len + moved ≤ room
  pub from_fits : from_len ≤ from_room
  pub within : moved ≤ from_len

-- there is room for one more key
pub pushes : {size : ℕ} → size + 1 ≤ 4 → size < 7
pushes few = omega arith

module _ (size right : ℕ) where
  module _ (one : size + right + 2 ≤ 8) where
    pub one_keys : size + 1 + right ≤ 7
    one_keys = omega arith

    pub one_tree : size + 1 + (right + 1) ≤ 8
    one_tree = omega arith

  module _ (most : right ≤ 7) (half : ℕ) (half_is : half ≡ div_ceil (size + right + 2) 2) (many : 8 < size + right + 2) where
    -- how many keys and children are moved
    pub from_keys : half - (size + 1) ≤ right
    from_keys = omega arith

    pub from_tree : half - (size + 1) ≤ right + 1
    from_tree = omega arith

    pub last_within : size + (half - (size + 1)) < size + 1 + (half - (size + 1))
    last_within = omega arith

    pub tree_moved : size ≤ 7 → Appends (size + 1) 8 (right + 1) 8 (half - (size + 1))
    tree_moved small = record { fits = omega arith; from_fits = omega arith; within = from_tree }

    module _ (few : size + 1 ≤ 4) where
      pub parts : size + 1 ≤ half
      parts = omega arith

      pub keys_moved : Appends (size + 1) 7 right 7 (half - (size + 1))
      keys_moved = record { fits = omega arith; from_fits = most; within = from_keys }

      module _ {K V : Type 0} (keys pushed appended rkeys rfront : List K) (tree appended_tree rtree rfront_tree : List ℕ) (crit : K)
          (keys_room : length keys ≡ 7) (tree_room : length tree ≡ 8) (rkeys_room : length rkeys ≡ 7) (rtree_room : length rtree ≡ 8) where
        pub inner_shares : (n : ℕ) (key : K)
            → take (size + 1) pushed ≡ take size keys ++ crit ∷ []
            → take (size + 1 + (half - (size + 1))) appended ≡ take (size + 1) pushed ++ take (half - (size + 1)) (take right rkeys)
            → take (size + 1 + (half - (size + 1))) appended_tree ≡ take (size + 1) tree ++ take (half - (size + 1)) (take (right + 1) rtree)
            → take (right - (half - (size + 1))) rfront ≡ drop (half - (size + 1)) (take right rkeys)
            → take (right + 1 - (half - (size + 1))) rfront_tree ≡ drop (half - (size + 1)) (take (right + 1) rtree)
            → slice_get (take (size + 1 + (half - (size + 1))) appended) (size + (half - (size + 1))) ≡ Some key
            → Balances {V = V} n (Inner (take size keys) (take (size + 1) tree)) crit (Inner (take right rkeys) (take (right + 1) rtree)) (Some key)
            (Inner (take (size + (half - (size + 1))) appended) (take (size + (half - (size + 1)) + 1) appended_tree)) (Inner (take (right - (half - (size + 1))) rfront) (take (right - (half - (size + 1)) + 1) rfront_tree))
        inner_shares n key pushed_is appended_is tree_is front_is front_tree_is found =
            let keys_len : length (take size keys) ≡ size = length-take-le size keys (omega arith) in
            let right_len : length (take right rkeys) ≡ right = length-take-le right rkeys (omega arith) in
            let tree_len : length (take (size + 1) tree) ≡ size + 1 = length-take-le (size + 1) tree (omega arith) in
            let right_tree_len : length (take (right + 1) rtree) ≡ right + 1 = length-take-le (right + 1) rtree (omega arith) in
            let within : half - (size + 1) ≤ right = from_keys in
            let part = parts in
            let behind : size + (half - (size + 1)) + 1 ≡ size + 1 + (half - (size + 1)) = omega arith in
            let rest : right - (half - (size + 1)) + 1 ≡ right + 1 - (half - (size + 1)) = omega arith in
            let whole = sym (rw pushed_is at appended_is) ∙ last_front appended (size + (half - (size + 1))) (size + 1 + (half - (size + 1))) key (omega arith) found in
            rw (behind, rest, tree_is, front_is, front_tree_is)
            (Balances-inner n (half - (size + 1)) (take size keys) (take right rkeys) (take (size + (half - (size + 1))) appended) (take (size + 1) tree) (take (right + 1) rtree) crit key (omega arith) (omega arith) (omega arith) (omega arith) (omega arith) (omega arith) whole)

-- the amounts moved between two leaves
module _ (n size right half : ℕ) (half_is : half ≡ div_ceil (size + right) 2) (small : size ≤ n) (most : right ≤ n) (many : n < size + right) where
  pub leaf_parts : 2 * size ≤ n → size ≤ half
  leaf_parts under = omega arith

  pub leaf_moved : Appends size n right n (half - size)
  leaf_moved = record { fits = omega arith; from_fits = most; within = omega arith }

  pub leaf_some : 3 ≤ n → 0 < right - (half - size)
  leaf_some least = omega arith

  pub leaf_rest : right - (half - size) ≤ n
  leaf_rest = omega arith

  module _ {K V : Type 0} (keys appended rkeys rfront : List K) (vals appended_vals rvals rfront_vals : List V) (crit key : K)
      (keys_room : length keys ≡ n) (vals_room : length vals ≡ n) (rkeys_room : length rkeys ≡ n) (rvals_room : length rvals ≡ n) where
    pub leaf_shares : 2 * size ≤ n
        → take (size + (half - size)) appended ≡ take size keys ++ take (half - size) (take right rkeys)
        → take (size + (half - size)) appended_vals ≡ take size vals ++ take (half - size) (take right rvals)
        → take (right - (half - size)) rfront ≡ drop (half - size) (take right rkeys)
        → take (right - (half - size)) rfront_vals ≡ drop (half - size) (take right rvals)
        → slice_get (take (right - (half - size)) rfront) 0 ≡ Some key
        → Balances n (Leaf (take size keys) (take size vals)) crit (Leaf (take right rkeys) (take right rvals)) (Some key)
        (Leaf (take (size + (half - size)) appended) (take (size + (half - size)) appended_vals)) (Leaf (take (right - (half - size)) rfront) (take (right - (half - size)) rfront_vals))
    leaf_shares under appended_is appended_vals_is front_is front_vals_is found =
        let keys_len : length (take size keys) ≡ size = length-take-le size keys (omega arith) in
        let vals_len : length (take size vals) ≡ size = length-take-le size vals (omega arith) in
        let right_len : length (take right rkeys) ≡ right = length-take-le right rkeys (omega arith) in
        let right_vals_len : length (take right rvals) ≡ right = length-take-le right rvals (omega arith) in
        rw (appended_is, appended_vals_is, front_is, front_vals_is)
        (Balances-leaf n (half - size) (take size keys) (take right rkeys) (take size vals) (take right rvals) crit key (keys_len ∙ sym vals_len) (right_len ∙ sym right_vals_len) (omega arith) (omega arith) (omega arith) (rw front_is at found))
