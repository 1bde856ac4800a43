-- A table without trees, the first entry of a tree, and the properties of the tree under a root.
use Rattle.bforest_core.proofs.Words.{◌≡◌, ℕ, ◌-◌, IsTrue, Some, [], ◌∷◌, length, refl, sym, ap, ◌∙◌, subst, length-append, arith, IsLeafCapacity, Leaf}
use Rattle.bforest_core.proofs.Words.{Table, front_of, free_count, slot_count, fresh_nodes, down_from, with_front, reserved, node, Tree, count, is_root}
use Rattle.bforest_core.proofs.Words.{Draws, List, ◌++◌, TakesNodes, drop, drop_at, flat, node_count, numbers_of, root_of, sizes_of}
use Rattle.bforest_core.proofs.union.Account.{length-same, nodes-count}
use Rattle.bforest_core.specs.Change.{PlantsTree}
use Rattle.bforest_core.proofs.{Words.{GrowsFor, IsUnion, Plants}, table.Tables.count-same, union.Forests.{once, tree-back, within-slots}}
use Rattle.bforest_core.proofs.{table.Chains.{length-fresh_nodes, length-down_from}, union.Reserved.{reserved-union, reserved-then, reserved-roots}}
use Rattle.bforest_core.proofs.{rows.Counts.past-none, union.Roots.{one_root, one_tree}}
use Rattle.bforest_core.proofs.{union.Exchange.{IsPlanted, Traded, exchange-trees, others-keep, roots-gone, traded}, table.Trading.{apart_from, takes}}

-- a chain with a front is not empty
front_rest : {m : ℕ} (chain : _) → front_of chain ≡ Some m → (rest : _) × (chain ≡ m ∷ rest)
front_rest [] e = absurd cc
front_rest {m} (x ∷ rest) e = (rest, (let same : x ≡ m = cc in ap (λ z. z ∷ rest) same))

-- a table without slots has no root
pub no-root : (K V : Type 0) (number : ℕ) → ¬ IsTrue (is_root {K = K} {V = V} [] number)
unfolding is_root
no-root K V number is = absurd cc

module _ {K V : Type 0} where
  -- a table without slots is a union of no trees
  pub IsUnion-empty : {most : ℕ} (n memory : ℕ) → IsLeafCapacity most →
      IsUnion {K = K} {V = V} most (record { nodes = []; chain = []; limit = n; memory = memory })
  IsUnion-empty n memory capacity = ([], record { capacity = capacity; fit = tt; inside = tt; some = tt; low = tt; free = tt; account = λ m. sym (past-none m 0 (omega arith)) })

  -- `alloc_node` leaves a tree of one leaf with one entry under a number that had no tree, and takes one node
  pub planted-alloc : (most : ℕ) {old : Table K V} (new : Table K V) {number : ℕ} (memory : ℕ) (key : K) (value : V) → IsUnion most old →
      front_of (reserved old 1 memory).chain ≡ Some number →
      new ≡ with_front (reserved old 1 memory) (reserved old 1 memory).chain (Leaf (key ∷ []) (value ∷ [])) → GrowsFor 1 old new →
      Plants most old new number (key, value)
  planted-alloc most {old} new {number} memory key value union front is growth =
      let mid = reserved old 1 memory in let u = reserved-union most old 1 _ union in let f = front_rest mid.chain front in
      let t = takes mid new number (Leaf (key ∷ []) (value ∷ [])) front is (within-slots u.1 number (omega (arith, ap (count number) f.1, count-same number f.0))) in
      let tree : Tree K V = record { leaves = node number ((key, value) ∷ []) ∷ []; above = [] } in let p : IsPlanted most new.nodes tree = record {
        fit = record { leaves_fit = (omega arith, omega arith, tt); stacked = refl; topped = tt };
        inside = record { leaves_in = (t.here, tt); rows_in = tt };
        some = omega arith;
        low = omega arith;
      } in
      let moved = traded new.chain u.1.free (λ m. omega (arith, once u.1 m)) (sym t.chain_is) refl t.draws in
      let g = exchange-trees [] [] (tree ∷ []) u.0 u.1 (p, tt) (subst (λ z. Traded mid new [] z) (one_tree tree) moved) in
      let back = tree-back [] tree u.0 number g refl refl in let made = length-fresh_nodes K V (slot_count old) (1 - free_count old) (front_of old.chain) in
      let slots = length-append old.nodes (fresh_nodes (slot_count old) (1 - free_count old) (front_of old.chain)) in
      let chains = length-append (down_from (slot_count old) (1 - free_count old)) old.chain in
      let downs = length-down_from (slot_count old) (1 - free_count old) in record {
        changes = record {
          union = (tree ∷ u.0, g);
          root_is = back.1;
          list_is = cc (back.0);
          sizes_are = cc (back.0);
          others = reserved-then most old 1 memory new number number union (λ other ne ne'. others-keep [] [] (tree ∷ []) u.0 u.1 g other refl (apart_from other number ne));
          old_gone = λ ne. absurd (ne refl);
          new_came = λ ne. absurd (ne refl);
          limit_is = t.limit_is;
        };
        fresh = λ there. roots-gone [] (tree ∷ []) [] u.0 g u.1 number (one_root number) refl ((reserved-roots most old 1 memory union number).0 ∙ there);
        takes = record { slots = omega arith; free = omega (arith, ap length t.chain_is); chain_is = cc (t.chain_is); memory = growth };
      }

  -- a tree whose nodes were drawn from the front of the free list, once so many were free, is one more tree of the table
  pub planted-tree : (most : ℕ) (old : Table K V) {new : Table K V} (n memory : ℕ) {number : ℕ} (tree : Tree K V) {taken : List ℕ} → IsUnion most old →
      Draws (reserved old n memory) new [] (numbers_of tree) taken → IsPlanted most new.nodes tree → n ≡ node_count (sizes_of tree) → root_of tree ≡ number → GrowsFor n old new →
      PlantsTree most old new number (flat tree.leaves) (sizes_of tree)
  planted-tree most old {new} n memory {number} tree {taken} union draws p n_is root_is growth =
      let mid = reserved old n memory in let u = reserved-union most old n memory union in let root = root_of tree in
      let moved = traded new.chain u.1.free (λ m. omega (arith, once u.1 m)) (sym draws.chain_is) refl draws in
      let g = exchange-trees [] [] (tree ∷ []) u.0 u.1 (p, tt) (subst (λ z. Traded mid new [] z) (one_tree tree) moved) in
      let back = tree-back [] tree u.0 root g refl refl in let made = length-fresh_nodes K V (slot_count old) (n - free_count old) (front_of old.chain) in
      let slots = length-append old.nodes (fresh_nodes (slot_count old) (n - free_count old) (front_of old.chain)) in
      let chains = length-append (down_from (slot_count old) (n - free_count old)) old.chain in
      let downs = length-down_from (slot_count old) (n - free_count old) in
      let many : length taken ≡ n = omega (arith, length-same (numbers_of tree) (taken ++ []) draws.numbers_are, length-append taken [], nodes-count tree) in
      let takes : TakesNodes n old new = record {
        slots = omega (arith, draws.slots_are);
        free = omega (arith, ap length draws.chain_is, length-append taken new.chain);
        chain_is = sym (drop_at taken new.chain n many) ∙ ap (drop n) draws.chain_is;
        memory = growth;
      } in subst (λ z. PlantsTree most old new z (flat tree.leaves) (sizes_of tree)) root_is (record {
        changes = record {
          union = (tree ∷ u.0, g);
          root_is = back.1;
          list_is = cc (back.0);
          sizes_are = cc (back.0);
          others = reserved-then most old n memory new root root union (λ other ne ne'. others-keep [] [] (tree ∷ []) u.0 u.1 g other refl (apart_from other root ne));
          old_gone = λ ne. absurd (ne refl);
          new_came = λ ne. absurd (ne refl);
          limit_is = draws.limit_is;
        };
        fresh = λ there. roots-gone [] (tree ∷ []) [] u.0 g u.1 root (one_root root) refl ((reserved-roots most old n memory union root).0 ∙ there);
        takes = rw (← n_is) takes;
      })
