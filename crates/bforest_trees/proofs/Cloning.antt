-- What a copy of a tree answers and leaves, as one record.
use Rattle.bforest_core.specs.Change.{PlantsTree, node_count}
use Rattle.bforest_core.specs.Levels.{flat, sizes_of as tree_sizes}
use Rattle.bforest_core.specs.Trees.{is_root, tree_of}
use Rattle.bforest_core.specs.declared.pool.OutOfMemory.TheVariants.{Full, Memory}
use Rattle.bforest_core.specs.declared.pool.OutOfMemory.{OutOfMemory}
use Rattle.bforest_core.proofs.table.Allocating.{grows-not}
use Rattle.bforest_nodes.specs.Entries.{IsIncreasing}
use Rattle.bforest_trees.proofs.Changed.{becomes-new, list-root, sizes-new, sizes-root, takes}
use Rattle.bforest_trees.proofs.Cutting.{becomes-same}
use Rattle.bforest_trees.specs.Calls.{Clones}
use Rattle.bforest_trees.specs.Forest.{Becomes, Forest, IsTooMany, NeedsGrowth, Takes, free_of, list_at, list_of, nodes_at, sizes_at}
use Rattle.std.proofs.Common.{Err, IsOk, IsTrue, None, Ok, Result, Some, [], ap, arith, refl, subst, sym, ◌∙◌, ◌↔◌, ◌≡◌, ◌≢◌, ◌≤◌, ℕ}
use Rattle.std.proofs.lemmas.Bool.{false≢true}

module _ {K X : Type 0} (f : Forest K X) where
  -- nothing is copied of an empty handle
  pub clones-none : Clones f None (Ok None) f
  clones-none = record {
    copied = becomes-same f None tt;
    sizes = refl;
    increasing = λ order up. up;
    stays = tt;
    same_list = refl;
    same_sizes = refl;
    account = record { slots = omega arith; free = omega arith; memory = grows-not refl };
    full = (λ bad. absurd (cc), λ bad. absurd (omega (arith, bad)));
    memory = λ bad. absurd (cc);
    succeeds = λ enough. refl;
    refused = tt;
  }

  module _ (n : ℕ) (live : list_at f n ≢ []) where
    module _ {f' : Forest K X} {copy : ℕ} (b : Becomes f None f' (Some copy) (list_at f n)) (sizes : sizes_at f' copy ≡ sizes_at f n) where
      -- the copy has a number that was no tree's
      apart : Some n ≢ Some copy
      apart e = live (ap (list_of f) e ∙ b.fresh (λ d. absurd (cc)))

      -- the tree of a number was copied
      clones-made : Takes (nodes_at f n) f f' → ¬ IsTooMany (nodes_at f n) f → Clones f (Some n) (Ok (Some copy)) f'
      clones-made account low = let none : Some n ≢ None = λ e. absurd (cc) in let same = b.others n none apart in record {
        copied = b;
        sizes = sizes;
        increasing = λ order up. subst (IsIncreasing order) (sym b.list) up;
        stays = subst (λ l. l ≢ []) (sym same) live;
        same_list = same;
        same_sizes = b.others_sizes n none apart;
        account = account;
        full = (λ bad. absurd (cc), λ bad. absurd (low bad));
        memory = λ bad. absurd (cc);
        succeeds = λ enough. refl;
        refused = tt;
      }

    module _ (root : IsTrue (is_root f.nodes n)) where
      -- how many nodes the tree of a root has
      nodes-root : nodes_at f n ≡ node_count (tree_sizes (tree_of f.nodes n))
      nodes-root = ap node_count (sizes-root f n root)

      -- the tree under a root was copied
      pub clones-ok : {most : ℕ} {f' : Forest K X} {copy : ℕ} → PlantsTree most f f' copy (flat (tree_of f.nodes n).leaves) (tree_sizes (tree_of f.nodes n))
          → ¬ IsTooMany (node_count (tree_sizes (tree_of f.nodes n))) f → Clones f (Some n) (Ok (Some copy)) f'
      clones-ok {most} {f'} {copy} p low =
          let b = becomes-new most f f' copy _ _ p.fresh p.changes in
          clones-made (subst (λ es. Becomes f None f' (Some copy) es) (sym (list-root f n root)) b) (sizes-new most f f' copy copy _ _ p.changes ∙ sym (sizes-root f n root))
          (subst (λ d. Takes d f f') (sym nodes-root) (takes _ f f' p.takes)) (λ bad. low (subst (λ d. IsTooMany d f) nodes-root bad))

      -- the copy was refused
      pub clones-err : {refused : OutOfMemory} → (◌≡◌ {A = Result ℕ OutOfMemory} (Err refused) (Err Full)) ↔ IsTooMany (node_count (tree_sizes (tree_of f.nodes n))) f
          → (◌≡◌ {A = Result ℕ OutOfMemory} (Err refused) (Err Memory) → NeedsGrowth (node_count (tree_sizes (tree_of f.nodes n))) f)
          → (node_count (tree_sizes (tree_of f.nodes n)) ≤ free_of f → IsOk {T = ℕ} (Err refused)) → Clones f (Some n) (Err refused) f
      clones-err {refused} full memory enough = record {
        copied = tt;
        sizes = tt;
        increasing = tt;
        stays = live;
        same_list = refl;
        same_sizes = refl;
        account = tt;
        full = (λ e. subst (λ d. IsTooMany d f) (sym nodes-root) (full.0 (let same : refused ≡ Full = cc in ap Err same)), λ low. let same = full.1 (subst (λ d. IsTooMany d f) nodes-root low) in cc);
        memory = λ e. subst (λ d. NeedsGrowth d f) (sym nodes-root) (memory (let same : refused ≡ Memory = cc in ap Err same));
        succeeds = λ low. absurd (false≢true (enough (subst (λ d. d ≤ free_of f) nodes-root low)));
        refused = refl;
      }
