-- What a tree of entries in order answers and leaves, as one record.
use Rattle.bforest_core.specs.Change.{PlantsTree, node_count}
use Rattle.bforest_core.specs.Packed.{ArePacked, fewest}
use Rattle.bforest_core.specs.declared.pool.OutOfMemory.TheVariants.{Full, Memory}
use Rattle.bforest_core.specs.declared.pool.OutOfMemory.{OutOfMemory}
use Rattle.bforest_core.proofs.table.Allocating.{grows-not}
use Rattle.bforest_core.proofs.union.Needs.{fewest-least, fewest-none}
use Rattle.bforest_nodes.specs.Entries.{IsIncreasing}
use Rattle.bforest_trees.proofs.Changed.{becomes-new, sizes-new, takes}
use Rattle.bforest_trees.proofs.Cutting.{becomes-same}
use Rattle.bforest_trees.proofs.Fits.{fit-at}
use Rattle.bforest_core.specs.Sizes.{IsFitFor}
use Rattle.bforest_trees.specs.Calls.{Loads}
use Rattle.bforest_trees.specs.Forest.{Forest, IsTooMany, NeedsGrowth, Takes, free_of, sizes_of}
use Rattle.std.proofs.Common.{Err, IsOk, List, None, Ok, Result, Some, [], ap, arith, length, refl, subst, sym, ◌∙◌, ◌↔◌, ◌≡◌, ◌≤◌, ◌<◌, ◌∷◌, ℕ}
use Rattle.std.proofs.lemmas.Bool.{false≢true}

module _ {K X : Type 0} (most : ℕ) (f : Forest K X) where
  -- no entry takes no node
  pub loads-none : (es : List (K × X)) → length es ≡ 0 → Loads most f es (Ok None) f
  loads-none [] is = let none = fewest-none most in record {
    loaded = becomes-same f None tt;
    packed = tt;
    fit = is;
    nodes = sym none;
    least = λ sizes fit. omega (arith, none);
    increasing = λ order up. up;
    account = rw none (record { slots = omega arith; free = omega arith; memory = grows-not refl });
    full = (λ bad. absurd (cc), λ bad. absurd (omega (arith, bad, none)));
    memory = λ bad. absurd (cc);
    succeeds = λ enough. refl;
    refused = tt;
  }
  loads-none (e ∷ es) is = absurd (omega (arith, is))

  -- the tree was made
  pub loads-ok : 0 < most → (es : List (K × X)) {f' : Forest K X} {root : ℕ} →
      (sizes : List (List ℕ)) × ArePacked most sizes × (node_count sizes ≡ fewest most (length es)) × PlantsTree most f f' root es sizes
      → ¬ IsTooMany (fewest most (length es)) f → Loads most f es (Ok (Some root)) f'
  loads-ok one es {f'} {root} (sizes, packed, count, p) low = let b = becomes-new most f f' root es sizes p.fresh p.changes in
      let are = sizes-new most f f' root root es sizes p.changes in record {
        loaded = b;
        packed = rw are packed;
        fit = subst (λ (l : List (K × X)). IsFitFor most (length l) (sizes_of f' (Some root))) b.list (fit-at most f' p.changes.union root);
        nodes = ap node_count are ∙ count;
        least = fewest-least most (length es) one;
        increasing = λ order up. subst (IsIncreasing order) (sym b.list) up;
        account = subst (λ d. Takes d f f') count (takes _ f f' p.takes);
        full = (λ bad. absurd (cc), λ bad. absurd (low bad));
        memory = λ bad. absurd (cc);
        succeeds = λ enough. refl;
        refused = tt;
      }

  -- the load was refused
  pub loads-err : 0 < most → (es : List (K × X)) {refused : OutOfMemory} → (◌≡◌ {A = Result ℕ OutOfMemory} (Err refused) (Err Full)) ↔ IsTooMany (fewest most (length es)) f
      → (◌≡◌ {A = Result ℕ OutOfMemory} (Err refused) (Err Memory) → NeedsGrowth (fewest most (length es)) f)
      → (fewest most (length es) ≤ free_of f → IsOk {T = ℕ} (Err refused)) → Loads most f es (Err refused) f
  loads-err one es {refused} full memory enough = record {
    loaded = tt;
    packed = tt;
    fit = tt;
    nodes = tt;
    least = fewest-least most (length es) one;
    increasing = tt;
    account = tt;
    full = (λ e. full.0 (let same : refused ≡ Full = cc in ap Err same), λ low. let same = full.1 low in cc);
    memory = λ e. memory (let same : refused ≡ Memory = cc in ap Err same);
    succeeds = λ low. absurd (false≢true (enough low));
    refused = refl;
  }
