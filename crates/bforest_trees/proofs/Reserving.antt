-- What reserving slots leaves.
use Rattle.bforest_core.specs.Change.{KeepsTrees}
use Rattle.bforest_core.specs.Table.{GrowsFor, NeedsGrowth, reserved, room}
use Rattle.bforest_core.specs.declared.pool.OutOfMemory.TheVariants.{Full, Memory}
use Rattle.bforest_core.specs.declared.pool.OutOfMemory.{OutOfMemory}
use Rattle.bforest_trees.proofs.After.{free-reserved, limit-reserved, ok-then, reserved-same, slots-reserved}
use Rattle.bforest_trees.proofs.Changed.{keeps}
use Rattle.bforest_trees.specs.Calls.{Reserves}
use Rattle.bforest_trees.specs.Forest.{Forest, free_of, slots_of}
use Rattle.std.proofs.Common.{Err, IsOk, OnErr, OnOk, Result, ap, arith, ◌<◌, ◌∙◌, ◌↔◌, ◌≡◌, ◌≤◌, ℕ}
use Rattle.std.proofs.lemmas.Result.{on_ok_weaker}

module _ {K X : Type 0} (f f' : Forest K X) (n : ℕ) (r : Result (Unit {0}) OutOfMemory) where
  pub reserves : KeepsTrees f.nodes f'.nodes → OnOk r (f' ≡ reserved f n f'.memory) → GrowsFor n f f' → OnErr r (f' ≡ f) → (r ≡ Err Full) ↔ (room f < n) →
      (r ≡ Err Memory → NeedsGrowth n f) → (n ≤ free_of f → IsOk r) → Reserves f n r f'
  reserves trees ok growth err full memory enough = record {
    keeps = keeps f f' trees (limit-reserved f f' n r ok err);
    free = on_ok_weaker r (λ is. let e = ap (λ z. free_of z) is ∙ free-reserved f n f'.memory in omega (arith, e)) ok;
    grown = on_ok_weaker r (λ is low. let e = ap (λ z. free_of z) is ∙ free-reserved f n f'.memory in omega (arith, e, low)) ok;
    slots = on_ok_weaker r (λ is. ap (λ z. slots_of z) is ∙ slots-reserved f n f'.memory) ok;
    growth = growth;
    enough = enough;
    same = λ low. ok-then r (enough low) ok ∙ ap (λ m. reserved f n m) (growth.stays low) ∙ reserved-same f n low;
    refused = err;
    full = full;
    memory = memory;
  }
