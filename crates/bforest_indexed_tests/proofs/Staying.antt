-- What stays within some numbers does so after a call that keeps all lists.
use Rattle.bforest_indexed.specs.Indexed.{Indexed, KeepsAll, StaysWithin, count}
use Rattle.std.proofs.Common.{arith, ◌≡◌, ℕ}
use Rattle.std.specs.declared.cmp.Ordering.{Ordering}

pub still-within : {K X C : Type 0} (order : C → K → K → Ordering) (m m' : Indexed K X C) (lists most_entries i : ℕ) (k : K) → KeepsAll m m' → count m' ≡ count m
    → StaysWithin (order m.order) lists most_entries m i k → StaysWithin (order m'.order) lists most_entries m' i k
still-within order m m' lists most_entries i k keeps same stays = rw keeps.same_comparator (record {
  few = omega (arith, same, stays.few);
  each = λ j. rw (keeps.lists j) (stays.each j);
  here = rw (keeps.lists i) stays.here;
})
