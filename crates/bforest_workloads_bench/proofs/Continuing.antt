-- A cursor that continues another over several steps.
use Rattle.bforest.specs.Cursor as map
use Rattle.bforest.specs.SetCursor as set
use Rattle.bforest.specs.declared.map_cursor_mut.MapCursorMut.{MapCursorMut}
use Rattle.bforest.specs.declared.set_cursor.SetCursor.{SetCursor}
use Rattle.bforest_workloads_bench.specs.Cursors.{MapContinues, SetContinues}
use Rattle.std.proofs.Common.{refl, ◌∙◌, ℕ}
use Rattle.std.specs.declared.cmp.Ordering.{Ordering}

module _ {K X C : Type 0} (order : C → K → K → Ordering) where
  pub map-same : (c : MapCursorMut K X C) → map.IsCursor order c → MapContinues order c c
  map-same c valid = record { map_loan = refl; forest_loan = refl; comparator = refl; valid = valid }

  pub map-goes : (c d e : MapCursorMut K X C) (p : ℕ) → MapContinues order c d → map.Goes order d e p → MapContinues order c e
  map-goes c d e p before step = record {
    map_loan = step.map_loan ∙ before.map_loan;
    forest_loan = step.forest_loan ∙ before.forest_loan;
    comparator = step.comparator ∙ before.comparator;
    valid = step.valid;
  }

module _ {K C : Type 0} (order : C → K → K → Ordering) where
  pub set-same : (c : SetCursor K C) → set.IsCursor order c → SetContinues order c c
  set-same c valid = record { set_loan = refl; forest_loan = refl; comparator = refl; valid = valid }

  pub set-goes : (c d e : SetCursor K C) (p : ℕ) → SetContinues order c d → set.Goes order d e p → SetContinues order c e
  set-goes c d e p before step = record {
    set_loan = step.set_loan ∙ before.set_loan;
    forest_loan = step.forest_loan ∙ before.forest_loan;
    comparator = step.comparator ∙ before.comparator;
    valid = step.valid;
  }
