-- A cursor that steps on to an entry and back.
use Rattle.bforest.specs.Cursor.{Cursor, Moves, at_place, entries, spot}
use Rattle.bforest.specs.declared.map_cursor_mut.MapCursorMut.{MapCursorMut}
use Rattle.std.proofs.Common.{Some, arith, length, min, slice_get, ◌+◌, ◌-◌, ◌<◌, ◌∙◌, ◌≡◌, ℕ}
use Rattle.std.proofs.lemmas.Option.{slice_get_within}
use Rattle.std.specs.declared.cmp.Ordering.{Ordering}

there_and_back : (p most : ℕ) → p + 1 < most → min (p + 1) most - 1 ≡ p
there_and_back p most within = omega (arith, within)

module _ {K X C : Type 0} where
  pub back-same : (c d e : Cursor K X C) (x : K × X) → slice_get c.entries (c.spot + 1) ≡ Some x → d ≡ at_place c (min (c.spot + 1) (length c.entries)) → e ≡ at_place d (d.spot - 1) → e ≡ c
  back-same c d e x is on back =
      let here = there_and_back c.spot (length c.entries) (slice_get_within c.entries (c.spot + 1) x is) in
      back ∙ (λ j. at_place (on j) ((on j).spot - 1)) ∙ (λ j. at_place c (here j))

  pub back-moves : (order : C → K → K → Ordering) (c d e : MapCursorMut K X C) (x : K × X) → slice_get (entries c) (spot c + 1) ≡ Some x → Moves order c d (min (spot c + 1) (length (entries c))) → Moves order d e (spot d - 1) → Moves order c e (spot c)
  back-moves order c d e x is on back =
      let here = there_and_back (spot c) (length (entries c)) (slice_get_within (entries c) (spot c + 1) x is) in
      record {
        goes = record {
          map_loan = back.goes.map_loan ∙ on.goes.map_loan;
          forest_loan = back.goes.forest_loan ∙ on.goes.forest_loan;
          comparator = back.goes.comparator ∙ on.goes.comparator;
          spot = back.goes.spot ∙ (λ j. on.goes.spot j - 1) ∙ here;
          valid = back.goes.valid;
        };
        forest = back.forest ∙ on.forest;
        map = back.map ∙ on.map;
      }
