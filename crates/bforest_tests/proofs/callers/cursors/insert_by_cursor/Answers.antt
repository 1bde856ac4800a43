use Rattle.bforest.specs.Calls.{Inserts}
use Rattle.bforest.specs.Cursor.{comparator, forest_now, map_now}
use Rattle.bforest.specs.Forest.{Forest}
use Rattle.bforest.specs.Refusal.{OutOfMemory}
use Rattle.bforest.specs.declared.map_cursor_mut.MapCursorMut.{MapCursorMut}
use Rattle.bforest_tests.proofs.callers.cursors.insert_by_cursor.Goals as goal
use Rattle.std.proofs.Common.{Option, Result, subst, sym, ◌∙◌, ◌≡◌, ℕ}
use Rattle.std.specs.declared.cmp.Ordering.{Ordering}

-- an insertion by a cursor that was just made, once its loans have ended
by-cursor : {K V C : Type 0} {most : ℕ} (order : C → K → K → Ordering) {f g : Forest K V} {h i : Option ℕ} {comp : C} (first last : MapCursorMut K V C) {k : K} {x : V} {r : Result (Option V) OutOfMemory}
    → comparator first ≡ comp → forest_now first ≡ f → map_now first ≡ h → g ≡ forest_now last → i ≡ map_now last
    → Inserts most (order (comparator first)) (forest_now first) (map_now first) k x r (forest_now last) (map_now last) → Inserts most (order comp) f h k x r g i
by-cursor {most = most} order {f = f} {g = g} {h = h} {comp = comp} first last {k = k} {x = x} {r = r} under forest map here there put =
    let one = subst (λ z. Inserts most (order z) (forest_now first) (map_now first) k x r (forest_now last) (map_now last)) under put in
    let two = subst (λ z. Inserts most (order comp) z (map_now first) k x r (forest_now last) (map_now last)) forest one in
    let three = subst (λ z. Inserts most (order comp) f z k x r (forest_now last) (map_now last)) map two in
    let four = subst (λ z. Inserts most (order comp) f h k x r z (map_now last)) (sym here) three in
    subst (λ z. Inserts most (order comp) f h k x r g z) (sym there) four

pub returns : goal.returns
returns g c =
    let made = c.cursor_mut.ensures in
    let put = c.try_insert.ensures in
    record {
      inserted = by-cursor g.C.Comparator.order c.cursor_mut.result c.try_insert.new.self made.comparator made.forest made.map
          (c.forest-1.given.1 (sym (put.goes.forest_loan ∙ made.forest_loan))) (c.map-1.given.1 (sym (put.goes.map_loan ∙ made.map_loan))) put.inserted;
    }
