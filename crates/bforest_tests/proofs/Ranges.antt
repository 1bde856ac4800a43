-- A loop that joins ranges, at the place of a cursor.
use Rattle.bforest.specs.Calls.{RemovesAt}
use Rattle.bforest.specs.Cursor.{Goes, IsCursor, Moves, Writes, entries, forest_now, map_now, spot}
use Rattle.bforest.specs.Forest.{Becomes}
use Rattle.bforest.specs.declared.map_cursor_mut.MapCursorMut.{MapCursorMut}
use Rattle.bforest.specs.Entries.{value_at_place, with_value}
use Rattle.bforest.proofs.Lengths.{length-written}
use Rattle.bforest.proofs.Loops.{Changed, changed-again, changed-moved, changed-none, changed-removed, changed-written, moved-entries, next-spot, written-entries}
use Rattle.bforest_tests.specs.Walks.{joined, joined_from}
use Rattle.std.proofs.Common.{List, None, Some, [], ap, arith, drop, false, length, min, refl, remove, slice_get, subst, suc, sym, take, true, zero, ◌+◌, ◌++◌, ◌-◌, ◌<◌, ◌≤◌, ◌∙◌, ◌≡◌, ◌∷◌, ℕ}
use Rattle.std.proofs.lemmas.List.Edits.{length-remove}
use Rattle.std.specs.Ordering.{is_eq}
use Rattle.std.specs.declared.cmp.Ordering.{Ordering}

module _ {K : Type 0} (rule : K → K → Ordering) where
  -- a list whose ranges are joined from place p on, where the range there is `range`
  abbrev pub joined_at : ℕ → K × K → List (K × K) → List (K × K)
  joined_at p range es = take p es ++ joined_from rule range (drop (suc p) es)

  -- where no value is at the first place, there is nothing to join
  pub joined-none : (es : List (K × K)) (p : ℕ) → p ≡ 0 → None ≡ value_at_place es p → es ≡ joined rule es
  joined-none es p first none = go es (none ∙ ap (value_at_place es) first)
    where
      go : (xs : List (K × K)) → None ≡ value_at_place xs 0 → xs ≡ joined rule xs
      go [] is = refl
      go (x ∷ xs) is = absurd cc

  -- the range at place p ends at `end`, and joining from there on joins all
  pub record Begun (es : List (K × K)) (p : ℕ) (end : K) : Type 0 where
    pub start : K
    pub here : slice_get es p ≡ Some (start, end)
    pub rest : joined_at p (start, end) es ≡ joined rule es

  pub begun : (es : List (K × K)) (p : ℕ) (end : K) → p ≡ 0 → value_at_place es 0 ≡ Some end → Begun es p end
  begun es p end first is = subst (λ (q : ℕ). Begun es q end) (sym first) (go es is)
    where
      go : (xs : List (K × K)) → value_at_place xs 0 ≡ Some end → Begun xs 0 end
      go [] e = absurd (cc)
      go (x ∷ xs) e = let same : x.1 ≡ end = cc in record { start = x.0; here = (λ j. Some (x.0, same j)); rest = (λ j. joined_from rule (x.0, sym same j) xs) }

  -- a range that does not begin at the end of the one before is the next to join
  pub joined-on : (p : ℕ) (es : List (K × K)) (r n : K × K) → slice_get es p ≡ Some r → slice_get es (suc p) ≡ Some n → is_eq (rule r.1 n.0) ≡ false → joined_at (suc p) n es ≡ joined_at p r es
  joined-on zero [] r n is next apart = absurd (cc)
  joined-on zero (x ∷ []) r n is next apart = absurd (cc)
  joined-on zero (x ∷ y ∷ es) r n is next apart =
      let here : x ≡ r = cc in
      let there : y ≡ n = cc in
      (λ j. here j ∷ joined_from rule n es) ∙ sym (ap (λ z. joined_from rule r (z ∷ es)) there ∙ rw apart refl)
  joined-on (suc p) [] r n is next apart = absurd (cc)
  joined-on (suc p) (x ∷ es) r n is next apart = ap (λ z. x ∷ z) (joined-on p es r n is next apart)

  -- a range that begins at the end of the one before is joined to it
  pub joined-both : (p : ℕ) (es : List (K × K)) (r n : K × K) → slice_get es p ≡ Some r → slice_get es (suc p) ≡ Some n → is_eq (rule r.1 n.0) ≡ true
      → joined_at p (r.0, n.1) (with_value (remove es (suc p)) p n.1) ≡ joined_at p r es
  joined-both zero [] r n is next meet = absurd (cc)
  joined-both zero (x ∷ []) r n is next meet = absurd (cc)
  joined-both zero (x ∷ y ∷ es) r n is next meet =
      let there : y ≡ n = cc in
      sym (ap (λ z. joined_from rule r (z ∷ es)) there ∙ rw meet refl)
  joined-both (suc p) [] r n is next meet = absurd (cc)
  joined-both (suc p) (x ∷ es) r n is next meet = ap (λ z. x ∷ z) (joined-both p es r n is next meet)

  pub there-both : (p : ℕ) (es : List (K × K)) (r n : K × K) → slice_get es p ≡ Some r → suc p < length es → slice_get (with_value (remove es (suc p)) p n.1) p ≡ Some (r.0, n.1)
  there-both p [] r n is more = absurd (omega (arith, more))
  there-both zero (x ∷ es) r n is more = let here : x ≡ r = cc in (λ j. Some ((here j).0, n.1))
  there-both (suc p) (x ∷ es) r n is more = there-both p es r n is (omega (arith, more))

  -- at the last range nothing is left to join
  pub joined-last : (p : ℕ) (es : List (K × K)) (r : K × K) → slice_get es p ≡ Some r → length es ≤ suc p → joined_at p r es ≡ es
  joined-last p [] r is few = absurd (cc)
  joined-last zero (x ∷ []) r is few = let here : x ≡ r = cc in (λ j. sym here j ∷ [])
  joined-last zero (x ∷ y ∷ es) r is few = absurd (omega (arith, few))
  joined-last (suc p) (x ∷ es) r is few = ap (λ z. x ∷ z) (joined-last p es r is (omega (arith, few)))

module _ {K C : Type 0} (order : C → K → K → Ordering) (rule : K → K → Ordering) where
  -- the loop has gone from c to d, which stands on a range that ends at `end`
  pub record Joins (c d : MapCursorMut K K C) (end : K) : Type 0 where
    pub changed : Changed order c d
    pub start : K
    pub here : slice_get (entries d) (spot d) ≡ Some (start, end)
    pub rest : joined_at rule (spot d) (start, end) (entries d) ≡ joined rule (entries c)

  pub joins-first : (c : MapCursorMut K K C) (end : K) → IsCursor order c → spot c ≡ 0 → value_at_place (entries c) 0 ≡ Some end → Joins c c end
  joins-first c end valid first is = let b = begun rule (entries c) (spot c) end first is in record { changed = changed-none order c valid; start = b.start; here = b.here; rest = b.rest }

  -- one step of the loop
  module _ (c d e : MapCursorMut K K C) (end : K) (n : K × K) (next : Moves order d e (min (spot d + 1) (length (entries d)))) (is : Some n ≡ slice_get (entries d) (spot d + 1)) (more : spot d + 1 < length (entries d)) (t : Joins c d end) where
    there : spot e ≡ suc (spot d)
    there = next-spot order next more

    same : entries e ≡ entries d
    same = moved-entries order next

    pub there-within : spot e < length (entries e)
    there-within = omega (arith, there, more, ap length same)

    there-is : slice_get (entries d) (suc (spot d)) ≡ Some n
    there-is = ap (λ i. slice_get (entries d) i) (omega arith) ∙ sym is

    pub joins-on : is_eq (rule end n.0) ≡ false → Joins c e n.1
    joins-on apart = record {
      changed = changed-moved order t.changed next;
      start = n.0;
      here = (λ j. slice_get (same j) (there j)) ∙ there-is;
      rest = (λ j. joined_at rule (there j) n (same j)) ∙ joined-on rule (spot d) (entries d) (t.start, end) n t.here there-is apart ∙ t.rest;
    }

    pub joins-both : (f : MapCursorMut K K C) → Goes order e f (spot e - 1) → Becomes (forest_now e) (map_now e) (forest_now f) (map_now f) (with_value (remove (entries e) (spot e)) (spot e - 1) n.1) → is_eq (rule end n.0) ≡ true → Joins c f n.1
    joins-both f goes b meet =
        let within : suc (spot d) < length (entries d) = omega (arith, more) in
        let back : spot f ≡ spot d = goes.spot ∙ omega (arith, there) in
        let left : entries f ≡ with_value (remove (entries d) (suc (spot d))) (spot d) n.1 = b.list ∙ (λ j. with_value (remove (same j) (there j)) (there j - 1) n.1) ∙ ap (λ i. with_value (remove (entries d) (suc (spot d))) i n.1) (omega arith) in
        record {
          changed = changed-again order (changed-moved order t.changed next) goes b;
          start = t.start;
          here = (λ j. slice_get (left j) (back j)) ∙ there-both rule (spot d) (entries d) (t.start, end) n t.here within;
          rest = (λ j. joined_at rule (back j) (t.start, n.1) (left j)) ∙ joined-both rule (spot d) (entries d) (t.start, end) n t.here there-is meet ∙ t.rest;
        }

    -- fewer ranges are left after a step
    pub fewer-on : length (entries e) - spot e < length (entries d) - spot d
    fewer-on = omega (arith, there, more, ap length same)

    pub fewer-both : (f : MapCursorMut K K C) → Goes order e f (spot e - 1) → Becomes (forest_now e) (map_now e) (forest_now f) (map_now f) (with_value (remove (entries e) (spot e)) (spot e - 1) n.1) → length (entries f) - spot f < length (entries d) - spot d
    fewer-both f goes b = omega (arith, there, more, ap length same, goes.spot, ap length b.list, length-written (remove (entries e) (spot e)) (spot e - 1) n.1, length-remove (entries e) (spot e) there-within)

module _ {K C : Type 0} (order : C → K → K → Ordering) where
  -- the range at c is removed, and w is written as the end of the one before
  module _ (c d e f : MapCursorMut K K C) (w : K) (gone : RemovesAt 7 (forest_now c) (map_now c) (spot c) (forest_now d) (map_now d)) (goes : Goes order c d (spot c)) (back : Moves order d e (spot d - 1)) (valid : IsCursor order c) where
    left : entries e ≡ remove (entries c) (spot c)
    left = moved-entries order back ∙ gone.removed.list

    before : spot e ≡ spot c - 1
    before = back.goes.spot ∙ ap (λ i. i - 1) goes.spot

    pub extended : Writes order e f w → Changed order c f
    extended writes = changed-written order (changed-moved order (changed-removed order (changed-none order c valid) goes gone) back) writes

    pub extended-list : Writes order e f w → entries f ≡ with_value (remove (entries c) (spot c)) (spot c - 1) w
    extended-list writes = written-entries order writes ∙ (λ j. with_value (left j) (before j) w)

    pub extended-goes : Writes order e f w → Goes order c f (spot c - 1)
    extended-goes writes = record {
      map_loan = writes.goes.map_loan ∙ back.goes.map_loan ∙ goes.map_loan;
      forest_loan = writes.goes.forest_loan ∙ back.goes.forest_loan ∙ goes.forest_loan;
      comparator = writes.goes.comparator ∙ back.goes.comparator ∙ goes.comparator;
      spot = writes.goes.spot ∙ before;
      valid = writes.goes.valid;
    }

    -- there is a range before the one at c
    pub some-before : 0 < spot c → spot c < length (entries c) → None ≡ value_at_place (entries e) (spot e) → ⊥
    some-before second within none = none-there (entries e) (spot e) (omega (arith, second, within, before, ap length left, length-remove (entries c) (spot c) within)) none
      where
        none-there : (es : List (K × K)) (p : ℕ) → p < length es → None ≡ value_at_place es p → ⊥
        none-there [] p low is = omega (arith, low)
        none-there (x ∷ es) zero low is = cc
        none-there (x ∷ es) (suc p) low is = none-there es p (omega (arith, low)) is
