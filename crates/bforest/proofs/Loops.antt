-- Loops of those who write above maps: by an iterator or a range, by a reading cursor, and by a writing one.
use Rattle.bforest.proofs.Becoming.{becomes-both}
use Rattle.bforest.proofs.Clients.{around-place}
use Rattle.bforest.proofs.Each.{all-map, filter-agree, filter-all}
use Rattle.bforest.proofs.Entries.{place-present}
use Rattle.bforest.specs.Bounds.{without_between}
use Rattle.bforest.specs.Calls.{Inserts, RemovesAt}
use Rattle.bforest.specs.Cursor.{Cursor, Goes, IsCursor, Moves, Writes, at_place, comparator, entries, forest_now, map_now, spot}
use Rattle.bforest.specs.Entries.{IsIncreasing, is_present, place, with_value}
use Rattle.bforest.specs.Forest.{Becomes, Forest, list_of}
use Rattle.bforest.specs.Refusal.{OutOfMemory}
use Rattle.bforest.specs.declared.map_cursor_mut.MapCursorMut.{MapCursorMut}
use Rattle.std.proofs.Common.{Bool, Err, List, None, Ok, Option, Result, Some, [], ap, append-nil, append_assoc, arith, drop, false, if◌then◌else◌, inl, inr, length, min, not, refl, remove, reverse, slice_get, subst, suc, sym, take, true, zero, ◌+◌, ◌++◌, ◌&&◌, ◌-◌, ◌<◌, ◌∙◌, ◌∷◌, ◌≡◌, ◌≤◌, ℕ, option_map}
use Rattle.std.proofs.lemmas.List.{reverse-append}
use Rattle.std.proofs.lemmas.Option.{slice_get_cases, slice_get_within}
use Rattle.std.specs.List.{AllByRecursion, filter}
use Rattle.std.specs.Cmp.{IsTotalOrder}
use Rattle.std.specs.Option.{is_some}
use Rattle.std.specs.Ordering.{is_gt}
use Rattle.std.specs.declared.cmp.Ordering.{Ordering}

module _ {X : Type 0} (all : List X) where
  -- the entries that an iterator or a range yielded from its front, those left, and those from its back, the last first, make up the list
  abbrev pub Parts : List X → List X → List X → Type 0
  Parts front left back = all ≡ front ++ left ++ reverse back

  -- before the first step
  pub parts-first : (front back : List X) → front ≡ [] → back ≡ [] → Parts front all back
  parts-first front back f b = sym (append-nil all) ∙ sym (λ j. f j ++ all ++ reverse (b j))

  -- one entry more from the front
  pub parts-front : (front left back left' : List X) (x : X) → Parts front left back → left ≡ x ∷ left' → Parts (front ++ x ∷ []) left' back
  parts-front front left back left' x p e = p ∙ (λ j. front ++ e j ++ reverse back) ∙ ap (λ z. z ++ reverse back) (sym (append_assoc front (x ∷ []) left'))

  -- one entry more from the back
  pub parts-back : (front left back left' : List X) (x : X) → Parts front left back → left ≡ left' ++ x ∷ [] → Parts front left' (back ++ x ∷ [])
  parts-back front left back left' x p e =
      p ∙ (λ j. front ++ e j ++ reverse back) ∙ ap (λ z. z ++ reverse back) (sym (append_assoc front left' (x ∷ []))) ∙ append_assoc (front ++ left') (x ∷ []) (reverse back)
      ∙ ap (λ z. front ++ left' ++ z) (sym (reverse-append back (x ∷ [])))

  -- equal parts make up the list, too
  pub parts-same : (front front' left left' back back' : List X) → front' ≡ front → left' ≡ left → back' ≡ back → Parts front left back → Parts front' left' back'
  parts-same front front' left left' back back' f l b p = p ∙ sym (λ j. f j ++ l j ++ reverse (b j))

module _ {X : Type 0} where
  -- a place from which a step read an element is within the list
  pub is-within : (o : Option X) (es : List X) (p : ℕ) → o ≡ slice_get es p → is_some o ≡ true → p < length es
  is-within None es p is some = absurd (cc)
  is-within (Some x) es p is some = slice_get_within es p x (sym is)

  -- a place from which it read none is past the end
  pub is-past : (o : Option X) (es : List X) (p : ℕ) → o ≡ slice_get es p → is_some o ≡ false → length es ≤ p
  is-past (Some x) es p is none = absurd (cc)
  is-past None es p is none = elim (slice_get_cases es p).1 [
    | inl w ↦ absurd (let bad = is ∙ w.2 in cc)
    | inr w ↦ w.0
  ]

module _ {A B : Type 0} (f : A → B) where
  -- a place that has an element is within the list
  inside : (es : List A) (p : ℕ) → is_some (option_map f (slice_get es p)) ≡ true → p < length es
  inside [] p some = absurd (cc)
  inside (e ∷ es) zero some = omega arith
  inside (e ∷ es) (suc p) some = omega (arith, inside es p some)

  -- a place that has no element is behind the list
  past : (es : List A) (p : ℕ) → is_some (option_map f (slice_get es p)) ≡ false → length es ≤ p
  past [] p none = omega arith
  past (e ∷ es) zero none = absurd (cc)
  past (e ∷ es) (suc p) none = omega (arith, past es p none)

nearer-by : (spot count : ℕ) → spot < count → count - min (spot + 1) count < count - spot
nearer-by spot count within = omega (arith, within)

-- A loop by a reading cursor: it moves, and stays the cursor of its list.
module _ {K X C : Type 0} where
  -- a cursor that moved from where it had moved to
  pub still-at : (start now next : Cursor K X C) (p : ℕ) → now ≡ at_place start now.spot → next ≡ at_place now p → next ≡ at_place start next.spot
  still-at start now next p before moves = moves ∙ ap (λ z. at_place z p) before ∙ ap (at_place start) (sym (ap (λ z. z.spot) moves))

  -- where there is a key, a step on leaves fewer entries
  pub step-nearer : (c d : Cursor K X C) → is_some (option_map (λ e. e.0) (slice_get c.entries c.spot)) ≡ true → d ≡ at_place c (min (c.spot + 1) (length c.entries)) → length d.entries - d.spot < length c.entries - c.spot
  step-nearer c d some moves =
      let less = nearer-by c.spot (length c.entries) (inside (λ e. e.0) c.entries c.spot some) in
      omega (arith, less, ap (λ (z : Cursor K X C). length z.entries - z.spot) moves)

  -- where there is no key, it is at the end
  pub at-end : (start now : Cursor K X C) → now ≡ at_place start now.spot → is_some (option_map (λ e. e.0) (slice_get now.entries now.spot)) ≡ false → now.spot ≤ length now.entries → now ≡ at_place start (length start.entries)
  at-end start now before none within =
      let least = past (λ e. e.0) now.entries now.spot none in
      let same : length now.entries ≡ length start.entries = ap (λ z. length z.entries) before in
      let at : now.spot ≡ length start.entries = omega (arith, least, within, same) in
      before ∙ ap (at_place start) at

-- A loop by a writing cursor: what it did since it was made.
module _ {K X C : Type 0} (order : C → K → K → Ordering) where
  -- c became d by changes of its own map alone
  pub record Changed (c d : MapCursorMut K X C) : Type 0 where
    pub goes : Goes order c d (spot d)
    pub becomes : Becomes (forest_now c) (map_now c) (forest_now d) (map_now d) (entries d)

  -- before the first step
  pub changed-none : (c : MapCursorMut K X C) → IsCursor order c → Changed c c
  changed-none c valid = record {
    goes = record { map_loan = refl; forest_loan = refl; comparator = refl; spot = refl; valid = valid };
    becomes = record {
      live = valid.live;
      list = refl;
      leaves = λ ne. absurd (ne refl);
      fresh = λ ne. absurd (ne refl);
      leaves_sizes = λ ne. absurd (ne refl);
      fresh_sizes = λ ne. absurd (ne refl);
      others = λ n ne ne'. refl;
      others_sizes = λ n ne ne'. refl;
      limit = refl;
    };
  }

  module _ {c d e : MapCursorMut K X C} (before : Changed c d) where
    gone-on : {p : ℕ} → Goes order d e p → Goes order c e (spot e)
    gone-on step = record {
      map_loan = step.map_loan ∙ before.goes.map_loan;
      forest_loan = step.forest_loan ∙ before.goes.forest_loan;
      comparator = step.comparator ∙ before.goes.comparator;
      spot = refl;
      valid = step.valid;
    }

    -- one move more, as `next`, `prev` and `goto` make it
    pub changed-moved : {p : ℕ} → Moves order d e p → Changed c e
    changed-moved m = record {
      goes = gone-on m.goes;
      becomes = subst (λ (z : Forest K X). Becomes (forest_now c) (map_now c) z (map_now e) (list_of z (map_now e))) (sym m.forest)
          (subst (λ (z : Option ℕ). Becomes (forest_now c) (map_now c) (forest_now d) z (list_of (forest_now d) z)) (sym m.map) before.becomes);
    }

    -- one change of the list more
    pub changed-again : {p : ℕ} {es : List (K × X)} → Goes order d e p → Becomes (forest_now d) (map_now d) (forest_now e) (map_now e) es → Changed c e
    changed-again {es = es} goes b = record {
      goes = gone-on goes;
      becomes = subst (λ (l : List (K × X)). Becomes (forest_now c) (map_now c) (forest_now e) (map_now e) l) (sym b.list)
          (becomes-both (forest_now c) (forest_now d) (forest_now e) (map_now c) (map_now d) (map_now e) (entries d) es before.becomes b);
    }

    -- one removal more
    pub changed-removed : {p most : ℕ} → Goes order d e p → RemovesAt most (forest_now d) (map_now d) (spot d) (forest_now e) (map_now e) → Changed c e
    changed-removed goes gone = changed-again goes gone.removed

    -- one insertion more, also where it was refused
    pub changed-inserted : {p most : ℕ} {k : K} {v : X} (r : Result (Option X) OutOfMemory) → Goes order d e p → Inserts most (order (comparator d)) (forest_now d) (map_now d) k v r (forest_now e) (map_now e) → Changed c e
    changed-inserted (Ok old) goes put = changed-again goes put.put
    changed-inserted (Err refused) goes put = changed-moved (record { goes = goes; forest = put.refused_forest; map = put.refused_handle })

    -- one write of a value more
    pub changed-written : {w : X} → Writes order d e w → Changed c e
    changed-written {w} writes = record {
      goes = gone-on writes.goes;
      becomes = subst (λ (z : Option ℕ). Becomes (forest_now c) (map_now c) (forest_now e) z (list_of (forest_now e) z)) (sym writes.map)
          (subst (λ (l : List (K × X)). Becomes (forest_now c) (map_now c) (forest_now e) (map_now d) l) (sym writes.becomes.list)
          (becomes-both (forest_now c) (forest_now d) (forest_now e) (map_now c) (map_now d) (map_now d) (entries d) (with_value (entries d) (spot d) w) before.becomes writes.becomes));
    }

  -- a move changes no list
  pub moved-entries : {c d : MapCursorMut K X C} {p : ℕ} → Moves order c d p → entries d ≡ entries c
  moved-entries m = λ j. list_of (m.forest j) (m.map j)

  -- a write changes the value at the cursor's place
  pub written-entries : {c d : MapCursorMut K X C} {w : X} → Writes order c d w → entries d ≡ with_value (entries c) (spot c) w
  written-entries {c} {d} writes = ap (list_of (forest_now d)) writes.map ∙ writes.becomes.list

  -- a step to the next entry, if there is one, goes there
  pub next-spot : {c d : MapCursorMut K X C} → Moves order c d (min (spot c + 1) (length (entries c))) → spot c + 1 < length (entries c) → spot d ≡ suc (spot c)
  next-spot m more = m.goes.spot ∙ omega (arith, more)

  -- A cursor that was made on the map h of f, sent to a key that is there, and moved on by a step: it stands behind that key.
  pub behind-key : {f : Forest K X} {h : Option ℕ} {made at next : MapCursorMut K X C} (k : K) → forest_now made ≡ f → map_now made ≡ h → Moves order made at (place (order (comparator made)) (entries made) k)
      → Moves order at next (min (spot at + 1) (length (entries at))) → is_present (order (comparator made)) (list_of f h) k ≡ true
      → (entries next ≡ list_of f h) × (spot next ≡ suc (place (order (comparator made)) (list_of f h) k))
  behind-key {f} {h} {made} {at} {next} k forest map to on here = (moved-entries on ∙ at-is, on.goes.spot ∙ (λ j. min ((to.goes.spot ∙ (λ i. place (order (comparator made)) (made-is i) k)) j + 1) (length (at-is j))) ∙ omega (arith, place-present (order (comparator made)) (list_of f h) k here))
    where
      made-is : entries made ≡ list_of f h
      made-is = λ j. list_of (forest j) (map j)

      at-is : entries at ≡ list_of f h
      at-is = moved-entries to ∙ made-is

  -- a changed cursor with the list es has changed its map to es
  pub changed-list : {c d : MapCursorMut K X C} {es : List (K × X)} → Changed c d → entries d ≡ es → Becomes (forest_now c) (map_now c) (forest_now d) (map_now d) es
  changed-list {c} {d} t e = subst (λ (l : List (K × X)). Becomes (forest_now c) (map_now c) (forest_now d) (map_now d) l) e t.becomes

  -- A cursor was made on the map h of f, moved to where a loop began, and the loop changed its list by P. Once both loans have ended, with
  -- the map i of g, that is what became of the map.
  pub loop-ended : {f g : Forest K X} {h i : Option ℕ} (P : List (K × X) → List (K × X)) {made first : MapCursorMut K X C} (last : MapCursorMut K X C) {p : ℕ} → forest_now made ≡ f → map_now made ≡ h → Moves order made first p
      → Becomes (forest_now first) (map_now first) (forest_now last) (map_now last) (P (entries first)) → g ≡ forest_now last → i ≡ map_now last → Becomes f h g i (P (list_of f h))
  loop-ended {f} {g} {h} {i} P {made} {first} last forest map m b here there =
      let from = subst (λ (z : Forest K X). Becomes z (map_now first) (forest_now last) (map_now last) (P (list_of z (map_now first)))) (m.forest ∙ forest) b in
      let both = subst (λ (z : Option ℕ). Becomes f z (forest_now last) (map_now last) (P (list_of f z))) (m.map ∙ map) from in
      subst (λ (z : Forest K X). Becomes f h z i (P (list_of f h))) (sym here) (subst (λ (z : Option ℕ). Becomes f h (forest_now last) z (P (list_of f h))) (sym there) both)

module _ {X : Type 0} (keep : X → Bool) where
  take-removed : (p : ℕ) (es : List X) → take p (remove es p) ≡ take p es
  take-removed zero es = refl
  take-removed (suc p) [] = refl
  take-removed (suc p) (x ∷ es) = ap (λ l. x ∷ l) (take-removed p es)

  filter-removed : (p : ℕ) (es : List X) (x : X) → slice_get es p ≡ Some x → keep x ≡ false → filter keep (drop p (remove es p)) ≡ filter keep (drop p es)
  filter-removed p [] x at out = absurd (cc)
  filter-removed zero (y ∷ es) x at out = sym (ap (λ t. if t then y ∷ filter keep es else filter keep es) (let same : y ≡ x = cc in ap keep same ∙ out))
  filter-removed (suc p) (y ∷ es) x at out = filter-removed p es x at out

  shorter : (p : ℕ) (es : List X) (x : X) → slice_get es p ≡ Some x → length (remove es p) < length es
  shorter p [] x at = absurd (cc)
  shorter zero (y ∷ es) x at = omega arith
  shorter (suc p) (y ∷ es) x at = omega (arith, shorter p es x at)

-- A loop by a writing cursor that stays where it stands, and removes the entries there that a test does not keep.
module _ {K X C : Type 0} (order : C → K → K → Ordering) (keep : K × X → Bool) where
  pub record Sweeps (c d : MapCursorMut K X C) : Type 0 where
    pub changed : Changed order c d
    pub stays : spot d ≡ spot c
    pub front : take (spot c) (entries d) ≡ take (spot c) (entries c)
    pub left : filter keep (drop (spot c) (entries d)) ≡ filter keep (drop (spot c) (entries c))

  -- before the first removal
  pub sweeps-none : (c : MapCursorMut K X C) → IsCursor order c → Sweeps c c
  sweeps-none c valid = record { changed = changed-none order c valid; stays = refl; front = refl; left = refl }

  module _ {c d : MapCursorMut K X C} (s : Sweeps c d) where
    module _ {x : K × X} (at : slice_get (entries d) (spot d) ≡ Some x) where
      here : slice_get (entries d) (spot c) ≡ Some x
      here = ap (slice_get (entries d)) (sym s.stays) ∙ at

      module _ (e : MapCursorMut K X C) {most : ℕ} (gone : RemovesAt most (forest_now d) (map_now d) (spot d) (forest_now e) (map_now e)) where
        removed : entries e ≡ remove (entries d) (spot c)
        removed = gone.removed.list ∙ ap (remove (entries d)) s.stays

        -- one removal more
        pub sweeps-removed : keep x ≡ false → Goes order d e (spot d) → Sweeps c e
        sweeps-removed out goes = record {
          changed = changed-removed order s.changed goes gone;
          stays = goes.spot ∙ s.stays;
          front = ap (take (spot c)) removed ∙ take-removed keep (spot c) (entries d) ∙ s.front;
          left = ap (λ es. filter keep (drop (spot c) es)) removed ∙ filter-removed keep (spot c) (entries d) x here out ∙ s.left;
        }

        pub sweeps-fewer : length (entries e) < length (entries d)
        sweeps-fewer = omega (arith, ap length removed, shorter keep (spot c) (entries d) x here)

    -- where all entries from here on are kept
    pub sweeps-ended : AllByRecursion (λ x. keep x ≡ true) (drop (spot d) (entries d)) → entries d ≡ take (spot c) (entries c) ++ filter keep (drop (spot c) (entries c))
    sweeps-ended all = sym (append-take_drop (spot c) (entries d)) ∙ (λ j. s.front j ++ (sym (filter-all keep (drop (spot c) (entries d)) (subst (λ p. AllByRecursion (λ x. keep x ≡ true) (drop p (entries d))) s.stays all)) ∙ s.left) j)
      where
        append-take_drop : (p : ℕ) (es : List (K × X)) → take p es ++ drop p es ≡ es
        append-take_drop zero es = refl
        append-take_drop (suc p) [] = refl
        append-take_drop (suc p) (x ∷ es) = ap (λ l. x ∷ l) (append-take_drop p es)

    -- a sweep leaves the cursor where it stood
    pub sweeps-goes : Goes order c d (spot c)
    sweeps-goes = record { map_loan = s.changed.goes.map_loan; forest_loan = s.changed.goes.forest_loan; comparator = s.changed.goes.comparator; spot = s.stays; valid = s.changed.goes.valid }

  -- where no entry is left here
  pub none-left : (es : List (K × X)) (p : ℕ) → slice_get es p ≡ None → AllByRecursion (λ x. keep x ≡ true) (drop p es)
  none-left es p none = subst (AllByRecursion (λ x. keep x ≡ true)) (sym (nothing p es none)) tt
    where
      nothing : (p : ℕ) (es : List (K × X)) → slice_get es p ≡ None → drop p es ≡ []
      nothing zero [] is = refl
      nothing zero (x ∷ es) is = absurd (cc)
      nothing (suc p) [] is = refl
      nothing (suc p) (x ∷ es) is = nothing p es is

-- A sweep by a cursor that was made, sent to a key that is there, and moved on: it removes the entries behind that key, up to another.
module _ {K X : Type 0} (cmp : K → K → Ordering) (first last : K) where
  -- the entries in front of a place, which are not behind `first`, and those from there on that are behind `last`
  parts : (q : ℕ) (es : List (K × X)) → AllByRecursion (λ x. is_gt (cmp x.0 first) ≡ false) (take q es) → AllByRecursion (λ x. is_gt (cmp x.0 first) ≡ true) (drop q es)
      → take q es ++ filter (λ x. is_gt (cmp x.0 last)) (drop q es) ≡ without_between cmp first last es
  parts zero es none all = filter-agree (λ x. is_gt (cmp x.0 last)) (λ x. not (is_gt (cmp x.0 first) && not (is_gt (cmp x.0 last)))) es
      (all-map (λ x t. sym (ap (λ u. not (u && not (is_gt (cmp x.0 last)))) t ∙ twice (is_gt (cmp x.0 last)))) es all)
    where
      twice : (t : Bool) → not (not t) ≡ t
      twice true = refl
      twice false = refl
  parts (suc q) [] low high = refl
  parts (suc q) (x ∷ es) low high = ap (λ l. x ∷ l) (parts q es low.1 high) ∙ sym (ap (λ u. if not (u && not (is_gt (cmp x.0 last))) then x ∷ without_between cmp first last es else without_between cmp first last es) low.0)

-- the map and the forest after a cursor went behind a key, and removed the entries up to another
module _ {K X C : Type 0} {order : C → K → K → Ordering} {f g : Forest K X} {h i : Option ℕ} {made at next : MapCursorMut K X C} {x : C} (gone : MapCursorMut K X C) (total : IsTotalOrder (order x)) where
  pub swept-behind : (first last : K) → IsIncreasing (order x) (list_of f h) → is_present (order x) (list_of f h) first ≡ true → forest_now made ≡ f → map_now made ≡ h → comparator made ≡ x
      → Moves order made at (place (order (comparator made)) (entries made) first) → Moves order at next (min (spot at + 1) (length (entries at)))
      → entries gone ≡ take (spot next) (entries next) ++ filter (λ y. is_gt (order x y.0 last)) (drop (spot next) (entries next)) → g ≡ forest_now gone → i ≡ map_now gone
      → list_of g i ≡ without_between (order x) first last (list_of f h)
  swept-behind first last up here forest map comp to on left forest' map' =
      (λ j. list_of (forest' j) (map' j)) ∙ left ∙ (λ j. take (there.1 j) (there.0 j) ++ filter (λ y. is_gt (order x y.0 last)) (drop (there.1 j) (there.0 j)))
      ∙ (λ j. take (suc (place (order (comp j)) (list_of f h) first)) (list_of f h) ++ filter (λ y. is_gt (order x y.0 last)) (drop (suc (place (order (comp j)) (list_of f h) first)) (list_of f h)))
      ∙ parts (order x) first last (suc (place (order x) (list_of f h) first)) (list_of f h) around.0 around.1
    where
      there : (entries next ≡ list_of f h) × (spot next ≡ suc (place (order (comparator made)) (list_of f h) first))
      there = behind-key order first forest map to on (subst (λ z. is_present (order z) (list_of f h) first ≡ true) (sym comp) here)

      around : AllByRecursion (λ y. is_gt (order x y.0 first) ≡ false) (take (suc (place (order x) (list_of f h) first)) (list_of f h)) × AllByRecursion (λ y. is_gt (order x y.0 first) ≡ true) (drop (suc (place (order x) (list_of f h) first)) (list_of f h))
      around = around-place (order x) total first (list_of f h) up here
