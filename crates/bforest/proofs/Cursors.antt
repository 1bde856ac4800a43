-- A writing cursor that moves, or changes its list.
use Rattle.bforest.specs.Calls.{Inserts, RemovesAt}
use Rattle.bforest.specs.Cursor.{Cursor, Goes, IsCursor, LooksIn, Moves, StandsIn, Writes, comparator, entries, forest_loan, forest_now, map_loan, map_now}
use Rattle.bforest.specs.Cursor.{spot, with_value_here}
use Rattle.bforest.specs.Forest.{IsSearchable}
use Rattle.bforest.specs.declared.map_cursor_mut.MapCursorMut.{MapCursorMut}
use Rattle.bforest_core.proofs.walks.Backward.{at_end, at_entry}
use Rattle.bforest_core.proofs.walks.Standing.{on-within, path-ended}
use Rattle.bforest_core.specs.Paths.{IsAtEnd, index_of, leaf_of, list_under, place_in}
use Rattle.bforest_core.specs.Table.{with_value_at}
use Rattle.bforest_core.specs.Trees.{tree_of}
use Rattle.bforest_core.specs.declared.path.Path.{Path}
use Rattle.bforest_core.specs.declared.pool.OutOfMemory.{OutOfMemory}
use Rattle.bforest_nodes.proofs.Ordered.{IsIncreasing-remove}
use Rattle.bforest_nodes.specs.Entries.{IsIncreasing, value_at_place, value_for, with_value}
use Rattle.bforest_trees.proofs.Changed.{list-root, live-root}
use Rattle.bforest_trees.proofs.Cutting.{becomes-same}
use Rattle.bforest_trees.proofs.Looking.{look-place-is, look-stands}
use Rattle.bforest_trees.proofs.Popping.{pops}
use Rattle.bforest_trees.specs.Forest.{Becomes, Forest, IsLive, list_of}
use Rattle.bforest_trees.specs.Looks.{AtLook, IsLook, look_place}
use Rattle.bforest_trees.specs.Place.{IsComputed, IsSpot, IsWritten, OnSpot, spot_of}
use Rattle.bforest_trees.specs.declared.look.Look.{Look}
use Rattle.std.proofs.Common.{Err, IfSome, List, None, Ok, Option, Result, Some, [], ap, arith, false, if◌then◌else◌, inl, inr, length, option_map, refl, slice_get, subst, suc, sym, true, zero, ◌<◌, ◌==◌, ◌∙◌, ◌∷◌, ◌≡◌, ◌≤◌, ◌↔◌, ℕ}
use Rattle.std.proofs.lemmas.Bool.Decides.{eqb_tells}
use Rattle.std.proofs.lemmas.Option.{slice_get_past}
use Rattle.std.specs.Cmp.{IsTotalOrder}
use Rattle.std.specs.List.Sorted.{IsStrictlySortedBy}
use Rattle.std.specs.Map.{keys_of}
use Rattle.std.specs.Option.{IsNone}
use Rattle.std.specs.Ordering.{is_eq}
use Rattle.std.specs.declared.cmp.Ordering.{Ordering}

module _ {K X : Type 0} {most : ℕ} {f : Forest K X} {h : Option ℕ} {path : Path K X most} {p : ℕ} where
  -- a path at a place of a list that increases stands where `spot_of` says
  pub stands-at : {cmp : K → K → Ordering} → IsSearchable cmp f h → IsSpot f h path p × IsComputed most f h → StandsIn cmp f h path × (spot_of f h path ≡ p)
  stands-at ordered at =
      let here = at.1 path p at.0 in
      (record { live = ordered.live; increasing = ordered.increasing; stands = subst (λ (z : ℕ). IsSpot f h path z) (sym here) at.0 }, here)

module _ {K X C : Type 0} {order : C → K → K → Ordering} {c c' : MapCursorMut K X C} {p : ℕ} where
  -- c' stands at p of a list that increases
  pub goes-on : map_loan c' ≡ map_loan c → forest_loan c' ≡ forest_loan c → comparator c' ≡ comparator c
      → IsSearchable (order (comparator c)) (forest_now c') (map_now c')
      → IsSpot (forest_now c') (map_now c') c'.path p × IsComputed 7 (forest_now c') (map_now c') → Goes order c c' p
  goes-on same same' comp ordered at =
      let w = stands-at (subst (λ x. IsSearchable (order x) (forest_now c') (map_now c')) (sym comp) ordered) at in
      record { map_loan = same; forest_loan = same'; comparator = comp; spot = w.1; valid = w.0 }

  -- c' stands at p of the same list
  pub moves-on : map_loan c' ≡ map_loan c → forest_loan c' ≡ forest_loan c → comparator c' ≡ comparator c → forest_now c' ≡ forest_now c
      → map_now c' ≡ map_now c → IsCursor order c → IsSpot (forest_now c) (map_now c) c'.path p × IsComputed 7 (forest_now c) (map_now c) → Moves order c c' p
  moves-on same same' comp forest map v at =
      let ordered : IsSearchable (order (comparator c)) (forest_now c) (map_now c) = record { live = v.live; increasing = v.increasing } in
      record { goes = goes-on same same' comp (rw (forest, map) ordered) (rw (forest, map) at); forest = forest; map = map }

module _ {K X : Type 0} {most : ℕ} {cmp : K → K → Ordering} {f f' : Forest K X} {h h' : Option ℕ} where
  -- a handle can be searched after an insertion
  pub inserts-ordered : {k : K} {x : X} {r : Result (Option X) OutOfMemory} → IsLive f h → Inserts most cmp f h k x r f' h' → IsSearchable cmp f' h'
  inserts-ordered {r = Ok old} live i = record { live = i.put.live; increasing = i.increasing }
  inserts-ordered {r = Err e} live i = record { live = rw (i.refused_forest, i.refused_handle) live; increasing = i.increasing }

  -- a list that increases still does after a removal
  pub removes-ordered : {p : ℕ} → IsIncreasing cmp (list_of f h) → RemovesAt most f h p f' h' → IsSearchable cmp f' h'
  removes-ordered {p} up r = record { live = r.removed.live; increasing = rw r.removed.list (IsIncreasing-remove cmp (list_of f h) p up) }

  module _ (total : IsTotalOrder cmp) {p : ℕ} (up : IsIncreasing cmp (list_of f h)) (r : RemovesAt most f h p f' h') where
    -- the key at the place of a removal has no value any more
    pub removes-gone : IfSome (slice_get (list_of f h) p) (λ e. value_for cmp (list_of f' h') e.0 ≡ None)
    removes-gone = (pops most f h p _ f' h' refl r).gone total up

    -- all other keys have the values that they had
    pub removes-others : IfSome (slice_get (list_of f h) p) (λ e. (q : K) → is_eq (cmp e.0 q) ≡ false → value_for cmp (list_of f' h') q ≡ value_for cmp (list_of f h) q)
    removes-others = (pops most f h p _ f' h' refl r).others total up

module _ {K X : Type 0} {n : ℕ} (f : Forest K X) (path : Path K X n) where
  -- a path with no node is at the end of a list
  end-spot : (h : Option ℕ) → IsLive f h → IsAtEnd path → IsSpot f h path (spot_of f h path) × (spot_of f h path ≡ length (list_of f h))
  end-spot None live end = ((end, refl), refl)
  end-spot (Some root) live end =
      let is = live-root f root live in
      let list = list-root f root is in
      let none : (path.size == 0) ≡ true = elim (eqb_tells path.size 0) [ inl w ↦ w.0 | inr w ↦ absurd (w.1 end) ] in
      let last : spot_of f (Some root) path ≡ length (list_under f root) = λ j. if none j then length (list_under f root) else place_in (tree_of f.nodes root).leaves (leaf_of path) (index_of path) in (
        record { root_is = is; at = path-ended path.node path.entry (tree_of f.nodes root) (spot_of f (Some root) path) path.size end last },
        last ∙ sym (ap length list),
      )

  -- the same, of a list that increases
  pub end-stands : {cmp : K → K → Ordering} {h : Option ℕ} → IsSearchable cmp f h → IsAtEnd path
      → StandsIn cmp f h path × (spot_of f h path ≡ length (list_of f h))
  end-stands {h = h} ordered end =
      let at = end-spot h ordered.live end in
      (record { live = ordered.live; increasing = ordered.increasing; stands = at.0 }, at.1)

  -- a path with no node that stands at a place stands at the list's length
  pub end-place : (h : Option ℕ) (p : ℕ) → IsSpot f h path p → IsAtEnd path → p ≡ length (list_of f h)
  end-place None p s end = s.1
  end-place (Some root) p s end = at_end path.node path.entry (tree_of f.nodes root) p path.size end s.at ∙ sym (ap length (list-root f root s.root_is))

  -- a path with a node stands on an entry
  pub on-spot-of : (h : Option ℕ) (p : ℕ) → IsSpot f h path p → (¬ IsAtEnd path) → p < length (list_of f h)
  on-spot-of None p s some = absurd (some s.0)
  on-spot-of (Some root) p s some =
      let on = on-within f path (record { root_is = s.root_is; stands = at_entry path.node path.entry (tree_of f.nodes root) p path.size some s.at }) in
      omega (arith, on, ap length (list-root f root s.root_is))

module _ {K X : Type 0} where
  keys_of-with_value : (es : List (K × X)) (p : ℕ) (w : X) → keys_of (with_value es p w) ≡ keys_of es
  keys_of-with_value [] p w = refl
  keys_of-with_value (e ∷ es) zero w = refl
  keys_of-with_value (e ∷ es) (suc p) w = ap (λ ks. e.0 ∷ ks) (keys_of-with_value es p w)

  -- a list that increases still does after a value was written
  pub IsIncreasing-with_value : (cmp : K → K → Ordering) (es : List (K × X)) (p : ℕ) (w : X) → IsIncreasing cmp es → IsIncreasing cmp (with_value es p w)
  IsIncreasing-with_value cmp es p w h = subst (IsStrictlySortedBy cmp) (sym (keys_of-with_value es p w)) h

  -- a write past the end changes nothing
  pub with_value-past : (es : List (K × X)) (p : ℕ) (w : X) → length es ≤ p → with_value es p w ≡ es
  with_value-past [] p w past = refl
  with_value-past (e ∷ es) zero w past = absurd (omega (arith, past))
  with_value-past (e ∷ es) (suc p) w past = ap (λ l. e ∷ l) (with_value-past es p w (omega (arith, past)))

  -- the forest with a value written where a path stands, at a place before the end
  pub written-here : {n : ℕ} (f : Forest K X) (path : Path K X n) (leaf index p end : ℕ) → p < end → leaf ≡ leaf_of path → index ≡ index_of path → (w : X) → with_value_at f leaf index w ≡ (if p == end then f else with_value_at f (leaf_of path) (index_of path) w)
  written-here f path leaf index p end within li ii w =
      let no : (p == end) ≡ false = elim (eqb_tells p end) [ inl z ↦ absurd (omega (arith, within, z.1)) | inr z ↦ z.0 ] in
      (λ j. with_value_at f (li j) (ii j) w) ∙ sym (λ j. if no j then f else with_value_at f (leaf_of path) (index_of path) w)

module _ {K X C : Type 0} (order : C → K → K → Ordering) (c : MapCursorMut K X C) (v : IsCursor order c) where
  -- what a write through a cursor leaves
  pub writes : (c' : MapCursorMut K X C) (w : X) → map_loan c' ≡ map_loan c → forest_loan c' ≡ forest_loan c → comparator c' ≡ comparator c → map_now c' ≡ map_now c → c'.path ≡ c.path → IsWritten (forest_now c) (forest_now c') (map_now c) c.path (spot c) w → Writes order c c' w
  writes c' w same same' comp map path told =
      let up = IsIncreasing-with_value (order (comparator c)) (entries c) (spot c) w v.increasing in
      let ordered : IsSearchable (order (comparator c)) (forest_now c') (map_now c) =
      record { live = told.becomes.live; increasing = rw told.becomes.list up } in
      let at : IsSpot (forest_now c') (map_now c) c.path (spot c) × IsComputed 7 (forest_now c') (map_now c) = (told.spot, told.computed) in
      record {
        goes = goes-on same same' comp (rw map ordered) (rw (map, path) at);
        becomes = told.becomes;
        map = map;
        sizes = told.sizes;
        slots = told.slots;
        free = told.free;
        memory = told.memory;
      }

  -- a cursor that is not at the end stands on an entry
  abbrev pub on-entry : (¬ IsAtEnd c.path) → OnSpot (forest_now c) (map_now c) c.path
  on-entry some = record { place = spot c; spot = v.stands; within = on-spot-of (forest_now c) c.path (map_now c) (spot c) v.stands some }

  module _ (end : IsAtEnd c.path) where
    -- a cursor at the end has no value
    pub none-here : value_at_place (entries c) (spot c) ≡ None
    none-here =
        let last = end-place (forest_now c) c.path (map_now c) (spot c) v.stands end in
        ap (option_map (λ e. e.1)) (slice_get_past (entries c) (spot c) (omega (arith, last)))

    -- a write through a cursor at the end changes nothing
    pub unwritten-here : (w : X) → Writes order c (with_value_here c w) w
    unwritten-here w =
        let last = end-place (forest_now c) c.path (map_now c) (spot c) v.stands end in
        let kept = with_value-past (entries c) (spot c) w (omega (arith, last)) in
        let at-last : (spot c == length (entries c)) ≡ true = elim (eqb_tells (spot c) (length (entries c))) [ inl z ↦ z.0 | inr z ↦ absurd (z.1 last) ] in
        let same : c ≡ with_value_here c w = λ j. record c { forest = record c.forest { now = sym (λ i. if at-last i then c.forest.now else with_value_at c.forest.now (leaf_of c.path) (index_of c.path) w) j } } in
        let stays : Writes order c c w = record {
          goes = record { map_loan = refl; forest_loan = refl; comparator = refl; spot = refl; valid = v };
          becomes = subst (λ (l : List (K × X)). Becomes (forest_now c) (map_now c) (forest_now c) (map_now c) l) (sym kept) (becomes-same (forest_now c) (map_now c) v.live);
          map = refl;
          sizes = refl;
          slots = refl;
          free = refl;
          memory = refl;
        } in
        subst (λ d. Writes order c d w) same stays

module _ {K X : Type 0} {cmp : K → K → Ordering} {f : Forest K X} {h : Option ℕ} {look : Look K X} where
  -- a look in a list stands at some place
  abbrev pub look-at : LooksIn cmp f h look → AtLook f h look
  look-at v = record { place = _; is = v.stands }

  -- another look in the same list
  pub looks-in : {look' : Look K X} {p : ℕ} → LooksIn cmp f h look → IsLook f h look' p → LooksIn cmp f h look'
  looks-in v at = record { live = v.live; increasing = v.increasing; stands = look-stands at }

-- a reading cursor whose look stands at a place
pub reads-at : {K X C : Type 0} {f : Forest K X} {h : Option ℕ} {look : Look K X} {comp : C} {p : ℕ} → IsLook f h look p
    → ◌≡◌ {A = Cursor K X C} (record { entries = list_of f h; spot = look_place f h look; comparator = comp })
    (record { entries = list_of f h; spot = p; comparator = comp })
reads-at {f = f} {h} {comp = comp} at = ap (λ (z : ℕ). record { entries = list_of f h; spot = z; comparator = comp }) (look-place-is at)

-- the parts of a pair that was read from an option
pub parts-read : {A B : Type 0} {o : Option (A × B)} {a : A} {b : B} {x : A × B} → o ≡ Some (a, b) → o ≡ Some x → (x.0 ≡ a) × (x.1 ≡ b)
parts-read is read = (cc, cc)

-- a live handle is empty exactly if its list is
pub empty-live : {K X : Type 0} (f : Forest K X) (h : Option ℕ) → IsLive f h → IsNone h ↔ (list_of f h ≡ [])
empty-live f None live = (λ handle. refl, λ list. refl)
empty-live f (Some root) live = (λ handle. absurd (cc), λ list. absurd (live list))
