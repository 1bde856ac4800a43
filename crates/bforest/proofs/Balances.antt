-- What a call that may change one tree says of its handle: the sizes of the tree's nodes fit the list afterwards as they did before, and
-- slots, free slots and the tree's nodes balance.
use Rattle.bforest.proofs.Growing.{growth-fits}
use Rattle.bforest.proofs.{RangeFits.range-fits, Shrinking.{shrink-fits}}
use Rattle.bforest.proofs.BehindFits.{detached-fits}
use Rattle.bforest.proofs.Truncating.{truncation-fits}
pub use Rattle.bforest.proofs.Lengths.{length-written}
use Rattle.bforest.specs.Bounds.{entries_between, is_between, is_from_start, is_past_end, start_place}
use Rattle.bforest.specs.Calls.{Clears, Compacts, Filters, Inserts, KeepsFrom, Pops, Removes, RemovesAt, RemovesBetween, Unites, Updates, fewest, need_of_union, sizes_behind, sizes_outside, truncation}
use Rattle.bforest.specs.Entries.{is_present, place}
use Rattle.bforest.specs.Forest.{Becomes, Forest, Gives, IsFitFor, IsLive, Takes, growth, limit_of, list_of, need, need_of, room_of, shrink, sizes_of}
use Rattle.bforest.specs.Refusal.{OutOfMemory}
use Rattle.bforest.specs.Retain.{AsksEach, kept_by, sizes_by}
use Rattle.bforest.specs.Union.{fits, kept_from, kept_of, new_to}
use Rattle.bforest.specs.Room.{Balances, IsFitAt, node_count}
use Rattle.bforest_nodes.proofs.Found.{place-present, put-absent, put-present}
use Rattle.bforest_trees.proofs.Putting.{present-some}
use Rattle.bforest_trees.proofs.ranges.Outside.{filter-behind, filter-from, filter-halves}
use Rattle.bforest_trees.proofs.unions.New.{none-new}
use Rattle.std.specs.Fn.{Once}
use Rattle.std.proofs.Common.{Bool, Err, List, None, Ok, Option, Result, Some, [], ap, arith, false, if◌then◌else◌, inl, inr, length, not, refl, remove, subst, suc, sym, true, ◌%◌, ◌+◌, ◌-◌, ◌<◌, ◌∙◌, ◌∷◌, ◌≡◌, ◌≢◌, ◌≤◌, ℕ}
use Rattle.std.proofs.lemmas.Bool.Decides.{leb_tells}
use Rattle.std.proofs.lemmas.List.Edits.{length-insert, length-remove}
use Rattle.std.proofs.lemmas.List.Sums.{count_by-le-length}
use Rattle.std.specs.Ordering.{is_lt}
use Rattle.std.specs.declared.cmp.Ordering.{Ordering}
use Rattle.std.specs.declared.ops.Bound.TheVariants.{Excluded, Included, Unbounded}
use Rattle.std.specs.declared.ops.Bound.{Bound}
-- a table that holds as much memory as before has not grown
pub use Rattle.bforest_core.proofs.table.Allocating.{grows-not}

not-less : (a b : ℕ) → ¬ (a < b) → b ≤ a
not-less a b never = elim (leb_tells b a) [ inl w ↦ w.1 | inr w ↦ absurd (never w.1) ]

module _ {K V : Type 0} where
  -- what is left of a list after one removal for each entry answered false
  sifted : (most : ℕ) → most % 2 ≡ 1 → {F : Type 0} (step : F → K → V → Bool → V → F → Type 0) (q : F) (at : ℕ) (es : List (K × V)) (answers : List (Bool × V)) (sizes : List (List ℕ)) → AsksEach step q es answers → IsFitFor most (at + length es) sizes
      → IsFitFor most (at + length (kept_by es answers)) (sizes_by most at answers sizes)
  sifted most odd step q at [] answers sizes asked fit = rw asked fit
  sifted most odd step q at (e ∷ es) [] sizes asked fit = absurd asked
  sifted most odd step q at (e ∷ es) ((true, w) ∷ answers) sizes asked fit =
      subst (λ n. IsFitFor most n (sizes_by most (suc at) answers sizes)) (let is : suc at + length (kept_by es answers) ≡ at + suc (length (kept_by es answers)) = omega arith in is)
      (sifted most odd step asked.0 (suc at) es answers sizes asked.2 (subst (λ n. IsFitFor most n sizes) (let is : at + suc (length es) ≡ suc at + length es = omega arith in is) fit))
  sifted most odd step q at (e ∷ es) ((false, w) ∷ answers) sizes asked fit =
      sifted most odd step asked.0 at es answers (shrink most at sizes) asked.2
      (subst (λ n. IsFitFor most n (shrink most at sizes)) (let is : (at + suc (length es)) - 1 ≡ at + length es = omega arith in is) (shrink-fits most odd at (at + suc (length es)) sizes fit (omega arith)))

  -- what is left of a whole list
  sifted-all : (most : ℕ) → most % 2 ≡ 1 → {F : Type 0} (step : F → K → V → Bool → V → F → Type 0) (q : F) (es : List (K × V)) (answers : List (Bool × V)) (sizes : List (List ℕ)) → AsksEach step q es answers → IsFitFor most (length es) sizes
      → IsFitFor most (length (kept_by es answers)) (sizes_by most 0 answers sizes)
  sifted-all most odd step q es answers sizes asked fit = subst (λ n. IsFitFor most n (sizes_by most 0 answers sizes)) (none (length (kept_by es answers))) (sifted most odd step q 0 es answers sizes asked (subst (λ n. IsFitFor most n sizes) (sym (none (length es))) fit))
    where
      none : (n : ℕ) → 0 + n ≡ n
      none n = omega arith

  module _ (most : ℕ) (f f' : Forest K V) (h h' : Option ℕ) where
    -- a list of the same length, in nodes of the same sizes
    pub sizes-stay : IsFitAt most f h → length (list_of f' h') ≡ length (list_of f h) → sizes_of f' h' ≡ sizes_of f h → IsFitAt most f' h'
    sizes-stay fit same-length same-sizes = rw (same-length, same-sizes) fit

    pub given-balance : IsFitAt most f' h' → limit_of f' ≡ limit_of f → Gives (sizes_of f h) (sizes_of f' h') f f' → Balances most f h f' h'
    given-balance fit limit g = record {
      fit = fit;
      nodes = omega (arith, g.slots, g.free);
      slots = omega (arith, g.slots);
      within = λ w. omega (arith, g.slots, limit, w);
    }

    taken-balance : (d : ℕ) → IsFitAt most f' h' → limit_of f' ≡ limit_of f → Takes d f f' → d ≤ room_of f → node_count (sizes_of f' h') ≡ node_count (sizes_of f h) + d → Balances most f h f' h'
    taken-balance d fit limit t room more = record {
      fit = fit;
      nodes = omega (arith, t.slots, t.free, more);
      slots = omega (arith, t.slots);
      within = λ w. omega (arith, t.slots, limit, room, w);
    }

    -- nothing changed
    pub same-balance : IsFitAt most f h → f' ≡ f → h' ≡ h → Balances most f h f' h'
    same-balance fit same-forest same-handle = rw (same-forest, same-handle) (record { fit = fit; nodes = refl; slots = omega arith; within = λ w. w })

  module _ (most : ℕ) (odd : most % 2 ≡ 1) (f f' : Forest K V) (h h' : Option ℕ) (fit : IsFitAt most f h) where
    pub clears-balance : Clears f h f' h' → Balances most f h f' h'
    clears-balance c =
        let nothing : sizes_of f' h' ≡ [] = ap (λ o. sizes_of f' o) c.handle in
        let none : length (list_of f' h') ≡ 0 = ap length c.cleared.list in
        given-balance most f f' h h' (rw (none, nothing) refl) c.cleared.limit (rw nothing c.account)

    pub filters-balance : {F : Type 0} (step : F → K → V → Bool → V → F → Type 0) (q : F) → Filters most step f h q f' h' → Balances most f h f' h'
    filters-balance step q r =
        given-balance most f f' h h'
        (rw (r.kept.sizes_are, r.kept.kept_is) (sifted-all most odd step q (list_of f h) r.kept.answers (sizes_of f h) r.kept.asked fit))
        r.changed.limit r.account

    pub keeps-balance : {cmp : K → K → Ordering} {present : Bool} {other : Option ℕ} {result : Bool} → KeepsFrom most cmp present f h other result f' h' → Balances most f h f' h'
    keeps-balance {cmp} {present} {other} r = given-balance most f f' h h' (go h' r.kept.live r.kept.list r.sizes) r.kept.limit r.account
      where
        any : Unit {0} → K → V → Bool → V → Unit {0} → Type 0
        any q k v b w q' = Unit {0}

        asked : (es : List (K × V)) → AsksEach any tt es (kept_of cmp present es (list_of f other))
        asked [] = refl
        asked (e ∷ es) = (tt, tt, asked es)

        kept-by : (es : List (K × V)) → kept_by es (kept_of cmp present es (list_of f other)) ≡ kept_from cmp present es (list_of f other)
        kept-by [] = refl
        kept-by (e ∷ es) = ap (λ l. if fits present (is_present cmp (list_of f other) e.0) then e ∷ l else l) (kept-by es)

        go : (o : Option ℕ) → IsLive f' o → list_of f' o ≡ kept_from cmp present (list_of f h) (list_of f other)
            → (list_of f' o ≢ [] → sizes_of f' o ≡ sizes_by most 0 (kept_of cmp present (list_of f h) (list_of f other)) (sizes_of f h)) → IsFitAt most f' o
        go None live list sizes = refl
        go (Some n) live list sizes = rw (list ∙ sym (kept-by (list_of f h)), sizes live) (sifted-all most odd any tt (list_of f h) (kept_of cmp present (list_of f h) (list_of f other)) (sizes_of f h) (asked (list_of f h)) fit)

    -- a range with a start and an end, or all entries in front of a place
    behind-fit : (lo : Bound K) (p n len : ℕ) (sizes : List (List ℕ)) → IsFitFor most len sizes → p + n ≤ len → IsFitFor most (len - n) (sizes_behind most lo p n sizes)
    behind-fit (Included k) p n len sizes fit low = range-fits most odd p n len sizes fit low
    behind-fit (Excluded k) p n len sizes fit low = range-fits most odd p n len sizes fit low
    behind-fit Unbounded p n len sizes fit low = detached-fits most n len sizes (omega (arith, odd)) fit (omega (arith, low))

    -- the same of a range with an end, or of all entries behind a place
    outside-fit : (lo hi : Bound K) (p n len : ℕ) (sizes : List (List ℕ)) → IsFitFor most len sizes → p + n ≤ len → (hi ≡ Unbounded → p + n ≡ len) → IsFitFor most (len - n) (sizes_outside most lo hi p n sizes)
    outside-fit lo (Included k) p n len sizes fit low all = behind-fit lo p n len sizes fit low
    outside-fit lo (Excluded k) p n len sizes fit low all = behind-fit lo p n len sizes fit low
    outside-fit lo Unbounded p n len sizes fit low all = let is = all refl in
        subst (λ k. IsFitFor most k (truncation p n sizes)) (let left : p ≡ len - n = omega (arith, is) in left)
        (truncation-fits most p n sizes (omega (arith, odd)) (subst (λ k. IsFitFor most k sizes) (sym is) fit))

    pub between-balance : {cmp : K → K → Ordering} {lo hi : Bound K} {result : Bool} → RemovesBetween most cmp lo hi f h result f' h' → Balances most f h f' h'
    between-balance {cmp} {lo} {hi} r =
        let es = list_of f h in
        let n = length (entries_between cmp lo hi es) in
        let left : length (list_of f' h') ≡ length es - n = omega (arith, ap length r.removed.list, filter-halves (λ e. is_between cmp lo hi e.0) es) in
        given-balance most f f' h h'
        (rw (left, r.sizes) (outside-fit lo hi (start_place cmp lo es) n (length es) (sizes_of f h) fit (filter-behind (λ e. is_from_start cmp lo e.0) (λ e. not (is_past_end cmp hi e.0)) es) (λ is. rw is (filter-from (λ e. is_from_start cmp lo e.0) es))))
        r.removed.limit r.account

    -- a packed tree took the place of the old one, within the limit
    pub compacts-balance : Compacts most f h (Ok tt) f' h' → Balances most f h f' h'
    compacts-balance c =
        let low : fewest most (length (list_of f h)) ≤ room_of f = not-less (room_of f) (fewest most (length (list_of f h))) (λ few. let full = c.full.1 few in cc) in
        record {
          fit = subst (λ es. IsFitFor most (length es) (sizes_of f' h')) (sym c.same_list.list) c.fit;
          nodes = omega (arith, c.account.slots, c.account.free, c.nodes);
          slots = omega (arith, c.account.slots);
          within = λ few. omega (arith, c.account.slots, c.same_list.limit, low, few);
        }

    removed : (p : ℕ) → p < length (list_of f h) → Becomes f h f' h' (remove (list_of f h) p) → sizes_of f' h' ≡ shrink most p (sizes_of f h) → Gives (sizes_of f h) (sizes_of f' h') f f' → Balances most f h f' h'
    removed p within b sizes g =
        let less : length (list_of f' h') ≡ length (list_of f h) - 1 = omega (arith, ap length b.list, length-remove (list_of f h) p within) in
        given-balance most f f' h h' (rw (less, sizes) (shrink-fits most odd p (length (list_of f h)) (sizes_of f h) fit within)) b.limit g

    pub removes-at-balance : (p : ℕ) → RemovesAt most f h p f' h' → Balances most f h f' h'
    removes-at-balance p r = elim (leb_tells (suc p) (length (list_of f h))) [
      | inl w ↦ removed p w.1 r.removed (r.sizes ∙ ap (λ t. if t then shrink most p (sizes_of f h) else sizes_of f h) w.0) r.account
      | inr w ↦ let past : length (list_of f h) ≤ p = omega (arith, w.1) in same-balance most f f' h h' fit (r.end_forest past) (r.end_handle past)
    ]

    pub pops-balance : (p : ℕ) (result : Option (K × V)) → Pops most f h p result f' h' → Balances most f h f' h'
    pops-balance p result r = removes-at-balance p r.removed

    module _ (cmp : K → K → Ordering) (k : K) where
      at : ℕ
      at = place cmp (list_of f h) k

      pub removes-balance : (result : Option V) → Removes most cmp f h k result f' h' → Balances most f h f' h'
      removes-balance result r = by (is_present cmp (list_of f h) k) refl
        where
          list-after : Bool → List (K × V)
          list-after t = if t then remove (list_of f h) (place cmp (list_of f h) k) else list_of f h

          sizes-after : Bool → List (List ℕ)
          sizes-after t = if t then shrink most (place cmp (list_of f h) k) (sizes_of f h) else sizes_of f h

          by : (t : Bool) → is_present cmp (list_of f h) k ≡ t → Balances most f h f' h'
          by true e =
              removed (place cmp (list_of f h) k) (place-present cmp (list_of f h) k e) (subst (λ es. Becomes f h f' h' es) (ap list-after e) r.cut) (r.sizes ∙ ap sizes-after e) r.account
          by false e =
              let same : length (list_of f' h') ≡ length (list_of f h) = ap length (r.cut.list ∙ ap list-after e) in
              given-balance most f f' h h' (sizes-stay most f f' h h' fit same (r.sizes ∙ ap sizes-after e)) r.cut.limit r.account

      pub inserts-balance : (v : V) (result : Result (Option V) OutOfMemory) → Inserts most cmp f h k v result f' h' → Balances most f h f' h'
      inserts-balance v (Err e) r = same-balance most f f' h h' fit r.refused_forest r.refused_handle
      inserts-balance v (Ok old) r = by (is_present cmp (list_of f h) k) refl
        where
          enough : need_of most cmp f h k ≤ room_of f
          enough = not-less (room_of f) (need_of most cmp f h k) (λ few. let full = r.full.1 few in cc)

          sizes-after : Bool → List (List ℕ)
          sizes-after t = if t then sizes_of f h else growth most (place cmp (list_of f h) k) (sizes_of f h)

          needs : Bool → ℕ
          needs t = if t then 0 else need most (place cmp (list_of f h) k) (sizes_of f h)

          by : (t : Bool) → is_present cmp (list_of f h) k ≡ t → Balances most f h f' h'
          by true e =
              let sizes : sizes_of f' h' ≡ sizes_of f h = r.sizes ∙ ap sizes-after e in
              let none : need_of most cmp f h k ≡ 0 = ap needs e in
              let same : length (list_of f' h') ≡ length (list_of f h) = ap length (r.put.list ∙ put-present cmp (list_of f h) k v e) ∙ length-written (list_of f h) (place cmp (list_of f h) k) v in
              taken-balance most f f' h h' (need_of most cmp f h k) (sizes-stay most f f' h h' fit same sizes) r.put.limit r.account enough (omega (arith, ap node_count sizes, none))
          by false e =
              let within : place cmp (list_of f h) k ≤ length (list_of f h) = count_by-le-length (λ x. is_lt (cmp x.0 k)) (list_of f h) in
              let sizes : sizes_of f' h' ≡ growth most (place cmp (list_of f h) k) (sizes_of f h) = r.sizes ∙ ap sizes-after e in
              let some : need_of most cmp f h k ≡ need most (place cmp (list_of f h) k) (sizes_of f h) = ap needs e in
              let longer = length-insert (list_of f h) (place cmp (list_of f h) k) (k, v) within in
              let more : length (list_of f' h') ≡ suc (length (list_of f h)) = omega (arith, longer, ap length (r.put.list ∙ put-absent cmp (list_of f h) k v e)) in
              let grown = growth-fits most odd (place cmp (list_of f h) k) (length (list_of f h)) (sizes_of f h) fit within in
              taken-balance most f f' h h' (need_of most cmp f h k) (rw (more, sizes) grown.0) r.put.limit r.account enough (omega (arith, ap node_count sizes, some, grown.1))

      pub updates-balance : {F : Type 0} {g : Once F (V × Unit {0}) V} {q : F} (result : Option V) → Updates g cmp f h k q result f' h' → Balances most f h f' h'
      updates-balance None u = same-balance most f f' h h' fit (u.absent_forest refl) u.handle
      updates-balance (Some w) u =
          let here = present-some cmp (list_of f h) k u.called.0 u.called.1 in
          let same : length (list_of f' h') ≡ length (list_of f h) = ap length (u.put.list ∙ put-present cmp (list_of f h) k w here) ∙ length-written (list_of f h) (place cmp (list_of f h) k) w in
          record {
            fit = sizes-stay most f f' h h' fit same u.sizes;
            nodes = omega (arith, u.slots, u.free, ap node_count u.sizes);
            slots = omega (arith, u.slots);
            within = λ low. omega (arith, u.slots, u.put.limit, low);
          }

    -- a single new entry was inserted; for more of them the nodes of the new tree were taken, and then those of the old one freed
    pub unites-balance : {cmp : K → K → Ordering} {other : Option ℕ} → Unites most cmp f h other (Ok true) f' h' → Balances most f h f' h'
    unites-balance {cmp} {other} c = by (new_to cmp f h other) refl
      where
        by : (new : List (K × V)) → new_to cmp f h other ≡ new → Balances most f h f' h'
        by [] none = absurd (let told = c.changed ∙ ap not (none-new cmp (list_of f h) (list_of f other) none) in cc)
        by (e ∷ []) one = inserts-balance cmp e.0 e.1 (Ok None) (c.inserted e one)
        by (e ∷ d ∷ new) more =
            let many : 1 < length (new_to cmp f h other) = omega (arith, ap length more) in
            let account = c.account many in
            let low : need_of_union most cmp f h other ≤ room_of f = not-less (room_of f) (need_of_union most cmp f h other) (λ few. let full = c.full.1 few in cc) in
            record {
              fit = c.fit many;
              nodes = omega (arith, account.slots, account.free, c.nodes many);
              slots = omega (arith, account.slots);
              within = λ few. omega (arith, account.slots, c.united.limit, low, few);
            }
