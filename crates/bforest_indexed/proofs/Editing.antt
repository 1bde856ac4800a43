-- For callers: work by a writing cursor, step by step.
use Rattle.bforest.proofs.Balances.{inserts-balance, length-written, removes-at-balance, same-balance, sizes-stay}
use Rattle.bforest.proofs.Becoming.{becomes-both}
use Rattle.bforest.specs.Calls.{Inserts, RemovesAt}
use Rattle.bforest.specs.Cursor.{Goes, IsCursor, Moves, Writes, comparator, entries, forest_now, map_now, spot}
use Rattle.bforest.specs.Entries.{with_value}
use Rattle.bforest.specs.Forest.{Becomes, Forest, IsFitFor, IsLive, list_of, sizes_of}
use Rattle.bforest.specs.Refusal.{OutOfMemory}
use Rattle.bforest.specs.Room.{Balances, node_count}
use Rattle.bforest.specs.declared.map_cursor_mut.MapCursorMut.{MapCursorMut}
use Rattle.bforest_indexed.specs.Edits.{Edits}
use Rattle.std.proofs.Common.{Err, List, Ok, Option, Result, ap, arith, length, refl, subst, sym, ◌%◌, ◌∙◌, ◌≡◌, ℕ}
use Rattle.std.specs.declared.cmp.Ordering.{Ordering}

module _ {K X : Type 0} where
  -- nothing changed
  becomes-none : (f : Forest K X) (h : Option ℕ) → IsLive f h → Becomes f h f h (list_of f h)
  becomes-none f h live = record {
    live = live;
    list = refl;
    leaves = λ other. absurd (other refl);
    fresh = λ other. absurd (other refl);
    leaves_sizes = λ other. absurd (other refl);
    fresh_sizes = λ other. absurd (other refl);
    others = λ n old new. refl;
    others_sizes = λ n old new. refl;
    limit = refl;
  }

  -- the list that is left, as the list of the new handle
  becomes-now : {f f' : Forest K X} {h h' : Option ℕ} {es : List (K × X)} → Becomes f h f' h' es → Becomes f h f' h' (list_of f' h')
  becomes-now {f} {f'} {h} {h'} b = subst (λ l. Becomes f h f' h' l) (sym b.list) b

  becomes-same : {f f' : Forest K X} {h h' : Option ℕ} → IsLive f h → f' ≡ f → h' ≡ h → Becomes f h f' h' (list_of f' h')
  becomes-same {f} {f'} {h} {h'} live forest handle =
      subst (λ g. Becomes f h g h' (list_of g h')) (sym forest) (subst (λ q. Becomes f h f q (list_of f q)) (sym handle) (becomes-none f h live))

  balances-both : {most : ℕ} {f g k : Forest K X} {h i j : Option ℕ} → Balances most f h g i → Balances most g i k j → Balances most f h k j
  balances-both {most} {f} {g} {k} {h} {i} {j} a b = record {
    fit = b.fit;
    nodes = omega (arith, a.nodes, b.nodes);
    slots = omega (arith, a.slots, b.slots);
    within = λ w. b.within (a.within w);
  }

module _ {K X C : Type 0} {most : ℕ} {order : C → K → K → Ordering} {c : MapCursorMut K X C} where
  -- no step was made
  pub edits-none : IsCursor order c → Edits most order c c
  edits-none valid = record {
    map_loan = refl;
    forest_loan = refl;
    comparator = refl;
    valid = valid;
    leaves = record {
      becomes = becomes-none (forest_now c) (map_now c) valid.live;
      balances = λ fit. same-balance most (forest_now c) (forest_now c) (map_now c) (map_now c) fit refl refl;
    };
  }

  module _ {d e : MapCursorMut K X C} (before : Edits most order c d) where
    -- one step more, which changes the map
    edits-step : {p : ℕ} → Goes order d e p → Becomes (forest_now d) (map_now d) (forest_now e) (map_now e) (entries e)
        → (IsFitFor most (length (entries d)) (sizes_of (forest_now d) (map_now d)) → Balances most (forest_now d) (map_now d) (forest_now e) (map_now e)) → Edits most order c e
    edits-step step becomes balances = record {
      map_loan = step.map_loan ∙ before.map_loan;
      forest_loan = step.forest_loan ∙ before.forest_loan;
      comparator = step.comparator ∙ before.comparator;
      valid = step.valid;
      leaves = record {
        becomes = becomes-both (forest_now c) (forest_now d) (forest_now e) (map_now c) (map_now d) (map_now e) (entries d) (entries e) before.leaves.becomes becomes;
        balances = λ fit. balances-both (before.leaves.balances fit) (balances (before.leaves.balances fit).fit);
      };
    }

    -- the cursor moved
    pub edits-moves : {p : ℕ} → Moves order d e p → Edits most order c e
    edits-moves step = edits-step step.goes (becomes-same before.valid.live step.forest step.map)
        (λ fit. same-balance most (forest_now d) (forest_now e) (map_now d) (map_now e) fit step.forest step.map)

    -- an entry was inserted, or that was refused
    pub edits-inserts : most % 2 ≡ 1 → {k : K} {x : X} {r : Result (Option X) OutOfMemory} {p : ℕ}
        → Inserts most (order (comparator d)) (forest_now d) (map_now d) k x r (forest_now e) (map_now e) → Goes order d e p → Edits most order c e
    edits-inserts odd {k} {x} {r} call step = edits-step step (told r call)
        (λ fit. inserts-balance most odd (forest_now d) (forest_now e) (map_now d) (map_now e) fit (order (comparator d)) k x r call)
      where
        told : (r : Result (Option X) OutOfMemory) → Inserts most (order (comparator d)) (forest_now d) (map_now d) k x r (forest_now e) (map_now e)
            → Becomes (forest_now d) (map_now d) (forest_now e) (map_now e) (entries e)
        told (Ok old) i = becomes-now i.put
        told (Err refused) i = becomes-same before.valid.live i.refused_forest i.refused_handle

    -- the entry at the cursor was removed
    pub edits-removes : most % 2 ≡ 1 → {p q : ℕ} → RemovesAt most (forest_now d) (map_now d) p (forest_now e) (map_now e) → Goes order d e q → Edits most order c e
    edits-removes odd {p} call step = edits-step step (becomes-now call.removed)
        (λ fit. removes-at-balance most odd (forest_now d) (forest_now e) (map_now d) (map_now e) fit p call)

    -- the value at the cursor was written
    pub edits-writes : {w : X} → Writes order d e w → Edits most order c e
    edits-writes {w} step =
        let b : Becomes (forest_now d) (map_now d) (forest_now e) (map_now e) (with_value (entries d) (spot d) w) =
        subst (λ q. Becomes (forest_now d) (map_now d) (forest_now e) q (with_value (entries d) (spot d) w)) (sym step.map) step.becomes in
        let sizes : sizes_of (forest_now e) (map_now e) ≡ sizes_of (forest_now d) (map_now d) = ap (sizes_of (forest_now e)) step.map ∙ step.sizes in
        let same : length (entries e) ≡ length (entries d) = ap length b.list ∙ length-written (entries d) (spot d) w in
        edits-step step.goes (becomes-now b) (λ fit. record {
          fit = sizes-stay most (forest_now d) (forest_now e) (map_now d) (map_now e) fit same sizes;
          nodes = omega (arith, step.slots, step.free, ap node_count sizes);
          slots = omega (arith, step.slots);
          within = λ w. omega (arith, step.slots, b.limit, w);
        })
