-- A call on a forest that adds up leaves one that does.
use Rattle.bforest_trees.proofs.ranges.Splitting.{tail-fresh-sizes}
use Rattle.bforest.proofs.Balances.{between-balance, clears-balance, compacts-balance, filters-balance, inserts-balance, keeps-balance, length-written, removes-at-balance, removes-balance, sizes-stay, unites-balance, updates-balance}
use Rattle.bforest.specs.Bounds.{entries_outside}
use Rattle.bforest.specs.Calls.{Clears, Clones, Compacts, Filters, GetsOrInserts, Inserts, KeepsFrom, Loads, Pops, Removes, RemovesAt, RemovesBetween, Shifts, SplitsAt, Unites, Updates, UpdatesOrInserts}
use Rattle.bforest.specs.Forest.{Becomes, Forest, IsFitFor, IsTooMany, Takes, emptied, fewest, free_of, list_of, nodes_at, nodes_of, room_of, sizes_of, slots_of}
use Rattle.bforest.specs.Room.{Balances}
use Rattle.bforest.specs.Union.{kept_from, united}
use Rattle.bforest_calls.proofs.Packing.{loaded-fits}
use Rattle.bforest_calls.proofs.Updating.{got-or-inserted, shifted-length, updated-or-inserted}
use Rattle.bforest_calls.proofs.Sums.{at, is-number, upto-more, upto-moved, upto-parted}
use Rattle.bforest_calls.specs.State.{AddsUp, WritesAt}
use Rattle.bforest_core.proofs.union.Forests.{used_within}
use Rattle.bforest_core.specs.Change.{node_count, severed}
use Rattle.bforest_core.specs.Levels.{flat, sizes_of as tree_sizes}
use Rattle.bforest_core.specs.Trees.{is_root, tree_of}
use Rattle.bforest_core.specs.declared.pool.OutOfMemory.{OutOfMemory}
use Rattle.bforest_nodes.specs.Entries.{cut, put, with_value}
use Rattle.bforest_trees.specs.Calls.{as_inserted}
use Rattle.bforest_trees.specs.Forest.{list_at, sizes_at}
use Rattle.std.proofs.Common.{Bool, Err, List, None, Ok, Option, Result, Some, [], ap, arith, false, if◌then◌else◌, inl, inr, length, refl, remove, subst, sym, take, true, ◌%◌, ◌++◌, ◌∙◌, ◌≡◌, ◌≢◌, ◌≤◌, ℕ}
use Rattle.std.proofs.lemmas.Bool.{and_parts}
use Rattle.std.proofs.lemmas.Bool.Decides.{leb_tells}
use Rattle.std.specs.Fn.{Once}
use Rattle.std.specs.declared.cmp.Ordering.{Ordering}
use Rattle.std.specs.declared.ops.Bound.{Bound}

module _ {K V : Type 0} where
  -- the sizes of a handle fit its list
  fit-of : (most : ℕ) (f : Forest K V) → AddsUp most f → (h : Option ℕ) → IsFitFor most (length (list_of f h)) (sizes_of f h)
  fit-of most f a None = refl
  fit-of most f a (Some n) = a.fit n

  -- a handle of one forest became one of another, whose sizes fit its list
  module _ (most : ℕ) (f f' : Forest K V) (h h' : Option ℕ) (es : List (K × V)) (a : AddsUp most f) (b : Becomes f h f' h' es) (made : Balances most f h f' h') where
    fit-at-new : (n : ℕ) → IsFitFor most (length (list_at f' n)) (sizes_at f' n)
    fit-at-new n = elim (is-number n h') [
      | inl new ↦ subst (λ o. IsFitFor most (length (list_of f' o)) (sizes_of f' o)) (sym new) made.fit
      | inr not-new ↦ elim (is-number n h) [
        | inl old ↦
            let left : h' ≢ h = λ same. not-new (old ∙ sym same) in
            let none : list_at f' n ≡ [] = ap (λ o. list_of f' o) old ∙ b.leaves left in
            let no-sizes : sizes_at f' n ≡ [] = ap (λ o. sizes_of f' o) old ∙ b.leaves_sizes left in
            subst (λ l. IsFitFor most (length l) (sizes_at f' n)) (sym none) (subst (λ s. IsFitFor most 0 s) (sym no-sizes) refl)
        | inr not-old ↦ subst (λ l. IsFitFor most (length l) (sizes_at f' n)) (sym (b.others n not-old not-new)) (subst (λ s. IsFitFor most (length (list_at f n)) s) (sym (b.others_sizes n not-old not-new)) (a.fit n))
      ]
    ]

  -- the nodes of a number's tree are those of the handle with this number
  node-at : (f : Forest K V) (h : Option ℕ) → at (nodes_at f) h ≡ node_count (sizes_of f h)
  node-at f None = refl
  node-at f (Some n) = refl

module _ {K V : Type 0} where
  -- no number from the number of slots on has a tree
  no-root : (f : Forest K V) (n : ℕ) → slots_of f ≤ n → is_root f.nodes n ≡ false
  unfolding is_root
  no-root f n past = by (is_root f.nodes n) refl
    where
      by : (b : Bool) → is_root f.nodes n ≡ b → b ≡ false
      by true e = absurd (let low = used_within f.nodes n (and_parts _ _ e).0 in omega (arith, past, low))
      by false e = refl

  nodes-past : (f : Forest K V) (n : ℕ) → slots_of f ≤ n → nodes_at f n ≡ 0
  unfolding sizes_at
  nodes-past f n past = ap (λ b. node_count (if b then tree_sizes (tree_of f.nodes n) else [])) (no-root f n past)

  -- the sizes of a number that has no tree fit its empty list
  no-tree : (most : ℕ) (f : Forest K V) (n : ℕ) → slots_of f ≤ n → IsFitFor most (length (list_at f n)) (sizes_at f n)
  unfolding list_at sizes_at
  no-tree most f n past = subst (λ b. IsFitFor most (length (if b then flat (tree_of f.nodes n).leaves else [])) (if b then tree_sizes (tree_of f.nodes n) else [])) (sym (no-root f n past)) refl

  -- a forest without trees and slots adds up
  pub none-adds : (most : ℕ) (f : Forest K V) → AddsUp most (emptied f)
  none-adds most f = record { slots = refl; within = omega arith; fit = λ n. no-tree most (emptied f) n (omega arith) }

  -- a forest adds up after a change of one tree that balances
  changed : (most : ℕ) (f f' : Forest K V) (h h' : Option ℕ) (es : List (K × V)) → AddsUp most f → Becomes f h f' h' es → Balances most f h f' h' → AddsUp most f'
  changed most f f' h h' es a b made =
      let past : (n : ℕ) → slots_of f' ≤ n → nodes_at f n ≡ 0 = λ n beyond. nodes-past f n (omega (arith, beyond, made.slots)) in
      let all = upto-moved (nodes_at f) (nodes_at f') h h' (slots_of f') past (λ n beyond. nodes-past f' n beyond) (λ ne. node-at f' h ∙ ap node_count (b.leaves_sizes ne)) (λ ne. node-at f h' ∙ ap node_count (b.fresh_sizes ne))
      (λ n not-old not-new. ap node_count (b.others_sizes n not-old not-new)) in
      let same = upto-more (nodes_at f) (slots_of f) (slots_of f') (λ n beyond. nodes-past f n beyond) made.slots in
      record { slots = omega (arith, all, same, made.nodes, a.slots, node-at f h, node-at f' h'); within = made.within a.within; fit = fit-at-new most f f' h h' es a b made }

  pub still : (most : ℕ) (f f' : Forest K V) → f' ≡ f → AddsUp most f → AddsUp most f'
  still most f f' is a = subst (λ g. AddsUp most g) (sym is) a

  module _ (most : ℕ) (odd : most % 2 ≡ 1) (f f' : Forest K V) (h h' : Option ℕ) (a : AddsUp most f) where
    pub clears-add : Clears f h f' h' → AddsUp most f'
    clears-add c = changed most f f' h h' [] a c.cleared (clears-balance most odd f f' h h' (fit-of most f a h) c)

    -- a list of the same length, in nodes of the same sizes
    same-sizes-add : (es : List (K × V)) → Becomes f h f' h' es → length es ≡ length (list_of f h) → sizes_of f' h' ≡ sizes_of f h → slots_of f' ≡ slots_of f
        → free_of f' ≡ free_of f → AddsUp most f'
    same-sizes-add es b many sizes slots free = changed most f f' h h' es a b (record {
      fit = sizes-stay most f f' h h' (fit-of most f a h) (ap length b.list ∙ many) sizes;
      nodes = omega (arith, slots, free, ap node_count sizes);
      slots = omega (arith, slots);
      within = λ few. omega (arith, slots, b.limit, few);
    })

    pub writes-add : (p : ℕ) (v : V) → WritesAt (record { forest = f; number = h }) p v (record { forest = f'; number = h' }) → AddsUp most f'
    writes-add p v w = same-sizes-add (with_value (list_of f h) p v) w.becomes (length-written (list_of f h) p v) w.sizes w.slots w.free

    pub filters-add : {F : Type 0} (step : F → K → V → Bool → V → F → Type 0) (q : F) → Filters most step f h q f' h' → AddsUp most f'
    filters-add step q r = changed most f f' h h' (list_of f' h') a r.changed (filters-balance most odd f f' h h' (fit-of most f a h) step q r)

    pub removes-at-add : (p : ℕ) → RemovesAt most f h p f' h' → AddsUp most f'
    removes-at-add p r = changed most f f' h h' (remove (list_of f h) p) a r.removed (removes-at-balance most odd f f' h h' (fit-of most f a h) p r)

    pub between-add : {cmp : K → K → Ordering} {lo hi : Bound K} {result : Bool} → RemovesBetween most cmp lo hi f h result f' h' → AddsUp most f'
    between-add {cmp} {lo} {hi} r = changed most f f' h h' (entries_outside cmp lo hi (list_of f h)) a r.removed (between-balance most odd f f' h h' (fit-of most f a h) r)

    pub compacts-add : (result : Result (Unit {0}) OutOfMemory) → Compacts most f h result f' h' → AddsUp most f'
    compacts-add (Err e) c = still most f f' c.refused_forest a
    compacts-add (Ok done) c = changed most f f' h h' (list_of f h) a c.same_list (compacts-balance most odd f f' h h' (fit-of most f a h) c)

    pub keeps-add : {cmp : K → K → Ordering} {present : Bool} {other : Option ℕ} {result : Bool} → KeepsFrom most cmp present f h other result f' h' → AddsUp most f'
    keeps-add {cmp} {present} {other} r = changed most f f' h h' (kept_from cmp present (list_of f h) (list_of f other)) a r.kept (keeps-balance most odd f f' h h' (fit-of most f a h) r)

    pub unites-add : {cmp : K → K → Ordering} {other : Option ℕ} (result : Result Bool OutOfMemory) → Unites most cmp f h other result f' h' → AddsUp most f'
    unites-add (Err e) u = still most f f' u.refused_forest a
    unites-add (Ok false) u = still most f f' (u.same_forest refl) a
    unites-add {cmp} {other} (Ok true) u = changed most f f' h h' (united cmp (list_of f h) (list_of f other)) a u.united (unites-balance most odd f f' h h' (fit-of most f a h) u)

    -- a tree was parted in two
    pub splits-add : {p : ℕ} (result : Result (Option ℕ) OutOfMemory) → SplitsAt most f h p result f' h' → AddsUp most f'
    splits-add (Err e) s = still most f f' s.refused_forest a
    splits-add {p} (Ok t) s =
        let need = severed p (sizes_of f h) in
        let past : (n : ℕ) → slots_of f' ≤ n → nodes_at f n ≡ 0 = λ n beyond. nodes-past f n (omega (arith, beyond, s.slots)) in
        let all = upto-parted (nodes_at f) (nodes_at f') h h' t (slots_of f') past (λ n beyond. nodes-past f' n beyond) s.apart (λ ne ne'. node-at f' h ∙ ap node_count (s.leaves_sizes ne ne'))
        (λ ne. node-at f h' ∙ ap node_count (s.fresh_sizes ne)) (λ ne. node-at f t ∙ ap node_count (tail-fresh-sizes s ne)) (λ n ne ne' ne2. ap node_count (s.others_sizes n ne ne' ne2)) in
        let same = upto-more (nodes_at f) (slots_of f) (slots_of f') (λ n beyond. nodes-past f n beyond) (omega (arith, s.slots)) in
        let room : need ≤ room_of f = elim (leb_tells need (room_of f)) [ inl w ↦ w.1 | inr w ↦ absurd (let bad = s.full.1 (omega (arith, w.1)) in cc) ] in
        record {
          slots = omega (arith, all, same, s.slots, s.free, a.slots, node-at f h, node-at f' h', node-at f' t);
          within = omega (arith, s.slots, s.limit, room, a.within);
          fit = fit-parted s;
        }
      where
        fit-parted : SplitsAt most f h p (Ok t) f' h' → (n : ℕ) → IsFitFor most (length (list_at f' n)) (sizes_at f' n)
        fit-parted s n = elim (is-number n h') [
          | inl e ↦ subst (λ o. IsFitFor most (length (list_of f' o)) (sizes_of f' o)) (sym e) s.fit
          | inr ne ↦ elim (is-number n t) [
            | inl e ↦ subst (λ o. IsFitFor most (length (list_of f' o)) (sizes_of f' o)) (sym e) s.tail_fit
            | inr ne' ↦ elim (is-number n h) [
              | inl e ↦
                  let other : h ≢ h' = λ d. ne (e ∙ d) in let other' : h ≢ t = λ d. ne' (e ∙ d) in
                  subst (λ o. IsFitFor most (length (list_of f' o)) (sizes_of f' o)) (sym e) (rw (s.leaves other other', s.leaves_sizes other other') refl)
              | inr ne2 ↦ rw (s.others n ne2 ne ne', s.others_sizes n ne2 ne ne') (a.fit n)
            ]
          ]
        ]

    pub pops-add : (p : ℕ) (entry : Option (K × V)) → Pops most f h p entry f' h' → AddsUp most f'
    pops-add p entry r = removes-at-add p r.removed

    module _ (cmp : K → K → Ordering) (k : K) where
      pub removes-add : (result : Option V) → Removes most cmp f h k result f' h' → AddsUp most f'
      removes-add result r = changed most f f' h h' (cut cmp (list_of f h) k) a r.cut (removes-balance most odd f f' h h' (fit-of most f a h) cmp k result r)

      pub updates-add : {F : Type 0} {g : Once F (V × Unit {0}) V} {q : F} (result : Option V) → Updates g cmp f h k q result f' h' → AddsUp most f'
      updates-add None u = still most f f' (u.absent_forest refl) a
      updates-add (Some w) u = changed most f f' h h' (put cmp (list_of f h) k w) a u.put (updates-balance most odd f f' h h' (fit-of most f a h) cmp k (Some w) u)

      pub inserts-add : (v : V) (result : Result (Option V) OutOfMemory) → Inserts most cmp f h k v result f' h' → AddsUp most f'
      inserts-add v (Err e) r = still most f f' r.refused_forest a
      inserts-add v (Ok old) r = changed most f f' h h' (put cmp (list_of f h) k v) a r.put (inserts-balance most odd f f' h h' (fit-of most f a h) cmp k v (Ok old) r)

      pub gets-or-inserts-add : (v : V) (result : Result V OutOfMemory) → GetsOrInserts most cmp f h k v result f' h' → AddsUp most f'
      gets-or-inserts-add v result r = got-or-inserted r (λ same stays. still most f f' same a) (λ put. inserts-add v (as_inserted result) put)

      pub updates-or-inserts-add : {F : Type 0} {g : Once F (V × Unit {0}) V} {q : F} (v : V) (result : Result V OutOfMemory) → UpdatesOrInserts most cmp g f h k v q result f' h' → AddsUp most f'
      updates-or-inserts-add v result r = updated-or-inserted result r (λ w is u. updates-add (Some w) u) (λ none put. inserts-add v (as_inserted result) put)

  module _ (most : ℕ) (odd : most % 2 ≡ 1) (f f' : Forest K V) (h : Option ℕ) (a : AddsUp most f) where
    pub shifts-add : {calls : K → K → Type 0} (place : ℕ) → Shifts calls place f h f' → AddsUp most f'
    shifts-add {calls} place s =
        same-sizes-add most odd f f' h h a (take place (list_of f h) ++ s.moved) s.shifted (shifted-length calls (list_of f h) s.moved place s.rekeys) s.sizes s.slots s.free

    -- a tree of these entries was made of so many nodes
    made-add : {n : Option ℕ} (d : ℕ) (es : List (K × V)) → Becomes f None f' n es → IsFitFor most (length (list_of f' n)) (sizes_of f' n) → Takes d f f'
        → (IsTooMany d f → ⊥) → nodes_of f' n ≡ d → AddsUp most f'
    made-add {n} d es b fit takes room nodes =
        let within : d ≤ room_of f = elim (leb_tells d (room_of f)) [ inl w ↦ w.1 | inr w ↦ absurd (room (omega (arith, w.1))) ] in
        changed most f f' None n es a b (record {
          fit = fit;
          nodes = omega (arith, takes.slots, takes.free, nodes);
          slots = omega (arith, takes.slots);
          within = λ few. omega (arith, takes.slots, b.limit, within, few);
        })

    pub clones-add : (result : Result (Option ℕ) OutOfMemory) → Clones f h result f' → AddsUp most f'
    clones-add (Err e) c = still most f f' c.refused a
    clones-add (Ok n) c = made-add (nodes_of f h) (list_of f h) c.copied (rw (c.copied.list, c.sizes) (fit-of most f a h)) c.account
        (λ few. let full = c.full.1 few in absurd (cc)) (ap node_count c.sizes)

    pub loads-add : (es : List (K × V)) (result : Result (Option ℕ) OutOfMemory) → Loads most f es result f' → AddsUp most f'
    loads-add es (Err e) l = still most f f' l.refused a
    loads-add es (Ok n) l =
        made-add (fewest most (length es)) es l.loaded (rw (l.loaded.list) (loaded-fits most odd f f' es n l)) l.account (λ few. let full = l.full.1 few in absurd (cc)) l.nodes
