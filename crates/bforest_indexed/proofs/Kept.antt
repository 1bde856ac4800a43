-- What a call on the tree of one index leaves of all trees.
use Rattle.bforest.proofs.Balances.{clears-balance, filters-balance, inserts-balance, pops-balance, removes-balance, updates-balance}
use Rattle.bforest.specs.Calls.{Clears, Filters, GetsOrInserts, Inserts, Pops, Removes, Reserves, Updates, UpdatesOrInserts}
use Rattle.bforest.specs.Entries.{IsIncreasing, value_for}
use Rattle.bforest.specs.Forest.{Becomes, Forest, Gives, IsFitFor, IsLive, IsSearchable, empty, emptied, free_of, list_at, list_of, sizes_of, slots_of}
use Rattle.bforest.specs.Refusal.{Full, OutOfMemory}
use Rattle.bforest.specs.Retain.{MayAskEach, Retains}
use Rattle.bforest.specs.Room.{Balances, node_count}
use Rattle.bforest_indexed.proofs.Adding.{as-many, none-at, none-handles}
use Rattle.bforest_indexed.proofs.Rooms.{has-room, may-have, sum-agree, sum-few, sum-same, sum-set}
use Rattle.bforest_indexed.specs.Handles.{Adds}
use Rattle.bforest_indexed.specs.Edits.{EditsAt, Leaves}
use Rattle.bforest_indexed.specs.Indexed.{AreKept, ChangesAt, ClearsAll, ClearsAt, FiltersAt, GetsOrInsertsAt, Indexed, InsertsAt, KeepsAll, PopsAt, RemovesAt, Swaps, UpdatesAt, UpdatesOrInsertsAt}
use Rattle.bforest_indexed.specs.Indexed.{as_inserted, count, entries, handle, memory, node_sizes, nodes_in_use, table}
use Rattle.std.proofs.Common.{Bool, Err, IfOk, IfSome, IsOk, IsSome, List, None, Ok, OnErr, Option, Result, Some, [], ap, arith, false, get_or, inl, inr, length, refl, rules, slice_set, subst, swap, sym, ℕ, ◌%◌, ◌+◌, ◌-◌, ◌<◌, ◌∙◌, ◌≡◌, ◌≢◌, ◌≤◌}
use Rattle.std.proofs.lemmas.Bool.{false≢true}
use Rattle.std.proofs.lemmas.Bool.Decides.{eqb_tells, leb_tells}
use Rattle.std.proofs.lemmas.List.Sorted.{IsPermutation-swap, sum_by-IsPermutation}
use Rattle.std.proofs.lemmas.List.{get_or-set_other, get_or-set_same, get_or_read, length-set, set-get_or}
use Rattle.std.specs.Fn.{Once}
use Rattle.std.specs.List.{SwappedAt}
use Rattle.std.specs.List.Sorted.{IsStrictlySortedBy}
use Rattle.std.specs.Ordering.{is_eq}
use Rattle.std.specs.declared.cmp.Ordering.{Ordering}

-- the empty list increases
pub nothing-increases : (K X : Type 0) (cmp : K → K → Ordering) → IsIncreasing {K = K} {X = X} cmp []
unfolding IsStrictlySortedBy
nothing-increases K X cmp = search rules

pub none-some : {A : Type 0} (y : A) → None ≢ Some y
none-some y = λ e. cc

pub ok-err : {A E : Type 0} (x : A) (y : E) → Ok x ≢ Err y
ok-err x y = λ e. cc

inserted-ok : {A : Type 0} (r : Result A OutOfMemory) → IsOk (as_inserted {X = A} r) → IsOk r
inserted-ok (Ok x) ok = refl
inserted-ok (Err e) ok = ok

ok-full : {A : Type 0} (r : Result A OutOfMemory) → IsOk r → r ≢ Err Full
ok-full r ok full = absurd (false≢true (subst (λ q. IsOk q) full ok))

pub not-both : {a b : ℕ} → a < b → b ≤ a → ⊥
not-both less more = absurd (omega (arith, less, more))

not-some : (A : Type 0) → IsSome {T = A} None → ⊥
not-some A some = search rules

module _ {K X : Type 0} {f f' : Forest K X} {h h' : Option ℕ} {es : List (K × X)} (b : Becomes f h f' h' es) where
  -- the number of another tree is not the one that a changed tree has now
  not_new : (n : ℕ) → list_at f n ≢ [] → Some n ≢ h → Some n ≢ h'
  not_new n live ne = λ e. live (subst (λ (q : Option ℕ). list_of f q ≡ []) (sym e) (b.fresh (λ d. ne (e ∙ d))))

  -- each other handle keeps its list and its sizes
  list_beside : (q : Option ℕ) → ((n : ℕ) → q ≡ Some n → Some n ≢ h) → IsLive f q → list_of f' q ≡ list_of f q
  list_beside None ne live = refl
  list_beside (Some n) ne live = b.others n (ne n refl) (not_new n live (ne n refl))

  sizes_beside : (q : Option ℕ) → ((n : ℕ) → q ≡ Some n → Some n ≢ h) → IsLive f q → sizes_of f' q ≡ sizes_of f q
  sizes_beside None ne live = refl
  sizes_beside (Some n) ne live = b.others_sizes n (ne n refl) (not_new n live (ne n refl))

-- the slots that were added are free
still-accounted : {K X : Type 0} (f f' : Forest K X) (n : ℕ) (r : Result (Unit {0}) OutOfMemory) (nodes : ℕ) → Reserves f n r f' → slots_of f ≡ free_of f + nodes
    → slots_of f' ≡ free_of f' + nodes
still-accounted f f' n (Err e) nodes given account = rw given.refused account
still-accounted f f' n (Ok done) nodes given account = elim (leb_tells n (free_of f)) [
  | inl w ↦ rw (given.same w.1) account
  | inr w ↦ omega (arith, given.slots, given.grown w.1, w.1, account)
]

pub live_beside : {K X : Type 0} (f f' : Forest K X) (q : Option ℕ) → list_of f' q ≡ list_of f q → IsLive f q → IsLive f' q
live_beside f f' None same live = tt
live_beside f f' (Some n) same live = subst (λ es. es ≢ []) (sym same) live

-- the number of nodes of a handle's tree
abbrev pub nodes_of : {K X : Type 0} → Forest K X → Option ℕ → ℕ
nodes_of f h = node_count (sizes_of f h)

module _ {K X C : Type 0} where
  -- no index has a tree, and the forest has none
  kept-empty : {most : ℕ} {cmp : K → K → Ordering} → most % 2 ≡ 1 → (m : Indexed K X C) (g : Forest K X) → table m ≡ emptied g →
      ((i : ℕ) → handle m i ≡ None) → AreKept most cmp m
  kept-empty {most} {cmp} odd m g forest none = record {
    odd = odd;
    live = λ i. subst (λ (q : Option ℕ). IsLive (table m) q) (sym (none i)) tt;
    increasing = λ i. subst (λ (q : Option ℕ). IsIncreasing cmp (list_of (table m) q)) (sym (none i)) (nothing-increases K X cmp);
    apart = λ i j n d e. absurd (none-some n (sym (none i) ∙ d));
    fit = λ i. subst (λ (q : Option ℕ). IsFitFor most (length (list_of (table m) q)) (sizes_of (table m) q)) (sym (none i)) refl;
    account = omega (arith, ap slots_of forest, ap free_of forest, sum-few (nodes_of (table m)) None 0 m.handles (λ i. omega (arith, ap (nodes_of (table m)) (none i))));
  }

  -- there is no index
  pub kept-none : {most : ℕ} {cmp : K → K → Ordering} → most % 2 ≡ 1 → (f : Forest K X) (o : C) (hs : List (Option ℕ)) (n : ℕ) {held : ℕ} → f ≡ empty n → hs ≡ []
      → AreKept most cmp (record { forest = f; order = o; handles = hs; held = held })
  kept-none odd f o hs n {held} forest is = kept-empty odd (record { forest = f; order = o; handles = hs; held = held }) (empty n) forest
      (λ i. ap (λ (qs : List (Option ℕ)). get_or qs i None) is ∙ none-at i)

  -- each index has the same handle
  pub kept-same : {most : ℕ} {cmp : K → K → Ordering} (m : Indexed K X C) (qs : List (Option ℕ)) {held : ℕ} → ((i : ℕ) → get_or qs i None ≡ handle m i)
      → AreKept most cmp m → AreKept most cmp (record m { handles = qs; held = held })
  kept-same {most} {cmp} m qs same a = record {
    odd = a.odd;
    live = λ i. subst (λ (q : Option ℕ). IsLive (table m) q) (sym (same i)) (a.live i);
    increasing = λ i. subst (λ (q : Option ℕ). IsIncreasing cmp (list_of (table m) q)) (sym (same i)) (a.increasing i);
    apart = λ i j n d e. a.apart i j n (sym (same i) ∙ d) (sym (same j) ∙ e);
    fit = λ i. subst (λ (q : Option ℕ). IsFitFor most (length (list_of (table m) q)) (sizes_of (table m) q)) (sym (same i)) (a.fit i);
    account = omega (arith, a.account, sum-agree (nodes_of (table m)) None refl m.handles qs same);
  }

  pub keeps-same : (m : Indexed K X C) (qs : List (Option ℕ)) {held : ℕ} → ((i : ℕ) → get_or qs i None ≡ handle m i) → KeepsAll m (record m { handles = qs; held = held })
  keeps-same m qs same = record {
    lists = λ i. ap (list_of (table m)) (same i);
    sizes = λ i. ap (sizes_of (table m)) (same i);
    same_comparator = refl;
  }

  -- a call that was refused left each handle
  pub refused-same : {E : Type 0} (m : Indexed K X C) (qs : List (Option ℕ)) (held : ℕ) (r : Result (Unit {0}) E) → OnErr r (qs ≡ m.handles) → OnErr r (held ≡ memory m)
      → OnErr r (record m { handles = qs; held = held } ≡ m)
  refused-same m qs held (Ok done) same kept = tt
  refused-same m qs held (Err e) same kept = λ j. record m { handles = same j; held = kept j }

  -- the tree of i is now that of h' in the forest f'
  abbrev pub with_tree : Indexed K X C → ℕ → Forest K X → Option ℕ → Indexed K X C
  with_tree m i f' h' = record m { forest = f'; handles = slice_set m.handles i h' }

  -- a handle that is written back changes nothing
  pub unchanged : (m : Indexed K X C) (i : ℕ) (f' : Forest K X) (h' : Option ℕ) → f' ≡ table m → h' ≡ handle m i → with_tree m i f' h' ≡ m
  unchanged m i f' h' same_forest same_handle =
      λ j. record m { forest = same_forest j; handles = (ap (slice_set m.handles i) same_handle ∙ set-get_or m.handles i None) j }

  pub changes-not : (m m' : Indexed K X C) (i : ℕ) → m' ≡ m → ChangesAt m i m'
  changes-not m m' i e = subst (λ q. ChangesAt m i q) (sym e) (record {
    others = λ j ne. refl;
    other_sizes = λ j ne. refl;
    same_count = refl;
    same_comparator = refl;
    same_limit = refl;
    same_memory = refl;
  })

  module _ {most : ℕ} {cmp : K → K → Ordering} {m : Indexed K X C} {i : ℕ} {f' : Forest K X} {h' : Option ℕ} {es : List (K × X)} (a : AreKept most cmp m) (within : i < count m) (b : Becomes (table m) (handle m i) f' h' es) where
    abbrev new : Indexed K X C
    new = with_tree m i f' h'

    apart_at : (j n : ℕ) → j ≢ i → handle m j ≡ Some n → Some n ≢ handle m i
    apart_at j n ne e = λ d. ne (a.apart j i n e (sym d))

    apart_new : (j n : ℕ) → j ≢ i → handle m j ≡ Some n → Some n ≢ h'
    apart_new j n ne e = not_new b n (subst (λ (q : Option ℕ). IsLive (table m) q) e (a.live j)) (apart_at j n ne e)

    pub here : handle new i ≡ h'
    here = get_or-set_same m.handles i h' None within

    there : (j : ℕ) → j ≢ i → handle new j ≡ handle m j
    there j ne = get_or-set_other m.handles i j h' None ne

    pub list-here : entries new i ≡ es
    list-here = ap (list_of f') here ∙ b.list

    list-there : (j : ℕ) → j ≢ i → entries new j ≡ entries m j
    list-there j ne = ap (list_of f') (there j ne) ∙ list_beside b (handle m j) (λ n e. apart_at j n ne e) (a.live j)

    sizes-there : (j : ℕ) → j ≢ i → node_sizes new j ≡ node_sizes m j
    sizes-there j ne = ap (sizes_of f') (there j ne) ∙ sizes_beside b (handle m j) (λ n e. apart_at j n ne e) (a.live j)

    at-i : (j : ℕ) → j ≡ i → handle new j ≡ h'
    at-i j e = ap (handle new) e ∙ here

    pub kept-set : IsIncreasing cmp (list_of f' h') → Balances most (table m) (handle m i) f' h' → AreKept most cmp new
    kept-set increasing made = record {
      odd = a.odd;
      live = λ j. elim (eqb_tells j i) [
        | inl w ↦ subst (λ (q : Option ℕ). IsLive f' q) (sym (at-i j w.1)) b.live
        | inr w ↦ subst (λ (q : Option ℕ). IsLive f' q) (sym (there j w.1))
            (live_beside (table m) f' (handle m j) (list_beside b (handle m j) (λ n e. apart_at j n w.1 e) (a.live j)) (a.live j))
      ];
      increasing = λ j. elim (eqb_tells j i) [
        | inl w ↦ subst (λ (q : Option ℕ). IsIncreasing cmp (list_of f' q)) (sym (at-i j w.1)) increasing
        | inr w ↦ subst (λ (xs : List (K × X)). IsIncreasing cmp xs) (sym (list-there j w.1)) (a.increasing j)
      ];
      apart = λ j k n d e. elim (eqb_tells j i) [
        | inl w ↦ elim (eqb_tells k i) [
          | inl v ↦ w.1 ∙ sym v.1
          | inr v ↦ absurd (apart_new k n v.1 (sym (there k v.1) ∙ e) (sym d ∙ at-i j w.1))
        ]
        | inr w ↦ elim (eqb_tells k i) [
          | inl v ↦ absurd (apart_new j n w.1 (sym (there j w.1) ∙ d) (sym e ∙ at-i k v.1))
          | inr v ↦ a.apart j k n (sym (there j w.1) ∙ d) (sym (there k v.1) ∙ e)
        ]
      ];
      fit = λ j. elim (eqb_tells j i) [
        | inl w ↦ subst (λ (q : Option ℕ). IsFitFor most (length (list_of f' q)) (sizes_of f' q)) (sym (at-i j w.1)) made.fit
        | inr w ↦ subst (λ (xs : List (K × X)). IsFitFor most (length xs) (node_sizes new j)) (sym (list-there j w.1))
            (subst (λ s. IsFitFor most (length (entries m j)) s) (sym (sizes-there j w.1)) (a.fit j))
      ];
      account = omega (
        arith,
        a.account,
        made.nodes,
        sum-set (nodes_of (table m)) (nodes_of f') None m.handles i h' within
            (λ j ne. ap node_count (sizes_beside b (handle m j) (λ n e. apart_at j n ne e) (a.live j))),
      );
    }

    pub changes : ChangesAt m i new
    changes = record {
      others = list-there;
      other_sizes = sizes-there;
      same_count = length-set m.handles i h';
      same_comparator = refl;
      same_limit = b.limit;
      same_memory = refl;
    }

  module _ {most : ℕ} {cmp : K → K → Ordering} {m : Indexed K X C} {i : ℕ} {h : Option ℕ} (a : AreKept most cmp m) (within : i < count m) (is : h ≡ get_or m.handles i h) where
    -- the handle that was read is that of the index
    pub read : h ≡ handle m i
    read = get_or_read m.handles i h within is None

    same-list : list_of (table m) h ≡ entries m i
    same-list = ap (list_of (table m)) read

    -- what is found in the list that was read
    value-read : (k : K) → value_for cmp (list_of (table m) h) k ≡ value_for cmp (entries m i) k
    value-read k = ap (λ (es : List (K × X)). value_for cmp es k) same-list

    -- what is asked of the list of the index is so of the list that was read
    pub asked-read : {F : Type 0} {step : F → K → X → Bool → X → F → Type 0} {may : F → K → X → Type 0} {f : F} → MayAskEach step may f (entries m i)
        → MayAskEach step may f (list_of (table m) h)
    asked-read {step = step} {may = may} {f = f} p = subst (λ (es : List (K × X)). MayAskEach step may f es) (sym same-list) p

    pub called-read : (P : X → Type 0) (k : K) → ((v : X) → value_for cmp (entries m i) k ≡ Some v → P v) → (v : X) → value_for cmp (list_of (table m) h) k ≡ Some v → P v
    called-read P k may v there = may v (sym (value-read k) ∙ there)

    pub live-read : IsLive (table m) h
    live-read = subst (λ (q : Option ℕ). IsLive (table m) q) (sym read) (a.live i)

    increasing-read : IsIncreasing cmp (list_of (table m) h)
    increasing-read = subst (λ (q : Option ℕ). IsIncreasing cmp (list_of (table m) q)) (sym read) (a.increasing i)

    pub ordered-read : IsSearchable cmp (table m) h
    ordered-read = record { live = live-read; increasing = increasing-read }

    pub cleared-at : {f' : Forest K X} {h' : Option ℕ} → Clears (table m) h f' h' → AreKept most cmp (with_tree m i f' h') × ClearsAt m i (with_tree m i f' h')
    cleared-at {f'} {h'} given = let call = subst (λ (q : Option ℕ). Clears (table m) q f' h') read given in (
      kept-set a within call.cleared (subst (λ (xs : List (K × X)). IsIncreasing cmp xs) (sym call.cleared.list) (nothing-increases K X cmp))
          (clears-balance most a.odd (table m) f' (handle m i) h' (a.fit i) call),
      record {
        cleared = list-here a within call.cleared;
        beside = changes a within call.cleared;
        sizes = ap (sizes_of f') (here a within call.cleared ∙ call.handle);
        account = call.account;
      },
    )

    -- what is so of the list that a call left is so of the list of the index
    on-new : (f' : Forest K X) (h' : Option ℕ) (P : List (K × X) → Type 0) → P (list_of f' h') → P (entries (with_tree m i f' h') i)
    on-new f' h' P p = subst P (ap (list_of f') (sym (get_or-set_same m.handles i h' None within))) p

    -- each key but k has the value that it had
    others-new : (f' : Forest K X) (h' : Option ℕ) (k : K) → ((j : K) → is_eq (cmp k j) ≡ false → value_for cmp (list_of f' h') j ≡ value_for cmp (entries m i) j)
        → (j : K) → is_eq (cmp k j) ≡ false → value_for cmp (entries (with_tree m i f' h') i) j ≡ value_for cmp (entries m i) j
    others-new f' h' k same j apart = on-new f' h' (λ es. value_for cmp es j ≡ value_for cmp (entries m i) j) (same j apart)

    module _ {f' : Forest K X} {h' : Option ℕ} where
      module _ {k : K} {x : X} where
        put-here : (r : Result (Option X) OutOfMemory) → Inserts most cmp (table m) (handle m i) k x r f' h'
            → AreKept most cmp (with_tree m i f' h') × InsertsAt most cmp m i k x r (with_tree m i f' h')
        put-here (Ok old) call = (
          kept-set a within call.put call.increasing (inserts-balance most a.odd (table m) f' (handle m i) h' (a.fit i) cmp k x (Ok old) call),
          record {
            ok = call.ok;
            put = list-here a within call.put;
            found = on-new f' h' (λ es. value_for cmp es k ≡ Some x) call.found;
            others = others-new f' h' k call.others;
            increasing = a.increasing i;
            beside = changes a within call.put;
            sizes = ap (sizes_of f') (here a within call.put) ∙ call.sizes;
            account = call.account;
            full = call.full;
            memory = call.memory;
            succeeds = call.succeeds;
            absent = tt;
            refused = tt;
            room = λ lists most_entries stays room. refl;
            never_full = λ lists most_entries stays room is. absurd (ok-err old Full is);
          },
        )
        put-here (Err refused) call = let same = unchanged m i f' h' call.refused_forest call.refused_handle in (
          subst (AreKept most cmp) (sym same) a,
          record {
            ok = tt;
            put = tt;
            found = tt;
            others = others-new f' h' k call.others;
            increasing = a.increasing i;
            beside = changes-not m (with_tree m i f' h') i same;
            sizes = tt;
            account = tt;
            full = call.full;
            memory = call.memory;
            succeeds = call.succeeds;
            absent = call.absent;
            refused = same;
            room = λ lists most_entries stays room. call.succeeds (has-room a i within k lists most_entries stays room);
            never_full = λ lists most_entries stays room is. not-both (call.full.0 is) (may-have a i within k lists most_entries stays room);
          },
        )

        pub put-at : {r : Result (Option X) OutOfMemory} → Inserts most cmp (table m) h k x r f' h'
            → AreKept most cmp (with_tree m i f' h') × InsertsAt most cmp m i k x r (with_tree m i f' h')
        put-at {r} call = put-here r (subst (λ (q : Option ℕ). Inserts most cmp (table m) q k x r f' h') read call)

      pub removed-at : {k : K} {r : Option X} → Removes most cmp (table m) h k r f' h'
          → AreKept most cmp (with_tree m i f' h') × RemovesAt most cmp m i k r (with_tree m i f' h')
      removed-at {k} {r} given = let call = subst (λ (q : Option ℕ). Removes most cmp (table m) q k r f' h') read given in (
        kept-set a within call.cut call.increasing (removes-balance most a.odd (table m) f' (handle m i) h' (a.fit i) cmp k r call),
        record {
          value = call.value;
          cut = list-here a within call.cut;
          gone = on-new f' h' (λ es. value_for cmp es k ≡ None) call.gone;
          others = others-new f' h' k call.others;
          increasing = a.increasing i;
          beside = changes a within call.cut;
          sizes = ap (sizes_of f') (here a within call.cut) ∙ call.sizes;
          account = subst (λ q. Gives (node_sizes m i) (sizes_of f' q) (table m) f') (sym (here a within call.cut)) call.account;
          absent = λ none. unchanged m i f' h' (call.absent_forest none) (call.absent_handle none);
        },
      )

      pub filtered-at : {F : Type 0} {step : F → K → X → Bool → X → F → Type 0} {q : F} → Filters most step (table m) h q f' h'
          → AreKept most cmp (with_tree m i f' h') × FiltersAt most step q m i (with_tree m i f' h')
      filtered-at {F} {step} {q} given = let call = subst (λ (o : Option ℕ). Filters most step (table m) o q f' h') read given in (
        kept-set a within call.changed (call.increasing cmp (a.increasing i)) (filters-balance most a.odd (table m) f' (handle m i) h' (a.fit i) step q call),
        record {
          kept = subst (λ o. Retains step most q (entries m i) (node_sizes m i) (list_of f' o) (sizes_of f' o)) (sym (here a within call.changed)) call.kept;
          beside = changes a within call.changed;
          account = subst (λ o. Gives (node_sizes m i) (sizes_of f' o) (table m) f') (sym (here a within call.changed)) call.account;
        },
      )

      pub popped-at : {place : ℕ} {r : Option (K × X)} → Pops most (table m) h place r f' h'
          → AreKept most cmp (with_tree m i f' h') × PopsAt most m i place r (with_tree m i f' h')
      popped-at {place} {r} given = let call = subst (λ (q : Option ℕ). Pops most (table m) q place r f' h') read given in (
        kept-set a within call.removed.removed (call.increasing cmp (a.increasing i)) (pops-balance most a.odd (table m) f' (handle m i) h' (a.fit i) place r call),
        record {
          entry = call.entry;
          removed = list-here a within call.removed.removed;
          gone = λ {order} total up. on-new f' h' (λ es. IfSome r (λ e. value_for order es e.0 ≡ None)) (call.gone total up);
          others = λ {order} total up. on-new f' h' (λ es. IfSome r (λ e. (q : K) → is_eq (order e.0 q) ≡ false → value_for order es q ≡ value_for order (entries m i) q)) (call.others total up);
          sizes = ap (sizes_of f') (here a within call.removed.removed) ∙ call.removed.sizes;
          beside = changes a within call.removed.removed;
          account = subst (λ q. Gives (node_sizes m i) (sizes_of f' q) (table m) f') (sym (here a within call.removed.removed)) call.removed.account;
          end = λ past. unchanged m i f' h' (call.removed.end_forest past) (call.removed.end_handle past);
        },
      )

      pub popped_last-at : {r : Option (K × X)} → Pops most (table m) h (length (list_of (table m) h) - 1) r f' h'
          → AreKept most cmp (with_tree m i f' h') × PopsAt most m i (length (entries m i) - 1) r (with_tree m i f' h')
      popped_last-at {r} given = popped-at (subst (λ (es : List (K × X)). Pops most (table m) h (length es - 1) r f' h') same-list given)

      pub edited-at : {R : Type 0} (leaves : Forest K X → Option ℕ → R → Forest K X → Option ℕ → Type 0) {r : R} → Leaves most (table m) h f' h' → IsIncreasing cmp (list_of f' h')
          → leaves (table m) h r f' h' → AreKept most cmp (with_tree m i f' h') × EditsAt leaves m i r (with_tree m i f' h')
      edited-at {R} leaves {r} given up told =
          let call = subst (λ (q : Option ℕ). Leaves most (table m) q f' h') read given in
          let made = call.balances (a.fit i) in (
            kept-set a within call.becomes up made,
            record {
              left = subst (λ q. leaves (table m) (handle m i) r f' q) (sym (here a within call.becomes)) (subst (λ q. leaves (table m) q r f' h') read told);
              beside = changes a within call.becomes;
              slots = made.slots;
            },
          )

      module _ {k : K} {x : X} where
        -- the key is absent, so it was inserted
        absent-put : (r : Result X OutOfMemory) → Inserts most cmp (table m) (handle m i) k x (as_inserted r) f' h' → value_for cmp (entries m i) k ≡ None
            → GetsOrInserts most cmp (table m) (handle m i) k x r f' h'
            → AreKept most cmp (with_tree m i f' h') × GetsOrInsertsAt most cmp m i k x r (with_tree m i f' h')
        absent-put r put is call = let here = put-here (as_inserted r) put in (
          here.0,
          record {
            value = call.value;
            found = on-new f' h' (λ es. IfOk r (λ v. value_for cmp es k ≡ Some v)) call.found;
            others = others-new f' h' k call.others;
            present = call.present;
            stays = λ some. absurd (not-some X (subst (λ (q : Option X). IsSome q) is some));
            absent = λ none. here.1;
            room = λ lists most_entries stays room. inserted-ok r (here.1.room lists most_entries stays room);
            never_full = λ lists most_entries stays room full. here.1.never_full lists most_entries stays room (ap as_inserted full);
          },
        )

        got-here : (v : Option X) (r : Result X OutOfMemory) → value_for cmp (entries m i) k ≡ v → GetsOrInserts most cmp (table m) (handle m i) k x r f' h'
            → AreKept most cmp (with_tree m i f' h') × GetsOrInsertsAt most cmp m i k x r (with_tree m i f' h')
        got-here None (Ok y) is call = absent-put (Ok y) (call.absent is) is call
        got-here None (Err e) is call = absent-put (Err e) (call.absent is) is call
        got-here (Some y) r is call =
            let some = subst (λ (q : Option X). IsSome q) (sym is) refl in
            let same = unchanged m i f' h' (call.present_forest some) (call.present_handle some) in (
              subst (AreKept most cmp) (sym same) a,
              record {
                value = call.value;
                found = on-new f' h' (λ es. IfOk r (λ v. value_for cmp es k ≡ Some v)) call.found;
                others = others-new f' h' k call.others;
                present = call.present;
                stays = λ there. same;
                absent = λ none. absurd (none-some y (sym none ∙ is));
                room = λ lists most_entries stays room. call.present some;
                never_full = λ lists most_entries stays room full. ok-full r (call.present some) full;
              },
            )

        pub got-at : {r : Result X OutOfMemory} → GetsOrInserts most cmp (table m) h k x r f' h'
            → AreKept most cmp (with_tree m i f' h') × GetsOrInsertsAt most cmp m i k x r (with_tree m i f' h')
        got-at {r} given = got-here (value_for cmp (entries m i) k) r refl (subst (λ (q : Option ℕ). GetsOrInserts most cmp (table m) q k x r f' h') read given)

      module _ {F : Type 0} {g : Once F (X × Unit {0}) X} {k : K} {q : F} where
        update-here : (r : Option X) → Updates g cmp (table m) (handle m i) k q r f' h'
            → AreKept most cmp (with_tree m i f' h') × UpdatesAt g cmp m i k q r (with_tree m i f' h')
        update-here None call = let same = unchanged m i f' h' (call.absent_forest refl) call.handle in (
          subst (AreKept most cmp) (sym same) a,
          record {
            called = tt;
            put = tt;
            found = tt;
            others = others-new f' h' k call.others;
            sizes = ap (λ z. node_sizes z i) same;
            slots = call.slots;
            free = call.free;
            table_memory = call.memory;
            beside = changes-not m (with_tree m i f' h') i same;
            absent = λ none. call.absent refl;
            same = λ none. same;
          },
        )
        update-here (Some w) call = (
          kept-set a within call.put (call.increasing cmp (a.increasing i)) (updates-balance most a.odd (table m) f' (handle m i) h' (a.fit i) cmp k (Some w) call),
          record {
            called = call.called;
            put = list-here a within call.put;
            found = on-new f' h' (λ es. value_for cmp es k ≡ Some w) call.found;
            others = others-new f' h' k call.others;
            sizes = ap (sizes_of f') (here a within call.put) ∙ call.sizes;
            slots = call.slots;
            free = call.free;
            table_memory = call.memory;
            beside = changes a within call.put;
            absent = λ none. absurd cc;
            same = λ none. absurd cc;
          },
        )

        pub updated-at : {r : Option X} → Updates g cmp (table m) h k q r f' h'
            → AreKept most cmp (with_tree m i f' h') × UpdatesAt g cmp m i k q r (with_tree m i f' h')
        updated-at {r} given = update-here r (subst (λ (o : Option ℕ). Updates g cmp (table m) o k q r f' h') read given)

        module _ {x : X} where
          -- the key is absent, so it was inserted
          absent-either : (r : Result X OutOfMemory) → Inserts most cmp (table m) (handle m i) k x (as_inserted r) f' h' → value_for cmp (entries m i) k ≡ None
              → UpdatesOrInserts most cmp g (table m) (handle m i) k x q r f' h'
              → AreKept most cmp (with_tree m i f' h') × UpdatesOrInsertsAt most cmp g m i k x q r (with_tree m i f' h')
          absent-either r put is call = let here = put-here (as_inserted r) put in (
            here.0,
            record {
              present = call.present;
              updated = λ some. absurd (not-some X (subst (λ (o : Option X). IsSome o) is some));
              absent = λ none. here.1;
              value = call.value;
              found = on-new f' h' (λ es. IfOk r (λ w. value_for cmp es k ≡ Some w)) call.found;
              others = others-new f' h' k call.others;
              room = λ lists most_entries stays room. inserted-ok r (here.1.room lists most_entries stays room);
              never_full = λ lists most_entries stays room full. here.1.never_full lists most_entries stays room (ap as_inserted full);
            },
          )

          either-here : (v : Option X) (r : Result X OutOfMemory) → value_for cmp (entries m i) k ≡ v → UpdatesOrInserts most cmp g (table m) (handle m i) k x q r f' h'
              → AreKept most cmp (with_tree m i f' h') × UpdatesOrInsertsAt most cmp g m i k x q r (with_tree m i f' h')
          either-here None (Ok w) is call = absent-either (Ok w) (call.absent is) is call
          either-here None (Err e) is call = absent-either (Err e) (call.absent is) is call
          either-here (Some y) (Ok w) is call = let some = subst (λ (o : Option X). IsSome o) (sym is) refl in let told = update-here (Some w) (call.updated some) in (
            told.0,
            record {
              present = λ there. refl;
              updated = λ there. told.1;
              absent = λ none. absurd (none-some y (sym none ∙ is));
              value = λ none. absurd (none-some y (sym none ∙ is));
              found = told.1.found;
              others = told.1.others;
              room = λ lists most_entries stays room. refl;
              never_full = λ lists most_entries stays room full. ok-err w Full full;
            },
          )
          either-here (Some y) (Err e) is call = let some = subst (λ (o : Option X). IsSome o) (sym is) refl in absurd (false≢true (call.present some))

          pub either-at : {r : Result X OutOfMemory} → UpdatesOrInserts most cmp g (table m) h k x q r f' h'
              → AreKept most cmp (with_tree m i f' h') × UpdatesOrInsertsAt most cmp g m i k x q r (with_tree m i f' h')
          either-at {r} given = either-here (value_for cmp (entries m i) k) r refl (subst (λ (o : Option ℕ). UpdatesOrInserts most cmp g (table m) o k x q r f' h') read given)

  -- slots were asked for: the forest changed, and each number keeps its list and its sizes
  module _ {most : ℕ} {cmp : K → K → Ordering} (m : Indexed K X C) (f' : Forest K X) {n : ℕ} {r : Result (Unit {0}) OutOfMemory} (given : Reserves (table m) n r f') (a : AreKept most cmp m) where
    lists : (q : Option ℕ) → list_of f' q ≡ list_of (table m) q
    lists None = refl
    lists (Some n) = given.keeps.lists n

    sizes : (q : Option ℕ) → sizes_of f' q ≡ sizes_of (table m) q
    sizes None = refl
    sizes (Some n) = given.keeps.sizes n

    pub same-nodes : nodes_in_use (record m { forest = f' }) ≡ nodes_in_use m
    same-nodes = sum-same (nodes_of (table m)) (nodes_of f') None m.handles (λ i. ap node_count (sizes (handle m i)))

    kept-all-of : slots_of f' ≡ free_of f' + nodes_in_use m → AreKept most cmp (record m { forest = f' })
    kept-all-of account = record {
      odd = a.odd;
      live = λ i. live_beside (table m) f' (handle m i) (lists (handle m i)) (a.live i);
      increasing = λ i. subst (λ (xs : List (K × X)). IsIncreasing cmp xs) (sym (lists (handle m i))) (a.increasing i);
      apart = a.apart;
      fit = λ i. subst (λ (xs : List (K × X)). IsFitFor most (length xs) (sizes_of f' (handle m i))) (sym (lists (handle m i)))
          (subst (λ s. IsFitFor most (length (entries m i)) s) (sym (sizes (handle m i))) (a.fit i));
      account = account ∙ ap (λ s. free_of f' + s) (sym same-nodes);
    }

    pub kept-all : AreKept most cmp (record m { forest = f' }) × KeepsAll m (record m { forest = f' })
    kept-all = (
      kept-all-of (still-accounted (table m) f' n r (nodes_in_use m) given a.account),
      record { lists = λ i. lists (handle m i); sizes = λ i. sizes (handle m i); same_comparator = refl },
    )

  -- each handle is empty now, and the forest has no tree
  pub kept-cleared : {most : ℕ} {cmp : K → K → Ordering} → most % 2 ≡ 1 → (o : C) (f' : Forest K X) (qs : List (Option ℕ)) (g : Forest K X) (size : ℕ) {held : ℕ} →
      f' ≡ emptied g → Adds (λ h. h ≡ None) [] size qs
      → AreKept most cmp (record { forest = f'; order = o; handles = qs; held = held })
  kept-cleared odd o f' qs g size {held} forest adds = kept-empty odd (record { forest = f'; order = o; handles = qs; held = held }) g forest (none-handles qs size adds)

  pub cleared-all : (m : Indexed K X C) (f' : Forest K X) (qs : List (Option ℕ)) {held : ℕ} → f' ≡ emptied (table m)
      → Adds (λ h. h ≡ None) [] (count m) qs → held ≡ memory m → ClearsAll m (record m { forest = f'; handles = qs; held = held })
  cleared-all m f' qs forest adds kept = record {
    lists = λ i. ap (list_of f') (none-handles qs (count m) adds i);
    sizes = λ i. ap (sizes_of f') (none-handles qs (count m) adds i);
    forest = forest;
    same_count = as-many qs (count m) adds;
    same_comparator = refl;
    same_memory = kept;
  }

  -- the handles of i and j changed places
  module _ (m : Indexed K X C) (i j : ℕ) (qs : List (Option ℕ)) (at : SwappedAt m.handles qs i j) where
    at-first : get_or qs i None ≡ handle m j
    at-first = at.0 None

    at-second : get_or qs j None ≡ handle m i
    at-second = at.1 None

    at-other : (q : ℕ) → q ≢ i → q ≢ j → get_or qs q None ≡ handle m q
    at-other q = λ ne ne'. at.2 q None ne ne'

    by-index : (P : ℕ → Type 0) → P i → P j → ((q : ℕ) → q ≢ i → q ≢ j → P q) → (q : ℕ) → P q
    by-index P first second other q = elim (eqb_tells q i) [
      | inl w ↦ subst P (sym w.1) first
      | inr w ↦ elim (eqb_tells q j) [
        | inl v ↦ subst P (sym v.1) second
        | inr v ↦ other q w.1 v.1
      ]
    ]

    pub swaps : {held : ℕ} → length qs ≡ count m → held ≡ memory m → Swaps m i j (record m { handles = qs; held = held })
    swaps same kept = record {
      first = ap (list_of (table m)) at-first;
      second = ap (list_of (table m)) at-second;
      others = λ q ne ne'. ap (list_of (table m)) (at-other q ne ne');
      first_sizes = ap (sizes_of (table m)) at-first;
      second_sizes = ap (sizes_of (table m)) at-second;
      other_sizes = λ q ne ne'. ap (sizes_of (table m)) (at-other q ne ne');
      same_count = same;
      same_comparator = refl;
      same_table = refl;
      same_memory = kept;
    }

    at-each : (P : Option ℕ → Type 0) → ((q : ℕ) → P (handle m q)) → (q : ℕ) → P (get_or qs q None)
    at-each P all = by-index (λ q. P (get_or qs q None)) (subst P (sym at-first) (all j)) (subst P (sym at-second) (all i))
        (λ q ne ne'. subst P (sym (at-other q ne ne')) (all q))

    pub kept-swapped : {most : ℕ} {cmp : K → K → Ordering} {held : ℕ} → i < count m → j < count m → qs ≡ swap m.handles i j → AreKept most cmp m
        → AreKept most cmp (record m { handles = qs; held = held })
    kept-swapped {most} {cmp} first second swapped a = record {
      odd = a.odd;
      live = at-each (IsLive (table m)) a.live;
      increasing = at-each (λ q. IsIncreasing cmp (list_of (table m) q)) a.increasing;
      apart = λ p q n d e. by-index (λ r. get_or qs r None ≡ Some n → r ≡ q) (of-i q n e) (of-j q n e) (of-other q n e) p d;
      fit = at-each (λ q. IsFitFor most (length (list_of (table m) q)) (sizes_of (table m) q)) a.fit;
      account = omega (arith, a.account, sum_by-IsPermutation (nodes_of (table m)) m.handles qs (IsPermutation-swap m.handles qs i j first second swapped));
    }
      where
        of-i : (q n : ℕ) → get_or qs q None ≡ Some n → get_or qs i None ≡ Some n → i ≡ q
        of-i q n e d = by-index (λ r. get_or qs r None ≡ Some n → i ≡ r) (λ x. refl) (λ x. sym (a.apart j i n (sym at-first ∙ d) (sym at-second ∙ x)))
            (λ r ne ne' x. absurd (ne' (sym (a.apart j r n (sym at-first ∙ d) (sym (at-other r ne ne') ∙ x))))) q e

        of-j : (q n : ℕ) → get_or qs q None ≡ Some n → get_or qs j None ≡ Some n → j ≡ q
        of-j q n e d = by-index (λ r. get_or qs r None ≡ Some n → j ≡ r) (λ x. sym (a.apart i j n (sym at-second ∙ d) (sym at-first ∙ x))) (λ x. refl)
            (λ r ne ne' x. absurd (ne (sym (a.apart i r n (sym at-second ∙ d) (sym (at-other r ne ne') ∙ x))))) q e

        of-other : (q n : ℕ) → get_or qs q None ≡ Some n → (p : ℕ) → p ≢ i → p ≢ j → get_or qs p None ≡ Some n → p ≡ q
        of-other q n e p ne ne' d = by-index (λ r. get_or qs r None ≡ Some n → p ≡ r)
            (λ x. absurd (ne' (a.apart p j n (sym (at-other p ne ne') ∙ d) (sym at-first ∙ x))))
            (λ x. absurd (ne (a.apart p i n (sym (at-other p ne ne') ∙ d) (sym at-second ∙ x))))
            (λ r re re' x. a.apart p r n (sym (at-other p ne ne') ∙ d) (sym (at-other r re re') ∙ x)) q e
