-- Changes of trees that resemble one another.
use Rattle.bforest.specs.Bounds.{entries_between, entries_outside, start_place}
use Rattle.bforest.specs.Calls.{Clears, Clones, Compacts, Inserts, KeepsFrom, Loads, Pops, Removes, RemovesAt, RemovesBetween, SplitsAt, Unites, need_of_union, sizes_outside, truncation}
use Rattle.bforest.specs.Forest.{Becomes, Forest, Gives, IsFitFor, IsLive, IsTooMany, Takes, TakesAndGives, fewest, free_of, limit_of, list_of, need_of, nodes_of, sizes_of, slots_of}
use Rattle.bforest.specs.Retain.{AsksEach, kept_by, sizes_by}
use Rattle.bforest.specs.Union.{are_among, kept_from, kept_of, keeps_all, new_to, united}
use Rattle.bforest_calls.proofs.Packing.{loaded-fits, packed-same}
use Rattle.bforest_calls.proofs.Updating.{updated-or-inserted}
use Rattle.bforest_calls.specs.Looks.{place_after, sight_of}
use Rattle.bforest_calls.specs.State.{Acts, GotOrInserted, Held, KeepsIf, Retained, Script, Shifted, Updated, UpdatedOrInserted, WritesAt, entries, is_listed, new_key}
use Rattle.bforest_calls.specs.declared.call.Act.TheVariants as act
use Rattle.bforest_calls.specs.declared.call.Act.{Act}
use Rattle.bforest_calls.specs.declared.call.Look.TheVariants as look
use Rattle.bforest_calls.specs.declared.call.Look.{Look}
use Rattle.bforest_calls.specs.declared.call.Seen.TheVariants as seen
use Rattle.bforest_calls.specs.declared.call.Seen.{Seen}
use Rattle.bforest_core.specs.Change.{node_count, severed}
use Rattle.bforest_core.specs.Sizes.{detached, growth, need, shrink}
use Rattle.bforest.specs.Refusal.{Full, Memory, OutOfMemory}
use Rattle.bforest.specs.Entries.{cut, is_present, place, put, value_for, with_value}
use Rattle.bforest_trees.proofs.unions.New.{none-new}
use Rattle.bforest_trees.specs.Calls.{as_inserted, need_of_new}
use Rattle.bforest_trees.specs.Shift.{Rekeys}
use Rattle.std.proofs.Common.{Bool, Err, List, None, Ok, Option, Result, Some, [], ap, arith, drop, false, inl, inr, length, map, not, refl, subst, sym, take, true, ◌+◌, ◌++◌, ◌-◌, ◌<◌, ◌∙◌, ◌∷◌, ◌≡◌, ◌≢◌, ◌⊎◌, ℕ}
use Rattle.std.specs.List.{AllByRecursion}
use Rattle.std.proofs.lemmas.Result.{IfOk-weaker}
use Rattle.std.specs.Prelude.{IfOk, IsOk, OnErr, OnOk, ◌%◌, ◌↔◌, if◌then◌else◌, is_some, nat_lt, remove, slice_get, unwrap_or}
use Rattle.std.specs.declared.cmp.Ordering.{Ordering}
use Rattle.std.specs.declared.ops.Bound.{Bound}

-- where equal numbers of slots are freed, the numbers of free slots stay equal
as-free : (one other before before' after after' left left' : ℕ) → other ≡ one → before' ≡ before → after' ≡ after → left + after ≡ one + before → left' + after' ≡ other + before' → left' ≡ left
as-free one other before before' after after' left left' e e' e'' a b = omega arith

module _ {K V : Type 0} where
  -- a list without entries, or with some
  empty-or-not : (es : List (K × V)) → (es ≡ []) ⊎ (es ≢ [])
  empty-or-not [] = inl refl
  empty-or-not (e ∷ es) = inr (λ d. cc)

  -- a live handle without entries has no node
  no-sizes : (f : Forest K V) (h : Option ℕ) → IsLive f h → list_of f h ≡ [] → sizes_of f h ≡ []
  no-sizes f None live e = refl
  no-sizes f (Some n) live e = absurd (live e)

  -- equal lists, sizes and numbers of slots, of free slots and of allowed slots; the handles' numbers may
  -- differ
  pub record Resembles (one other : Held K V) : Type 0 where
    pub list : entries other ≡ entries one
    pub sizes : sizes_of other.forest other.number ≡ sizes_of one.forest one.number
    pub slots : slots_of other.forest ≡ slots_of one.forest
    pub free : free_of other.forest ≡ free_of one.forest
    pub limit : limit_of other.forest ≡ limit_of one.forest

  abbrev sizes-in : Held K V → List (List ℕ)
  sizes-in held = sizes_of held.forest held.number

  -- states equal to ones that resemble one another resemble one another
  resembling-same : (one other one' other' : Held K V) → Resembles one other → one' ≡ one → other' ≡ other → Resembles one' other'
  resembling-same one other one' other' r e e' = subst (λ (a : Held K V). Resembles a other') (sym e) (subst (λ (b : Held K V). Resembles one b) (sym e') r)

  held-same : (old new : Held K V) → new.forest ≡ old.forest → new.number ≡ old.number → new ≡ old
  held-same old new forest number = λ z. record { forest = forest z; number = number z }

  -- where the sizes change alike, the numbers of slots and free slots stay alike
  gives-alike : (one other one' other' : Held K V) (after after' : List (List ℕ)) → Resembles one other → after' ≡ after
      → Gives (sizes-in one) after one.forest one'.forest → Gives (sizes-in other) after' other.forest other'.forest
      → (slots_of other'.forest ≡ slots_of one'.forest) × (free_of other'.forest ≡ free_of one'.forest)
  gives-alike one other one' other' after after' r e g g' = (
    g'.slots ∙ r.slots ∙ sym g.slots,
    as-free (free_of one.forest) (free_of other.forest) (node_count (sizes-in one)) (node_count (sizes-in other)) (node_count after) (node_count after') (free_of one'.forest) (free_of other'.forest)
        r.free (ap node_count r.sizes) (ap node_count e) g.free g'.free,
  )

  -- slots that are taken alike
  takes-alike : (one other : Held K V) (f f' : Forest K V) (d d' : ℕ) → Resembles one other → d' ≡ d → Takes d one.forest f → Takes d' other.forest f'
      → (slots_of f' ≡ slots_of f) × (free_of f' ≡ free_of f)
  takes-alike one other f f' d d' r e t t' = (
    t'.slots ∙ (λ z. r.slots z + (e z - r.free z)) ∙ sym t.slots,
    t'.free ∙ (λ z. r.free z - e z) ∙ sym t.free,
  )

  few-alike : (one other : Held K V) {d d' : ℕ} → Resembles one other → d' ≡ d → IsTooMany d one.forest ≡ IsTooMany d' other.forest
  few-alike one other r e = λ z. sym r.free z + (sym r.limit z - sym r.slots z) < sym e z

  -- trees that are made anew alike, and then those before them freed
  renews-alike : (one other : Held K V) (f f' : Forest K V) (d d' : ℕ) → Resembles one other → d' ≡ d
      → TakesAndGives d (sizes_of one.forest one.number) one.forest f → TakesAndGives d' (sizes_of other.forest other.number) other.forest f'
      → (slots_of f' ≡ slots_of f) × (free_of f' ≡ free_of f)
  renews-alike one other f f' d d' r e t t' = (
    t'.slots ∙ (λ z. r.slots z + (e z - r.free z)) ∙ sym t.slots,
    t'.free ∙ (λ z. (r.free z - e z) + node_count (r.sizes z)) ∙ sym t.free,
  )

  -- a tree of these entries was made of d nodes, or refused
  pub record IsMade (f : Forest K V) (d : ℕ) (es : List (K × V)) (result : Result (Option ℕ) OutOfMemory) (f' : Forest K V) : Type 0 where
    pub becomes : IfOk result (λ n. Becomes f None f' n es)
    pub account : OnOk result (Takes d f f')
    pub full : (result ≡ Err Full) ↔ IsTooMany d f
    pub refused : OnErr result (f' ≡ f)

  pub clones-made : {f f' : Forest K V} {h : Option ℕ} {result : Result (Option ℕ) OutOfMemory} → Clones f h result f' → IsMade f (nodes_of f h) (list_of f h) result f'
  clones-made c = record { becomes = c.copied; account = c.account; full = c.full; refused = c.refused }

  pub loads-made : {most : ℕ} {f f' : Forest K V} {es : List (K × V)} {result : Result (Option ℕ) OutOfMemory} → Loads most f es result f'
      → IsMade f (fewest most (length es)) es result f'
  loads-made l = record { becomes = l.loaded; account = l.account; full = l.full; refused = l.refused }

  -- copies of one tree, and loads of one list, have nodes of the same sizes
  pub clones-sizes : (one other : Held K V) {f f' : Forest K V} {result result' : Result (Option ℕ) OutOfMemory} → Resembles one other → Clones one.forest one.number result f
      → Clones other.forest other.number result' f' → (n n' : Option ℕ) → result ≡ Ok n → result' ≡ Ok n' → sizes_of f' n' ≡ sizes_of f n
  clones-sizes one other {f} {f'} r c c' n n' e e' =
      subst (λ x. IfOk x (λ q. sizes_of f' q ≡ sizes_of other.forest other.number)) e' c'.sizes ∙ r.sizes
      ∙ sym (subst (λ x. IfOk x (λ q. sizes_of f q ≡ sizes_of one.forest one.number)) e c.sizes)

  pub loads-sizes : (most : ℕ) → most % 2 ≡ 1 → {f f' g g' : Forest K V} {es : List (K × V)} {result result' : Result (Option ℕ) OutOfMemory} → Loads most f es result f'
      → Loads most g es result' g' → (n n' : Option ℕ) → result ≡ Ok n → result' ≡ Ok n' → sizes_of g' n' ≡ sizes_of f' n
  loads-sizes most odd {f} {f'} {g} {g'} {es} l l' n n' e e' =
      let one = subst (λ x. Loads most f es x f') e l in
      let other = subst (λ x. Loads most g es x g') e' l' in
      packed-same most (length es) odd (sizes_of g' n') (sizes_of f' n) other.packed one.packed (loaded-fits most odd g g' es n' other) (loaded-fits most odd f f' es n one)

  -- trees that are made of equal lists and numbers of nodes: both are made, or both refused
  pub made-alike : {P : Type 0} (one other : Held K V) {d d' : ℕ} {es es' : List (K × V)} (result result' : Result (Option ℕ) OutOfMemory) (f f' : Forest K V) → Resembles one other
      → d' ≡ d → es' ≡ es → IsMade one.forest d es result f → IsMade other.forest d' es' result' f' → result ≢ Err Memory → result' ≢ Err Memory
      → ((n n' : Option ℕ) → result ≡ Ok n → result' ≡ Ok n' → sizes_of f' n' ≡ sizes_of f n)
      → ((n n' : Option ℕ) → result ≡ Ok n → result' ≡ Ok n' → Becomes one.forest None f n es → Becomes other.forest None f' n' es'
      → Resembles (record { forest = f; number = n }) (record { forest = f'; number = n' }) → P)
      → (result ≡ Err Full → result' ≡ Err Full → f ≡ one.forest → f' ≡ other.forest → P) → P
  made-alike one other (Ok n) (Ok n') f f' r e l c c' m m' sizes made refused =
      let taken = takes-alike one other f f' _ _ r e c.account c'.account in
      made n n' refl refl c.becomes c'.becomes (record {
        list = c'.becomes.list ∙ l ∙ sym c.becomes.list;
        sizes = sizes n n' refl refl;
        slots = taken.0;
        free = taken.1;
        limit = c'.becomes.limit ∙ r.limit ∙ sym c.becomes.limit;
      })
  made-alike one other (Err Full) (Err Full) f f' r e l c c' m m' sizes made refused = refused refl refl c.refused c'.refused
  made-alike one other (Ok n) (Err Full) f f' r e l c c' m m' sizes made refused =
      let full = c.full.1 (subst (λ (P : Type 0). P) (sym (few-alike one other r e)) (c'.full.0 refl)) in absurd (cc)
  made-alike one other (Err Full) (Ok n') f f' r e l c c' m m' sizes made refused =
      let full = c'.full.1 (subst (λ (P : Type 0). P) (few-alike one other r e) (c.full.0 refl)) in absurd (cc)
  made-alike one other (Err Memory) result' f f' r e l c c' m m' sizes made refused = absurd (m refl)
  made-alike one other result (Err Memory) f f' r e l c c' m m' sizes made refused = absurd (m' refl)

  -- two trees that are parted at one place: both are, or neither
  module _ (most : ℕ) {one other : Held K V} (r : Resembles one other) {p p' : ℕ} (e : p' ≡ p) where
    need-of-parts : severed p' (sizes_of other.forest other.number) ≡ severed p (sizes_of one.forest one.number)
    need-of-parts = λ z. severed (e z) (r.sizes z)

    pub parts-alike : {P : Type 0} (result result' : Result (Option ℕ) OutOfMemory) (one' other' : Held K V)
        → SplitsAt most one.forest one.number p result one'.forest one'.number → SplitsAt most other.forest other.number p' result' other'.forest other'.number
        → result ≢ Err Memory → result' ≢ Err Memory
        → ((n n' : Option ℕ) → result ≡ Ok n → result' ≡ Ok n' → Resembles one' other' → Resembles (record { forest = one'.forest; number = n }) (record { forest = other'.forest; number = n' }) → P)
        → (result ≡ Err Full → result' ≡ Err Full → one' ≡ one → other' ≡ other → P) → P
    parts-alike (Ok n) (Ok n') one' other' s s' m m' made refused =
        let front = s'.sizes ∙ (λ z. truncation (e z) (length (r.list z) - e z) (r.sizes z)) ∙ sym s.sizes in
        let tail = s'.tail_sizes ∙ (λ z. detached most (e z) (r.sizes z)) ∙ sym s.tail_sizes in
        let slots = s'.slots ∙ (λ z. r.slots z + (need-of-parts z - r.free z)) ∙ sym s.slots in
        let limit = s'.limit ∙ r.limit ∙ sym s.limit in
        let free : free_of other'.forest ≡ free_of one'.forest = omega (arith, s.free, s'.free, ap node_count front, ap node_count tail, r.free, need-of-parts, ap node_count r.sizes) in
        made n n' refl refl
        (record { list = s'.front ∙ (λ z. take (e z) (r.list z)) ∙ sym s.front; sizes = front; slots = slots; free = free; limit = limit })
        (record { list = s'.tail ∙ (λ z. drop (e z) (r.list z)) ∙ sym s.tail; sizes = tail; slots = slots; free = free; limit = limit })
    parts-alike (Err Full) (Err Full) one' other' s s' m m' made refused =
        refused refl refl (held-same one one' s.refused_forest s.refused_handle) (held-same other other' s'.refused_forest s'.refused_handle)
    parts-alike (Ok n) (Err Full) one' other' s s' m m' made refused =
        let full = s.full.1 (subst (λ (P : Type 0). P) (sym (few-alike one other r need-of-parts)) (s'.full.0 refl)) in absurd (cc)
    parts-alike (Err Full) (Ok n') one' other' s s' m m' made refused =
        let full = s'.full.1 (subst (λ (P : Type 0). P) (few-alike one other r need-of-parts) (s.full.0 refl)) in absurd (cc)
    parts-alike (Err Memory) result' one' other' s s' m m' made refused = absurd (m refl)
    parts-alike result (Err Memory) one' other' s s' m m' made refused = absurd (m' refl)

  -- two compactions: both are made, or both refused
  pub compacts-alike : (most : ℕ) → most % 2 ≡ 1 → (one other : Held K V) → Resembles one other → (result result' : Result (Unit {0}) OutOfMemory) (one' other' : Held K V)
      → Compacts most one.forest one.number result one'.forest one'.number → Compacts most other.forest other.number result' other'.forest other'.number
      → result ≢ Err Memory → result' ≢ Err Memory → (result' ≡ result) × Resembles one' other'
  compacts-alike most odd one other r (Ok done) (Ok done') one' other' c c' m m' =
      let taken = renews-alike one other one'.forest other'.forest _ _ r (λ z. fewest most (length (r.list z))) c.account c'.account in (
        refl,
        record {
          list = c'.same_list.list ∙ r.list ∙ sym c.same_list.list;
          sizes = packed-same most (length (entries one)) odd (sizes-in other') (sizes-in one') c'.packed c.packed
              (subst (λ (es : List (K × V)). IsFitFor most (length es) (sizes-in other')) r.list c'.fit) c.fit;
          slots = taken.0;
          free = taken.1;
          limit = c'.same_list.limit ∙ r.limit ∙ sym c.same_list.limit;
        },
      )
  compacts-alike most odd one other r (Err Full) (Err Full) one' other' c c' m m' =
      (refl, resembling-same one other one' other' r (held-same one one' c.refused_forest c.refused_handle) (held-same other other' c'.refused_forest c'.refused_handle))
  compacts-alike most odd one other r (Ok done) (Err Full) one' other' c c' m m' =
      let full = c.full.1 (subst (λ (P : Type 0). P) (sym (few-alike one other r (λ z. fewest most (length (r.list z))))) (c'.full.0 refl)) in absurd (cc)
  compacts-alike most odd one other r (Err Full) (Ok done) one' other' c c' m m' =
      let full = c'.full.1 (subst (λ (P : Type 0). P) (few-alike one other r (λ z. fewest most (length (r.list z)))) (c.full.0 refl)) in absurd (cc)
  compacts-alike most odd one other r (Err Memory) result' one' other' c c' m m' = absurd (m refl)
  compacts-alike most odd one other r result (Err Memory) one' other' c c' m m' = absurd (m' refl)

  module _ (most : ℕ) (order : K → K → Ordering) where
    module _ (one other : Held K V) (r : Resembles one other) where
      need-alike : (k : K) → need_of most order other.forest other.number k ≡ need_of most order one.forest one.number k
      need-alike k = λ z. if is_present order (r.list z) k then 0 else need most (place order (r.list z) k) (r.sizes z)

      -- the need and the room of a key are the same in both
      too-many-alike : (k : K) → IsTooMany (need_of most order one.forest one.number k) one.forest ≡ IsTooMany (need_of most order other.forest other.number k) other.forest
      too-many-alike k = λ z. sym r.free z + (sym r.limit z - sym r.slots z) < sym (need-alike k) z

      pub inserts-alike : (k : K) (x : V) (result result' : Result (Option V) OutOfMemory) (one' other' : Held K V)
          → Inserts most order one.forest one.number k x result one'.forest one'.number → Inserts most order other.forest other.number k x result' other'.forest other'.number
          → result ≢ Err Memory → result' ≢ Err Memory → (result' ≡ result) × Resembles one' other'
      inserts-alike k x (Ok v) (Ok v') one' other' i i' m m' = (
        ap (λ v. Ok v) (i'.ok ∙ (λ z. value_for order (r.list z) k) ∙ sym i.ok),
        record {
          list = i'.put.list ∙ (λ z. put order (r.list z) k x) ∙ sym i.put.list;
          sizes = i'.sizes ∙ (λ z. if is_present order (r.list z) k then r.sizes z else growth most (place order (r.list z) k) (r.sizes z)) ∙ sym i.sizes;
          slots = i'.account.slots ∙ (λ z. r.slots z + (need-alike k z - r.free z)) ∙ sym i.account.slots;
          free = i'.account.free ∙ (λ z. r.free z - need-alike k z) ∙ sym i.account.free;
          limit = i'.put.limit ∙ r.limit ∙ sym i.put.limit;
        },
      )
      inserts-alike k x (Err Full) (Err Full) one' other' i i' m m' =
          (refl, resembling-same one other one' other' r (held-same one one' i.refused_forest i.refused_handle) (held-same other other' i'.refused_forest i'.refused_handle))
      inserts-alike k x (Ok v) (Err Full) one' other' i i' m m' =
          let full = i.full.1 (subst (λ (P : Type 0). P) (sym (too-many-alike k)) (i'.full.0 refl)) in absurd (cc)
      inserts-alike k x (Err Full) (Ok v) one' other' i i' m m' =
          let full = i'.full.1 (subst (λ (P : Type 0). P) (too-many-alike k) (i.full.0 refl)) in absurd (cc)
      inserts-alike k x (Err Memory) result' one' other' i i' m m' = absurd (m refl)
      inserts-alike k x result (Err Memory) one' other' i i' m m' = absurd (m' refl)

      -- results of a call that returns the value of a key, where that of the insertion is equal
      results-alike : (x : V) (result result' : Result V OutOfMemory) → as_inserted {X = V} result' ≡ as_inserted result → IfOk result (λ w. w ≡ x) → IfOk result' (λ w. w ≡ x) → result' ≡ result
      results-alike x (Ok w) (Ok w') e is is' = ap (λ v. Ok v) (is' ∙ sym is)
      results-alike x (Err why) (Err why') e is is' = cc
      results-alike x (Ok w) (Err why') e is is' = absurd (cc)
      results-alike x (Err why) (Ok w') e is is' = absurd (cc)

      had-memory : (result : Result V OutOfMemory) → result ≢ Err Memory → as_inserted {X = V} result ≢ Err Memory
      had-memory (Ok w) m e = absurd (cc)
      had-memory (Err why) m e = m (cc)

      -- a value that was there is returned by both
      has-value : (v : V) (result result' : Result V OutOfMemory) → IfOk result (λ w. w ≡ v) → IfOk result' (λ w. w ≡ v) → IsOk result → IsOk result' → result' ≡ result
      has-value v (Ok w) (Ok w') is is' ok ok' = ap (λ x. Ok x) (is' ∙ sym is)
      has-value v (Err why) result' is is' ok ok' = absurd (cc)
      has-value v (Ok w) (Err why) is is' ok ok' = absurd (cc)

      module _ (k : K) (x : V) (result result' : Result V OutOfMemory) (one' other' : Held K V) (m : result ≢ Err Memory) (m' : result' ≢ Err Memory) where
        -- an absent key was inserted in both
        both-inserted : IfOk result (λ w. w ≡ x) → IfOk result' (λ w. w ≡ x)
            → Inserts most order one.forest one.number k x (as_inserted result) one'.forest one'.number → Inserts most order other.forest other.number k x (as_inserted result') other'.forest other'.number
            → (result' ≡ result) × Resembles one' other'
        both-inserted is is' i i' =
            let done = inserts-alike k x (as_inserted result) (as_inserted result') one' other' i i' (had-memory result m) (had-memory result' m') in
            (results-alike x result result' done.0 is is', done.1)

        pub gets-or-inserts-alike : GotOrInserted most order k x result one one' → GotOrInserted most order k x result' other other' → (result' ≡ result) × Resembles one' other'
        gets-or-inserts-alike g g' = by (value_for order (entries one) k) refl
          where
            by : (o : Option V) → value_for order (entries one) k ≡ o → (result' ≡ result) × Resembles one' other'
            by None e =
                let e' = (λ z. value_for order (r.list z) k) ∙ e in
                both-inserted (IfOk-weaker result _ _ (λ w is. is ∙ ap (λ o. unwrap_or o x) e) g.value) (IfOk-weaker result' _ _ (λ w is. is ∙ ap (λ o. unwrap_or o x) e') g'.value) (g.absent e) (g'.absent e')
            by (Some v) e =
                let e' = (λ z. value_for order (r.list z) k) ∙ e in (
                  has-value v result result' (IfOk-weaker result _ _ (λ w is. is ∙ ap (λ o. unwrap_or o x) e) g.value) (IfOk-weaker result' _ _ (λ w is. is ∙ ap (λ o. unwrap_or o x) e') g'.value)
                      (g.present (rw e refl)) (g'.present (rw e' refl)),
                  resembling-same one other one' other' r (held-same one one' (g.present_forest (rw e refl)) (g.present_handle (rw e refl)))
                      (held-same other other' (g'.present_forest (rw e' refl)) (g'.present_handle (rw e' refl))),
                )

      pub updates-alike : (k : K) (x : V) (result result' : Option V) (one' other' : Held K V) → Updated order k x result one one' → Updated order k x result' other other'
          → (result' ≡ result) × Resembles one' other'
      updates-alike k x None None one' other' u u' =
          (refl, resembling-same one other one' other' r (held-same one one' (u.absent_forest refl) u.handle) (held-same other other' (u'.absent_forest refl) u'.handle))
      updates-alike k x (Some w) (Some w') one' other' u u' = (
        ap (λ v. Some v) (u'.called.2 ∙ sym u.called.2),
        record {
          list = u'.put.list ∙ (λ z. put order (r.list z) k (u'.called.2 z)) ∙ (λ z. put order (entries one) k (sym u.called.2 z)) ∙ sym u.put.list;
          sizes = u'.sizes ∙ r.sizes ∙ sym u.sizes;
          slots = u'.slots ∙ r.slots ∙ sym u.slots;
          free = u'.free ∙ r.free ∙ sym u.free;
          limit = u'.put.limit ∙ r.limit ∙ sym u.put.limit;
        },
      )
      updates-alike k x None (Some w') one' other' u u' =
          let no : Some u'.called.0 ≡ None = sym u'.called.1 ∙ (λ z. value_for order (r.list z) k) ∙ u.absent refl in absurd (cc)
      updates-alike k x (Some w) None one' other' u u' =
          let no : Some u.called.0 ≡ None = sym u.called.1 ∙ (λ z. value_for order (sym r.list z) k) ∙ u'.absent refl in absurd (cc)

      pub updates-or-inserts-alike : (k : K) (x w : V) (result result' : Result V OutOfMemory) (one' other' : Held K V) → result ≢ Err Memory → result' ≢ Err Memory
          → UpdatedOrInserted most order k x w result one one' → UpdatedOrInserted most order k x w result' other other' → (result' ≡ result) × Resembles one' other'
      updates-or-inserts-alike k x w result result' one' other' m m' g g' =
          updated-or-inserted result g
          (λ v is u. updated-or-inserted result' g'
          (λ v' is' u'. let done = updates-alike k w (Some v) (Some v') one' other' u u' in (is' ∙ (λ z. some-ok (done.0 z)) ∙ sym is, done.1))
          (λ none i'. let no : Some u.called.0 ≡ None = sym u.called.1 ∙ (λ z. value_for order (sym r.list z) k) ∙ none in absurd (cc)))
          (λ none i. updated-or-inserted result' g'
          (λ v' is' u'. let no : Some u'.called.0 ≡ None = sym u'.called.1 ∙ (λ z. value_for order (r.list z) k) ∙ none in absurd (cc))
          (λ none' i'. both-inserted k x result result' one' other' m m' (g.value none) (g'.value none') i i'))
        where
          some-ok : Option V → Result V OutOfMemory
          some-ok None = Err Full
          some-ok (Some v) = Ok v

      -- the entries with new keys
      rekeyed-of : (keys : List (K × K)) (es moved : List (K × V)) → Rekeys (λ k k'. k' ≡ new_key order keys k) es moved → moved ≡ map (λ e. (new_key order keys e.0, e.1)) es
      rekeyed-of keys [] moved a = a
      rekeyed-of keys (e ∷ es) [] a = absurd a
      rekeyed-of keys (e ∷ es) (e' ∷ moved) a = λ z. (a.0 z, a.1 z) ∷ rekeyed-of keys es moved a.2 z

      abbrev shifted-list : K → List (K × K) → List (K × V) → List (K × V)
      shifted-list from keys es = take (place order es from) es ++ map (λ e. (new_key order keys e.0, e.1)) (drop (place order es from) es)

      pub shifts-alike : (from : K) (keys : List (K × K)) (one' other' : Held K V) → Shifted order from keys one one' → Shifted order from keys other other' → Resembles one' other'
      shifts-alike from keys one' other' s s' =
          let told = ap (λ moved. take (place order (entries one) from) (entries one) ++ moved) (rekeyed-of keys _ s.0.moved s.0.rekeys) in
          let told' = ap (λ moved. take (place order (entries other) from) (entries other) ++ moved) (rekeyed-of keys _ s'.0.moved s'.0.rekeys) in
          record {
            list = ap (λ (n : Option ℕ). list_of other'.forest n) s'.1 ∙ s'.0.shifted.list ∙ told' ∙ (λ z. shifted-list from keys (r.list z)) ∙ sym told ∙ sym s.0.shifted.list
                ∙ ap (λ (n : Option ℕ). list_of one'.forest n) (sym s.1);
            sizes = ap (λ (n : Option ℕ). sizes_of other'.forest n) s'.1 ∙ s'.0.sizes ∙ r.sizes ∙ sym s.0.sizes ∙ ap (λ (n : Option ℕ). sizes_of one'.forest n) (sym s.1);
            slots = s'.0.slots ∙ r.slots ∙ sym s.0.slots;
            free = s'.0.free ∙ r.free ∙ sym s.0.free;
            limit = s'.0.shifted.limit ∙ r.limit ∙ sym s.0.shifted.limit;
          }

      pub removes-alike : (k : K) (value value' : Option V) (one' other' : Held K V)
          → Removes most order one.forest one.number k value one'.forest one'.number → Removes most order other.forest other.number k value' other'.forest other'.number
          → (value' ≡ value) × Resembles one' other'
      removes-alike k value value' one' other' c c' =
          let after = c'.sizes ∙ (λ z. if is_present order (r.list z) k then shrink most (place order (r.list z) k) (r.sizes z) else r.sizes z) ∙ sym c.sizes in
          let given = gives-alike one other one' other' (sizes-in one') (sizes-in other') r after c.account c'.account in (
            c'.value ∙ (λ z. value_for order (r.list z) k) ∙ sym c.value,
            record {
              list = c'.cut.list ∙ (λ z. cut order (r.list z) k) ∙ sym c.cut.list;
              sizes = after;
              slots = given.0;
              free = given.1;
              limit = c'.cut.limit ∙ r.limit ∙ sym c.cut.limit;
            },
          )

      pub between-alike : (lo hi : Bound K) (changed changed' : Bool) (one' other' : Held K V)
          → RemovesBetween most order lo hi one.forest one.number changed one'.forest one'.number
          → RemovesBetween most order lo hi other.forest other.number changed' other'.forest other'.number
          → (changed' ≡ changed) × Resembles one' other'
      between-alike lo hi changed changed' one' other' c c' =
          let after = c'.sizes ∙ (λ z. sizes_outside most lo hi (start_place order lo (r.list z)) (length (entries_between order lo hi (r.list z))) (r.sizes z)) ∙ sym c.sizes in
          let given = gives-alike one other one' other' (sizes-in one') (sizes-in other') r after c.account c'.account in (
            c'.changed ∙ (λ z. nat_lt 0 (length (entries_between order lo hi (r.list z)))) ∙ sym c.changed,
            record {
              list = c'.removed.list ∙ (λ z. entries_outside order lo hi (r.list z)) ∙ sym c.removed.list;
              sizes = after;
              slots = given.0;
              free = given.1;
              limit = c'.removed.limit ∙ r.limit ∙ sym c.removed.limit;
            },
          )

      -- calls that read the tree of another handle, which has equal entries in both
      module _ (o o' : Option ℕ) (e : list_of other.forest o' ≡ list_of one.forest o) where
        pub keeps-alike : (present changed changed' : Bool) (one' other' : Held K V)
            → KeepsFrom most order present one.forest one.number o changed one'.forest one'.number
            → KeepsFrom most order present other.forest other.number o' changed' other'.forest other'.number
            → (changed' ≡ changed) × Resembles one' other'
        keeps-alike present changed changed' one' other' c c' =
            let list = c'.kept.list ∙ (λ z. kept_from order present (r.list z) (e z)) ∙ sym c.kept.list in
            let after : sizes-in other' ≡ sizes-in one' = elim (empty-or-not (entries one')) [
              | inl none ↦ no-sizes other'.forest other'.number c'.kept.live (list ∙ none) ∙ sym (no-sizes one'.forest one'.number c.kept.live none)
              | inr some ↦ c'.sizes (λ none. some (sym list ∙ none)) ∙ (λ z. sizes_by most 0 (kept_of order present (r.list z) (e z)) (r.sizes z)) ∙ sym (c.sizes some)
            ] in
            let given = gives-alike one other one' other' (sizes-in one') (sizes-in other') r after c.account c'.account in (
              c'.changed ∙ (λ z. not (keeps_all order present (r.list z) (e z))) ∙ sym c.changed,
              record {
                list = list;
                sizes = after;
                slots = given.0;
                free = given.1;
                limit = c'.kept.limit ∙ r.limit ∙ sym c.kept.limit;
              },
            )

        new-alike : new_to order other.forest other.number o' ≡ new_to order one.forest one.number o
        new-alike = λ z. kept_from order false (e z) (r.list z)

        need-of-new-alike : (entries : ℕ) (new : List (K × V)) → need_of_new most order other.forest other.number entries new ≡ need_of_new most order one.forest one.number entries new
        need-of-new-alike entries [] = refl
        need-of-new-alike entries (d ∷ []) = need-alike d.0
        need-of-new-alike entries (d ∷ c ∷ new) = refl

        need-of-union-alike : need_of_union most order other.forest other.number o' ≡ need_of_union most order one.forest one.number o
        need-of-union-alike = (λ z. need_of_new most order other.forest other.number (length (united order (r.list z) (e z))) (new-alike z)) ∙ need-of-new-alike _ _

        -- whether a union changes the first tree
        changes-alike : (changed changed' : Bool) → changed ≡ not (are_among order (list_of one.forest o) (entries one)) → changed' ≡ not (are_among order (list_of other.forest o') (entries other))
            → changed' ≡ changed
        changes-alike changed changed' c c' = c' ∙ (λ z. not (are_among order (e z) (r.list z))) ∙ sym c

        pub unites-alike : most % 2 ≡ 1 → (result result' : Result Bool OutOfMemory) (one' other' : Held K V)
            → Unites most order one.forest one.number o result one'.forest one'.number → Unites most order other.forest other.number o' result' other'.forest other'.number
            → result ≢ Err Memory → result' ≢ Err Memory → (result' ≡ result) × Resembles one' other'
        unites-alike odd (Ok true) (Ok true) one' other' u u' m m' = (refl, by (new_to order one.forest one.number o) refl)
          where
            by : (new : List (K × V)) → new_to order one.forest one.number o ≡ new → Resembles one' other'
            by [] none = absurd (let told = u.changed ∙ ap not (none-new order (entries one) (list_of one.forest o) none) in cc)
            by (d ∷ []) is = (inserts-alike d.0 d.1 (Ok None) (Ok None) one' other' (u.inserted d is) (u'.inserted d (new-alike ∙ is)) (λ bad. absurd (cc)) (λ bad. absurd (cc))).1
            by (d ∷ c ∷ new) is =
                let many : 1 < length (new_to order one.forest one.number o) = omega (arith, ap length is) in
                let many' : 1 < length (new_to order other.forest other.number o') = omega (arith, ap length (new-alike ∙ is)) in
                let taken = renews-alike one other one'.forest other'.forest _ _ r need-of-union-alike (u.account many) (u'.account many') in
                let list = u'.united.list ∙ (λ z. united order (r.list z) (e z)) ∙ sym u.united.list in
                record {
                  list = list;
                  sizes = packed-same most (length (entries one')) odd (sizes-in other') (sizes-in one') (u'.packed many') (u.packed many)
                      (subst (λ (es : List (K × V)). IsFitFor most (length es) (sizes-in other')) list (u'.fit many')) (u.fit many);
                  slots = taken.0;
                  free = taken.1;
                  limit = u'.united.limit ∙ r.limit ∙ sym u.united.limit;
                }
        unites-alike odd (Ok false) (Ok false) one' other' u u' m m' =
            (refl, resembling-same one other one' other' r (held-same one one' (u.same_forest refl) (u.same_handle refl)) (held-same other other' (u'.same_forest refl) (u'.same_handle refl)))
        unites-alike odd (Ok true) (Ok false) one' other' u u' m m' = let no = changes-alike true false u.changed u'.changed in absurd (cc)
        unites-alike odd (Ok false) (Ok true) one' other' u u' m m' = let no = changes-alike false true u.changed u'.changed in absurd (cc)
        unites-alike odd (Err Full) (Err Full) one' other' u u' m m' =
            (refl, resembling-same one other one' other' r (held-same one one' u.refused_forest u.refused_handle) (held-same other other' u'.refused_forest u'.refused_handle))
        unites-alike odd (Ok changed) (Err Full) one' other' u u' m m' =
            let full = u.full.1 (subst (λ (P : Type 0). P) (sym (few-alike one other r need-of-union-alike)) (u'.full.0 refl)) in absurd (cc)
        unites-alike odd (Err Full) (Ok changed) one' other' u u' m m' =
            let full = u'.full.1 (subst (λ (P : Type 0). P) (few-alike one other r need-of-union-alike) (u.full.0 refl)) in absurd (cc)
        unites-alike odd (Err Memory) result' one' other' u u' m m' = absurd (m refl)
        unites-alike odd result (Err Memory) one' other' u u' m m' = absurd (m' refl)

      removes-at-alike : (p p' : ℕ) (one' other' : Held K V) → p' ≡ p → RemovesAt most one.forest one.number p one'.forest one'.number → RemovesAt most other.forest other.number p' other'.forest other'.number
          → Resembles one' other'
      removes-at-alike p p' one' other' e c c' =
          let after = c'.sizes ∙ (λ z. if nat_lt (e z) (length (r.list z)) then shrink most (e z) (r.sizes z) else r.sizes z) ∙ sym c.sizes in
          let given = gives-alike one other one' other' (sizes-in one') (sizes-in other') r after c.account c'.account in
          record {
            list = c'.removed.list ∙ (λ z. remove (r.list z) (e z)) ∙ sym c.removed.list;
            sizes = after;
            slots = given.0;
            free = given.1;
            limit = c'.removed.limit ∙ r.limit ∙ sym c.removed.limit;
          }

      pub pops-alike : (p p' : ℕ) (entry entry' : Option (K × V)) (one' other' : Held K V) → p' ≡ p
          → Pops most one.forest one.number p entry one'.forest one'.number → Pops most other.forest other.number p' entry' other'.forest other'.number
          → (entry' ≡ entry) × Resembles one' other'
      pops-alike p p' entry entry' one' other' e c c' =
          (c'.entry ∙ (λ z. slice_get (r.list z) (e z)) ∙ sym c.entry, removes-at-alike p p' one' other' e c.removed c'.removed)

      writes-at-alike : (p p' : ℕ) (v : V) (one' other' : Held K V) → p' ≡ p → WritesAt one p v one' → WritesAt other p' v other' → Resembles one' other'
      writes-at-alike p p' v one' other' e w w' = record {
        list = w'.becomes.list ∙ (λ z. with_value (r.list z) (e z) v) ∙ sym w.becomes.list;
        sizes = w'.sizes ∙ r.sizes ∙ sym w.sizes;
        slots = w'.slots ∙ r.slots ∙ sym w.slots;
        free = w'.free ∙ r.free ∙ sym w.free;
        limit = w'.becomes.limit ∙ r.limit ∙ sym w.becomes.limit;
      }

      pub clears-alike : (one' other' : Held K V) → Clears one.forest one.number one'.forest one'.number → Clears other.forest other.number other'.forest other'.number → Resembles one' other'
      clears-alike one' other' c c' =
          let given = gives-alike one other one' other' [] [] r refl c.account c'.account in
          record {
            list = c'.cleared.list ∙ sym c.cleared.list;
            sizes = ap (λ (n : Option ℕ). sizes_of other'.forest n) c'.handle ∙ ap (λ (n : Option ℕ). sizes_of one'.forest n) (sym c.handle);
            slots = given.0;
            free = given.1;
            limit = c'.cleared.limit ∙ r.limit ∙ sym c.cleared.limit;
          }

      -- the answers of a predicate without a state
      asked-of : (keys : List K) (value : Option V) (u : Unit {0}) (es : List (K × V)) (answers : List (Bool × V)) → AsksEach (KeepsIf order keys value) u es answers
          → answers ≡ map (λ e. (is_listed order keys e.0, unwrap_or value e.1)) es
      asked-of keys value u [] answers a = a
      asked-of keys value u (e ∷ es) [] a = absurd a
      asked-of keys value u (e ∷ es) (given ∷ answers) a = λ z. (a.1.0 z, a.1.1 z) ∷ asked-of keys value a.0 es answers a.2 z

      pub retains-alike : (keys : List K) (value : Option V) (one' other' : Held K V) → Retained most order keys value one one' → Retained most order keys value other other' → Resembles one' other'
      retains-alike keys value one' other' f f' =
          let asked = asked-of keys value tt (entries other) f'.kept.answers f'.kept.asked ∙ (λ z. map (λ e. (is_listed order keys e.0, unwrap_or value e.1)) (r.list z))
          ∙ sym (asked-of keys value tt (entries one) f.kept.answers f.kept.asked) in
          let after = f'.kept.sizes_are ∙ (λ z. sizes_by most 0 (asked z) (r.sizes z)) ∙ sym f.kept.sizes_are in
          let given = gives-alike one other one' other' (sizes-in one') (sizes-in other') r after f.account f'.account in
          record {
            list = f'.kept.kept_is ∙ (λ z. kept_by (r.list z) (asked z)) ∙ sym f.kept.kept_is;
            sizes = after;
            slots = given.0;
            free = given.1;
            limit = f'.changed.limit ∙ r.limit ∙ sym f.changed.limit;
          }

      -- one step of a writing cursor in both states
      abbrev StepsAlike : Seen K V → Held K V → ℕ → Seen K V → Held K V → ℕ → Type 0
      StepsAlike sight one' q sight' other' q' = (sight' ≡ sight) × Resembles one' other' × (q' ≡ q)

      looks-alike : (p p' : ℕ) (step : Look K) (sight sight' : Seen K V) (one' other' : Held K V) (q q' : ℕ) → p' ≡ p
          → (sight ≡ sight_of order (entries one) p step) × (one' ≡ one) × (q ≡ place_after order (entries one) p step)
          → (sight' ≡ sight_of order (entries other) p' step) × (other' ≡ other) × (q' ≡ place_after order (entries other) p' step)
          → StepsAlike sight one' q sight' other' q'
      looks-alike p p' step sight sight' one' other' q q' e l l' = (
        l'.0 ∙ (λ z. sight_of order (r.list z) (e z) step) ∙ sym l.0,
        resembling-same one other one' other' r l.1 l'.1,
        l'.2 ∙ (λ z. place_after order (r.list z) (e z) step) ∙ sym l.2,
      )

      acts-alike : (p p' : ℕ) (step : Act K V) (sight sight' : Seen K V) (one' other' : Held K V) (q q' : ℕ) → p' ≡ p
          → Acts most order one p step sight one' q → Acts most order other p' step sight' other' q' → sight ≢ seen.Put (Err Memory) → sight' ≢ seen.Put (Err Memory)
          → StepsAlike sight one' q sight' other' q'
      acts-alike p p' act.Empty sight sight' one' other' q q' e a a' m m' = looks-alike p p' look.Empty sight sight' one' other' q q' e a a'
      acts-alike p p' act.Next sight sight' one' other' q q' e a a' m m' = looks-alike p p' look.Next sight sight' one' other' q q' e a a'
      acts-alike p p' act.Prev sight sight' one' other' q q' e a a' m m' = looks-alike p p' look.Prev sight sight' one' other' q q' e a a'
      acts-alike p p' act.Key sight sight' one' other' q q' e a a' m m' = looks-alike p p' look.Key sight sight' one' other' q q' e a a'
      acts-alike p p' act.Value sight sight' one' other' q q' e a a' m m' = looks-alike p p' look.Value sight sight' one' other' q q' e a a'
      acts-alike p p' (act.Goto k) sight sight' one' other' q q' e a a' m m' = looks-alike p p' (look.Goto k) sight sight' one' other' q q' e a a'
      acts-alike p p' act.First sight sight' one' other' q q' e a a' m m' = looks-alike p p' look.First sight sight' one' other' q q' e a a'
      acts-alike p p' (act.Put k v) sight sight' one' other' q q' e a a' m m' =
          let done = inserts-alike k v a.0 a'.0 one' other' a.2 a'.2 (λ d. m (a.1 ∙ ap (λ t. seen.Put t) d)) (λ d. m' (a'.1 ∙ ap (λ t. seen.Put t) d)) in
          (a'.1 ∙ ap (λ t. seen.Put t) done.0 ∙ sym a.1, done.1, a'.3 ∙ (λ z. place order (r.list z) k) ∙ sym a.3)
      acts-alike p p' (act.Write v) sight sight' one' other' q q' e a a' m m' =
          (a'.0 ∙ (λ z. seen.Flag (is_some (slice_get (r.list z) (e z)))) ∙ sym a.0, writes-at-alike p p' v one' other' e a.1 a'.1, a'.2 ∙ e ∙ sym a.2)
      acts-alike p p' act.Remove sight sight' one' other' q q' e a a' m m' =
          (a'.0 ∙ (λ z. seen.Pair (slice_get (r.list z) (e z))) ∙ sym a.0, removes-at-alike p p' one' other' e a.1 a'.1, a'.2 ∙ e ∙ sym a.2)

    abbrev Had : List (Seen K V) → Type 0
    Had = AllByRecursion (λ sight. sight ≢ seen.Put (Err Memory))

    pub scripts-alike : (one other : Held K V) → Resembles one other → (p p' : ℕ) (steps : List (Act K V)) (sights sights' : List (Seen K V)) (one' other' : Held K V) (q q' : ℕ) → p' ≡ p
        → Script most order one p steps sights one' q → Script most order other p' steps sights' other' q' → Had sights → Had sights' → (sights' ≡ sights) × Resembles one' other'
    scripts-alike one other r p p' [] [] [] one' other' q q' e s s' m m' = (refl, resembling-same one other one' other' r s.0 s'.0)
    scripts-alike one other r p p' (step ∷ steps) (sight ∷ sights) (sight' ∷ sights') one' other' q q' e s s' m m' =
        let first = acts-alike one other r p p' step sight sight' s.0 s'.0 s.1 s'.1 e s.2 s'.2 m.0 m'.0 in
        let rest = scripts-alike s.0 s'.0 first.1 s.1 s'.1 steps sights sights' one' other' q q' first.2 s.3 s'.3 m.1 m'.1 in
        ((λ z. first.0 z ∷ rest.0 z), rest.1)
    scripts-alike one other r p p' [] (sight ∷ sights) sights' one' other' q q' e s s' m m' = absurd s
    scripts-alike one other r p p' [] [] (sight' ∷ sights') one' other' q q' e s s' m m' = absurd s'
    scripts-alike one other r p p' (step ∷ steps) [] sights' one' other' q q' e s s' m m' = absurd s
    scripts-alike one other r p p' (step ∷ steps) (sight ∷ sights) [] one' other' q q' e s s' m m' = absurd s'
