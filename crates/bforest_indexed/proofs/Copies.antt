-- What a copy of the list of one index at another leaves of all indices.
use Rattle.bforest.specs.Calls.{Clears, Clones}
use Rattle.bforest.specs.Entries.{IsIncreasing}
use Rattle.bforest.specs.Forest.{Becomes, Forest, IsLive, Gives, IsTooMany, NeedsGrowth, Takes, free_of, limit_of, list_at, list_of, room_of, sizes_of, slots_of}
use Rattle.bforest.specs.Refusal.{Full, Memory, OutOfMemory}
use Rattle.bforest.specs.Room.{Balances, IsEnoughFor, node_count}
use Rattle.bforest_indexed.proofs.Kept.{changes, changes-not, here, kept-set, list-here, live-read, not-both, ok-err, read, with_tree}
use Rattle.bforest_indexed.proofs.Rooms.{sum-few}
use Rattle.bforest_indexed.specs.Indexed.{AreKept, CopiesAt, HasRoom, Indexed, IsShortOf, MayHave, TakesAndGives, copy_need, count, entries, handle, node_sizes, nodes_in_use, table}
use Rattle.std.proofs.Common.{Err, IsErrAnd, List, None, Ok, Option, Result, Some, [], ap, arith, get_or, if◌then◌else◌, inl, inr, length, refl, subst, suc, sym, ℕ, ◌*◌, ◌+◌, ◌<◌, ◌∙◌, ◌≡◌, ◌≢◌, ◌≤◌}
use Rattle.std.proofs.Math.Nat.{mul-le-mul_left}
use Rattle.std.proofs.lemmas.Bool.Decides.{eqb_tells, leb_tells}
use Rattle.std.proofs.lemmas.Result.{err_from_is_err_and}
use Rattle.std.specs.declared.cmp.Ordering.{Ordering}

pub not-less : (a b : ℕ) → ¬ (a < b) → b ≤ a
not-less a b never = elim (leb_tells b a) [ inl w ↦ w.1 | inr w ↦ absurd (never w.1) ]

some-none : (n : ℕ) → Some n ≢ None
some-none n = λ e. cc

none-some : (n : ℕ) → None ≢ Some n
none-some n = λ e. cc

module _ {K X : Type 0} where
  list-ended : (k : Forest K X) (h : Option ℕ) → (None ≢ h → list_of k h ≡ []) → list_of k h ≡ []
  list-ended k None ended = refl
  list-ended k (Some n) ended = ended (none-some n)

  sizes-ended : (k : Forest K X) (h : Option ℕ) → (None ≢ h → sizes_of k h ≡ []) → sizes_of k h ≡ []
  sizes-ended k None ended = refl
  sizes-ended k (Some n) ended = ended (none-some n)

  module _ {f g k : Forest K X} {h : Option ℕ} {es : List (K × X)} (live : IsLive f h) (b : Becomes g h k None []) where
    -- a tree was added under a number, and then that of h ended
    pub becomes-replaced : (c : Option ℕ) → Becomes f None g c es → Becomes f h k c es
    becomes-replaced None a = record {
      live = tt;
      list = a.list;
      leaves = λ ne. list-ended k h b.leaves;
      fresh = λ ne. refl;
      leaves_sizes = λ ne. sizes-ended k h b.leaves_sizes;
      fresh_sizes = λ ne. refl;
      others = λ n ne ne'. b.others n ne (some-none n) ∙ a.others n (some-none n) (some-none n);
      others_sizes = λ n ne ne'. b.others_sizes n ne (some-none n) ∙ a.others_sizes n (some-none n) (some-none n);
      limit = b.limit ∙ a.limit;
    }
    becomes-replaced (Some q) a = record {
      live = subst (λ l. l ≢ []) (sym kept) a.live;
      list = kept ∙ a.list;
      leaves = λ ne. list-ended k h b.leaves;
      fresh = λ ne. a.fresh (some-none q);
      leaves_sizes = λ ne. sizes-ended k h b.leaves_sizes;
      fresh_sizes = λ ne. a.fresh_sizes (some-none q);
      others = λ n ne ne'. b.others n ne (some-none n) ∙ a.others n (some-none n) ne';
      others_sizes = λ n ne ne'. b.others_sizes n ne (some-none n) ∙ a.others_sizes n (some-none n) ne';
      limit = b.limit ∙ a.limit;
    }
      where
        apart : Some q ≢ h
        apart = λ e. subst (λ (z : Option ℕ). IsLive f z) (sym e) live (a.fresh (some-none q))

        kept : list_at k q ≡ list_at g q
        kept = b.others q apart (some-none q)

    -- the sizes of the tree that was added
    pub sizes-replaced : (c : Option ℕ) → Becomes f None g c es → sizes_of k c ≡ sizes_of g c
    sizes-replaced None a = refl
    sizes-replaced (Some q) a = b.others_sizes q (λ e. subst (λ (z : Option ℕ). IsLive f z) (sym e) live (a.fresh (some-none q))) (some-none q)

  -- a tree was added under c
  module _ {f g : Forest K X} {c : Option ℕ} {es : List (K × X)} (b : Becomes f None g c es) where
    not-added : (n : ℕ) → IsLive f (Some n) → Some n ≢ c
    not-added n live e = live (ap (list_of f) e ∙ b.fresh (λ w. some-none n (e ∙ w)))

    -- what was live still is
    pub lives-on : (h : Option ℕ) → IsLive f h → IsLive g h
    lives-on None live = tt
    lives-on (Some n) live = subst (λ l. l ≢ []) (sym (b.others n (some-none n) (not-added n live))) live

    -- the nodes of what was live were not touched
    pub sizes-stay : (h : Option ℕ) → IsLive f h → sizes_of g h ≡ sizes_of f h
    sizes-stay None live = refl
    sizes-stay (Some n) live = b.others_sizes n (some-none n) (not-added n live)

    -- then the tree of h was freed
    pub takes-gives : {k : Forest K X} (h : Option ℕ) {d : ℕ} → IsLive f h → Takes d f g → Gives (sizes_of g h) [] g k → TakesAndGives d (sizes_of f h) f k
    takes-gives h live taken given = record {
      slots = omega (arith, given.slots, taken.slots);
      free = omega (arith, given.free, taken.free, ap node_count (sizes-stay h live));
      memory = record {
        grows = rw given.memory taken.memory.grows;
        stays = λ low. given.memory ∙ taken.memory.stays low;
        suffices = λ low. given.memory ∙ taken.memory.suffices low;
        bounded = rw given.memory taken.memory.bounded;
      };
    }

module _ {K X C : Type 0} (m : Indexed K X C) (i j : ℕ) where
  need-other : i ≢ j → copy_need m i j ≡ node_count (node_sizes m i)
  need-other ne = elim (eqb_tells i j) [ inl w ↦ absurd (ne w.1) | inr w ↦ ap (λ b. if b then 0 else node_count (node_sizes m i)) w.0 ]

  need-same : i ≡ j → copy_need m i j ≡ 0
  need-same e = elim (eqb_tells i j) [ inl w ↦ ap (λ b. if b then 0 else node_count (node_sizes m i)) w.0 | inr w ↦ absurd (w.1 e) ]

module _ {K X C : Type 0} {most : ℕ} {cmp : K → K → Ordering} {m : Indexed K X C} (a : AreKept most cmp m) {most_entries : ℕ} (need : ℕ) (few : (nodes : ℕ) → IsEnoughFor most most_entries nodes → need ≤ nodes) where
  -- the nodes of all lists, with those of one list more, are few
  one-more : (lists nodes bound : ℕ) → IsShortOf lists most_entries m → IsEnoughFor most most_entries nodes → lists * nodes ≤ bound → need + nodes_in_use m ≤ bound
  one-more lists nodes bound short enough room =
      let each : (q : ℕ) → node_count (node_sizes m q) ≤ nodes = λ q. enough (length (entries m q)) (node_sizes m q) (short.each q) (a.fit q) in
      let all = sum-few (λ (h : Option ℕ). node_count (sizes_of (table m) h)) None nodes m.handles each in
      let more : suc (count m) * nodes ≡ nodes + count m * nodes = omega arith in
      let fewer : suc (count m) ≤ lists = omega (arith, short.fewer) in
      omega (arith, few nodes enough, all, more, mul-le-mul_left nodes fewer, room)

  pub room-more : (lists : ℕ) → IsShortOf lists most_entries m → HasRoom most lists most_entries (table m) → need ≤ free_of (table m)
  room-more lists short room = omega (arith, one-more lists room.0 (slots_of (table m)) short room.1 room.2, a.account)

  pub may-more : (lists : ℕ) → IsShortOf lists most_entries m → MayHave most lists most_entries (table m) → need ≤ room_of (table m)
  may-more lists short room = omega (arith, one-more lists room.0 (limit_of (table m)) short room.1 room.2, a.account)

-- a list has at most the nodes of such a list
copy-few : {K X C : Type 0} {most : ℕ} {cmp : K → K → Ordering} {m : Indexed K X C} → AreKept most cmp m → (i : ℕ) {lists most_entries : ℕ} → IsShortOf lists most_entries m → (nodes : ℕ) → IsEnoughFor most most_entries nodes → node_count (node_sizes m i) ≤ nodes
copy-few {m = m} a i short nodes enough = enough (length (entries m i)) (node_sizes m i) (short.each i) (a.fit i)

module _ {K X C : Type 0} {m : Indexed K X C} {i j : ℕ} where
  -- nothing is copied to where it is
  pub copies-not : (most : ℕ) → i ≡ j → CopiesAt most m i j (Ok tt) m
  copies-not most e = record {
    copied = ap (entries m) (sym e);
    sizes = ap (node_sizes m) (sym e);
    beside = changes-not m m j refl;
    account = λ ne. absurd (ne e);
    same = λ is. refl;
    full = (λ bad. absurd (ok-err tt Full bad), λ bad. absurd (omega (arith, bad, need-same m i j e)));
    memory = λ bad. absurd (ok-err tt Memory bad);
    succeeds = λ enough. refl;
    refused = tt;
    room = λ lists most_entries short room. refl;
    never_full = λ lists most_entries short may. ok-err tt Full;
  }

  module _ {most : ℕ} {cmp : K → K → Ordering} (a : AreKept most cmp m) where
    module _ (ne : i ≢ j) where
      -- the copy was refused, and the forest is as it was
      copies-refused : {e : OutOfMemory} → Clones (table m) (handle m i) (Err e) (table m) → CopiesAt most m i j (Err e) m
      copies-refused {e} call = record {
        copied = tt;
        sizes = tt;
        beside = changes-not m m j refl;
        account = tt;
        same = λ is. refl;
        full = (
          λ bad. subst (λ d. IsTooMany d (table m)) (sym (need-other m i j ne)) (call.full.0 (let same : e ≡ Full = cc in ap Err same)),
          λ bad. (let same = call.full.1 (subst (λ d. IsTooMany d (table m)) (need-other m i j ne) bad) in let is : e ≡ Full = cc in ap Err is),
        );
        memory = λ bad. subst (λ d. NeedsGrowth d (table m)) (sym (need-other m i j ne)) (call.memory (let same : e ≡ Memory = cc in ap Err same));
        succeeds = λ enough. (let bad = call.succeeds (subst (λ d. d ≤ free_of (table m)) (need-other m i j ne) enough) in absurd cc);
        refused = refl;
        room = λ lists most_entries short room. (let bad = call.succeeds (room-more a (node_count (node_sizes m i)) (copy-few a i short) lists short room) in absurd cc);
        never_full = λ lists most_entries short may is. not-both (call.full.0 (let same : e ≡ Full = cc in ap Err same)) (may-more a (node_count (node_sizes m i)) (copy-few a i short) lists short may);
      }

      module _ (within : j < count m) {g k : Forest K X} {c d : Option ℕ} (call : Clones (table m) (handle m i) (Ok c) g) (gone : Clears g (handle m j) k d) where
        ended : Becomes g (handle m j) k None []
        ended = subst (λ z. Becomes g (handle m j) k z []) gone.handle gone.cleared

        replaced : Becomes (table m) (handle m j) k c (entries m i)
        replaced = becomes-replaced (a.live j) ended c call.copied

        same_sizes : sizes_of k c ≡ node_sizes m i
        same_sizes = sizes-replaced (a.live j) ended c call.copied ∙ call.sizes

        enough-room : node_count (node_sizes m i) ≤ room_of (table m)
        enough-room = not-less _ _ (λ low. ok-err c Full (call.full.1 low))

        account : TakesAndGives (node_count (node_sizes m i)) (node_sizes m j) (table m) k
        account = takes-gives call.copied (handle m j) (a.live j) call.account gone.account

        balance : Balances most (table m) (handle m j) k c
        balance = record {
          fit = rw (replaced.list, same_sizes) (a.fit i);
          nodes = omega (arith, account.slots, account.free, ap node_count same_sizes);
          slots = omega (arith, account.slots);
          within = λ w. omega (arith, account.slots, replaced.limit, enough-room, w);
        }

        -- the list of i was copied, and that of j ended
        pub copied-at : AreKept most cmp (with_tree m j k c) × CopiesAt most m i j (Ok tt) (with_tree m j k c)
        copied-at = (
          kept-set a within replaced (subst (λ (xs : List (K × X)). IsIncreasing cmp xs) (sym replaced.list) (a.increasing i)) balance,
          record {
            copied = list-here a within replaced;
            sizes = ap (sizes_of k) (here a within replaced) ∙ same_sizes;
            beside = changes a within replaced;
            account = λ other. account;
            same = λ e. absurd (ne e);
            full = (λ bad. absurd (ok-err tt Full bad), λ low. absurd (not-both (subst (λ n. IsTooMany n (table m)) (need-other m i j ne) low) enough-room));
            memory = λ bad. absurd (ok-err tt Memory bad);
            succeeds = λ enough. refl;
            refused = tt;
            room = λ lists most_entries short room. refl;
            never_full = λ lists most_entries short may. ok-err tt Full;
          },
        )

-- `h` was read at i, and `q` at j
module _ {K X C : Type 0} {most : ℕ} {cmp : K → K → Ordering} {m : Indexed K X C} {i j : ℕ} {h : Option ℕ} (a : AreKept most cmp m) (there : i < count m) (ne : i ≢ j) (is : h ≡ get_or m.handles i h) where
  cloned : {r : Result (Option ℕ) OutOfMemory} {g : Forest K X} → Clones (table m) h r g → Clones (table m) (handle m i) r g
  cloned {r} {g} call = subst (λ (z : Option ℕ). Clones (table m) z r g) (read a there is) call

  -- a copy that was refused
  pub refused-at : {e : OutOfMemory} {g : Forest K X} {r : Result (Unit {0}) OutOfMemory} → Clones (table m) h (Err e) g → IsErrAnd r (λ y. y ≡ e) → CopiesAt most m i j r (record m { forest = g })
  refused-at {e} {g} {r} call answered = let w = err_from_is_err_and r answered in let same : record m { forest = g } ≡ m = λ k. record m { forest = call.refused k } in
      rw (w.1 ∙ ap Err w.2) (subst (CopiesAt most m i j (Err e)) (sym same) (copies-refused a ne (subst (Clones (table m) (handle m i) (Err e)) call.refused (cloned call))))

  module _ {q : Option ℕ} (within : j < count m) (was : q ≡ get_or m.handles j q) {g : Forest K X} {c : Option ℕ} (call : Clones (table m) h (Ok c) g) where
    -- the handle that was read at j is live beside the copy
    pub old-live : IsLive g q
    old-live = lives-on call.copied q (live-read a within was)

    pub copied-read : {k : Forest K X} {d : Option ℕ} → Clears g q k d → AreKept most cmp (with_tree m j k c) × CopiesAt most m i j (Ok tt) (with_tree m j k c)
    copied-read {k} {d} gone = copied-at a ne within (cloned call) (subst (λ (z : Option ℕ). Clears g z k d) (read a within was) gone)
