-- What a load of the list of one index leaves of all indices.
use Rattle.bforest.specs.Calls.{Clears, IsUnorderedAt, Loads, fewest}
use Rattle.bforest.specs.Entries.{IsIncreasing}
use Rattle.bforest.specs.Forest.{Becomes, Forest, IsLive, room_of, sizes_of}
use Rattle.bforest.specs.Refusal.{Full, Memory, OutOfMemory}
use Rattle.bforest.specs.Room.{Balances, IsEnoughFor, node_count}
use Rattle.bforest_core.proofs.union.Needs.{fewest-least, fewest-met}
use Rattle.bforest_indexed.proofs.Copies.{becomes-replaced, lives-on, may-more, not-less, room-more, sizes-replaced, takes-gives}
use Rattle.bforest_indexed.proofs.Kept.{changes, changes-not, here, kept-set, list-here, live-read, not-both, ok-err, read, with_tree}
use Rattle.bforest_indexed.specs.Indexed.{AreKept, Indexed, TakesAndGives, count, handle, node_sizes, table}
use Rattle.bforest_indexed.specs.Loads.{LoadsAt}
use Rattle.bforest_indexed.specs.declared.load_error.LoadError.TheVariants.{Refused, Unordered}
use Rattle.bforest_trees.proofs.Unordered.{unordered-not}
use Rattle.std.proofs.Common.{Err, List, None, Ok, Option, [], ap, arith, get_or, length, refl, subst, sym, ℕ, ◌<◌, ◌∙◌, ◌≡◌, ◌≤◌}
use Rattle.std.specs.Cmp.{IsTotalOrder}
use Rattle.std.specs.declared.cmp.Ordering.{Ordering}

pub some-most : {K X C : Type 0} {most : ℕ} {cmp : K → K → Ordering} {m : Indexed K X C} → AreKept most cmp m → 0 < most
some-most a = let odd = a.odd in omega arith

-- entries that are as few as a list may have take at most the nodes that such a list may have
pub load-few : (most : ℕ) → 0 < most → {n most_entries : ℕ} → n ≤ most_entries → (nodes : ℕ) → IsEnoughFor most most_entries nodes → fewest most n ≤ nodes
load-few most some {n} few nodes enough = let met = fewest-met most n some in rw (← met.2) (enough n met.0 few met.1)

module _ {K X C : Type 0} {most : ℕ} {cmp : K → K → Ordering} {m : Indexed K X C} {i : ℕ} (a : AreKept most cmp m) (es : List (K × X)) where
  -- the keys do not increase
  pub loads-unordered : IsTotalOrder cmp → {place : ℕ} → IsUnorderedAt cmp es place → LoadsAt most cmp m i es (Err (Unordered place)) m
  loads-unordered o {place} u = let never = unordered-not cmp o u in record {
    loaded = tt;
    increasing = tt;
    packed = tt;
    nodes = tt;
    least = fewest-least most (length es) (some-most a);
    beside = changes-not m m i refl;
    account = tt;
    place = λ p is. (let same : place ≡ p = cc in subst (IsUnorderedAt cmp es) same u);
    unordered = λ no. (place, refl);
    full = (λ bad. absurd (cc), λ w. absurd (never w.0));
    memory = λ bad. absurd (cc);
    succeeds = λ up enough. absurd (never up);
    refused = refl;
    room = λ lists most_entries short few up has. absurd (never up);
    never_full = λ lists most_entries short few may bad. absurd (cc);
  }

  module _ (up : IsIncreasing cmp es) where
    -- too few nodes were available, and the forest is as it was
    loads-refused : {e : OutOfMemory} → Loads most (table m) es (Err e) (table m) → LoadsAt most cmp m i es (Err (Refused e)) m
    loads-refused {e} call = record {
      loaded = tt;
      increasing = tt;
      packed = tt;
      nodes = tt;
      least = call.least;
      beside = changes-not m m i refl;
      account = tt;
      place = λ p bad. absurd (cc);
      unordered = λ no. absurd (no up);
      full = (
        λ bad. (up, call.full.0 (let same : e ≡ Full = cc in ap Err same)),
        λ w. (let same = call.full.1 w.1 in let is : e ≡ Full = cc in ap (λ z. Err (Refused z)) is),
      );
      memory = λ bad. call.memory (let same : e ≡ Memory = cc in ap Err same);
      succeeds = λ _ enough. (let bad = call.succeeds enough in absurd cc);
      refused = refl;
      room = λ lists most_entries short few _ has. (let bad = call.succeeds (room-more a (fewest most (length es)) (load-few most (some-most a) few) lists short has) in absurd cc);
      never_full = λ lists most_entries short few may bad. not-both (call.full.0 (let same : e ≡ Full = cc in ap Err same)) (may-more a (fewest most (length es)) (load-few most (some-most a) few) lists short may);
    }

    pub refused-load : {e : OutOfMemory} {g : Forest K X} → Loads most (table m) es (Err e) g → LoadsAt most cmp m i es (Err (Refused e)) (record m { forest = g })
    refused-load {e} {g} call = let same : record m { forest = g } ≡ m = λ k. record m { forest = call.refused k } in
        subst (LoadsAt most cmp m i es (Err (Refused e))) (sym same) (loads-refused (subst (Loads most (table m) es (Err e)) call.refused call))

    module _ (within : i < count m) {g k : Forest K X} {c d : Option ℕ} (call : Loads most (table m) es (Ok c) g) (gone : Clears g (handle m i) k d) where
      ended : Becomes g (handle m i) k None []
      ended = subst (λ z. Becomes g (handle m i) k z []) gone.handle gone.cleared

      replaced : Becomes (table m) (handle m i) k c es
      replaced = becomes-replaced (a.live i) ended c call.loaded

      same_sizes : sizes_of k c ≡ sizes_of g c
      same_sizes = sizes-replaced (a.live i) ended c call.loaded

      nodes_are : node_count (sizes_of k c) ≡ fewest most (length es)
      nodes_are = ap node_count same_sizes ∙ call.nodes

      enough-room : fewest most (length es) ≤ room_of (table m)
      enough-room = not-less _ _ (λ low. ok-err c Full (call.full.1 low))

      account : TakesAndGives (fewest most (length es)) (node_sizes m i) (table m) k
      account = takes-gives call.loaded (handle m i) (a.live i) call.account gone.account

      balance : Balances most (table m) (handle m i) k c
      balance = record {
        fit = rw (replaced.list, same_sizes) call.fit;
        nodes = omega (arith, account.slots, account.free, nodes_are);
        slots = omega (arith, account.slots);
        within = λ w. omega (arith, account.slots, replaced.limit, enough-room, w);
      }

      -- i was loaded, and its own list ended
      loaded-at : AreKept most cmp (with_tree m i k c) × LoadsAt most cmp m i es (Ok tt) (with_tree m i k c)
      loaded-at = (
        kept-set a within replaced (subst (λ (xs : List (K × X)). IsIncreasing cmp xs) (sym replaced.list) up) balance,
        record {
          loaded = list-here a within replaced;
          increasing = up;
          packed = rw (here a within replaced, same_sizes) call.packed;
          nodes = ap (λ z. node_count (sizes_of k z)) (here a within replaced) ∙ nodes_are;
          least = call.least;
          beside = changes a within replaced;
          account = account;
          place = λ p bad. absurd (cc);
          unordered = λ no. absurd (no up);
          full = (λ bad. absurd (cc), λ w. absurd (not-both w.1 enough-room));
          memory = λ bad. absurd (cc);
          succeeds = λ _ enough. refl;
          refused = tt;
          room = λ lists most_entries short few _ has. refl;
          never_full = λ lists most_entries short few may bad. absurd (cc);
        },
      )

    -- `q` was read at i
    module _ {q : Option ℕ} (within : i < count m) (was : q ≡ get_or m.handles i q) {g : Forest K X} {c : Option ℕ} (call : Loads most (table m) es (Ok c) g) where
      pub load-live : IsLive g q
      load-live = lives-on call.loaded q (live-read a within was)

      pub loaded-read : {k : Forest K X} {d : Option ℕ} → Clears g q k d → AreKept most cmp (with_tree m i k c) × LoadsAt most cmp m i es (Ok tt) (with_tree m i k c)
      loaded-read {k} {d} gone = loaded-at within call (subst (λ (z : Option ℕ). Clears g z k d) (read a within was) gone)
