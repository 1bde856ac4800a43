-- Room that is reserved ahead for so many lists of so many entries each.
use Rattle.bforest.proofs.Enough.{never-fewer}
use Rattle.bforest.specs.Calls.{Reserves}
use Rattle.bforest.proofs.Balances.{grows-not}
use Rattle.bforest.specs.Forest.{Forest, GrowsFor, NeedsGrowth, free_of, limit_of, room_of, slots_of}
use Rattle.bforest.specs.Refusal.{Full, Memory, OutOfMemory}
use Rattle.bforest.specs.Room.{IsEnoughFor, IsMetBy, IsMostFor}
use Rattle.bforest_indexed.proofs.Kept.{kept-all, kept-same, same-nodes}
use Rattle.bforest_indexed.specs.Handles.{Holds}
use Rattle.bforest_indexed.specs.Indexed.{AreKept, HasRoom, Indexed, KeepsAll, MayHave, ReservesFor, memory, missing, nodes_in_use, table}
use Rattle.std.proofs.Common.{Err, IsErrAnd, List, None, Ok, Option, Result, ap, arith, get_or, inl, inr, max, refl, subst, sym, ◌*◌, ◌+◌, ◌-◌, ◌<◌, ◌↔◌, ◌∙◌, ◌≡◌, ◌≢◌, ◌≤◌, ℕ}
use Rattle.std.proofs.Math.Nat.{le-max_left, le-max_right, mul-le-mul_left}
use Rattle.std.proofs.lemmas.Bool.Decides.{leb_tells}
use Rattle.std.proofs.lemmas.Result.{err_from_is_err_and}
use Rattle.std.specs.declared.cmp.Ordering.{Ordering}

memory-full : {A : Type 0} → ◌≡◌ {A = Result A OutOfMemory} (Err Memory) (Err Full) → ⊥
memory-full e = cc

full-memory : {A : Type 0} → ◌≡◌ {A = Result A OutOfMemory} (Err Full) (Err Memory) → ⊥
full-memory e = cc

ok-memory : {A : Type 0} (x : A) → Ok x ≢ Err Memory
ok-memory x = λ e. cc

error-is : {A : Type 0} (r : Result A OutOfMemory) (why other : OutOfMemory) → why ≡ other → IsErrAnd r (λ y. y ≡ why) → r ≡ Err other
error-is r why other is err = let e = err_from_is_err_and r err in e.1 ∙ ap Err (e.2 ∙ is)

not-both : {a b : ℕ} → a < b → b ≤ a → ⊥
not-both less more = absurd (omega (arith, less, more))

-- memory for handles was asked for, and stays as it is
holds-same : (n held : ℕ) → Holds n held held
holds-same n held = record { grows = omega arith; suffices = λ enough. refl; bounded = le-max_left held (2 * n) }

-- `nodes` is the most nodes of a list of so many entries
module _ {K X C : Type 0} {most : ℕ} {cmp : K → K → Ordering} {m : Indexed K X C} (a : AreKept most cmp m) (lists most_entries nodes : ℕ) (enough : IsEnoughFor most most_entries nodes) (met : IsMetBy most most_entries nodes) where
  -- nothing less is enough
  least : (n : ℕ) → IsEnoughFor most most_entries n → lists * nodes ≤ lists * n
  least n also = mul-le-mul_left lists (never-fewer most most_entries most_entries n nodes also met (omega arith))

  -- the most nodes are one number
  one-most : (n : ℕ) → IsMostFor most most_entries n → n ≡ nodes
  one-most n also = omega (arith, never-fewer most most_entries most_entries n nodes also.0 met (omega arith), never-fewer most most_entries most_entries nodes n enough also.1 (omega arith))

  -- nothing was asked of the table
  unasked : (why : OutOfMemory) → (HasRoom most lists most_entries (table m) → lists ≤ memory m → ⊥)
      → (◌≡◌ {A = Result (Unit {0}) OutOfMemory} (Err why) (Err Full) ↔ ¬ (MayHave most lists most_entries (table m)))
      → (◌≡◌ {A = Result (Unit {0}) OutOfMemory} (Err why) (Err Memory) → memory m < lists) → ReservesFor most lists most_entries m (Err why) m
  unasked why few full short = record {
    keeps = record { lists = λ i. refl; sizes = λ i. refl; same_comparator = refl };
    same_count = refl;
    same_limit = refl;
    room = tt;
    indices = tt;
    holds = holds-same lists (memory m);
    no_fewer = omega arith;
    added_free = refl;
    no_more = tt;
    growth = λ n also. grows-not refl;
    enough = λ room there. absurd (few room there);
    same = λ room. refl;
    refused = refl;
    full = full;
    full_same = λ is. refl;
    memory = λ is. inl (short is);
  }

  -- the limit does not allow so many slots
  pub too-many : slots_of (table m) ≤ limit_of (table m) → limit_of (table m) < lists * nodes → ReservesFor most lists most_entries m (Err Full) m
  too-many bound few = unasked Full (λ room there. not-both few (omega (arith, least room.0 room.1, room.2, bound)))
      (λ is may. not-both few (omega (arith, least may.0 may.1, may.2)), λ never. refl) (λ is. absurd (full-memory is))

  -- memory for the handles was refused
  pub no-memory : lists * nodes ≤ limit_of (table m) → memory m < lists → ReservesFor most lists most_entries m (Err Memory) m
  no-memory within few = unasked Memory (λ room there. not-both few there) (λ is. absurd (memory-full is), λ never. absurd (never (nodes, enough, within))) (λ is. few)

  -- the table was asked for the slots that its free ones and the nodes in use are too few
  module _ (within : lists * nodes ≤ limit_of (table m)) (n : ℕ) (n-is : n ≡ lists * nodes - nodes_in_use m) (f' : Forest K X) where
    -- where there is room, so many slots are free
    lie-free : HasRoom most lists most_entries (table m) → n ≤ free_of (table m)
    lie-free room = omega (arith, n-is, least room.0 room.1, room.2, a.account)

    -- the limit allows them
    may-come : n ≤ room_of (table m)
    may-come = omega (arith, n-is, within, a.account)

    slots-most : slots_of f' ≡ slots_of (table m) + (n - free_of (table m)) → (p : ℕ) → IsEnoughFor most most_entries p → slots_of f' ≤ max (slots_of (table m)) (lists * p)
    slots-most slots p also = elim (leb_tells n (free_of (table m))) [
      | inl w ↦ omega (arith, slots, w.1, le-max_left (slots_of (table m)) (lists * p))
      | inr w ↦ omega (arith, slots, w.1, n-is, a.account, least p also, le-max_right (slots_of (table m)) (lists * p))
    ]

    -- the slots that were added are free
    added-free : {r : Result (Unit {0}) OutOfMemory} → Reserves (table m) n r f' → slots_of f' + free_of (table m) ≡ slots_of (table m) + free_of f'
    added-free given = omega (arith, a.account, (kept-all m f' given a).0.account, same-nodes m f' given a)

    -- what is said of n is said of the slots that so many nodes are missing
    of-missing : (P : ℕ → Type 0) → P n → (p : ℕ) → IsMostFor most most_entries p → P (missing lists p m)
    of-missing P said p also = subst (λ q. P (missing lists q m)) (sym (one-most p also)) (subst P n-is said)

    keeps-held : {held : ℕ} {r : Result (Unit {0}) OutOfMemory} → Reserves (table m) n r f' → KeepsAll m (record m { forest = f'; held = held })
    keeps-held given = let kept = (kept-all m f' given a).1 in record { lists = kept.lists; sizes = kept.sizes; same_comparator = kept.same_comparator }

    asked : {held : ℕ} (r : Result (Unit {0}) OutOfMemory) → Reserves (table m) n r f' → Holds lists (memory m) held → lists ≤ held
        → ReservesFor most lists most_entries m r (record m { forest = f'; held = held })
    asked {held} (Ok done) given holds indices = let added = added-free given in record {
      keeps = keeps-held given;
      same_count = refl;
      same_limit = given.keeps.limit;
      room = (nodes, enough, omega (arith, n-is, given.slots, a.account));
      indices = indices;
      holds = holds;
      no_fewer = omega (arith, given.slots);
      added_free = added;
      no_more = slots-most given.slots;
      growth = of-missing (λ q. GrowsFor q (table m) f') given.growth;
      enough = λ room there. refl;
      same = λ room. ap (λ f. record m { forest = f; held = held }) (given.same (lie-free room));
      refused = tt;
      full = (λ is. absurd (not-both (given.full.0 is) may-come), λ never. absurd (never (nodes, enough, within)));
      full_same = λ is. absurd (not-both (given.full.0 is) may-come);
      memory = λ is. absurd (ok-memory done is);
    }
    asked {held} (Err e) given holds indices = let added = added-free given in record {
      keeps = keeps-held given;
      same_count = refl;
      same_limit = given.keeps.limit;
      room = tt;
      indices = tt;
      holds = holds;
      no_fewer = omega (arith, ap slots_of given.refused);
      added_free = added;
      no_more = tt;
      growth = of-missing (λ q. GrowsFor q (table m) f') given.growth;
      enough = λ room there. given.enough (lie-free room);
      same = λ room. ap (λ f. record m { forest = f; held = held }) (given.same (lie-free room));
      refused = ap (λ f. record m { forest = f; held = held }) given.refused;
      full = (λ is. absurd (not-both (given.full.0 is) may-come), λ never. absurd (never (nodes, enough, within)));
      full_same = λ is. absurd (not-both (given.full.0 is) may-come);
      memory = λ is. inr (of-missing (λ q. NeedsGrowth q (table m)) (given.memory is));
    }

  -- what each step of the call tells: `limit` is the limit, and `slots` the product
  module _ (limit : ℕ) (limit-is : limit ≡ limit_of (table m)) where
    pub refused-full : slots_of (table m) ≤ limit_of (table m) → (r : Result (Unit {0}) OutOfMemory) (why : OutOfMemory) → (why ≡ Full) × (limit < lists * nodes)
        → IsErrAnd r (λ y. y ≡ why) → ReservesFor most lists most_entries m r m
    refused-full bound r why given err = subst (λ q. ReservesFor most lists most_entries m q m) (sym (error-is r why Full given.0 err)) (too-many bound (omega (arith, limit-is, given.1)))

    module _ (slots : ℕ) (product : (slots ≡ lists * nodes) × (slots ≤ limit)) (hs : List (Option ℕ)) (same : hs ≡ m.handles) where
      within : lists * nodes ≤ limit_of (table m)
      within = omega (arith, product.0, product.1, limit-is)

      pub refused-memory : {held : ℕ} (r : Result (Unit {0}) OutOfMemory) (why : OutOfMemory) → (why ≡ Memory) × (memory m < lists) → held ≡ memory m → IsErrAnd r (λ y. y ≡ why)
          → ReservesFor most lists most_entries m r (record m { handles = hs; held = held })
      refused-memory {held} r why given kept err =
          let is : m ≡ record m { handles = hs; held = held } = λ j. record m { handles = sym same j; held = sym kept j } in
          subst (λ q. ReservesFor most lists most_entries m r q) is
          (subst (λ q. ReservesFor most lists most_entries m q m) (sym (error-is r why Memory given.0 err)) (no-memory within given.1))

      pub reserved : {held : ℕ} (used n : ℕ) → used ≡ nodes_in_use m → n ≡ slots - used → (f' : Forest K X) (r : Result (Unit {0}) OutOfMemory) → Reserves (table m) n r f'
          → Holds lists (memory m) held → lists ≤ held → ReservesFor most lists most_entries m r (record m { forest = f'; handles = hs; held = held })
      reserved {held} used n used-is n-is f' r given holds indices = subst (λ qs. ReservesFor most lists most_entries m r (record m { forest = f'; handles = qs; held = held })) (sym same)
          (asked within n (omega (arith, n-is, used-is, product.0)) f' r given holds indices)

-- the forest was asked for slots, and the handles stay
pub kept-reserved : {K X C : Type 0} {most : ℕ} {cmp : K → K → Ordering} (m : Indexed K X C) (f' : Forest K X) (hs : List (Option ℕ)) {held n : ℕ} {r : Result (Unit {0}) OutOfMemory}
    → Reserves (table m) n r f' → hs ≡ m.handles → AreKept most cmp m → AreKept most cmp (record m { forest = f'; handles = hs; held = held })
kept-reserved m f' hs given same a = kept-same (record m { forest = f' }) hs (λ i. ap (λ (qs : List (Option ℕ)). get_or qs i None) same) ((kept-all m f' given a).0)

-- the handles stay
pub kept-handles : {K X C : Type 0} {most : ℕ} {cmp : K → K → Ordering} (m : Indexed K X C) (hs : List (Option ℕ)) {held : ℕ} → hs ≡ m.handles → AreKept most cmp m
    → AreKept most cmp (record m { handles = hs; held = held })
kept-handles m hs same a = kept-same m hs (λ i. ap (λ (qs : List (Option ℕ)). get_or qs i None) same) a
