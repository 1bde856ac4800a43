-- Updates, insertions of absent keys, and shifts: by cases, and with closures that have no state.
use Rattle.bforest.specs.Calls.{GetsOrInserts, Inserts, Shifts, Updates, UpdatesOrInserts}
use Rattle.bforest.specs.Entries.{value_for}
use Rattle.bforest.specs.Forest.{Forest, list_of}
use Rattle.bforest_calls.specs.State.{returning}
use Rattle.bforest_core.specs.declared.pool.OutOfMemory.{OutOfMemory}
use Rattle.bforest_trees.specs.Calls.{as_inserted}
use Rattle.bforest_trees.specs.Shift.{Rekeys}
use Rattle.std.proofs.Common.{Err, List, None, Ok, Option, Result, Some, [], ap, drop, length, refl, suc, sym, take, ◌+◌, ◌++◌, ◌∙◌, ◌∷◌, ◌≡◌, ℕ}
use Rattle.std.proofs.Common.{take-append-drop}
use Rattle.std.proofs.lemmas.List.{length-append}
use Rattle.std.specs.Fn.{FnOnceReturns, Once}
use Rattle.std.specs.declared.cmp.Ordering.{Ordering}

module _ {K V P : Type 0} {most : ℕ} {cmp : K → K → Ordering} {f f' : Forest K V} {h h' : Option ℕ} {k : K} {x : V} where
  -- the value was there and nothing changed, or x was inserted
  pub got-or-inserted : {result : Result V OutOfMemory} → GetsOrInserts most cmp f h k x result f' h' → (f' ≡ f → h' ≡ h → P)
      → (Inserts most cmp f h k x (as_inserted result) f' h' → P) → P
  got-or-inserted r had put = by (value_for cmp (list_of f h) k) refl
    where
      by : (o : Option V) → value_for cmp (list_of f h) k ≡ o → P
      by None e = put (r.absent e)
      by (Some v) e = had (r.present_forest (rw e refl)) (r.present_handle (rw e refl))

  -- the value was there and was updated, or x was inserted
  pub updated-or-inserted : {F : Type 0} {g : Once F (V × Unit {0}) V} {q : F} (result : Result V OutOfMemory) → UpdatesOrInserts most cmp g f h k x q result f' h'
      → ((w : V) → result ≡ Ok w → Updates g cmp f h k q (Some w) f' h' → P)
      → (value_for cmp (list_of f h) k ≡ None → Inserts most cmp f h k x (as_inserted result) f' h' → P) → P
  updated-or-inserted (Ok w) r had put = by (value_for cmp (list_of f h) k) refl
    where
      by : (o : Option V) → value_for cmp (list_of f h) k ≡ o → P
      by None e = put e (r.absent e)
      by (Some v) e = had w refl (r.updated (rw e refl))
  updated-or-inserted (Err e) r had put = by (value_for cmp (list_of f h) k) refl
    where
      by : (o : Option V) → value_for cmp (list_of f h) k ≡ o → P
      by None is = put is (r.absent is)
      by (Some v) is = let no = r.present (rw is refl) in absurd (cc)

-- an update by a closure that returns x is one by a closure without a state
module _ {F K V : Type 0} {g : Once F (V × Unit {0}) V} {q : F} {x : V} (plain : (v w : V) → FnOnceReturns g q (v, tt) w → w ≡ x) {cmp : K → K → Ordering}
    {f f' : Forest K V} {h h' : Option ℕ} {k : K} where
  pub updates-plain : (result : Option V) → Updates g cmp f h k q result f' h' → Updates (returning x) cmp f h k tt result f' h'
  updates-plain None u = record {
    called = tt;
    put = tt;
    found = tt;
    others = u.others;
    handle = u.handle;
    sizes = u.sizes;
    slots = u.slots;
    free = u.free;
    memory = u.memory;
    absent = u.absent;
    absent_forest = u.absent_forest;
    live = u.live;
    increasing = u.increasing;
  }
  updates-plain (Some w) u = record {
    called = (u.called.0, u.called.1, plain u.called.0 w u.called.2);
    put = u.put;
    found = u.found;
    others = u.others;
    handle = u.handle;
    sizes = u.sizes;
    slots = u.slots;
    free = u.free;
    memory = u.memory;
    absent = u.absent;
    absent_forest = u.absent_forest;
    live = u.live;
    increasing = u.increasing;
  }

  pub updates-or-inserts-plain : {most : ℕ} {y : V} (result : Result V OutOfMemory) → UpdatesOrInserts most cmp g f h k y q result f' h'
      → UpdatesOrInserts most cmp (returning x) f h k y tt result f' h'
  updates-or-inserts-plain (Ok w) r = record {
    present = r.present;
    updated = λ there. updates-plain (Some w) (r.updated there);
    absent = r.absent;
    value = r.value;
    found = r.found;
    others = r.others;
    live = r.live;
    increasing = r.increasing;
  }
  updates-or-inserts-plain (Err e) r = record { present = r.present; updated = r.updated; absent = r.absent; value = r.value; found = tt; others = r.others; live = r.live; increasing = r.increasing }

module _ {K V : Type 0} {calls : K → K → Type 0} where
  -- new keys, as another relation tells them
  rekeys-plain : {told : K → K → Type 0} → ((k k' : K) → calls k k' → told k k') → (es es' : List (K × V)) → Rekeys calls es es' → Rekeys told es es'
  rekeys-plain tells [] es' r = r
  rekeys-plain tells (e ∷ es) [] r = absurd r
  rekeys-plain tells (e ∷ es) (e' ∷ es') r = (tells e.0 e'.0 r.0, r.1, rekeys-plain tells es es' r.2)

  pub shifts-plain : {told : K → K → Type 0} {place : ℕ} {f f' : Forest K V} {h : Option ℕ} → ((k k' : K) → calls k k' → told k k')
      → Shifts calls place f h f' → Shifts told place f h f'
  shifts-plain tells s = record {
    moved = s.moved;
    rekeys = rekeys-plain tells _ s.moved s.rekeys;
    shifted = s.shifted;
    sizes = s.sizes;
    slots = s.slots;
    free = s.free;
    memory = s.memory;
  }

module _ {K V : Type 0} (calls : K → K → Type 0) where
  as-many : (es es' : List (K × V)) → Rekeys calls es es' → length es' ≡ length es
  as-many [] es' r = ap length r
  as-many (e ∷ es) [] r = absurd r
  as-many (e ∷ es) (e' ∷ es') r = ap suc (as-many es es' r.2)

  -- a shifted list has as many entries as before
  pub shifted-length : (es moved : List (K × V)) (place : ℕ) → Rekeys calls (drop place es) moved → length (take place es ++ moved) ≡ length es
  shifted-length es moved place r =
      length-append (take place es) moved ∙ ap (λ n. length (take place es) + n) (as-many (drop place es) moved r)
      ∙ sym (length-append (take place es) (drop place es)) ∙ ap length (take-append-drop place es)
