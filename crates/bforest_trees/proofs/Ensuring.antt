-- The value of a key, which was there, as it is or changed, or was inserted.
use Rattle.bforest_core.specs.declared.pool.OutOfMemory.{OutOfMemory}
use Rattle.bforest_nodes.specs.Entries.{IsIncreasing, value_for}
use Rattle.bforest_trees.specs.Calls.{GetsOrInserts, Inserts, Updates, UpdatesOrInserts, as_inserted}
use Rattle.bforest_trees.specs.Forest.{Forest, IsLive, list_of}
use Rattle.std.proofs.Common.{Err, IfOk, IsSome, List, None, Ok, Option, Result, Some, ap, refl, sym, ◌∙◌, ◌≡◌, ℕ}
use Rattle.std.proofs.lemmas.Bool.{false≢true}
use Rattle.std.specs.Fn.{Once}
use Rattle.std.specs.Option.{unwrap_or}
use Rattle.std.specs.declared.cmp.Ordering.{Ordering}

module _ {K X : Type 0} (most : ℕ) (cmp : K → K → Ordering) (f : Forest K X) (h : Option ℕ) (k : K) (x : X) where
  -- the value that a search found in the handle's list
  pub found-there : (es : List (K × X)) (found : Option X) (v : X) → list_of f h ≡ es → found ≡ value_for cmp es k → found ≡ Some v → value_for cmp (list_of f h) k ≡ Some v
  found-there es found v same value is = ap (λ l. value_for cmp l k) same ∙ sym value ∙ is

  -- a value that was there is answered, and nothing changed
  pub was-there : (v : X) → value_for cmp (list_of f h) k ≡ Some v → IsLive f h → IsIncreasing cmp (list_of f h) → GetsOrInserts most cmp f h k x (Ok v) f h
  was-there v there live up = record {
    value = sym (ap (λ o. unwrap_or o x) there);
    found = there;
    others = λ q ne. refl;
    present = λ some. refl;
    present_forest = λ some. refl;
    present_handle = λ some. refl;
    absent = λ none. absurd (let bad = sym there ∙ none in cc);
    live = live;
    increasing = up;
  }

  -- an absent key was inserted
  pub was-inserted : (f' : Forest K X) (h' : Option ℕ) → Inserts most cmp f h k x (Ok None) f' h' → GetsOrInserts most cmp f h k x (Ok x) f' h'
  was-inserted f' h' i = record {
    value = ap (λ o. unwrap_or o x) i.ok;
    found = i.found;
    others = i.others;
    present = λ some. refl;
    present_forest = λ some. absurd (gone some);
    present_handle = λ some. absurd (gone some);
    absent = λ none. i;
    live = i.put.live;
    increasing = i.increasing;
  }
    where
      gone : ¬ IsSome (value_for cmp (list_of f h) k)
      gone some = false≢true (rw (← i.ok) at some)

  -- the insertion of an absent key was refused
  pub was-refused : (refused : OutOfMemory) (f' : Forest K X) (h' : Option ℕ) → IsLive f h → Inserts most cmp f h k x (Err refused) f' h' → GetsOrInserts most cmp f h k x (Err refused) f' h'
  was-refused refused f' h' live i = record {
    value = tt;
    found = tt;
    others = i.others;
    present = λ some. absurd (false≢true (rw i.absent at some));
    present_forest = λ some. i.refused_forest;
    present_handle = λ some. i.refused_handle;
    absent = λ gone. i;
    live = rw (i.refused_forest, i.refused_handle) live;
    increasing = i.increasing;
  }

-- an absent key was inserted, or refused
pub was-absent : {K X : Type 0} {most : ℕ} {cmp : K → K → Ordering} {f : Forest K X} {h : Option ℕ} {k : K} {x : X} {result : Result X OutOfMemory} {f' : Forest K X} {h' : Option ℕ}
    → IsLive f h → Inserts most cmp f h k x (as_inserted result) f' h' → IfOk result (λ v. v ≡ x) → GetsOrInserts most cmp f h k x result f' h'
was-absent {most} {cmp} {f} {h} {k} {x} {result = Ok v} {f'} {h'} live i same = rw same (was-inserted most cmp f h k x f' h' i)
was-absent {most} {cmp} {f} {h} {k} {x} {result = Err refused} {f'} {h'} live i same = was-refused most cmp f h k x refused f' h' live i

-- the first entry of an empty handle replaced none
pub first-new : {K X : Type 0} {most : ℕ} {cmp : K → K → Ordering} {f : Forest K X} {k : K} {x : X} {old : Option X} {f' : Forest K X} {h' : Option ℕ}
    → Inserts most cmp f None k x (Ok old) f' h' → Inserts most cmp f None k x (Ok None) f' h'
first-new {old = None} i = i
first-new {old = Some v} i = absurd (let bad = i.ok in cc)

module _ {F K X : Type 0} {g : Once F (X × Unit {0}) X} {most : ℕ} {cmp : K → K → Ordering} {f : Forest K X} {h : Option ℕ} {k : K} {x : X} {q : F} {f' : Forest K X} {h' : Option ℕ} where
  -- a value that was there was changed
  pub was-updated : {w : X} → IsIncreasing cmp (list_of f h) → Updates g cmp f h k q (Some w) f' h' → UpdatesOrInserts most cmp g f h k x q (Ok w) f' h'
  was-updated up u = record {
    present = λ some. refl;
    updated = λ some. u;
    absent = λ none. absurd (gone none);
    value = λ none. absurd (gone none);
    found = u.found;
    others = u.others;
    live = u.live;
    increasing = u.increasing cmp up;
  }
    where
      gone : ¬ (value_for cmp (list_of f h) k ≡ None)
      gone none = let bad = sym u.called.1 ∙ none in cc

  -- an absent key was inserted, or refused
  pub was-new : {result : Result X OutOfMemory} → IsLive f h → Inserts most cmp f h k x (as_inserted result) f' h' → IfOk result (λ w. w ≡ x) → UpdatesOrInserts most cmp g f h k x q result f' h'
  was-new {result = Ok w} live i same = record {
    present = λ some. refl;
    updated = λ some. absurd (false≢true (rw (← i.ok) at some));
    absent = λ none. i;
    value = λ none. same;
    found = i.found ∙ ap Some (sym same);
    others = i.others;
    live = i.put.live;
    increasing = i.increasing;
  }
  was-new {result = Err refused} live i same = record {
    present = λ some. absurd (false≢true (rw i.absent at some));
    updated = λ some. absurd (false≢true (rw i.absent at some));
    absent = λ none. i;
    value = λ none. tt;
    found = tt;
    others = i.others;
    live = rw (i.refused_forest, i.refused_handle) live;
    increasing = i.increasing;
  }
