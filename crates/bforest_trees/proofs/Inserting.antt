-- What an insertion at a handle answers and leaves, as one record.
use Rattle.bforest_core.proofs.table.Stored.{some_same}
use Rattle.bforest_core.specs.Change.{Plants}
use Rattle.bforest_core.specs.declared.pool.OutOfMemory.TheVariants.{Full, Memory}
use Rattle.bforest_core.specs.declared.pool.OutOfMemory.{OutOfMemory}
use Rattle.bforest_nodes.proofs.Ordered.{IsIncreasing-put}
use Rattle.bforest_nodes.specs.Entries.{IsIncreasing, value_for}
use Rattle.bforest_trees.proofs.Changed.{becomes-new, sizes-new, takes}
use Rattle.bforest_trees.proofs.Increasing.{IsIncreasing-one, alone}
use Rattle.bforest_trees.proofs.LookedUp.{found-put, others-put}
use Rattle.bforest_trees.proofs.Putting.{IsPut, present-told, sizes-kept}
use Rattle.bforest_trees.specs.Calls.{Inserts}
use Rattle.bforest_trees.specs.Forest.{Becomes, Forest, IsLive, IsTooMany, NeedsGrowth, Takes, free_of, list_at, list_of, need_of, sizes_at}
use Rattle.std.proofs.Common.{Err, IsOk, None, Ok, Option, Result, Some, [], ap, length, refl, subst, sym, ◌∙◌, ◌∷◌, ◌↔◌, ◌≡◌, ◌≤◌, ℕ}
use Rattle.std.proofs.lemmas.Bool.{false≢true}
use Rattle.std.specs.Cmp.{IsTotalOrder}
use Rattle.std.specs.Option.{is_some}
use Rattle.std.specs.declared.cmp.Ordering.{Ordering}

module _ {K X : Type 0} (most : ℕ) (cmp : K → K → Ordering) (f : Forest K X) (k : K) (x : X) where
  module _ (n : ℕ) where
    abbrev needed : ℕ
    needed = need_of most cmp f (Some n) k

    -- an insertion into a tree that succeeds
    pub inserts-ok : (f' : Forest K X) (n' : ℕ) (old : Option X) → value_for cmp (list_at f n) k ≡ old → IsPut most cmp f f' n n' k x → IsTotalOrder cmp → IsIncreasing cmp (list_at f n) → ¬ IsTooMany needed f → Inserts most cmp f (Some n) k x (Ok old) f' (Some n')
    inserts-ok f' n' old value told total up low = record {
      ok = sym value;
      put = told.put;
      found = found-put total _ up k x told.put.list;
      others = others-put total _ up k x told.put.list;
      sizes = told.sizes;
      same_number = λ is. ap Some (told.same_root.1 (ap length (sizes-kept most cmp f (Some n) k (present-told cmp (list_at f n) k (ap is_some value ∙ is)))));
      same_levels = (λ same. ap length told.sizes ∙ told.same_root.0 (some_same same), λ e. ap Some (told.same_root.1 (sym (ap length told.sizes) ∙ e)));
      account = told.account;
      live = told.put.live;
      increasing = subst (IsIncreasing cmp) (sym told.put.list) (IsIncreasing-put cmp total _ k x up);
      full = (λ bad. absurd (cc), λ bad. absurd (low bad));
      memory = λ bad. absurd (cc);
      succeeds = λ enough. refl;
      absent = tt;
      refused_forest = tt;
      refused_handle = tt;
    }

  -- an insertion at any handle that is refused
  pub inserts-err : (h : Option ℕ) (refused : OutOfMemory) → IsLive f h → IsIncreasing cmp (list_of f h) → value_for cmp (list_of f h) k ≡ None
      → (refused ≡ Full) ↔ IsTooMany (need_of most cmp f h k) f → (refused ≡ Memory → NeedsGrowth (need_of most cmp f h k) f)
      → ¬ (need_of most cmp f h k ≤ free_of f) → Inserts most cmp f h k x (Err refused) f h
  inserts-err h refused live up gone full memory scarce = record {
    ok = tt;
    put = tt;
    found = tt;
    others = λ q ne. refl;
    sizes = tt;
    same_number = tt;
    same_levels = tt;
    account = tt;
    live = live;
    increasing = up;
    full = (λ bad. full.0 (cc), λ bad. ap Err (full.1 bad));
    memory = λ bad. memory (cc);
    succeeds = λ enough. absurd (scarce enough);
    absent = gone;
    refused_forest = refl;
    refused_handle = refl;
  }

  -- the insertion of the first entry of an empty handle
  pub inserts-first : (f' : Forest K X) (n : ℕ) → Becomes f None f' (Some n) ((k, x) ∷ []) → sizes_at f' n ≡ (1 ∷ []) ∷ [] → Takes 1 f f' → ¬ IsTooMany 1 f → IsTotalOrder cmp → Inserts most cmp f None k x (Ok None) f' (Some n)
  inserts-first f' n becomes sizes takes low total = record {
    ok = refl;
    put = becomes;
    found = found-put total [] (alone cmp None) k x becomes.list;
    others = others-put total [] (alone cmp None) k x becomes.list;
    sizes = sizes;
    same_number = λ is. absurd (false≢true is);
    same_levels = (λ same. absurd (cc), λ e. absurd (let one : 1 ≡ 0 = sym (ap length sizes) ∙ e in cc));
    account = takes;
    live = becomes.live;
    increasing = subst (IsIncreasing cmp) (sym becomes.list) (IsIncreasing-one cmp (k, x));
    full = (λ bad. absurd (cc), λ bad. absurd (low bad));
    memory = λ bad. absurd (cc);
    succeeds = λ enough. refl;
    absent = tt;
    refused_forest = tt;
    refused_handle = tt;
  }

module _ {K X : Type 0} {most : ℕ} {f : Forest K X} {k : K} {x : X} (cmp : K → K → Ordering) where
  -- the first entry of an empty handle, in a new leaf
  pub inserts-planted : {f' : Forest K X} {n : ℕ} → Plants most f f' n (k, x) → ¬ IsTooMany 1 f → IsTotalOrder cmp → Inserts most cmp f None k x (Ok None) f' (Some n)
  inserts-planted {f'} {n} p low total = inserts-first most cmp f k x f' n (becomes-new most f f' n _ _ p.fresh p.changes) (sizes-new most f f' n n _ _ p.changes) (takes 1 f f' p.takes) low total

  -- an insertion at an empty handle that is refused
  pub inserts-none : {refused : OutOfMemory} → (◌≡◌ {A = Result ℕ OutOfMemory} (Err refused) (Err Full)) ↔ IsTooMany 1 f
      → (◌≡◌ {A = Result ℕ OutOfMemory} (Err refused) (Err Memory) → NeedsGrowth 1 f) → (1 ≤ free_of f → IsOk {T = ℕ} (Err refused)) → Inserts most cmp f None k x (Err refused) f None
  inserts-none {refused} full memory enough = inserts-err most cmp f k x None refused tt (alone cmp None) refl (λ e. full.0 (ap Err e), λ low. let same = full.1 low in cc)
      (λ e. memory (ap Err e)) (λ low. false≢true (enough low))
