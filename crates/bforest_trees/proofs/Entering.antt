-- An insertion into the tree under a root, from the result of the search for its key.
use Rattle.bforest_trees.proofs.After.{not-ok}
use Rattle.bforest_trees.proofs.Changed.{list-root, live-root}
use Rattle.bforest_trees.proofs.Inserting.{inserts-err, inserts-ok}
use Rattle.bforest_trees.proofs.Putting.{absent-none, need-absent, need-present, present-some, put-here, put-new}
use Rattle.bforest_trees.specs.Calls.{Inserts}
use Rattle.bforest_trees.specs.Forest.{Forest, IsTooMany, NeedsGrowth, free_of, list_at, need_of}
use Rattle.bforest_trees.specs.Place.{IsAbsentOn, IsSpot}
use Rattle.bforest_core.proofs.walks.Standing.{on-at, placed-points}
use Rattle.bforest_core.specs.Change.{Changes, TakesNodes}
use Rattle.bforest_core.proofs.walks.Leaves.{ends-alone, lone}
use Rattle.bforest_core.proofs.walks.CodesDown.{root-held}
use Rattle.bforest_core.proofs.walks.Leaves.{root-leaf}
use Rattle.bforest_core.proofs.walks.Ways.{placed-on}
use Rattle.bforest_core.specs.Leaves.{EndsIn, LooksInLeaf, PutsInLeaf}
use Rattle.bforest_core.specs.Paths.{IsPlaced, OnEntry, Placing, Pointing, StandsAt, StandsOn, list_under, sizes_under}
use Rattle.bforest_core.specs.Sizes.{growth, need}
use Rattle.bforest_core.specs.Table.{slot_count}
use Rattle.bforest_core.specs.Trees.{IsUnion, is_root, slot}
use Rattle.bforest_core.specs.Ways.{EndsOnWay, InsertsAt}
use Rattle.bforest_core.specs.declared.path.Path.{Path}
use Rattle.bforest_core.specs.declared.path.way.Way.{Way}
use Rattle.bforest_core.specs.declared.pool.OutOfMemory.TheVariants.{Full, Memory}
use Rattle.bforest_core.specs.declared.pool.OutOfMemory.{OutOfMemory}
use Rattle.bforest_nodes.specs.Content.{Content, IsInner, IsLeaf}
use Rattle.std.proofs.lemmas.Option.{slice_get_within}
use Rattle.bforest_nodes.specs.Entries.{IsIncreasing, is_present, place, value_for, with_value}
use Rattle.std.specs.Cmp.{IsTotalOrder}
use Rattle.std.proofs.Common.{Err, IsOk, IsTrue, List, [], None, Ok, Option, Result, Some, ap, arith, false, insert, length, refl, slice_get, subst, sym, true, ◌<◌, ◌∙◌, ◌≡◌, ◌≢◌, ◌≤◌, ◌↔◌, ℕ}
use Rattle.std.specs.declared.cmp.Ordering.{Ordering}

-- the key is absent in the list of a root
pub record IsGone {K X : Type 0} (cmp : K → K → Ordering) (f : Forest K X) (n : ℕ) (k : K) : Type 0 where
  pub live : list_at f n ≢ []
  pub none : value_for cmp (list_under f n) k ≡ None

module _ {K X : Type 0} {most : ℕ} (cmp : K → K → Ordering) (f : Forest K X) (n : ℕ) (k : K) (path : Path K X most) where
  -- the key has this value in the list of a root, and the path stands on its entry
  pub record OnKey (old : X) : Type 0 where
    pub live : list_at f n ≢ []
    pub value : value_for cmp (list_under f n) k ≡ Some old
    pub on : StandsOn f n path (place cmp (list_under f n) k)

  -- the key is absent, and the path is placed for it
  pub record AtGap : Type 0 where
    pub gap : IsGone cmp f n k
    pub open gap use *
    pub placed : IsPlaced f n path (place cmp (list_under f n) k)

module _ {K X : Type 0} {most : ℕ} (cmp : K → K → Ordering) {f : Forest K X} {n : ℕ} (k : K) {path : Path K X most} (live : list_at f n ≢ []) {found : Option X} (value : found ≡ value_for cmp (list_under f n) k) where
  -- where a search for the key ended
  pub key-found : (is_present cmp (list_under f n) k ≡ true → StandsOn f n path (place cmp (list_under f n) k)) → {old : X} → found ≡ Some old → OnKey cmp f n k path old
  key-found present {old} is = let has = sym value ∙ is in record { live = live; value = has; on = present (present-some cmp (list_under f n) k old has) }

  pub key-missed : (is_present cmp (list_under f n) k ≡ false → IsPlaced f n path (place cmp (list_under f n) k)) → found ≡ None → AtGap cmp f n k path
  key-missed absent is = let has = sym value ∙ is in record { gap = record { live = live; none = has }; placed = absent (absent-none cmp (list_under f n) k has) }

module _ {K X : Type 0} {most : ℕ} {cmp : K → K → Ordering} {f : Forest K X} {n : ℕ} {k : K} {path : Path K X most} {old : X} (s : OnKey cmp f n k path old) where
  abbrev pub on-key : OnEntry f path
  on-key = record { root = n; place = place cmp (list_under f n) k; on = s.on }

  -- `insert` replaces the value of a key that is present
  pub overwritten : IsTotalOrder cmp → IsIncreasing cmp (list_at f n) → {x : X} {f' : Forest K X} →
      Changes most f f' n n (with_value (list_under f n) (place cmp (list_under f n) k) x) (sizes_under f n) → slot_count f' ≡ slot_count f →
      f'.chain ≡ f.chain → f'.memory ≡ f.memory
      → Inserts most cmp f (Some n) k x (Ok (Some old)) f' (Some n)
  overwritten total up {x} {f'} written slots chain memory = let root = live-root f n s.live in let here = present-some cmp (list_under f n) k old s.value in
      inserts-ok most cmp f k x n f' n (Some old) (subst (λ (l : List (K × X)). value_for cmp l k ≡ Some old) (sym (list-root f n root)) s.value)
      (put-here most cmp f n k root here f' x written slots chain memory) total up (λ low. let few = rw (need-present most cmp f n k root here) at low in omega (arith, few))

  -- after the value was replaced, the path stands at the key's place
  pub key-spot : (f' : Forest K X) → StandsOn f' n path (place cmp (list_under f n) k) → IsSpot f' (Some n) path (place cmp (list_at f n) k)
  key-spot f' on = rw (list-root f n (live-root f n s.live)) (on-at f' path on)

module _ {K X : Type 0} {cmp : K → K → Ordering} {f : Forest K X} {n : ℕ} {k : K} (s : IsGone cmp f n k) where
  abbrev at : ℕ
  at = place cmp (list_under f n) k

  root : IsTrue (is_root f.nodes n)
  root = live-root f n s.live

  gone : is_present cmp (list_under f n) k ≡ false
  gone = absent-none cmp (list_under f n) k s.none

  none : value_for cmp (list_at f n) k ≡ None
  none = subst (λ (l : List (K × X)). value_for cmp l k ≡ None) (sym (list-root f n root)) s.none

  needs : (most : ℕ) → need_of most cmp f (Some n) k ≡ need most at (sizes_under f n)
  needs most = need-absent most cmp f n k root gone

  module _ {most : ℕ} {result : Result ℕ OutOfMemory} (full : (result ≡ Err Full) ↔ IsTooMany (need most at (sizes_under f n)) f) where
    -- `insert` of an absent key that was refused
    pub refused : IsIncreasing cmp (list_at f n) → {x : X} {err : OutOfMemory} → result ≡ Err err → (result ≡ Err Memory → NeedsGrowth (need most at (sizes_under f n)) f) → (need most at (sizes_under f n) ≤ free_of f → IsOk result) → Inserts most cmp f (Some n) k x (Err err) f (Some n)
    refused up {x} {err} said memory enough =
        inserts-err most cmp f k x (Some n) err s.live up none
        (λ e. rw (needs most) (full.0 (said ∙ ap Err e)), λ low. let same = full.1 (rw (needs most) at low) in cc)
        (λ e. rw (needs most) (memory (said ∙ ap Err e)))
        (λ low. not-ok result err said (enough (rw (needs most) at low)))

    -- `insert` of an absent key that succeeded
    pub added : IsTotalOrder cmp → IsIncreasing cmp (list_at f n) → {x : X} {root' : ℕ} → result ≡ Ok root' → {f' : Forest K X} → Changes most f f' n root' (insert (list_under f n) at (k, x)) (growth most at (sizes_under f n)) → TakesNodes (need most at (sizes_under f n)) f f' →
        (root' ≡ n) ↔ (length (growth most at (sizes_under f n)) ≡ length (sizes_under f n)) → Inserts most cmp f (Some n) k x (Ok None) f' (Some root')
    added total up {x} {root'} said {f'} changes takes same =
        inserts-ok most cmp f k x n f' root' None none (put-new most cmp f n k root gone f' root' x changes takes same) total up (λ low. let bad = full.1 (rw (needs most) at low) in cc)

  -- the same, from what an insertion at a way says, by a table that is f
  module _ {most : ℕ} {mid f' : Forest K X} (same : mid ≡ f) (up : IsIncreasing cmp (list_at f n)) {x : X} where
    pub refused-on : {err : OutOfMemory} → InsertsAt most mid f' n at k x (Err err) → Inserts most cmp f (Some n) k x (Err err) f (Some n)
    refused-on {err} put = let t = subst (λ z. InsertsAt most z f' n at k x (Err err)) same put in refused t.full up refl t.memory t.enough

    pub added-on : IsTotalOrder cmp → {root' : ℕ} → InsertsAt most mid f' n at k x (Ok root') → Inserts most cmp f (Some n) k x (Ok None) f' (Some root')
    added-on total {root'} put = let t = subst (λ z. InsertsAt most z f' n at k x (Ok root')) same put in added t.full total up refl t.inserted t.account t.same_root

module _ {K X : Type 0} {most : ℕ} {cmp : K → K → Ordering} {f : Forest K X} {n : ℕ} {k : K} {path : Path K X most} (s : AtGap cmp f n k path) where
  abbrev pub at-key : Placing f path
  at-key = record { root = n; place = place cmp (list_under f n) k; placed = s.placed }

  -- the path points to the key's place where nothing has changed
  abbrev pub to-key : {f' : Forest K X} {path' : Path K X most} → f' ≡ f → path' ≡ path → Pointing f' path'
  to-key same is = record { root = n; place = place cmp (list_under f n) k; to = rw (same, is) (placed-points f path s.placed) }

  -- after an insertion the path stands at the key's place
  pub new-spot : (f' : Forest K X) {root' : ℕ} {path' : Path K X most} → StandsOn f' root' path' (place cmp (list_under f n) k) → IsSpot f' (Some root') path' (place cmp (list_at f n) k)
  new-spot f' {root'} {path'} on = rw (list-root f n (root s.gap)) (on-at f' path' on)

  -- after a refusal the path stands at the key's place
  pub old-spot : {path' : Path K X most} → StandsAt f n path' (place cmp (list_under f n) k) → IsSpot f (Some n) path' (place cmp (list_at f n) k)
  old-spot stands = rw (list-root f n (root s.gap)) stands

-- a search ends in the leaf of a way, by the leaf's number
pub ends-there : {K X : Type 0} {cmp : K → K → Ordering} {f : Forest K X} {n : ℕ} {k : K} {way : Way} (w : EndsOnWay cmp f n k way) {leaf : ℕ} → leaf ≡ way.leaf → EndsIn cmp f n k leaf w.path w.indices w.size
ends-there w is = rw is w.ends

-- a search of the leaf of a way missed the key
pub absent-on : {K X : Type 0} {cmp : K → K → Ordering} {f : Forest K X} {n : ℕ} {k : K} {way : Way} → IsTotalOrder cmp → list_at f n ≢ [] → IsIncreasing cmp (list_at f n) → (w : EndsOnWay cmp f n k way)
    → {leaf : ℕ} {found : ℕ × Option X} → LooksInLeaf cmp f n k leaf w.path w.indices w.size found → found.1 ≡ None → IsAbsentOn cmp f n way found.0 k
absent-on {cmp} {f} {n} {k} total live up w looked is = let gone = sym looked.value ∙ is in
    record { total = total; live = live; increasing = up; none = gone; placed = placed-on w (looked.absent (absent-none cmp (list_under f n) k gone)) }

-- an insertion on a way of a key that is absent, by what it says where it succeeds and where it fails
module _ {K X : Type 0} {cmp : K → K → Ordering} {f : Forest K X} {n : ℕ} {way : Way} {index : ℕ} {k : K} (a : IsAbsentOn cmp f n way index k) where
  its-gap : IsGone cmp f n k
  its-gap = record { live = a.live; none = a.none }

  module _ {most : ℕ} {f' : Forest K X} {x : X} where
    pub added-absent : {root' : ℕ} → InsertsAt most f f' n (place cmp (list_under f n) k) k x (Ok root') → Inserts most cmp f (Some n) k x (Ok None) f' (Some root')
    added-absent put = added-on its-gap refl a.increasing a.total put

    pub refused-absent : {err : OutOfMemory} → InsertsAt most f f' n (place cmp (list_under f n) k) k x (Err err) → Inserts most cmp f (Some n) k x (Err err) f (Some n)
    refused-absent put = refused-on its-gap refl a.increasing put

-- where a leaf was written with one search, the value was replaced or the key inserted
module _ {K X : Type 0} {most : ℕ} {cmp : K → K → Ordering} (total : IsTotalOrder cmp) {f f' : Forest K X} {n : ℕ} (live : list_at f n ≢ []) (up : IsIncreasing cmp (list_at f n)) {k : K} {x : X}
    {path indices : List ℕ} {size : ℕ} {answer : Result (Option X) ℕ} (p : PutsInLeaf cmp f n k most x path indices size answer f') where
  its-root : IsTrue (is_root f.nodes n)
  its-root = live-root f n live

  replaced : (old : X) → answer ≡ Ok (Some old) → Inserts most cmp f (Some n) k x (Ok (Some old)) f' (Some n)
  replaced old is =
      let value : value_for cmp (list_under f n) k ≡ Some old = sym (rw is at p.ok) in
      let here = present-some cmp (list_under f n) k old value in
      inserts-ok most cmp f k x n f' n (Some old) (subst (λ (l : List (K × X)). value_for cmp l k ≡ Some old) (sym (list-root f n its-root)) value)
      (put-here most cmp f n k its-root here f' x (p.written old is) p.slots p.chain p.memory) total up (λ low. let few = rw (need-present most cmp f n k its-root here) at low in omega (arith, few))

  entered : answer ≡ Ok None → Inserts most cmp f (Some n) k x (Ok None) f' (Some n)
  entered is =
      let value : value_for cmp (list_under f n) k ≡ None = sym (rw is at p.ok) in
      let gone = absent-none cmp (list_under f n) k value in
      inserts-ok most cmp f k x n f' n None (subst (λ (l : List (K × X)). value_for cmp l k ≡ None) (sym (list-root f n its-root)) value)
      (put-new most cmp f n k its-root gone f' n x (p.inserted is) (p.takes is) (λ same. p.levels is, λ same. refl)) total up (λ low. let few = rw (need-absent most cmp f n k its-root gone, p.room is) at low in omega (arith, few))

  -- what the call says where it answers
  pub leaf-put : (old : Option X) → answer ≡ Ok old → Inserts most cmp f (Some n) k x (Ok old) f' (Some n)
  leaf-put None is = entered is
  leaf-put (Some old) is = replaced old is

  -- the trees stay a union
  pub leaf-union : (old : Option X) → answer ≡ Ok old → IsUnion most f'
  leaf-union None is = (p.inserted is).union
  leaf-union (Some old) is = (p.written old is).union

-- a root lies in the slots, and is a leaf where it is no inner node
module _ {K X : Type 0} {most : ℕ} {p f : Forest K X} (is : p ≡ f) (union : IsUnion most p) (n : ℕ) (live : list_at f n ≢ []) where
  pub root-within : n < length p.nodes
  root-within = let held = root-held union n (live-root p n (rw is live)) in slice_get_within p.nodes n held.0 held.1

  pub root-only : {content : Content K X} → slice_get p.nodes n ≡ Some content → (IsInner content → ⊥) → IsLeaf (slot f.nodes n)
  root-only read other = rw (← is) (root-leaf union n _ (live-root p n (rw is live)) read other)

-- a search at a root that is a leaf ends there
pub ends-at-root : {K X : Type 0} {most : ℕ} {cmp : K → K → Ordering} → IsTotalOrder cmp → {p f : Forest K X} → p ≡ f → IsUnion most p → {n : ℕ} → list_at f n ≢ [] → IsLeaf (slot f.nodes n) → {k : K} → IsIncreasing cmp (list_at f n) → EndsIn cmp p n k n (lone n) (lone 0) 1
ends-at-root {X = X} {cmp = cmp} total {p} is union {n} live leaf {k} up =
    let root = live-root p n (rw is live) in
    ends-alone cmp total p n k union root (rw is leaf) (subst (IsIncreasing cmp) (list-root p n root) (rw is up))
