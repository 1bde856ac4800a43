-- What a tree that is made anew answers and leaves, and a part that goes to a tree of its own.
use Rattle.bforest_core.specs.Change.{node_count}
use Rattle.bforest_core.specs.Packed.{ArePacked}
use Rattle.bforest_core.specs.Sizes.{IsFitFor}
use Rattle.bforest_core.specs.declared.pool.OutOfMemory.TheVariants.{Full, Memory}
use Rattle.bforest_core.specs.declared.pool.OutOfMemory.{OutOfMemory}
use Rattle.bforest_nodes.specs.Entries.{IsIncreasing, place, value_for}
use Rattle.bforest_trees.proofs.ranges.Parting.{inside-value, outside-value, tested-up}
use Rattle.bforest_trees.proofs.ranges.Between.{end-unbounded, slice-between, start-included, start-rises}
use Rattle.bforest_trees.proofs.ranges.Outside.{outside-is}
use Rattle.bforest_trees.proofs.unions.Uniting.{becomes-made, made-beside, made-moves, made-stays}
use Rattle.bforest_trees.specs.Bounds.{entries_between, entries_outside, is_between, is_from_start}
use Rattle.bforest_trees.specs.Calls.{Clears, Compacts, Loads, SplitsAt, SplitsOff}
use Rattle.bforest_trees.specs.Forest.{Becomes, Forest, GrowsFor, IsLive, list_of}
use Rattle.std.proofs.Common.{Bool, Err, List, None, Ok, Option, [], ap, slice_range, append-nil, arith, drop, false, if◌then◌else◌, length, not, refl, subst, sym, take, true, ◌&&◌, ◌++◌, ◌-◌, ◌∙◌, ◌≡◌, ◌≤◌, ℕ}
use Rattle.std.proofs.lemmas.List.Sums.{count_by-le-length}
use Rattle.std.proofs.lemmas.List.{drop_all, length-drop, take_all}
use Rattle.std.proofs.lemmas.Bool.{false≢true}
use Rattle.std.specs.Cmp.{IsTotalOrder}
use Rattle.std.specs.List.{AllByRecursion}
use Rattle.std.specs.Ordering.{is_le, is_lt, ordering_reverse}
use Rattle.std.specs.declared.cmp.Ordering.TheVariants.{Equal, Greater, Less}
use Rattle.std.specs.declared.cmp.Ordering.{Ordering}
use Rattle.std.specs.declared.ops.Bound.TheVariants.{Included, Unbounded}

-- what taking slots changes of the memory, where what follows changes nothing of it
module _ {K X : Type 0} {d : ℕ} {f g k : Forest K X} where
  grows-on : GrowsFor d f g → k.memory ≡ g.memory → GrowsFor d f k
  grows-on t same = record {
    grows = omega (arith, t.grows, same);
    stays = λ enough. same ∙ t.stays enough;
    suffices = λ enough. same ∙ t.suffices enough;
    bounded = omega (arith, t.bounded, same);
  }

module _ {K X : Type 0} (most : ℕ) (f : Forest K X) (h : Option ℕ) (live : IsLive f h) where
  -- the call was refused
  pub compacts-refused : (refused : OutOfMemory) {f1 : Forest K X} → Loads most f (list_of f h) (Err refused) f1 → Compacts most f h (Err refused) f h
  compacts-refused refused told = record {
    same_list = tt;
    moved = λ some. tt;
    packed = tt;
    nodes = tt;
    fit = tt;
    account = tt;
    live = live;
    increasing = λ order up. up;
    full = (
      λ e. told.full.0 (let alike : refused ≡ Full = cc in ap Err alike),
      λ low. let full = told.full.1 low in let alike : refused ≡ Full = cc in ap Err alike,
    );
    memory = λ e. told.memory (let alike : refused ≡ Memory = cc in ap Err alike);
    succeeds = λ enough. absurd (false≢true (told.succeeds enough));
    refused_forest = refl;
    refused_handle = refl;
  }

  -- the packed tree took the place of the old one
  pub compacts-ok : {f1 f2 : Forest K X} {h1 h2 : Option ℕ} → Loads most f (list_of f h) (Ok h1) f1 → Clears f1 h f2 h2 → Compacts most f h (Ok tt) f2 h1
  compacts-ok {f1} {f2} {h1} {h2} l c =
      let ends = subst (λ z. Becomes f1 h f2 z []) c.handle c.cleared in
      let b = becomes-made h live l.loaded ends in
      let made = made-stays h live l.loaded ends in
      let beside = made-beside h live l.loaded in
      record {
        same_list = b;
        moved = made-moves h live l.loaded;
        packed = subst (ArePacked most) (sym made.2) l.packed;
        nodes = ap node_count made.2 ∙ l.nodes;
        fit = subst (IsFitFor most (length (list_of f h))) (sym made.2) l.fit;
        account = record {
          slots = c.account.slots ∙ l.account.slots;
          free = omega (arith, c.account.free, l.account.free, ap node_count beside.2);
          memory = grows-on l.account.memory c.account.memory;
        };
        live = b.live;
        increasing = λ order up. subst (IsIncreasing order) (sym b.list) up;
        full = (λ bad. absurd (cc), λ short. absurd (let bad = l.full.1 short in cc));
        memory = λ bad. absurd (cc);
        succeeds = λ enough. refl;
        refused_forest = tt;
        refused_handle = tt;
      }

module _ {K X : Type 0} (cmp : K → K → Ordering) (total : IsTotalOrder cmp) (k : K) (es : List (K × X)) (up : IsIncreasing cmp es) where
  place-low : place cmp es k ≤ length es
  place-low = omega (arith, start-included cmp total k es, count_by-le-length (λ (e : K × X). not (is_from_start cmp (Included k) e.0)) es)

  -- the entries from a key on, and those in front of it
  pub parts : (entries_outside cmp (Included k) Unbounded es ≡ take (place cmp es k) es) × (entries_between cmp (Included k) Unbounded es ≡ drop (place cmp es k) es)
  parts =
      let p = place cmp es k in
      let none : drop (length es) es ≡ [] = drop_all (length es) es (omega arith) in
      let both = outside-is (λ (e : K × X). is_from_start cmp (Included k) e.0) (λ (e : K × X). false) es (start-rises cmp total (Included k) es up) p (length es) (start-included cmp total k es) place-low (λ i e over low is. refl) (subst (AllByRecursion (λ (y : K × X). false ≡ true)) (sym none) tt) in (
        both.outside_is ∙ ap (λ l. take p es ++ l) none ∙ append-nil (take p es),
        slice-between cmp total (Included k) Unbounded es up ∙ (λ i. slice_range es ((sym (start-included cmp total k es)) i) (end-unbounded cmp total es i)) ∙ take_all (length es - p) (drop p es) (omega (arith, length-drop p es)),
      )

  -- the keys from k on are those that are not less
  from-key : (q : K) → is_between cmp (Included k) Unbounded q ≡ not (is_lt (cmp q k))
  from-key q = sym (ap (λ r. not (is_lt r)) (total.antisymm q k) ∙ turned (cmp k q))
    where
      turned : (r : Ordering) → not (is_lt (ordering_reverse r)) ≡ (is_le r && true)
      turned Less = refl
      turned Equal = refl
      turned Greater = refl

  -- a key's value in each part
  parts-found : (q : K) → (value_for cmp (take (place cmp es k) es) q ≡ (if is_lt (cmp q k) then value_for cmp es q else None)) × (value_for cmp (drop (place cmp es k) es) q ≡ (if is_lt (cmp q k) then None else value_for cmp es q))
  parts-found q = (
    ap (λ l. value_for cmp l q) (sym parts.0) ∙ outside-value cmp (Included k) Unbounded total es q up ∙ ap (λ b. if b then None else value_for cmp es q) (from-key q) ∙ swapped None (value_for cmp es q) (is_lt (cmp q k)),
    ap (λ l. value_for cmp l q) (sym parts.1) ∙ inside-value cmp (Included k) Unbounded total es q up ∙ ap (λ b. if b then value_for cmp es q else None) (from-key q) ∙ swapped (value_for cmp es q) None (is_lt (cmp q k)),
  )
    where
      swapped : (x y : Option X) (b : Bool) → (if not b then x else y) ≡ (if b then y else x)
      swapped x y true = refl
      swapped x y false = refl

-- a split at the place of a key leaves and moves keys in order, with their values
module _ {K X : Type 0} (most : ℕ) (cmp : K → K → Ordering) (total : IsTotalOrder cmp) (f : Forest K X) (h : Option ℕ) (k : K) (up : IsIncreasing cmp (list_of f h)) where
  pub splits-off : {f' : Forest K X} {h' : Option ℕ} (t : Option ℕ) → SplitsAt most f h (place cmp (list_of f h) k) (Ok t) f' h' → SplitsOff most cmp f h k (Ok t) f' h'
  splits-off t s = let both = parts cmp total k (list_of f h) up in record {
    parts = s;
    found = λ q. ap (λ l. value_for cmp l q) s.front ∙ (parts-found cmp total k (list_of f h) up q).0;
    tail_found = λ q. ap (λ l. value_for cmp l q) s.tail ∙ (parts-found cmp total k (list_of f h) up q).1;
    increasing = subst (IsIncreasing cmp) (both.0 ∙ sym s.front) (tested-up cmp (λ q. not (is_between cmp (Included k) Unbounded q)) (list_of f h) up);
    tail_increasing = subst (IsIncreasing cmp) (both.1 ∙ sym s.tail) (tested-up cmp (λ q. is_between cmp (Included k) Unbounded q) (list_of f h) up);
  }

  pub splits-not : {f' : Forest K X} {h' : Option ℕ} (e : OutOfMemory) → SplitsAt most f h (place cmp (list_of f h) k) (Err e) f' h' → SplitsOff most cmp f h k (Err e) f' h'
  splits-not e s = record {
    parts = s;
    found = tt;
    tail_found = tt;
    increasing = subst (IsIncreasing cmp) (λ i. list_of (sym s.refused_forest i) (sym s.refused_handle i)) up;
    tail_increasing = tt;
  }
