-- What the loop of `remove_range` has done, and what it answers and leaves, as one record.
use Rattle.bforest_core.proofs.table.Lists.{length_remove}
use Rattle.bforest_core.specs.Sizes.{detached, shrink}
use Rattle.bforest_core.specs.Trees.{IsUnion}
use Rattle.bforest_core.specs.declared.path.Path.{Path}
use Rattle.bforest_nodes.specs.Entries.{IsIncreasing, value_for}
use Rattle.bforest_trees.proofs.Becoming.{becomes-both}
use Rattle.bforest_trees.proofs.Cutting.{becomes-same}
use Rattle.bforest_trees.proofs.ranges.Lowering.{lowers-both, lowers-none}
use Rattle.bforest_trees.proofs.Retaining.{IsIncreasing-kept}
use Rattle.bforest_trees.proofs.ranges.Between.{end-rises, start-rises}
use Rattle.bforest_trees.proofs.ranges.Outside.{Parts, behind-is, filter-halves, get-behind, none-out, outside-is, past-behind, remove-behind}
use Rattle.bforest_trees.proofs.unions.Choosing.{passing-value}
use Rattle.bforest_trees.specs.Bounds.{end_place, entries_between, entries_outside, is_between, is_from_start, is_past_end, start_behind, start_place}
use Rattle.bforest_trees.specs.Calls.{CutsFrom, CutsTo, Lowers, RemovesBetween, removals, sizes_outside, truncation, without_range}
use Rattle.bforest_trees.specs.Forest.{Becomes, Forest, Gives, IsLive, list_of, sizes_of}
use Rattle.bforest_trees.specs.Place.{AtSpot, IsSpot, OnSpot}
use Rattle.bforest_trees.specs.Retain.{kept_by}
use Rattle.std.proofs.Common.{Bool, List, None, Option, Some, [], ap, arith, drop, false, filter, if◌then◌else◌, inl, inr, length, map, nat_lt, not, refl, remove, slice_get, subst, suc, sym, take, true, zero, ◌&&◌, ◌+◌, ◌-◌, ◌++◌, ◌<◌, ◌∙◌, ◌∷◌, ◌≡◌, ◌≤◌, ℕ}
use Rattle.std.proofs.lemmas.Bool.{cases_lt, lt-ltb, ltb-false, ltb-true}
use Rattle.std.proofs.lemmas.Cmp.{alike_right}
use Rattle.std.proofs.lemmas.List.Sums.{count_by-le-length}
use Rattle.std.proofs.lemmas.List.{append-nil, drop_all, length-drop}
use Rattle.std.proofs.lemmas.Option.{slice_get_within}
use Rattle.std.specs.Cmp.{IsTotalOrder}
use Rattle.std.specs.List.{AllByRecursion}
use Rattle.std.specs.Ordering.{is_le, is_lt}
use Rattle.std.specs.declared.cmp.Ordering.TheVariants.{Equal}
use Rattle.std.specs.declared.cmp.Ordering.{Ordering}
use Rattle.std.specs.declared.ops.Bound.TheVariants.{Excluded, Included, Unbounded}
use Rattle.std.specs.declared.ops.Bound.{Bound}

-- the sizes after a range with a start and an end
pub bounded : {K : Type 0} (most : ℕ) (lo hi : Bound K) (p n : ℕ) (sizes : List (List ℕ)) → (lo ≡ Unbounded → ⊥) → (hi ≡ Unbounded → ⊥) → sizes_outside most lo hi p n sizes ≡ without_range most p n sizes
bounded most lo Unbounded p n sizes start end = absurd (end refl)
bounded most (Included a) (Included k) p n sizes start end = refl
bounded most (Included a) (Excluded k) p n sizes start end = refl
bounded most (Excluded a) (Included k) p n sizes start end = refl
bounded most (Excluded a) (Excluded k) p n sizes start end = refl
bounded most Unbounded hi p n sizes start end = absurd (start refl)

-- the sizes after a range with an end alone
ended : {K : Type 0} (most : ℕ) (hi : Bound K) (p n : ℕ) (sizes : List (List ℕ)) → (hi ≡ Unbounded → ⊥) → sizes_outside most Unbounded hi p n sizes ≡ detached most n sizes
ended most Unbounded p n sizes end = absurd (end refl)
ended most (Included k) p n sizes end = refl
ended most (Excluded k) p n sizes end = refl

-- the start of what an end leaves out is the place of that end
pub start-at-end : {K X : Type 0} (cmp : K → K → Ordering) (hi : Bound K) (es : List (K × X)) → (hi ≡ Unbounded → ⊥) → start_place cmp (start_behind hi) es ≡ end_place cmp hi es
start-at-end cmp (Included k) es end = refl
start-at-end cmp (Excluded k) es end = refl
start-at-end cmp Unbounded es end = absurd (end refl)

less-some : (p n m : ℕ) → p + m ≡ n → nat_lt p n ≡ nat_lt 0 m
less-some p n zero is = sym (no (omega (arith, is)))
  where
    no : (n ≤ p) → nat_lt 0 0 ≡ nat_lt p n
    no low = grind (arith, low)
less-some p n (suc m) is = grind (arith, is)

pub zero-by : (n : ℕ) → nat_lt 0 n ≡ false → n ≡ 0
zero-by n t = omega (arith, ltb-false 0 n t)

-- keys that compare equal are on the same side of each bound
module _ {K : Type 0} (cmp : K → K → Ordering) (total : IsTotalOrder cmp) where
  start-alike : (lo : Bound K) (k q : K) → cmp k q ≡ Equal → is_from_start cmp lo k ≡ is_from_start cmp lo q
  start-alike (Included a) k q t = ap is_le (alike_right total k q a t)
  start-alike (Excluded a) k q t = ap is_lt (alike_right total k q a t)
  start-alike Unbounded k q t = refl

  end-alike : (hi : Bound K) (k q : K) → cmp k q ≡ Equal → is_past_end cmp hi k ≡ is_past_end cmp hi q
  end-alike (Included a) k q t = ap is_lt (alike_right total k q a t)
  end-alike (Excluded a) k q t = ap is_le (alike_right total k q a t)
  end-alike Unbounded k q t = refl

  between-alike : (lo hi : Bound K) (k q : K) → cmp k q ≡ Equal → is_between cmp lo hi k ≡ is_between cmp lo hi q
  between-alike lo hi k q t = λ i. start-alike lo k q t i && not (end-alike hi k q t i)

module _ {K X : Type 0} (cmp : K → K → Ordering) where
  -- the entries that pass a test of their keys increase as they did
  pub tested-up : (test : K → Bool) (es : List (K × X)) → IsIncreasing cmp es → IsIncreasing cmp (filter (λ e. test e.0) es)
  tested-up test es up = subst (IsIncreasing cmp) (go es) (IsIncreasing-kept cmp es (map (λ e. (test e.0, e.1)) es) up)
    where
      go : (es : List (K × X)) → kept_by es (map (λ e. (test e.0, e.1)) es) ≡ filter (λ e. test e.0) es
      go [] = refl
      go (e ∷ es) = ap (λ l. if test e.0 then e ∷ l else l) (go es)

  module _ (lo hi : Bound K) where
    pub outside-up : (es : List (K × X)) → IsIncreasing cmp es → IsIncreasing cmp (entries_outside cmp lo hi es)
    outside-up es up = tested-up (λ k. not (is_between cmp lo hi k)) es up

    module _ (total : IsTotalOrder cmp) (es : List (K × X)) (q : K) (up : IsIncreasing cmp es) where
      -- a key's value among the entries outside
      pub outside-value : value_for cmp (entries_outside cmp lo hi es) q ≡ (if is_between cmp lo hi q then None else value_for cmp es q)
      outside-value = passing-value cmp total (λ k. not (is_between cmp lo hi k)) (λ k r t. ap not (between-alike cmp total lo hi k r t)) outside-up es q up ∙ turned (is_between cmp lo hi q)
        where
          turned : (b : Bool) → (if not b then value_for cmp es q else None) ≡ (if b then None else value_for cmp es q)
          turned true = refl
          turned false = refl

      -- a key's value among those inside
      pub inside-value : value_for cmp (entries_between cmp lo hi es) q ≡ (if is_between cmp lo hi q then value_for cmp es q else None)
      inside-value = passing-value cmp total (is_between cmp lo hi) (between-alike cmp total lo hi) (tested-up (is_between cmp lo hi)) es q up

    -- where an entry is within the bounds, those outside are fewer
    pub outside-fewer : (es : List (K × X)) {left : List (K × X)} {changed : Bool} → left ≡ entries_outside cmp lo hi es → changed ≡ nat_lt 0 (length (entries_between cmp lo hi es)) → changed ≡ true → length left < length es
    outside-fewer es is told some =
        omega (arith, ap length is, filter-halves (λ (e : K × X). is_between cmp lo hi e.0) es, ltb-true 0 (length (entries_between cmp lo hi es)) (sym told ∙ some))

  -- the place where the bounds end is in the list
  end-low : (hi : Bound K) (es : List (K × X)) → end_place cmp hi es ≤ length es
  end-low hi es = count_by-le-length (λ (e : K × X). not (is_past_end cmp hi e.0)) es

  -- the place where the bounds begin is in the list
  pub start-low : (lo : Bound K) (es : List (K × X)) → start_place cmp lo es ≤ length es
  start-low lo es = count_by-le-length (λ (e : K × X). not (is_from_start cmp lo e.0)) es

module _ {K X : Type 0} (most : ℕ) (cmp : K → K → Ordering) (lo hi : Bound K) (f₀ : Forest K X) (h₀ : Option ℕ) where
  -- the entries from the start on up to some place were removed, which are all in front of the end, and the path stands at the next
  pub record Parting (f : Forest K X) (h : Option ℕ) (path : Path K X most) (changed : Bool) : Type 0 where
    pub count : ℕ
    pub to : ℕ
    pub to_is : start_place cmp lo (list_of f₀ h₀) + count ≡ to
    pub within : to ≤ length (list_of f₀ h₀)
    pub becomes : Becomes f₀ h₀ f h (take (start_place cmp lo (list_of f₀ h₀)) (list_of f₀ h₀) ++ drop to (list_of f₀ h₀))
    pub sizes : sizes_of f h ≡ removals most (start_place cmp lo (list_of f₀ h₀)) count (sizes_of f₀ h₀)
    pub gives : Gives (sizes_of f₀ h₀) (sizes_of f h) f₀ f
    pub lowers : Lowers f₀ h₀ f h
    pub spot : IsSpot f h path (start_place cmp lo (list_of f₀ h₀))
    pub tested : (i : ℕ) (e : K × X) → start_place cmp lo (list_of f₀ h₀) ≤ i → i < to → slice_get (list_of f₀ h₀) i ≡ Some e → is_past_end cmp hi e.0 ≡ false
    pub changed_is : changed ≡ nat_lt 0 count
    pub same : count ≡ 0 → (f ≡ f₀) × (h ≡ h₀)

  -- the entries within the bounds were removed, one after another
  pub record Parted (changed : Bool) (f : Forest K X) (h : Option ℕ) : Type 0 where
    pub removed : Becomes f₀ h₀ f h (entries_outside cmp lo hi (list_of f₀ h₀))
    pub changed_is : changed ≡ nat_lt 0 (length (entries_between cmp lo hi (list_of f₀ h₀)))
    pub sizes : sizes_of f h ≡ removals most (start_place cmp lo (list_of f₀ h₀)) (length (entries_between cmp lo hi (list_of f₀ h₀))) (sizes_of f₀ h₀)
    pub lowers : Lowers f₀ h₀ f h
    pub account : Gives (sizes_of f₀ h₀) (sizes_of f h) f₀ f
    pub same : length (entries_between cmp lo hi (list_of f₀ h₀)) ≡ 0 → (f ≡ f₀) × (h ≡ h₀)

module _ {K X : Type 0} {most : ℕ} {cmp : K → K → Ordering} {lo hi : Bound K} {f₀ : Forest K X} {h₀ : Option ℕ} where
  -- before the first step
  pub parting-first : {path : Path K X most} → IsUnion most f₀ → IsLive f₀ h₀ → IsSpot f₀ h₀ path (start_place cmp lo (list_of f₀ h₀)) → Parting most cmp lo hi f₀ h₀ f₀ h₀ path false
  parting-first union live spot = record {
    count = 0;
    to = start_place cmp lo (list_of f₀ h₀);
    to_is = omega arith;
    within = start-low cmp lo (list_of f₀ h₀);
    becomes = subst (Becomes f₀ h₀ f₀ h₀) (none-out (start_place cmp lo (list_of f₀ h₀)) (list_of f₀ h₀)) (becomes-same f₀ h₀ live);
    sizes = refl;
    gives = record { slots = refl; free = refl; memory = refl };
    lowers = lowers-none most f₀ h₀ union live;
    spot = spot;
    tested = λ i e over less. absurd (omega (arith, over, less));
    changed_is = refl;
    same = λ e. (refl, refl);
  }

  module _ {f : Forest K X} {h : Option ℕ} {path : Path K X most} {changed : Bool} (s : Parting most cmp lo hi f₀ h₀ f h path changed) where
    -- where the path stands
    abbrev pub parting-at : AtSpot f h path
    parting-at = record { place = start_place cmp lo (list_of f₀ h₀); spot = s.spot }

    pub parting-live : IsLive f h
    parting-live = s.becomes.live

    from-low : start_place cmp lo (list_of f₀ h₀) ≤ s.to
    from-low = omega (arith, s.to_is)

    -- the entry there is one of the list as it was
    here-is : slice_get (list_of f h) (start_place cmp lo (list_of f₀ h₀)) ≡ slice_get (list_of f₀ h₀) s.to
    here-is = ap (λ l. slice_get l (start_place cmp lo (list_of f₀ h₀))) s.becomes.list ∙ get-behind (start_place cmp lo (list_of f₀ h₀)) s.to (list_of f₀ h₀) from-low (start-low cmp lo (list_of f₀ h₀))

    -- the path stands on an entry in front of the end
    module _ (on : (at : AtSpot f h path) → (e : K × X) × (slice_get (list_of f h) at.place ≡ Some e) × (is_past_end cmp hi e.0 ≡ false)) where
      pub low : start_place cmp lo (list_of f₀ h₀) < length (list_of f h)
      low = let e = on parting-at in slice_get_within (list_of f h) (start_place cmp lo (list_of f₀ h₀)) e.0 e.1

      abbrev pub parting-on : OnSpot f h path
      parting-on = record { place = start_place cmp lo (list_of f₀ h₀); spot = s.spot; within = low }

      -- the entry at the start of the range is removed, and the list gets shorter
      module _ {f' : Forest K X} {h' : Option ℕ} (removed : (at : OnSpot f h path) → Becomes f h f' h' (remove (list_of f h) at.place)) where
        pub parting-shorter : length (list_of f' h') < length (list_of f h)
        parting-shorter = omega (arith, low, ap length ((removed parting-on).list), length_remove (list_of f h) (start_place cmp lo (list_of f₀ h₀)) low)

        pub parting-next : {path' : Path K X most} → ((at : OnSpot f h path) → sizes_of f' h' ≡ shrink most at.place (sizes_of f h)) → Lowers f h f' h' → Gives (sizes_of f h) (sizes_of f' h') f f'
            → ((at : OnSpot f h path) → IsSpot f' h' path' at.place) → Parting most cmp lo hi f₀ h₀ f' h' path' true
        parting-next sizes lowers account spot =
            let p = start_place cmp lo (list_of f₀ h₀) in
            let e = on parting-at in
            record {
              count = suc s.count;
              to = suc s.to;
              to_is = omega (arith, s.to_is);
              within = omega (arith, slice_get_within (list_of f₀ h₀) s.to e.0 (sym here-is ∙ e.1));
              becomes = becomes-both f₀ f f' h₀ h h' _ _ s.becomes (subst (Becomes f h f' h') (ap (λ l. remove l p) s.becomes.list ∙ remove-behind p s.to (list_of f₀ h₀) from-low (start-low cmp lo (list_of f₀ h₀))) (removed parting-on));
              sizes = sizes parting-on ∙ ap (shrink most p) s.sizes;
              gives = record {
                slots = account.slots ∙ s.gives.slots;
                free = omega (arith, account.free, s.gives.free);
                memory = account.memory ∙ s.gives.memory;
              };
              lowers = lowers-both h₀ h h' s.lowers lowers;
              spot = spot parting-on;
              tested = λ i x over less get. elim (cases_lt i s.to) [
                | inl before ↦ s.tested i x over before get
                | inr behind ↦ (
                    let last : i ≡ s.to = omega (arith, less, behind) in
                    let same : Some x ≡ Some e.0 = sym get ∙ ap (slice_get (list_of f₀ h₀)) last ∙ sym here-is ∙ e.1 in
                    let one : x ≡ e.0 = cc in
                    ap (λ y. is_past_end cmp hi y.0) one ∙ e.2
                    )
              ];
              changed_is = sym (lt-ltb 0 (suc s.count) (omega arith));
              same = λ bad. absurd (omega (arith, bad));
            }

    -- the loop ends in front of an entry that is past the end, or behind all
    pub parting-end : IsTotalOrder cmp → IsIncreasing cmp (list_of f₀ h₀) → ((at : AtSpot f h path) (e : K × X) → slice_get (list_of f h) at.place ≡ Some e → is_past_end cmp hi e.0 ≡ true) → Parted most cmp lo hi f₀ h₀ changed f h
    parting-end total up past = record {
      removed = subst (Becomes f₀ h₀ f h) (sym parts.outside_is) s.becomes;
      changed_is = s.changed_is ∙ ap (nat_lt 0) (sym count);
      sizes = s.sizes ∙ ap (λ n. removals most (start_place cmp lo (list_of f₀ h₀)) n (sizes_of f₀ h₀)) (sym count);
      lowers = s.lowers;
      account = s.gives;
      same = λ none. s.same (sym count ∙ none);
    }
      where
        behind : AllByRecursion (λ (y : K × X). is_past_end cmp hi y.0 ≡ true) (drop s.to (list_of f₀ h₀))
        behind = past-behind (λ (x : K × X). is_from_start cmp lo x.0) (λ (x : K × X). is_past_end cmp hi x.0) (list_of f₀ h₀) s.to (end-rises cmp total hi (list_of f₀ h₀) up) (λ e get. past parting-at e (here-is ∙ get))

        parts : Parts (λ (e : K × X). is_from_start cmp lo e.0) (λ (e : K × X). is_past_end cmp hi e.0) (start_place cmp lo (list_of f₀ h₀)) s.to (list_of f₀ h₀)
        parts = outside-is (λ (e : K × X). is_from_start cmp lo e.0) (λ (e : K × X). is_past_end cmp hi e.0) (list_of f₀ h₀) (start-rises cmp total lo (list_of f₀ h₀) up) (start_place cmp lo (list_of f₀ h₀)) s.to refl from-low s.tested behind

        count : length (entries_between cmp lo hi (list_of f₀ h₀)) ≡ s.count
        count = omega (arith, parts.count s.within, s.to_is)

module _ {K X : Type 0} (cmp : K → K → Ordering) (total : IsTotalOrder cmp) (lo : Bound K) (es : List (K × X)) (up : IsIncreasing cmp es) where
  -- the entries from a start on, and those in front of it
  pub behind-parts : (entries_outside cmp lo Unbounded es ≡ take (start_place cmp lo es) es) × (start_place cmp lo es + length (entries_between cmp lo Unbounded es) ≡ length es)
  behind-parts =
      let p = start_place cmp lo es in
      let none : drop (length es) es ≡ [] = drop_all (length es) es (omega arith) in
      let both = outside-is (λ (e : K × X). is_from_start cmp lo e.0) (λ (e : K × X). false) es (start-rises cmp total lo es up) p (length es) refl (start-low cmp lo es) (λ i e over low is. refl) (subst (AllByRecursion (λ (y : K × X). false ≡ true)) (sym none) tt) in (
        both.outside_is ∙ ap (λ l. take p es ++ l) none ∙ append-nil (take p es),
        both.count (omega arith),
      )

-- all entries from a start on were removed at once
pub parting-cut : {K X : Type 0} {most : ℕ} {cmp : K → K → Ordering} {lo hi : Bound K} {f f' : Forest K X} {h h' : Option ℕ} {changed : Bool} → hi ≡ Unbounded → IsTotalOrder cmp → IsIncreasing cmp (list_of f h) →
    CutsFrom f h (start_place cmp lo (list_of f h)) changed f' h' → RemovesBetween most cmp lo hi f h changed f' h'
parting-cut {most = most} {cmp} {lo} {f = f} {f'} {h} {h'} is total up c = let parts = behind-parts cmp total lo (list_of f h) up in
    let count : length (list_of f h) - start_place cmp lo (list_of f h) ≡ length (entries_between cmp lo Unbounded (list_of f h)) = omega (arith, parts.1) in
    let told = c.changed ∙ less-some (start_place cmp lo (list_of f h)) (length (list_of f h)) (length (entries_between cmp lo Unbounded (list_of f h))) parts.1 in rw is (record {
      removed = subst (Becomes f h f' h') (sym parts.0) c.removed;
      changed = told;
      found = λ q. ap (λ l. value_for cmp l q) (c.removed.list ∙ sym parts.0) ∙ outside-value cmp lo Unbounded total (list_of f h) q up;
      sizes = c.sizes ∙ ap (λ n. truncation (start_place cmp lo (list_of f h)) n (sizes_of f h)) count;
      same_levels = c.same_levels;
      account = c.account;
      increasing = subst (IsIncreasing cmp) (sym (c.removed.list ∙ sym parts.0)) (outside-up cmp lo Unbounded (list_of f h) up);
      fewer = outside-fewer cmp lo Unbounded (list_of f h) (c.removed.list ∙ sym parts.0) told;
      same_forest = c.same_forest;
      same_handle = c.same_handle;
    })

module _ {K X : Type 0} (cmp : K → K → Ordering) (total : IsTotalOrder cmp) (hi : Bound K) (es : List (K × X)) (up : IsIncreasing cmp es) where
  -- the entries up to an end, and those behind it
  pub front-parts : (entries_outside cmp Unbounded hi es ≡ drop (end_place cmp hi es) es) × (length (entries_between cmp Unbounded hi es) ≡ end_place cmp hi es)
  front-parts = let left = behind-is (λ (e : K × X). is_past_end cmp hi e.0) es (end-rises cmp total hi es up) in
      (left, omega (arith, ap length left, length-drop (end_place cmp hi es) es, end-low cmp hi es, filter-halves (λ (e : K × X). is_between cmp Unbounded hi e.0) es))

-- all entries up to an end were removed at once
pub parting-front : {K X : Type 0} {most : ℕ} {cmp : K → K → Ordering} {lo hi : Bound K} {f f' : Forest K X} {h h' : Option ℕ} {changed : Bool} → lo ≡ Unbounded → (hi ≡ Unbounded → ⊥) → IsTotalOrder cmp → IsIncreasing cmp (list_of f h) →
    CutsTo most f h (start_place cmp (start_behind hi) (list_of f h)) changed f' h' → RemovesBetween most cmp lo hi f h changed f' h'
parting-front {most = most} {cmp} {hi = hi} {f} {f'} {h} {h'} is end total up c = let parts = front-parts cmp total hi (list_of f h) up in
    let at : start_place cmp (start_behind hi) (list_of f h) ≡ end_place cmp hi (list_of f h) = start-at-end cmp hi (list_of f h) end in
    let left : drop (start_place cmp (start_behind hi) (list_of f h)) (list_of f h) ≡ entries_outside cmp Unbounded hi (list_of f h) = ap (λ n. drop n (list_of f h)) at ∙ sym parts.0 in
    let count : start_place cmp (start_behind hi) (list_of f h) ≡ length (entries_between cmp Unbounded hi (list_of f h)) = at ∙ sym parts.1 in
    let told = c.changed ∙ ap (nat_lt 0) count in rw is (record {
      removed = subst (Becomes f h f' h') left c.removed;
      changed = told;
      found = λ q. ap (λ l. value_for cmp l q) (c.removed.list ∙ left) ∙ outside-value cmp Unbounded hi total (list_of f h) q up;
      sizes = c.sizes ∙ ap (λ n. detached most n (sizes_of f h)) count
          ∙ sym (ended most hi (start_place cmp Unbounded (list_of f h)) (length (entries_between cmp Unbounded hi (list_of f h))) (sizes_of f h) end);
      same_levels = c.same_levels;
      account = c.account;
      increasing = subst (IsIncreasing cmp) (sym (c.removed.list ∙ left)) (outside-up cmp Unbounded hi (list_of f h) up);
      fewer = outside-fewer cmp Unbounded hi (list_of f h) (c.removed.list ∙ left) told;
      same_forest = c.same_forest;
      same_handle = c.same_handle;
    })
