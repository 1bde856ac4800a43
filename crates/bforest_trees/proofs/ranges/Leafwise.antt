-- The entries between two bounds, of which whole leaves were removed first, and then the others one after another.
use Rattle.bforest_core.specs.Trees.{IsUnion}
use Rattle.bforest_core.specs.declared.path.Path.{Path}
use Rattle.bforest_core.proofs.removal.Asked.{remove_at}
use Rattle.bforest_nodes.proofs.Ordered.{IsIncreasing-remove}
use Rattle.bforest_nodes.specs.Entries.{IsIncreasing, value_for}
use Rattle.bforest_trees.proofs.Becoming.{becomes-both}
use Rattle.bforest_trees.proofs.ranges.Lowering.{lowers-both}
use Rattle.bforest_trees.proofs.ranges.Between.{end-rises, slice-between, start-rises}
use Rattle.bforest_trees.proofs.ranges.Counted.{all-front, count-all, count-append, from-behind, index-at, not-past, taken-is, total, whole-at, within-exact}
use Rattle.bforest_trees.proofs.ranges.Parting.{Parted, Parting, bounded, outside-fewer, outside-up, outside-value, parting-first, start-low, zero-by}
use Rattle.bforest_trees.proofs.ranges.Slices.{Rises, count-cons, count-none}
use Rattle.bforest_trees.specs.Bounds.{end_place, entries_between, entries_outside, is_from_start, is_past_end, start_place}
use Rattle.bforest_trees.specs.Calls.{RemovesBetween, removals, without_leaves, without_range}
use Rattle.bforest_trees.specs.Forest.{Becomes, Forest, IsLive, list_of, sizes_of}
use Rattle.bforest_core.specs.Paths.{IsAtEnd}
use Rattle.bforest_trees.proofs.Spots.{spot-last}
use Rattle.bforest_trees.specs.Place.{AtSpot, IsSpot}
use Rattle.bforest_trees.specs.Thinned.{Stops, Thinned}
use Rattle.std.proofs.Common.{inl, inr}
use Rattle.std.proofs.lemmas.Bool.{cases_lt, lt-ltb}
use Rattle.std.proofs.Common.{Bool, List, Option, [], ap, arith, cond, count_by, drop, false, filter, length, length-append, length-drop, nat_lt, not, refl, subst, suc, sym, true, zero, ◌&&◌, ◌+◌, ◌-◌, ◌++◌, ◌<◌, ◌∙◌, ◌∷◌, ◌≡◌, ◌≤◌, ℕ}
use Rattle.std.proofs.lemmas.List.Elements.{filter-append}
use Rattle.std.proofs.lemmas.List.Sums.{count_by-le-length}
use Rattle.std.proofs.lemmas.List.{length-take-le, nil_from_length}
use Rattle.std.specs.Cmp.{IsTotalOrder}
use Rattle.std.specs.List.{AllByRecursion}
use Rattle.std.specs.declared.cmp.Ordering.{Ordering}
use Rattle.std.specs.declared.ops.Bound.TheVariants.{Unbounded}
use Rattle.std.specs.declared.ops.Bound.{Bound}

lt-same : (a b : ℕ) → (a ≡ 0 → b ≡ 0) → (b ≡ 0 → a ≡ 0) → nat_lt 0 a ≡ nat_lt 0 b
lt-same zero zero f g = refl
lt-same zero (suc b) f g = absurd (let e = f refl in omega (arith, e))
lt-same (suc a) zero f g = absurd (let e = g refl in omega (arith, e))
lt-same (suc a) (suc b) f g = lt-ltb 0 (suc a) (omega arith) ∙ sym (lt-ltb 0 (suc b) (omega arith))

-- a list without some elements in its middle increases as it did
without-middle : {K X : Type 0} (cmp : K → K → Ordering) (front gone behind : List (K × X)) → IsIncreasing cmp (front ++ (gone ++ behind)) → IsIncreasing cmp (front ++ behind)
without-middle cmp front [] behind up = up
without-middle cmp front (g ∷ gone) behind up =
    without-middle cmp front gone behind (subst (IsIncreasing cmp) (remove_at front g (gone ++ behind)) (IsIncreasing-remove cmp (front ++ g ∷ (gone ++ behind)) (length front) up))

module _ {A : Type 0} (s t : A → Bool) where
  -- elements that are within bounds are all inside, and none is outside
  all-inside : (es : List A) → AllByRecursion (λ y. s y ≡ true) es → AllByRecursion (λ y. t y ≡ false) es → (filter (λ y. s y && not (t y)) es ≡ es) × (filter (λ y. not (s y && not (t y))) es ≡ [])
  all-inside [] on off = (refl, refl)
  all-inside (e ∷ es) on off = let rest = all-inside es on.1 off.1 in let is : (s e && not (t e)) ≡ true = (λ i. on.0 i && not (off.0 i)) in (
    ap (λ b. cond b (e ∷ filter (λ y. s y && not (t y)) es) (filter (λ y. s y && not (t y)) es)) is ∙ ap (λ z. e ∷ z) rest.0,
    ap (λ b. cond (not b) (e ∷ filter (λ y. not (s y && not (t y))) es) (filter (λ y. not (s y && not (t y))) es)) is ∙ rest.1,
  )

  -- all in front of an element that is not past the end are not
  front-inside : (front : List A) (e : A) (behind : List A) → Rises t (front ++ e ∷ behind) → t e ≡ false → AllByRecursion (λ y. t y ≡ false) front
  front-inside front e behind up off = all-front (λ y. t y ≡ false) front (e ∷ []) (not-past t [] front e behind up off)

  -- those up to one that is past the end are as many at least as those that are not
  few-inside : (front : List A) (e : A) (behind : List A) → Rises t (front ++ e ∷ behind) → t e ≡ true → count_by (λ y. not (t y)) (front ++ e ∷ behind) ≤ length front
  few-inside [] e behind up on = omega (arith, count-none t (e ∷ behind) (on, up.0 on))
  few-inside (x ∷ front) e behind up on = let rest = few-inside front e behind up.1 on in
      go (t x) refl rest
    where
      go : (b : Bool) → t x ≡ b → count_by (λ y. not (t y)) (front ++ e ∷ behind) ≤ length front → count_by (λ y. not (t y)) (x ∷ (front ++ e ∷ behind)) ≤ suc (length front)
      go true is rest = omega (arith, rest, count-cons (λ y. not (t y)) x (front ++ e ∷ behind) false (ap not is))
      go false is rest = omega (arith, rest, count-cons (λ y. not (t y)) x (front ++ e ∷ behind) true (ap not is))

-- the sizes after a range, at the leaf of its place
range-is : (most p n : ℕ) (before : List ℕ) (size : ℕ) (dropped after : List ℕ) (levels : List (List ℕ)) → 0 < n → total before ≤ p → p < total before + size → total dropped ≤ (p + n) - (total before + size)
    → ((x : ℕ) (others : List ℕ) → after ≡ x ∷ others → (p + n) - (total before + size) < total dropped + x)
    → without_range most p n ((before ++ size ∷ (dropped ++ after)) ∷ levels) ≡ removals most p (n - total dropped) (without_leaves (length before) (length dropped) ((before ++ size ∷ (dropped ++ after)) ∷ levels))
range-is most p zero before size dropped after levels some from low few more = absurd (omega (arith, some))
range-is most p (suc n) before size dropped after levels some from low few more =
    let index = index-at before size (dropped ++ after) p from low in
    let count = whole-at before size (dropped ++ after) p (suc n) from low ∙ within-exact ((p + suc n) - (total before + size)) dropped after few more in
    rw (index, count, taken-is before size dropped after) refl

module _ {K X : Type 0} (most : ℕ) (cmp : K → K → Ordering) (lo hi : Bound K) (f₀ : Forest K X) (h₀ : Option ℕ) (total_order : IsTotalOrder cmp) (up : IsIncreasing cmp (list_of f₀ h₀)) where
  abbrev s : K × X → Bool
  s e = is_from_start cmp lo e.0

  abbrev t : K × X → Bool
  t e = is_past_end cmp hi e.0

  abbrev es : List (K × X)
  es = list_of f₀ h₀

  abbrev p : ℕ
  p = start_place cmp lo es

  -- how many entries are within the bounds
  between-is : length (entries_between cmp lo hi es) ≡ end_place cmp hi es - p
  between-is = let low = count_by-le-length (λ y. not (t y)) es in
      ap length (slice-between cmp total_order lo hi es up) ∙ length-take-le (end_place cmp hi es - p) (drop p es) (omega (arith, low, length-drop p es, start-low cmp lo es))

  -- the entries from the start on are all at the end, and there is none
  pub parted-alone : {f : Forest K X} {h : Option ℕ} {changed : Bool} → p ≡ length es → (lo ≡ Unbounded → ⊥) → (hi ≡ Unbounded → ⊥) → Parted most cmp lo hi f₀ h₀ changed f h → RemovesBetween most cmp lo hi f₀ h₀ changed f h
  parted-alone {f} {h} last start end r = let none : length (entries_between cmp lo hi es) ≡ 0 = omega (arith, between-is, last, count_by-le-length (λ y. not (t y)) es) in
      record {
        removed = r.removed;
        changed = r.changed_is;
        found = λ q. ap (λ l. value_for cmp l q) r.removed.list ∙ outside-value cmp lo hi total_order es q up;
        sizes = r.sizes ∙ ap (λ n. removals most p n (sizes_of f₀ h₀)) none ∙ ap (λ n. without_range most p n (sizes_of f₀ h₀)) (sym none) ∙ sym (bounded most lo hi p (length (entries_between cmp lo hi es)) (sizes_of f₀ h₀) start end);
        same_levels = r.lowers.same_levels;
        account = r.account;
        increasing = subst (IsIncreasing cmp) (sym r.removed.list) (outside-up cmp lo hi es up);
        fewer = outside-fewer cmp lo hi es r.removed.list r.changed_is;
        same_forest = λ off. (r.same none).0;
        same_handle = λ off. (r.same none).1;
      }

  module _ {f₁ : Forest K X} {h₁ : Option ℕ} {path : Path K X most} (w : Thinned most cmp hi f₀ h₀ p f₁ h₁ path) where
    open w use {front, gone, behind, before, size, dropped, after}

    rises-start : Rises s (front ++ (gone ++ behind))
    rises-start = subst (Rises s) w.list_was (start-rises cmp total_order lo es up)

    rises-end : Rises t (front ++ (gone ++ behind))
    rises-end = subst (Rises t) w.list_was (end-rises cmp total_order hi es up)

    -- those behind the path's leaf are from the start on
    from : AllByRecursion (λ y. s y ≡ true) (gone ++ behind)
    from = from-behind s front (gone ++ behind) rises-start (omega (arith, w.low, w.front_is, ap (count_by (λ y. not (s y))) w.list_was))

    inside : (filter (λ y. s y && not (t y)) gone ≡ gone) × (filter (λ y. not (s y && not (t y))) gone ≡ [])
    inside = all-inside s t gone (all-front (λ y. s y ≡ true) gone behind from) w.within

    -- the start is where it was
    start-is : start_place cmp lo (front ++ behind) ≡ p
    start-is = let c = count-none s gone (all-front (λ y. s y ≡ true) gone behind from) in
        omega (arith, c, ap (count_by (λ y. not (s y))) w.list_was, count-append (λ y. not (s y)) front behind, count-append (λ y. not (s y)) front (gone ++ behind), count-append (λ y. not (s y)) gone behind)

    pub start-kept : start_place cmp lo (list_of f₁ h₁) ≡ p
    start-kept = ap (start_place cmp lo) w.becomes.list ∙ start-is

    -- the list still increases
    pub thinned-up : IsIncreasing cmp (list_of f₁ h₁)
    thinned-up = subst (IsIncreasing cmp) (sym w.becomes.list) (without-middle cmp front gone behind (subst (IsIncreasing cmp) w.list_was up))

    outside-is : entries_outside cmp lo hi (front ++ behind) ≡ entries_outside cmp lo hi es
    outside-is = let q = λ (y : K × X). not (s y && not (t y)) in
        filter-append q front behind ∙ sym (ap (filter q) w.list_was ∙ filter-append q front (gone ++ behind) ∙ ap (λ z. filter q front ++ z) (filter-append q gone behind ∙ ap (λ z. z ++ filter q behind) inside.1))

    abbrev n : ℕ
    n = length (entries_between cmp lo hi es)

    abbrev left : ℕ
    left = length (entries_between cmp lo hi (front ++ behind))

    left-is : left + length gone ≡ n
    left-is = let q = λ (y : K × X). s y && not (t y) in
        omega (arith, ap length (filter-append q front behind), ap length (ap (filter q) w.list_was), ap length (filter-append q front (gone ++ behind)), ap length (filter-append q gone behind), ap length inside.0, length-append (filter q front) (filter q behind), length-append (filter q front) (filter q (gone ++ behind)), length-append (filter q gone) (filter q behind))

    -- where the end is
    abbrev end-front : ℕ
    end-front = count_by (λ y. not (t y)) front

    abbrev end-behind : ℕ
    end-behind = count_by (λ y. not (t y)) behind

    end-is : end_place cmp hi es ≡ end-front + (length gone + end-behind)
    end-is = omega (arith, ap (count_by (λ y. not (t y))) w.list_was, count-append (λ y. not (t y)) front (gone ++ behind), count-append (λ y. not (t y)) gone behind, count-all t gone w.within)

    -- where an entry went, the whole leaf is in front of the end
    whole-front : (gone ≡ [] → ⊥) → end-front ≡ length front
    whole-front some = go gone refl some
      where
        go : (g : List (K × X)) → gone ≡ g → (gone ≡ [] → ⊥) → end-front ≡ length front
        go [] is some = absurd (some is)
        go (e ∷ g) is some = count-all t front (front-inside s t front e (g ++ behind) (subst (λ z. Rises t (front ++ (z ++ behind))) is rises-end) (subst (AllByRecursion (λ y. t y ≡ false)) is w.within).0)

    front-low : end-front ≤ length front
    front-low = count_by-le-length (λ y. not (t y)) front

    few : total dropped ≤ (p + n) - (total before + size)
    few = go gone refl
      where
        go : (g : List (K × X)) → gone ≡ g → total dropped ≤ (p + n) - (total before + size)
        go [] is = omega (arith, w.gone_is, ap length is)
        go (e ∷ g) is = let f = whole-front (λ none. absurd (let bad = sym none ∙ is in cc)) in omega (arith, w.gone_is, f, between-is, end-is, w.low, w.front_is)

    module _ (stops : Stops cmp hi behind after) where
      more : (x : ℕ) (others : List ℕ) → after ≡ x ∷ others → (p + n) - (total before + size) < total dropped + x
      more x others is = let g = stops.past x others is in
          let rises = all-rises front (gone ++ behind) rises-end in
          let low = few-inside s t g.0 g.1 g.2 (subst (Rises t) g.3 (all-rises gone behind rises)) g.5 in
          omega (arith, low, ap (count_by (λ y. not (t y))) g.3, g.4, w.gone_is, front-low, between-is, end-is, w.low, w.front_is)
        where
          all-rises : (xs ys : List (K × X)) → Rises t (xs ++ ys) → Rises t ys
          all-rises [] ys r = r
          all-rises (x ∷ xs) ys r = all-rises xs ys r.1

      -- what both removals leave
      pub parted-between : {f : Forest K X} {h : Option ℕ} {changed : Bool} → (lo ≡ Unbounded → ⊥) → (hi ≡ Unbounded → ⊥) → Parted most cmp lo hi f₁ h₁ changed f h → RemovesBetween most cmp lo hi f₀ h₀ changed f h
      parted-between {f} {h} {changed} start end r = record {
        removed = becomes;
        changed = told;
        found = λ q. ap (λ l. value_for cmp l q) becomes.list ∙ outside-value cmp lo hi total_order es q up;
        sizes = sizes ∙ sym (bounded most lo hi p n (sizes_of f₀ h₀) start end);
        same_levels = (lowers-both h₀ h₁ h w.lowers r.lowers).same_levels;
        account = record {
          slots = r.account.slots ∙ w.gives.slots;
          free = omega (arith, r.account.free, w.gives.free);
          memory = r.account.memory ∙ w.gives.memory;
        };
        increasing = subst (IsIncreasing cmp) (sym becomes.list) (outside-up cmp lo hi es up);
        fewer = outside-fewer cmp lo hi es becomes.list told;
        same_forest = λ off. (kept (none off)).0;
        same_handle = λ off. (kept (none off)).1;
      }
        where
          becomes : Becomes f₀ h₀ f h (entries_outside cmp lo hi es)
          becomes = becomes-both f₀ f₁ f h₀ h₁ h _ _ w.becomes (subst (Becomes f₁ h₁ f h) (ap (entries_outside cmp lo hi) w.becomes.list ∙ outside-is) r.removed)

          none-all : left ≡ 0 → n ≡ 0
          none-all z = go gone refl
            where
              go : (g : List (K × X)) → gone ≡ g → n ≡ 0
              go [] is = omega (arith, z, left-is, ap length is)
              go (e ∷ g) is = let f = whole-front (λ none. absurd (let bad = sym none ∙ is in cc)) in absurd (omega (arith, z, left-is, f, between-is, end-is, w.low, w.front_is))

          told : changed ≡ nat_lt 0 n
          told = r.changed_is ∙ ap (λ l. nat_lt 0 (length (entries_between cmp lo hi l))) w.becomes.list ∙ lt-same left n none-all (λ z. omega (arith, z, left-is))

          none : changed ≡ false → n ≡ 0
          none off = none-all (zero-by left (ap (λ l. nat_lt 0 (length (entries_between cmp lo hi l))) (sym w.becomes.list) ∙ sym r.changed_is ∙ off))

          kept : n ≡ 0 → (f ≡ f₀) × (h ≡ h₀)
          kept z = let g = w.same (nil_from_length gone (omega (arith, z, left-is))) in
              let r' = r.same (ap (λ l. length (entries_between cmp lo hi l)) w.becomes.list ∙ omega (arith, z, left-is)) in (r'.0 ∙ g.0, r'.1 ∙ g.1)

          now : sizes_of f h ≡ removals most p left (sizes_of f₁ h₁)
          now = r.sizes ∙ ap (λ q. removals most q (length (entries_between cmp lo hi (list_of f₁ h₁))) (sizes_of f₁ h₁)) start-kept ∙ ap (λ l. removals most p (length (entries_between cmp lo hi l)) (sizes_of f₁ h₁)) w.becomes.list

          sizes : sizes_of f h ≡ without_range most p n (sizes_of f₀ h₀)
          sizes = go n refl
            where
              go : (m : ℕ) → n ≡ m → sizes_of f h ≡ without_range most p n (sizes_of f₀ h₀)
              go zero is = let k = kept is in ap (λ z. sizes_of z h) k.0 ∙ ap (sizes_of f₀) k.1 ∙ ap (λ m. without_range most p m (sizes_of f₀ h₀)) (sym is)
              go (suc m) is = now ∙ ap (λ q. removals most p q (sizes_of f₁ h₁)) (let q : left ≡ n - total dropped = omega (arith, left-is, w.gone_is) in q)
                  ∙ ap (removals most p (n - total dropped)) (w.sizes ∙ ap (without_leaves (length before) (length dropped)) w.sizes_were)
                  ∙ sym (ap (without_range most p n) w.sizes_were ∙ range-is most p n before size dropped after w.levels (omega (arith, is)) w.from w.low few more)

-- whole leaves went from a path on that stands where the range starts, or stands at the end
module _ {K X : Type 0} {most : ℕ} {cmp : K → K → Ordering} {lo hi : Bound K} {f₀ f₁ : Forest K X} {h₀ h₁ : Option ℕ} {path path₁ : Path K X most} (total_order : IsTotalOrder cmp) (up : IsIncreasing cmp (list_of f₀ h₀))
    (spot : IsSpot f₀ h₀ path (start_place cmp lo (list_of f₀ h₀))) (forest : IsAtEnd path → f₁ ≡ f₀) (handle : IsAtEnd path → h₁ ≡ h₀) (same : IsAtEnd path → path₁ ≡ path)
    (thinned : ¬ (IsAtEnd path) → (at : AtSpot f₀ h₀ path) → (t : Thinned most cmp hi f₀ h₀ at.place f₁ h₁ path₁) × Stops cmp hi t.behind t.after) where
  -- the other entries are removed from there on
  pub leaves-first : IsUnion most f₁ → IsUnion most f₀ → IsLive f₀ h₀ → Parting most cmp lo hi f₁ h₁ f₁ h₁ path₁ false
  leaves-first union₁ union live = elim (cases_lt 0 path.size) [
    | inl some ↦ (let t = (thinned (λ end. omega (arith, end, some)) (record { place = start_place cmp lo (list_of f₀ h₀); spot = spot })).0 in
        parting-first union₁ t.becomes.live (subst (IsSpot f₁ h₁ path₁) (sym (start-kept most cmp lo hi f₀ h₀ total_order up t)) t.spot))
    | inr none ↦ (let end : path.size ≡ 0 = omega (arith, none) in rw (forest end, handle end, same end) (parting-first union live spot))
  ]

  -- all entries within the bounds are removed where the loop removes those that the leaves left
  pub leaves-between : {f : Forest K X} {h : Option ℕ} {changed : Bool} → (lo ≡ Unbounded → ⊥) → (hi ≡ Unbounded → ⊥) → (IsIncreasing cmp (list_of f₁ h₁) → Parted most cmp lo hi f₁ h₁ changed f h) → RemovesBetween most cmp lo hi f₀ h₀ changed f h
  leaves-between {f} {h} {changed} start end parted = elim (cases_lt 0 path.size) [
    | inl some ↦ (let t = thinned (λ end. omega (arith, end, some)) (record { place = start_place cmp lo (list_of f₀ h₀); spot = spot }) in
        parted-between most cmp lo hi f₀ h₀ total_order up t.0 t.1 start end (parted (thinned-up most cmp lo hi f₀ h₀ total_order up t.0)))
    | inr none ↦ (let last : path.size ≡ 0 = omega (arith, none) in
        parted-alone most cmp lo hi f₀ h₀ total_order up (spot-last f₀ path h₀ _ spot last) start end
        (subst (λ z. Parted most cmp lo hi f₀ z changed f h) (handle last) (subst (λ z. Parted most cmp lo hi z h₁ changed f h) (forest last) (parted (rw (forest last, handle last) up)))))
  ]
