-- The entries within bounds are a slice of a list that increases.
use Rattle.bforest_trees.proofs.ranges.Slices.{Rises, count-cons, count-same, last-taken, slice-filter}
use Rattle.bforest_nodes.proofs.Found.{place-present, search_of-keys_of}
use Rattle.bforest_nodes.proofs.Searched.{up_to-absent as keys-up_to-absent, up_to-found}
use Rattle.bforest_nodes.specs.Entries.{IsIncreasing, is_present, place, search_for, value_for}
use Rattle.bforest_nodes.specs.Search.{count_up_to}
use Rattle.bforest_trees.proofs.Putting.{absent-told, present-told}
use Rattle.bforest_trees.specs.Bounds.{end_place, entries_between, entry_at_most, is_from_start, is_past_end, start_place}
use Rattle.bforest_core.specs.Leaves.{entry_up_to}
use Rattle.bforest_core.specs.Place.{entry_before}
use Rattle.std.proofs.Common.{Bool, Err, List, None, Ok, Option, [], ap, arith, cond, false, if◌then◌else◌, length, min, not, refl, slice_get, slice_range, suc, sym, take, true, ◌&&◌, ◌+◌, ◌-◌, ◌∙◌, ◌∷◌, ◌≡◌, ◌≤◌}
use Rattle.std.proofs.lemmas.List.Elements.{filter_agree}
use Rattle.std.proofs.lemmas.List.Sums.{count_by-le-length}
use Rattle.std.specs.Cmp.{IsTotalOrder}
use Rattle.std.specs.List.Sorted.{IsStrictlySortedBy}
use Rattle.std.specs.List.{AllByRecursion, last_or}
use Rattle.std.specs.Map.{keys_of}
use Rattle.std.specs.Option.{is_some}
use Rattle.std.specs.Ordering.{is_gt, is_le, is_lt, ordering_reverse}
use Rattle.std.specs.declared.cmp.Ordering.TheVariants.{Equal, Greater, Less}
use Rattle.std.specs.declared.cmp.Ordering.{Ordering}
use Rattle.std.specs.declared.ops.Bound.TheVariants.{Excluded, Included, Unbounded}
use Rattle.std.specs.declared.ops.Bound.{Bound}

-- a test of an ordering that holds of keys behind a bound alone
record IsBehind (t : Ordering → Bool) : Type 0 where
  behind : t Less ≡ true
  only : t Greater ≡ false

lt-behind : IsBehind is_lt
lt-behind = record { behind = refl; only = refl }

le-behind : IsBehind is_le
le-behind = record { behind = refl; only = refl }

module _ {K : Type 0} (cmp : K → K → Ordering) (o : IsTotalOrder cmp) where
  -- how two keys compare, from the reversed comparison
  reversed-le : (a k : K) → is_lt (cmp k a) ≡ not (is_le (cmp a k))
  reversed-le a k = ap is_lt (o.antisymm k a) ∙ go (cmp a k)
    where
      go : (r : Ordering) → is_lt (ordering_reverse r) ≡ not (is_le r)
      go Less = refl
      go Equal = refl
      go Greater = refl

  reversed-lt : (a k : K) → is_gt (cmp k a) ≡ is_lt (cmp a k)
  reversed-lt a k = ap is_gt (o.antisymm k a) ∙ go (cmp a k)
    where
      go : (r : Ordering) → is_gt (ordering_reverse r) ≡ is_lt r
      go Less = refl
      go Equal = refl
      go Greater = refl

  module _ {X : Type 0} (t : Ordering → Bool) (b : IsBehind t) (a : K) where
    -- where a bound is before a key, it is before all keys behind that key
    passed : (e : K × X) (es : List (K × X)) → t (cmp a e.0) ≡ true → AllByRecursion (λ y. cmp e.0 y ≡ Less) (keys_of es) → AllByRecursion (λ (y : K × X). t (cmp a y.0) ≡ true) es
    passed e [] h l = tt
    passed e (x ∷ es) h l = (ap t (go (cmp a e.0) refl h) ∙ b.behind, passed e es h l.1)
      where
        go : (r : Ordering) → cmp a e.0 ≡ r → t (cmp a e.0) ≡ true → cmp a x.0 ≡ Less
        go Less r h = o.trans a e.0 x.0 r l.0
        go Equal r h = o.congr a e.0 x.0 r ∙ l.0
        go Greater r h = let bad : t (cmp a e.0) ≡ false = ap t r ∙ b.only in absurd (cc)

    bound-rises : (es : List (K × X)) → IsIncreasing cmp es → Rises (λ e. t (cmp a e.0)) es
    unfolding IsStrictlySortedBy
    bound-rises [] h = tt
    bound-rises (e ∷ es) h = (λ on. passed e es on h.0, bound-rises es h.1)

  module _ {X : Type 0} where
    always-rises : (b : Bool) (es : List (K × X)) → Rises (λ e. b) es
    always-rises b [] = tt
    always-rises b (e ∷ es) = (λ on. all es on, always-rises b es)
      where
        all : (es : List (K × X)) → b ≡ true → AllByRecursion (λ y. b ≡ true) es
        all [] on = tt
        all (e ∷ es) on = (on, all es on)

    pub start-rises : (lo : Bound K) (es : List (K × X)) → IsIncreasing cmp es → Rises (λ e. is_from_start cmp lo e.0) es
    start-rises (Included a) es h = bound-rises is_le le-behind a es h
    start-rises (Excluded a) es h = bound-rises is_lt lt-behind a es h
    start-rises Unbounded es h = always-rises true es

    pub end-rises : (hi : Bound K) (es : List (K × X)) → IsIncreasing cmp es → Rises (λ e. is_past_end cmp hi e.0) es
    end-rises (Included a) es h = bound-rises is_lt lt-behind a es h
    end-rises (Excluded a) es h = bound-rises is_le le-behind a es h
    end-rises Unbounded es h = always-rises false es

    -- the entries within bounds are those between two places
    pub slice-between : (lo hi : Bound K) (es : List (K × X)) → IsIncreasing cmp es → entries_between cmp lo hi es ≡ slice_range es (start_place cmp lo es) (end_place cmp hi es)
    slice-between lo hi es h = slice-filter (λ e. is_from_start cmp lo e.0) (λ e. is_past_end cmp hi e.0) es (start-rises lo es h) (end-rises hi es h)

    -- the start place of a bound that includes a key is the key's place
    pub start-included : (a : K) (es : List (K × X)) → place cmp es a ≡ start_place cmp (Included a) es
    start-included a es = count-same (λ e. is_lt (cmp e.0 a)) (λ e. not (is_le (cmp a e.0))) (λ e. reversed-le a e.0) es

    -- the start place of no bound is 0
    pub start-unbounded : (es : List (K × X)) → start_place cmp Unbounded es ≡ 0
    start-unbounded [] = refl
    start-unbounded (e ∷ es) = count-cons (λ _. false) e es false refl ∙ (let n = start-unbounded es in omega (arith, n))

    -- the end place of no bound is the length
    pub end-unbounded : (es : List (K × X)) → end_place cmp Unbounded es ≡ length es
    end-unbounded [] = refl
    end-unbounded (e ∷ es) = count-cons (λ _. true) e es true refl ∙ (let n = end-unbounded es in omega (arith, n))

    -- an end place is at most the length
    end-most : (hi : Bound K) (es : List (K × X)) → end_place cmp hi es ≤ length es
    end-most hi es = count_by-le-length (λ e. not (is_past_end cmp hi e.0)) es

    -- the end place of a bound that includes a key is the number of keys that are not greater
    end-counted : (a : K) (es : List (K × X)) → end_place cmp (Included a) es ≡ count_up_to cmp (keys_of es) a
    end-counted a [] = refl
    end-counted a (e ∷ es) =
        count-cons (λ y. not (is_lt (cmp a y.0))) e es (not (is_gt (cmp e.0 a))) (ap not (sym (reversed-lt a e.0))) ∙ ap (λ n. cond (not (is_gt (cmp e.0 a))) 1 0 + n) (end-counted a es) ∙ sym (count-cons (λ y. not (is_gt (cmp y a))) e.0 (keys_of es) (not (is_gt (cmp e.0 a))) refl)

    module _ (a : K) (es : List (K × X)) (h : IsIncreasing cmp es) where
      searched : (b : Bool) → is_present cmp es a ≡ b → search_for cmp es a ≡ (if b then Ok (place cmp es a) else Err (place cmp es a))
      searched b e = ap (λ z. if z then Ok (place cmp es a) else Err (place cmp es a)) e

      -- where a key is present, its end place is one behind its own place
      pub up-to-present : is_present cmp es a ≡ true → end_place cmp (Included a) es ≡ suc (place cmp es a)
      up-to-present here = end-counted a es ∙ up_to-found cmp a o (keys_of es) (place cmp es a) h (search_of-keys_of cmp es a ∙ searched true here)

      -- where a key is absent, its end place is its own place
      pub up-to-absent : is_present cmp es a ≡ false → end_place cmp (Included a) es ≡ place cmp es a
      up-to-absent gone = end-counted a es ∙ keys-up_to-absent cmp a o (keys_of es) (place cmp es a) h (search_of-keys_of cmp es a ∙ searched false gone)

      -- where a search found a key, one step leads to its end place
      pub behind-found : (v : Option X) → v ≡ value_for cmp es a → is_some v ≡ true → min (place cmp es a + 1) (length es) ≡ end_place cmp (Included a) es
      behind-found v is some = let here = present-told cmp es a (sym (ap is_some is) ∙ some) in omega (arith, place-present cmp es a here, up-to-present here)

      -- where a search found no key, it ended at the key's end place
      pub behind-missed : (v : Option X) → v ≡ value_for cmp es a → is_some v ≡ false → place cmp es a ≡ end_place cmp (Included a) es
      behind-missed v is none = sym (up-to-absent (absent-told cmp es a (sym (ap is_some is) ∙ none)))

      -- the last entry up to a key is the one before the key's end place
      at-most-before : entry_at_most cmp es a ≡ entry_before es (end_place cmp (Included a) es)
      at-most-before =
          let last = end_place cmp (Included a) es in
          let whole : last - 0 ≡ last = omega arith in
          ap (last_or None) (filter_agree (λ e. not (is_gt (cmp e.0 a))) (λ e. true && not (is_lt (cmp a e.0))) (λ e. ap not (reversed-lt a e.0)) es ∙ slice-between Unbounded (Included a) es h
          ∙ ap (λ i. slice_range es i last) (start-unbounded es) ∙ ap (λ n. take n es) whole)
          ∙ last-taken es last (end-most (Included a) es)

      -- the last entry up to a key is its own where it is present, else the one before its place
      pub at-most : entry_up_to cmp es a ≡ entry_at_most cmp es a
      at-most = go (is_present cmp es a) refl
        where
          go : (b : Bool) → is_present cmp es a ≡ b → entry_up_to cmp es a ≡ entry_at_most cmp es a
          go true here = (λ j. if here j then slice_get es (place cmp es a) else entry_before es (place cmp es a)) ∙ sym (at-most-before ∙ ap (entry_before es) (up-to-present here))
          go false gone = (λ j. if gone j then slice_get es (place cmp es a) else entry_before es (place cmp es a)) ∙ sym (at-most-before ∙ ap (entry_before es) (up-to-absent gone))
