-- The place of a range's limit in a list, and in a leaf.
use Rattle.bforest_trees.proofs.ranges.Between.{start-included, start-unbounded, end-unbounded, up-to-absent, up-to-present}
use Rattle.bforest_trees.proofs.Held.{start-is}
use Rattle.bforest_trees.proofs.Putting.{absent-told, present-told}
use Rattle.bforest_trees.proofs.ranges.Slices.{count-cons}
use Rattle.bforest_trees.specs.Bounds.{end_place, start_place}
use Rattle.bforest_trees.specs.Looks.{start_of}
use Rattle.bforest_trees.specs.Range.{limit_of_end, limit_of_start, limit_place}
use Rattle.bforest_trees.specs.declared.trees.range.Limit.{Limit}
use Rattle.bforest_core.proofs.table.Stored.{read_as}
use Rattle.bforest_core.proofs.walks.LeafSearch.{looked}
use Rattle.bforest_core.specs.Leaves.{SearchEndsAt}
use Rattle.bforest_core.specs.Place.{leaf_content}
use Rattle.bforest_core.specs.Paths.{list_under}
use Rattle.bforest_core.specs.Table.{Table}
use Rattle.bforest_nodes.specs.Content.{Content, keys_of, vals_of}
use Rattle.bforest_nodes.specs.Entries.{IsIncreasing, is_present, place, value_for}
use Rattle.bforest_nodes.specs.Search.{search_of}
use Rattle.std.proofs.Common.{Bool, Err, IfSome, List, None, Ok, Option, Some, [], ap, arith, cond, false, if◌then◌else◌, length, not, refl, slice_get, sym, true, ◌+◌, ◌∙◌, ◌∷◌, ◌≡◌, ◌≤◌, ℕ}
use Rattle.std.proofs.lemmas.Cmp.{alike_right}
use Rattle.std.proofs.lemmas.List.Sums.{count_by-le-length}
use Rattle.std.specs.Cmp.{IsTotalOrder}
use Rattle.std.specs.List.Sorted.{IsStrictlySortedBy}
use Rattle.std.specs.Option.{is_some}
use Rattle.std.specs.Ordering.{is_gt, is_lt, ordering_reverse}
use Rattle.std.specs.Prelude.{count_by}
use Rattle.std.specs.declared.cmp.Ordering.TheVariants.{Equal, Greater, Less}
use Rattle.std.specs.declared.cmp.Ordering.{Ordering}
use Rattle.std.specs.declared.ops.Bound.TheVariants.{Excluded, Included, Unbounded}
use Rattle.std.specs.declared.ops.Bound.{Bound}

-- where one test holds only where another does, it holds no more often
count-most : {A : Type 0} (s t : A → Bool) → ((e : A) → s e ≡ true → t e ≡ true) → (es : List A) → count_by s es ≤ count_by t es
count-most s t more [] = omega arith
count-most s t more (e ∷ es) = omega (arith, count-cons s e es (s e) refl, count-cons t e es (t e) refl, count-most s t more es, one (s e) (t e) (more e))
  where
    one : (a b : Bool) → (a ≡ true → b ≡ true) → cond a 1 0 ≤ cond b 1 0
    one false b imp = omega arith
    one true true imp = omega arith
    one true false imp = absurd (let bad = imp refl in cc)

module _ {K : Type 0} (cmp : K → K → Ordering) (o : IsTotalOrder cmp) where
  less-told : (r : Ordering) → is_lt r ≡ true → r ≡ Less
  less-told Less t = refl
  less-told Equal t = absurd (cc)
  less-told Greater t = absurd (cc)

  greater-told : (r : Ordering) → is_gt r ≡ true → r ≡ Greater
  greater-told Less t = absurd (cc)
  greater-told Equal t = absurd (cc)
  greater-told Greater t = refl

  -- a key less than the first of two that are in order is less than the second
  less-through : (from to e : K) → is_gt (cmp from to) ≡ false → cmp e from ≡ Less → cmp e to ≡ Less
  less-through from to e ordered low = go (cmp from to) refl
    where
      go : (r : Ordering) → cmp from to ≡ r → cmp e to ≡ Less
      go Less t = o.trans e from to low t
      go Equal t = sym (alike_right o from to e t) ∙ low
      go Greater t = absurd (let bad : true ≡ false = sym (ap is_gt t) ∙ ordered in cc)

  -- a key that is greater than the second of two that are in order is greater than the first
  greater-through : (from to e : K) → is_gt (cmp from to) ≡ false → cmp to e ≡ Less → cmp from e ≡ Less
  greater-through from to e ordered low = go (cmp from to) refl
    where
      go : (r : Ordering) → cmp from to ≡ r → cmp from e ≡ Less
      go Less t = o.trans from to e t low
      go Equal t = o.congr from to e t ∙ low
      go Greater t = absurd (let bad : true ≡ false = sym (ap is_gt t) ∙ ordered in cc)

  -- what is not greater than a key is less than one that is greater
  less-crossed : (from to e : K) → is_gt (cmp from to) ≡ true → is_lt (cmp to e) ≡ false → cmp e from ≡ Less
  less-crossed from to e crossed low = go (cmp e to) refl
    where
      less : cmp to from ≡ Less
      less = o.antisymm to from ∙ ap ordering_reverse (greater-told (cmp from to) crossed)

      go : (r : Ordering) → cmp e to ≡ r → cmp e from ≡ Less
      go Less t = o.trans e to from t less
      go Equal t = o.congr e to from t ∙ less
      go Greater t = absurd (let bad : true ≡ false = sym (ap is_lt (o.antisymm to e ∙ ap ordering_reverse t)) ∙ low in cc)

  not-less : (k e : K) → cmp e k ≡ Less → is_lt (cmp k e) ≡ false
  not-less k e low = ap is_lt (o.antisymm k e ∙ ap ordering_reverse low)

  unflip : (b : Bool) → not b ≡ true → b ≡ false
  unflip true t = absurd (cc)
  unflip false t = refl

  module _ {X : Type 0} (es : List (K × X)) where
    -- of two keys in order the first has no later place, and no later end place
    pub places-rise : (from to : K) → is_gt (cmp from to) ≡ false → place cmp es from ≤ place cmp es to
    places-rise from to ordered = count-most (λ e. is_lt (cmp e.0 from)) (λ e. is_lt (cmp e.0 to)) (λ e low. ap is_lt (less-through from to e.0 ordered (less-told (cmp e.0 from) low))) es

    pub ends-rise : (from to : K) → is_gt (cmp from to) ≡ false → end_place cmp (Included from) es ≤ end_place cmp (Included to) es
    ends-rise from to ordered = count-most (λ e. not (is_lt (cmp from e.0))) (λ e. not (is_lt (cmp to e.0))) (λ e kept. go e (is_lt (cmp to e.0)) refl kept) es
      where
        go : (e : K × X) (b : Bool) → is_lt (cmp to e.0) ≡ b → not (is_lt (cmp from e.0)) ≡ true → not b ≡ true
        go e false t kept = refl
        go e true t kept = absurd (let bad : false ≡ true = sym (ap not (ap is_lt (greater-through from to e.0 ordered (less-told (cmp to e.0) t)))) ∙ kept in cc)

    crossed-places : (from to : K) → is_gt (cmp from to) ≡ true → end_place cmp (Included to) es ≤ place cmp es from
    crossed-places from to crossed = count-most (λ e. not (is_lt (cmp to e.0))) (λ e. is_lt (cmp e.0 from)) (λ e kept. ap is_lt (less-crossed from to e.0 crossed (unflip (is_lt (cmp to e.0)) kept))) es

    place-most : (k : K) → place cmp es k ≤ end_place cmp (Included k) es
    place-most k = count-most (λ e. is_lt (cmp e.0 k)) (λ e. not (is_lt (cmp k e.0))) (λ e low. ap not (not-less k e.0 (less-told (cmp e.0 k) low))) es

    limit-is : (l : Limit K) (b : Bool) → l.is_behind ≡ b → limit_place cmp l es ≡ (if b then end_place cmp (Included l.key) es else place cmp es l.key)
    limit-is l b is = ap (λ z. if z then end_place cmp (Included l.key) es else place cmp es l.key) is

    -- limits whose keys are the wrong way round
    pub limits-crossed : (start stop : Limit K) → is_gt (cmp start.key stop.key) ≡ true → limit_place cmp stop es ≤ limit_place cmp start es
    limits-crossed start stop crossed = go start.is_behind refl stop.is_behind refl
      where
        go : (a : Bool) → start.is_behind ≡ a → (b : Bool) → stop.is_behind ≡ b → limit_place cmp stop es ≤ limit_place cmp start es
        go true s true t = omega (arith, limit-is start true s, limit-is stop true t, crossed-places start.key stop.key crossed, place-most start.key)
        go true s false t = omega (arith, limit-is start true s, limit-is stop false t, crossed-places start.key stop.key crossed, place-most start.key, place-most stop.key)
        go false s true t = omega (arith, limit-is start false s, limit-is stop true t, crossed-places start.key stop.key crossed)
        go false s false t = omega (arith, limit-is start false s, limit-is stop false t, crossed-places start.key stop.key crossed, place-most stop.key)

    -- a limit is at most at the end
    pub limit-most : (l : Limit K) → limit_place cmp l es ≤ length es
    limit-most l = go l.is_behind refl
      where
        go : (b : Bool) → l.is_behind ≡ b → limit_place cmp l es ≤ length es
        go true s = omega (arith, limit-is l true s, count_by-le-length (λ e. not (is_lt (cmp l.key e.0))) es)
        go false s = omega (arith, limit-is l false s, count_by-le-length (λ e. is_lt (cmp e.0 l.key)) es)

    -- the limits of bounds are where a range starts and ends
    pub start-limit : (bound : Bound K) (l : Limit K) → limit_of_start bound ≡ Some l → limit_place cmp l es ≡ start_place cmp bound es
    start-limit (Included a) l is = (let same : l ≡ record { key = a; is_behind = false } = cc in ap (λ z. limit_place cmp z es) same) ∙ start-included cmp o a es
    start-limit (Excluded a) l is = let same : l ≡ record { key = a; is_behind = true } = cc in ap (λ z. limit_place cmp z es) same
    start-limit Unbounded l is = absurd (cc)

    pub no-start : (bound : Bound K) → limit_of_start bound ≡ None → start_place cmp bound es ≡ 0
    no-start (Included a) is = absurd (cc)
    no-start (Excluded a) is = absurd (cc)
    no-start Unbounded is = start-unbounded cmp o es

    pub end-limit : (bound : Bound K) (l : Limit K) → limit_of_end bound ≡ Some l → limit_place cmp l es ≡ end_place cmp bound es
    end-limit (Included a) l is = let same : l ≡ record { key = a; is_behind = true } = cc in ap (λ z. limit_place cmp z es) same
    end-limit (Excluded a) l is = (let same : l ≡ record { key = a; is_behind = false } = cc in ap (λ z. limit_place cmp z es) same) ∙ start-included cmp o a es
    end-limit Unbounded l is = absurd (cc)

    pub no-end : (bound : Bound K) → limit_of_end bound ≡ None → end_place cmp bound es ≡ length es
    no-end (Included a) is = absurd (cc)
    no-end (Excluded a) is = absurd (cc)
    no-end Unbounded is = end-unbounded cmp o es

    -- what a search among entries tells of a limit
    module _ (l : Limit K) (up : IsIncreasing cmp es) {index : ℕ} {found : Option X} (told : (index ≡ place cmp es l.key) × (found ≡ value_for cmp es l.key)) where
      pub limit-behind : l.is_behind ≡ true → is_some found ≡ true → index + 1 ≡ limit_place cmp l es
      limit-behind behind some = omega (arith, told.0, limit-is l true behind, up-to-present cmp o l.key es up (present-told cmp es l.key (sym (ap is_some told.1) ∙ some)))

      pub limit-missed : l.is_behind ≡ true → is_some found ≡ false → index ≡ limit_place cmp l es
      limit-missed behind none = omega (arith, told.0, limit-is l true behind, up-to-absent cmp o l.key es up (absent-told cmp es l.key (sym (ap is_some told.1) ∙ none)))

      pub limit-at : l.is_behind ≡ false → index ≡ limit_place cmp l es
      limit-at behind = omega (arith, told.0, limit-is l false behind)

  module _ {X : Type 0} {table : Table K X} {root : ℕ} where
    -- a limit's place in the list is that in the leaf in which a search for its key ends
    module _ (l : Limit K) {p number : ℕ} (s : SearchEndsAt cmp table root l.key p number) (up : IsIncreasing cmp (list_under table root)) where
      pub limit-in-leaf : limit_place cmp l (list_under table root) ≡ start_of table root p + limit_place cmp l s.leaf.entries
      limit-in-leaf = go l.is_behind refl (is_present cmp s.leaf.entries l.key) refl
        where
          all : List (K × X)
          all = list_under table root

          es : List (K × X)
          es = s.leaf.entries

          go : (b : Bool) → l.is_behind ≡ b → (here : Bool) → is_present cmp es l.key ≡ here → limit_place cmp l all ≡ start_of table root p + limit_place cmp l es
          go false t here e = omega (arith, limit-is all l false t, limit-is es l false t, s.tells.place_is, start-is table s.leaf)
          go true t true e = omega (arith, limit-is all l true t, limit-is es l true t, s.tells.place_is, start-is table s.leaf, up-to-present cmp o l.key all up (s.tells.found_is ∙ e), up-to-present cmp o l.key es s.tells.increasing e)
          go true t false e = omega (arith, limit-is all l true t, limit-is es l true t, s.tells.place_is, start-is table s.leaf, up-to-absent cmp o l.key all up (s.tells.found_is ∙ e), up-to-absent cmp o l.key es s.tells.increasing e)

-- what a look-up in a leaf's slot tells of the leaf's entries
pub told-of : {K V : Type 0} (cmp : K → K → Ordering) (o : IsTotalOrder cmp) {read : Option (Content K V)} (first : List (K × V)) → read ≡ Some (leaf_content first) → IsIncreasing cmp first
    → (entries : List (K × V)) → read ≡ Some (leaf_content entries) → {content : Content K V} → read ≡ Some content → (key : K) → {found : Option V} {index : ℕ}
    → IfSome found (λ v. search_of cmp (keys_of content) key ≡ Ok index) → IfSome found (λ v. slice_get (vals_of content) index ≡ Some v)
    → (found ≡ None → search_of cmp (keys_of content) key ≡ Err index) → (index ≡ place cmp entries key) × (found ≡ value_for cmp entries key) × IsIncreasing cmp entries
told-of cmp o first had up entries slot read key {found} {index} present reads absent =
    let increasing = read_as had slot (λ z. IsStrictlySortedBy cmp (keys_of z)) up in
    let t = looked cmp entries key increasing found
    (read_as read slot (λ z. IfSome found (λ v. search_of cmp (keys_of z) key ≡ Ok index)) present)
    (read_as read slot (λ z. IfSome found (λ v. slice_get (vals_of z) index ≡ Some v)) reads)
    (read_as read slot (λ z. found ≡ None → search_of cmp (keys_of z) key ≡ Err index) absent) in
    (t.0, t.1, increasing)
