-- A key's place in an increasing list, found by steps along it, and what one list keeps of another.
use Rattle.bforest_core.proofs.table.Lists.{read_none}
use Rattle.bforest_nodes.proofs.Ordered.{above, place-here, place-later}
use Rattle.bforest_nodes.specs.Entries.{IsIncreasing, entry_for, is_present, place, value_for}
use Rattle.bforest_trees.specs.Keep.{Tells}
use Rattle.bforest_core.specs.Sizes.{shrink}
use Rattle.bforest_trees.specs.Retain.{AsksEach, kept_by, sizes_by}
use Rattle.bforest_trees.specs.Union.{fits, kept_from, kept_of, keeps_all}
use Rattle.std.proofs.Common.{Bool, List, None, Option, Some, [], ap, arith, cond, count_by, false, filter, if◌then◌else◌, inl, inr, length, nat_eq, not, refl, slice_get, suc, sym, true, zero, ◌+◌, ◌<◌, ◌∙◌, ◌∷◌, ◌≡◌, ◌≢◌, ◌&&◌, ◌≤◌, ℕ}
use Rattle.std.proofs.lemmas.Bool.Decides.{eqb_tells}
use Rattle.std.proofs.lemmas.List.Sums.{count_by-le-length, sum_by-cons}
use Rattle.std.specs.Cmp.{IsTotalOrder}
use Rattle.std.specs.List.Sorted.{IsStrictlySortedBy}
use Rattle.std.specs.List.{AllByRecursion}
use Rattle.std.specs.Map.{keys_of}
use Rattle.std.specs.Option.{is_some, option_and_then, option_map}
use Rattle.std.specs.Ordering.{is_eq, is_lt, ordering_reverse}
use Rattle.std.specs.declared.cmp.Ordering.TheVariants.{Equal, Greater, Less}
use Rattle.std.specs.declared.cmp.Ordering.{Ordering}

-- a test that an option passes where it is there
is_some-if : {X : Type 0} (b : Bool) (x : X) → is_some (if b then Some x else None) ≡ b
is_some-if true x = refl
is_some-if false x = refl

module _ {K X : Type 0} (cmp : K → K → Ordering) where
  -- whether the entry at a place has this key, and its value
  abbrev has_at : List (K × X) → K → Option (K × X) → Bool
  has_at es k found = is_some (option_and_then (λ (x : K × X). if is_eq (cmp x.0 k) then Some x else None) found)

  abbrev value_in : List (K × X) → K → ℕ → Option X
  value_in es k p = option_map (λ (x : K × X). x.1) (option_and_then (λ (x : K × X). if is_eq (cmp x.0 k) then Some x else None) (slice_get es p))

  -- a key below all others is below the one at a place
  below-at : (k : K) (es : List (K × X)) (p : ℕ) (e : K × X) → AllByRecursion (λ y. cmp k y ≡ Less) (keys_of es) → Some e ≡ slice_get es p → cmp k e.0 ≡ Less
  below-at k [] p e all here = absurd (cc)
  below-at k (x ∷ es) zero e all here = let same : e ≡ x = cc in ap (λ z. cmp k z.0) same ∙ all.0
  below-at k (x ∷ es) (suc p) e all here = below-at k es p e all.1 here

  module _ (o : IsTotalOrder cmp) where
    -- an entry with a lesser key is in front of the key's place
    pub place-behind : (es : List (K × X)) (p : ℕ) (e : K × X) (k : K) → IsIncreasing cmp es → Some e ≡ slice_get es p → cmp e.0 k ≡ Less → p < place cmp es k
    unfolding IsStrictlySortedBy
    place-behind [] p e k up here t = absurd (cc)
    place-behind (x ∷ es) zero e k up here t = let same : e ≡ x = cc in omega (arith, place-later cmp o x es k (ap (λ z. cmp z.0 k) (sym same) ∙ t))
    place-behind (x ∷ es) (suc p) e k up here t =
        omega (arith, place-later cmp o x es k (o.trans x.0 e.0 k (below-at x.0 es p e up.0 here) t), place-behind es p e k up.1 here t)

    -- an entry whose key is not less is at the key's place or behind it
    place-before : (es : List (K × X)) (p : ℕ) (e : K × X) (k : K) → IsIncreasing cmp es → Some e ≡ slice_get es p → is_lt (cmp e.0 k) ≡ false → place cmp es k ≤ p
    unfolding IsStrictlySortedBy
    place-before [] p e k up here t = absurd (cc)
    place-before (x ∷ es) zero e k up here t = let same : e ≡ x = cc in omega (arith, place-here cmp o x es k up (ap (λ z. is_lt (cmp z.0 k)) (sym same) ∙ t))
    place-before (x ∷ es) (suc p) e k up here t = go (cmp x.0 k) refl (place-before es p e k up.1 here t)
      where
        go : (r : Ordering) → cmp x.0 k ≡ r → place cmp es k ≤ p → place cmp (x ∷ es) k ≤ suc p
        go Less s low = omega (arith, place-later cmp o x es k s, low)
        go Equal s low = omega (arith, place-here cmp o x es k up (ap is_lt s))
        go Greater s low = omega (arith, place-here cmp o x es k up (ap is_lt s))

    -- the first entry whose key is not less tells whether the key is present
    pub place-at : (es : List (K × X)) (p : ℕ) (e : K × X) (k : K) → IsIncreasing cmp es → Some e ≡ slice_get es p → p ≤ place cmp es k → is_lt (cmp e.0 k) ≡ false
        → (p ≡ place cmp es k) × (is_eq (cmp e.0 k) ≡ is_present cmp es k)
    place-at es p e k up here low t =
        let same : p ≡ place cmp es k = omega (arith, low, place-before es p e k up here t) in
        (same, sym (is_some-if (is_eq (cmp e.0 k)) e) ∙ ap (has_at es k) (here ∙ ap (slice_get es) same))

    -- a key whose place is behind all entries is absent
    pub place-end : (es : List (K × X)) (p : ℕ) (k : K) → None ≡ slice_get es p → p ≤ place cmp es k → (p ≡ place cmp es k) × (false ≡ is_present cmp es k)
    place-end es p k here low =
        let same : p ≡ place cmp es k = omega (arith, low, read_none es p here, count_by-le-length (λ (x : K × X). is_lt (cmp x.0 k)) es) in
        (same, ap (has_at es k) (here ∙ ap (slice_get es) same))

    -- a greater key has no lesser place
    pub place-grows : (es : List (K × X)) (k q : K) → cmp k q ≡ Less → place cmp es k ≤ place cmp es q
    place-grows [] k q less = omega arith
    place-grows (x ∷ es) k q less = go (cmp x.0 k) refl (place-grows es k q less)
      where
        counts : (j : K) → place cmp (x ∷ es) j ≡ cond (is_lt (cmp x.0 j)) 1 0 + place cmp es j
        counts j = sum_by-cons (λ (y : K × X). cond (is_lt (cmp y.0 j)) 1 0) x es

        not-first : is_lt (cmp x.0 k) ≡ false → place cmp es k ≤ place cmp es q → place cmp (x ∷ es) k ≤ place cmp (x ∷ es) q
        not-first t rest = omega (arith, counts q, counts k ∙ ap (λ b. cond b 1 0 + place cmp es k) t, rest)

        go : (r : Ordering) → cmp x.0 k ≡ r → place cmp es k ≤ place cmp es q → place cmp (x ∷ es) k ≤ place cmp (x ∷ es) q
        go Less t rest = omega (arith, place-later cmp o x es k t, place-later cmp o x es q (o.trans x.0 k q t less), rest)
        go Equal t rest = not-first (ap is_lt t) rest
        go Greater t rest = not-first (ap is_lt t) rest

    -- of two keys that compare equal, both have the same entry, and one is present where the other is
    pub entry-like : (others : List (K × X)) (k q : K) → cmp k q ≡ Equal → entry_for cmp others k ≡ entry_for cmp others q
    entry-like others k q t = ap entry_by (λ i x. same x i)
      where
        entry_by : (K → Ordering) → Option (K × X)
        entry_by to = option_and_then (λ (x : K × X). if is_eq (to x.0) then Some x else None) (slice_get others (count_by (λ (x : K × X). is_lt (to x.0)) others))

        same : (x : K) → cmp x k ≡ cmp x q
        same x = o.antisymm x k ∙ ap ordering_reverse (o.congr k q x t) ∙ sym (o.antisymm x q)

    pub present-like : (others : List (K × X)) (k q : K) → cmp k q ≡ Equal → is_present cmp others k ≡ is_present cmp others q
    present-like others k q t = ap is_some (entry-like others k q t)

module _ {K X : Type 0} (cmp : K → K → Ordering) where
  -- what a look-up tells at the first entry, from how its key compares and what the others tell
  abbrev pub answer : Ordering → X → Option X → Option X
  answer Less x further = further
  answer Equal x further = Some x
  answer Greater x further = None

  abbrev no_value : Option X
  no_value = None

  module _ (o : IsTotalOrder cmp) where
    pub value-step : (e : K × X) (es : List (K × X)) (k : K) → IsIncreasing cmp (e ∷ es) → value_for cmp (e ∷ es) k ≡ answer (cmp e.0 k) e.1 (value_for cmp es k)
    value-step e es k up = go (cmp e.0 k) refl
      where
        here : is_lt (cmp e.0 k) ≡ false → value_for cmp (e ∷ es) k ≡ option_map (λ (x : K × X). x.1) (if is_eq (cmp e.0 k) then Some e else None)
        here t = ap (value_in cmp (e ∷ es) k) (place-here cmp o e es k up t)

        found : Ordering → Option X
        found r = option_map (λ (x : K × X). x.1) (if is_eq r then Some e else None)

        go : (r : Ordering) → cmp e.0 k ≡ r → value_for cmp (e ∷ es) k ≡ answer (cmp e.0 k) e.1 (value_for cmp es k)
        go Less t = ap (value_in cmp (e ∷ es) k) (place-later cmp o e es k t) ∙ sym (ap (λ r. answer r e.1 (value_for cmp es k)) t)
        go Equal t = here (ap is_lt t) ∙ ap found t ∙ sym (ap (λ r. answer r e.1 (value_for cmp es k)) t)
        go Greater t = here (ap is_lt t) ∙ ap found t ∙ sym (ap (λ r. answer r e.1 (value_for cmp es k)) t)

    -- a key below all entries has no value
    pub beyond : (q : K) (es : List (K × X)) → AllByRecursion (λ y. cmp q y ≡ Less) (keys_of es) → IsIncreasing cmp es → value_for cmp es q ≡ None
    beyond q [] below up = refl
    beyond q (x ∷ es) below up = value-step x es q up ∙ ap (λ z. answer z x.1 (value_for cmp es q)) (o.antisymm x.0 q ∙ ap ordering_reverse below.0)

    module _ (test : K → Bool) (alike : (k q : K) → cmp k q ≡ Equal → test k ≡ test q) where
      abbrev passing : List (K × X) → List (K × X)
      passing es = filter (λ e. test e.0) es

      -- what holds of the first entry, from what holds of the others
      module _ (e : K × X) (es : List (K × X)) (q : K) (up : IsIncreasing cmp (e ∷ es)) (rest : value_for cmp (passing es) q ≡ (if test q then value_for cmp es q else None)) where
        all : (r : Ordering) → cmp e.0 q ≡ r → value_for cmp (e ∷ es) q ≡ answer r e.1 (value_for cmp es q)
        all r t = value-step e es q up ∙ ap (λ z. answer z e.1 (value_for cmp es q)) t

        neither : (b : Bool) → (if b then no_value else no_value) ≡ no_value
        neither true = refl
        neither false = refl

        kept-first : IsIncreasing cmp (e ∷ passing es) → test e.0 ≡ true → (r : Ordering) → cmp e.0 q ≡ r → value_for cmp (e ∷ passing es) q ≡ (if test q then value_for cmp (e ∷ es) q else None)
        kept-first up' b Less t =
            value-step e (passing es) q up' ∙ ap (λ z. answer z e.1 (value_for cmp (passing es) q)) t ∙ rest ∙ sym (ap (λ z. if test q then z else None) (all Less t))
        kept-first up' b Equal t =
            value-step e (passing es) q up' ∙ ap (λ z. answer z e.1 (value_for cmp (passing es) q)) t
            ∙ sym (ap (λ z. if z then value_for cmp (e ∷ es) q else None) (sym (alike e.0 q t) ∙ b) ∙ all Equal t)
        kept-first up' b Greater t =
            value-step e (passing es) q up' ∙ ap (λ z. answer z e.1 (value_for cmp (passing es) q)) t
            ∙ sym (ap (λ z. if test q then z else None) (all Greater t) ∙ neither (test q))

        gone-first : AllByRecursion (λ y. cmp e.0 y ≡ Less) (keys_of es) → IsIncreasing cmp es → test e.0 ≡ false → (r : Ordering) → cmp e.0 q ≡ r → value_for cmp (passing es) q ≡ (if test q then value_for cmp (e ∷ es) q else None)
        gone-first below up' b Less t = rest ∙ sym (ap (λ z. if test q then z else None) (all Less t))
        gone-first below up' b Equal t =
            let not_q : test q ≡ false = sym (alike e.0 q t) ∙ b in
            rest ∙ ap (λ z. if z then value_for cmp es q else None) not_q ∙ sym (ap (λ z. if z then value_for cmp (e ∷ es) q else None) not_q)
        gone-first below up' b Greater t =
            let none = beyond q es (above cmp o q e.0 (keys_of es) (o.antisymm q e.0 ∙ ap ordering_reverse t) below) up' in
            rest ∙ ap (λ z. if test q then z else None) none ∙ sym (ap (λ z. if test q then z else None) (all Greater t))

        passing-first : AllByRecursion (λ y. cmp e.0 y ≡ Less) (keys_of es) → IsIncreasing cmp es → (b : Bool) → test e.0 ≡ b → IsIncreasing cmp (cond b (e ∷ passing es) (passing es))
            → value_for cmp (cond b (e ∷ passing es) (passing es)) q ≡ (if test q then value_for cmp (e ∷ es) q else None)
        passing-first below up' true b rises = kept-first rises b (cmp e.0 q) refl
        passing-first below up' false b rises = gone-first below up' b (cmp e.0 q) refl

      -- a key's value in the entries that pass is its value in all, where the key passes
      pub passing-value : ((es : List (K × X)) → IsIncreasing cmp es → IsIncreasing cmp (passing es)) → (es : List (K × X)) (q : K) → IsIncreasing cmp es → value_for cmp (passing es) q ≡ (if test q then value_for cmp es q else None)
      unfolding IsStrictlySortedBy
      passing-value rises [] q up = go (test q)
        where
          go : (b : Bool) → no_value ≡ (if b then no_value else no_value)
          go true = refl
          go false = refl
      passing-value rises (e ∷ es) q up = passing-first e es q up (passing-value rises es q up.1) up.0 up.1 (test e.0) refl (rises (e ∷ es) up)

  module _ (present : Bool) (others : List (K × X)) where
    -- the entries that stay by these answers are those that are kept
    pub kept-by : (es : List (K × X)) → kept_by es (kept_of cmp present es others) ≡ kept_from cmp present es others
    kept-by [] = refl
    kept-by (e ∷ es) = ap (λ l. if fits present (is_present cmp others e.0) then e ∷ l else l) (kept-by es)

    -- answers that are told by keys alone are those
    pub told-answers : (f : Unit {0}) (es : List (K × X)) (answers : List (Bool × X)) → AsksEach (Tells cmp present others) f es answers → answers ≡ kept_of cmp present es others
    told-answers f [] answers asked = asked
    told-answers f (e ∷ es) [] asked = absurd asked
    told-answers f (e ∷ es) (answer ∷ answers) asked =
        let first : answer ≡ (fits present (is_present cmp others e.0), e.1) = λ i. (asked.1.told i, asked.1.same i) in
        λ i. first i ∷ told-answers asked.0 es answers asked.2 i

    -- the kept entries, by whether the first one is kept
    module _ (e : K × X) (es : List (K × X)) (b : Bool) (t : fits present (is_present cmp others e.0) ≡ b) where
      kept-first-is : kept_from cmp present (e ∷ es) others ≡ cond b (e ∷ kept_from cmp present es others) (kept_from cmp present es others)
      kept-first-is = ap (λ b. cond b (e ∷ kept_from cmp present es others) (kept_from cmp present es others)) t

      all-first-is : keeps_all cmp present (e ∷ es) others ≡ (b && keeps_all cmp present es others)
      all-first-is = ap (λ b. b && keeps_all cmp present es others) t

    -- where each entry is kept, the list stays, and so do its nodes
    pub kept-all : (es : List (K × X)) → keeps_all cmp present es others ≡ true → kept_from cmp present es others ≡ es
    kept-all [] all = refl
    kept-all (e ∷ es) all = go (fits present (is_present cmp others e.0)) refl (kept-all es)
      where
        go : (b : Bool) → fits present (is_present cmp others e.0) ≡ b → (keeps_all cmp present es others ≡ true → kept_from cmp present es others ≡ es) → kept_from cmp present (e ∷ es) others ≡ e ∷ es
        go true t rest = kept-first-is e es true t ∙ ap (λ l. e ∷ l) (rest (sym (all-first-is e es true t) ∙ all))
        go false t rest = absurd (let bad : false ≡ true = sym (all-first-is e es false t) ∙ all in cc)

    pub sizes-all : (most place : ℕ) (es : List (K × X)) (sizes : List (List ℕ)) → keeps_all cmp present es others ≡ true → sizes_by most place (kept_of cmp present es others) sizes ≡ sizes
    sizes-all most place [] sizes all = refl
    sizes-all most place (e ∷ es) sizes all = go (fits present (is_present cmp others e.0)) refl (sizes-all most (suc place) es sizes)
      where
        go : (b : Bool) → fits present (is_present cmp others e.0) ≡ b → (keeps_all cmp present es others ≡ true → sizes_by most (suc place) (kept_of cmp present es others) sizes ≡ sizes)
            → sizes_by most place (kept_of cmp present (e ∷ es) others) sizes ≡ sizes
        go true t rest = ap (λ b. if b then sizes_by most (suc place) (kept_of cmp present es others) sizes else sizes_by most place (kept_of cmp present es others) (shrink most place sizes)) t ∙ rest (sym (all-first-is e es true t) ∙ all)
        go false t rest = absurd (let bad : false ≡ true = sym (all-first-is e es false t) ∙ all in cc)

    -- no list is kept that has more entries
    kept-most : (es : List (K × X)) → length (kept_from cmp present es others) ≤ length es
    kept-most [] = omega arith
    kept-most (e ∷ es) = go (fits present (is_present cmp others e.0)) (kept-most es)
      where
        go : (b : Bool) → length (kept_from cmp present es others) ≤ length es → length (cond b (e ∷ kept_from cmp present es others) (kept_from cmp present es others)) ≤ suc (length es)
        go true rest = omega (arith, rest)
        go false rest = omega (arith, rest)

    -- whether each entry is kept is told by the number of those that are
    pub kept-few : (es : List (K × X)) → length (kept_from cmp present es others) < length es → keeps_all cmp present es others ≡ false
    kept-few [] few = absurd (omega (arith, few))
    kept-few (e ∷ es) few = go (fits present (is_present cmp others e.0)) refl (kept-few es)
      where
        go : (b : Bool) → fits present (is_present cmp others e.0) ≡ b → (length (kept_from cmp present es others) < length es → keeps_all cmp present es others ≡ false) → keeps_all cmp present (e ∷ es) others ≡ false
        go true t rest = all-first-is e es true t ∙ rest (omega (arith, few, ap length (kept-first-is e es true t)))
        go false t rest = all-first-is e es false t

    pub kept-same : (es : List (K × X)) → length (kept_from cmp present es others) ≡ length es → keeps_all cmp present es others ≡ true
    kept-same [] same = refl
    kept-same (e ∷ es) same = go (fits present (is_present cmp others e.0)) refl (kept-same es) (kept-most es)
      where
        go : (b : Bool) → fits present (is_present cmp others e.0) ≡ b → (length (kept_from cmp present es others) ≡ length es → keeps_all cmp present es others ≡ true) → length (kept_from cmp present es others) ≤ length es → keeps_all cmp present (e ∷ es) others ≡ true
        go true t rest most = all-first-is e es true t ∙ rest (omega (arith, same, ap length (kept-first-is e es true t)))
        go false t rest most = absurd (omega (arith, same, ap length (kept-first-is e es false t), most))

  -- where each key is as those that are not to stay, none is kept
  pub kept-none : (present : Bool) (es others : List (K × X)) → keeps_all cmp (not present) es others ≡ true → kept_from cmp present es others ≡ []
  kept-none present [] others all = refl
  kept-none present (e ∷ es) others all = go (fits (not present) (is_present cmp others e.0)) refl (kept-none present es others)
    where
      turned : (p found : Bool) → fits p found ≡ not (fits (not p) found)
      turned true true = refl
      turned true false = refl
      turned false true = refl
      turned false false = refl

      go : (b : Bool) → fits (not present) (is_present cmp others e.0) ≡ b → (keeps_all cmp (not present) es others ≡ true → kept_from cmp present es others ≡ []) → kept_from cmp present (e ∷ es) others ≡ []
      go true t rest = kept-first-is present others e es false (turned present (is_present cmp others e.0) ∙ ap not t) ∙ rest (sym (all-first-is (not present) others e es true t) ∙ all)
      go false t rest = absurd (let bad : false ≡ true = sym (all-first-is (not present) others e es false t) ∙ all in cc)

  -- each key is absent from no entries
  pub absent-all : (es : List (K × X)) → keeps_all cmp false es [] ≡ true
  absent-all [] = refl
  absent-all (e ∷ es) = absent-all es

-- what is to stay, where each key is absent, or present
pub fits-false : (present : Bool) → not present ≡ fits present false
fits-false true = refl
fits-false false = refl

pub fits-true : (present : Bool) → present ≡ fits present true
fits-true true = refl
fits-true false = refl

-- what a test of two numbers tells
pub same-by : (a b : ℕ) → nat_eq a b ≡ true → a ≡ b
same-by a b t = elim (eqb_tells a b) [ inl w ↦ w.1 | inr w ↦ absurd (let bad : true ≡ false = sym t ∙ w.0 in cc) ]

pub apart-by : (a b : ℕ) → nat_eq a b ≡ false → a ≢ b
apart-by a b t = elim (eqb_tells a b) [ inl w ↦ absurd (let bad : false ≡ true = sym t ∙ w.0 in cc) | inr w ↦ w.1 ]
