-- What those prove who write above maps: comparisons of numbers, lists of entries after insertions, what a search by a bound finds in
-- them, `retain` as a filter, and how many nodes an insertion needs.
use Rattle.bforest.proofs.Each.{all-map, filter-all, filter-none}
use Rattle.bforest.proofs.Entries.{IsIncreasing-put, place-here, place-later, value_for-cut_other, value_for-put_other}
use Rattle.bforest.proofs.Lengths.{length-put}
use Rattle.bforest.proofs.Standard.{cut-entry, put-entry}
use Rattle.bforest.specs.Bounds.{entry_at_least, entry_at_most}
use Rattle.bforest.specs.Entries.{IsIncreasing, cut, entry_for, is_present, place, put, put_all, value_for}
use Rattle.bforest.specs.Forest.{Forest, inner_gain, leaf_gain, list_of, need, need_above, need_of, sizes_of}
use Rattle.bforest.specs.Retain.{AsksEach, Retains, kept_by}
use Rattle.std.proofs.Common.{Bool, List, None, Option, Some, [], ap, arith, cond, drop, false, get_or, if◌then◌else◌, inl, inr, length, not, refl, slice_get, subst, suc, sym, take, true, zero, ◌+◌, ◌++◌, ◌-◌, ◌<◌, ◌∙◌, ◌∷◌, ◌≡◌, ◌≢◌, ◌≤◌, ℕ}
use Rattle.std.proofs.lemmas.Bool.{cases_lt, cases_order}
use Rattle.std.proofs.lemmas.List.{length-append, take_more}
use Rattle.std.specs.BTreeMap.{insert_entry, is_at}
use Rattle.std.specs.Cmp.{IsTotalOrder, nat_cmp_is}
use Rattle.std.specs.List.Sorted.{IsStrictlySortedBy}
use Rattle.std.specs.List.{AllByRecursion, filter, last_or}
use Rattle.std.specs.Map.{keys_of, remove_entry}
use Rattle.std.specs.Option.{is_some, option_and_then, option_map, unwrap_or}
use Rattle.std.specs.Ordering.{is_eq, is_gt, is_lt, match_ordering, nat_cmp, ordering_reverse}
use Rattle.std.specs.declared.cmp.Ordering.TheVariants.{Equal, Greater, Less}
use Rattle.std.specs.declared.cmp.Ordering.{Ordering}

-- a comparison of numbers, by how they lie
pub nat-less : (a b : ℕ) → a < b → nat_cmp a b ≡ Less
nat-less a b h = sym (nat_cmp_is a b Less h)

pub nat-equal : (a b : ℕ) → a ≡ b → nat_cmp a b ≡ Equal
nat-equal a b h = sym (nat_cmp_is a b Equal h)

pub nat-greater : (a b : ℕ) → b < a → nat_cmp a b ≡ Greater
nat-greater a b h = sym (nat_cmp_is a b Greater h)

pub nat-not_less : (a b : ℕ) → b ≤ a → is_lt (nat_cmp a b) ≡ false
nat-not_less a b h = elim (cases_lt b a) [
  | inl w ↦ ap is_lt (nat-greater a b w)
  | inr w ↦ ap is_lt (nat-equal a b (omega (arith, h, w)))
]

pub nat-not_greater : (a b : ℕ) → a ≤ b → is_gt (nat_cmp a b) ≡ false
nat-not_greater a b h = elim (cases_lt a b) [
  | inl w ↦ ap is_gt (nat-less a b w)
  | inr w ↦ ap is_gt (nat-equal a b (omega (arith, h, w)))
]

pub nat-unequal : (a b : ℕ) → a ≢ b → is_eq (nat_cmp a b) ≡ false
nat-unequal a b ne = elim (cases_order a b) [
  | inl same ↦ absurd (ne same)
  | inr other ↦ elim other [
    | inl w ↦ ap is_eq (nat-less a b w)
    | inr w ↦ ap is_eq (nat-greater a b w)
  ]
]

-- how numbers lie, by their comparison
pub nat-at_most : (a b : ℕ) → is_gt (nat_cmp a b) ≡ false → a ≤ b
nat-at_most a b is = elim (cases_lt b a) [
  | inl w ↦ absurd (let bad = ap is_gt (nat-greater a b w) in cc)
  | inr w ↦ w
]

pub nat-tied : (a b : ℕ) → nat_cmp a b ≡ Equal → a ≡ b
nat-tied a b is = elim (cases_order a b) [
  | inl same ↦ same
  | inr other ↦ elim other [
    | inl w ↦ absurd (let bad = nat-less a b w in cc)
    | inr w ↦ absurd (let bad = nat-greater a b w in cc)
  ]
]

pub nat-in_front : (a b : ℕ) → is_lt (nat_cmp a b) ≡ true → a < b
nat-in_front a b is = elim (cases_lt a b) [
  | inl w ↦ w
  | inr w ↦ absurd (let bad = nat-not_less a b w in cc)
]

pub nat-at_least : (a b : ℕ) → is_lt (nat_cmp a b) ≡ false → b ≤ a
nat-at_least a b is = elim (cases_lt a b) [
  | inl w ↦ absurd (let bad = ap is_lt (nat-less a b w) in cc)
  | inr w ↦ w
]

pub nat-behind : (a b : ℕ) → is_gt (nat_cmp a b) ≡ true → b < a
nat-behind a b is = elim (cases_lt b a) [
  | inl w ↦ w
  | inr w ↦ absurd (let bad = nat-not_greater a b w in cc)
]

module _ {K X : Type 0} (cmp : K → K → Ordering) (es : List (K × X)) where
  -- a key is present exactly where it has a value
  pub present-value : (k : K) → is_present cmp es k ≡ is_some (value_for cmp es k)
  present-value k = go (entry_for cmp es k)
    where
      go : (o : Option (K × X)) → is_some o ≡ is_some (option_map (λ (e : K × X). e.1) o)
      go None = refl
      go (Some e) = refl

module _ {K X : Type 0} (cmp : K → K → Ordering) (o : IsTotalOrder cmp) (es : List (K × X)) (k q : K) where
  -- a key that compares unequal is present after an insertion where it was
  pub is_present-put_other : (v : X) → is_eq (cmp k q) ≡ false → IsIncreasing cmp es → is_present cmp (put cmp es k v) q ≡ is_present cmp es q
  is_present-put_other v apart up = present-value cmp (put cmp es k v) q ∙ ap is_some (value_for-put_other cmp o k q v apart es up) ∙ sym (present-value cmp es q)

  -- a key that compares unequal is present after a removal where it was
  pub is_present-cut_other : is_eq (cmp k q) ≡ false → IsIncreasing cmp es → is_present cmp (cut cmp es k) q ≡ is_present cmp es q
  is_present-cut_other apart up = present-value cmp (cut cmp es k) q ∙ ap is_some (value_for-cut_other cmp o k q apart es up) ∙ sym (present-value cmp es q)

-- the last entry of a list to which one was appended, as `last` reads it
pub last-appended : {A : Type 0} (es : List A) (x : A) → slice_get (es ++ x ∷ []) (length (es ++ x ∷ []) - 1) ≡ Some x
last-appended {A = A} es x = ap (slice_get (es ++ x ∷ [])) (let is : length (es ++ x ∷ []) - 1 ≡ length es = omega (arith, length-append es (x ∷ [])) in is) ∙ at es
  where
    at : (ys : List A) → slice_get (ys ++ x ∷ []) (length ys) ≡ Some x
    at [] = refl
    at (y ∷ ys) = at ys

-- no entries increase
pub IsIncreasing-none : (K X : Type 0) (cmp : K → K → Ordering) → IsIncreasing {K = K} {X = X} cmp []
unfolding IsStrictlySortedBy
IsIncreasing-none K X cmp = tt

all-keys : {K X : Type 0} (P : K → Type 0) (es : List (K × X)) → AllByRecursion (λ x. P x.0) es → AllByRecursion P (keys_of es)
all-keys P [] all = tt
all-keys P (x ∷ es) all = (all.0, all-keys P es all.1)

-- a list increases where its first key is less than each other, and the rest increases
pub IsIncreasing-cons : {K X : Type 0} (cmp : K → K → Ordering) (e : K × X) (es : List (K × X)) → AllByRecursion (λ x. cmp e.0 x.0 ≡ Less) es → IsIncreasing cmp es → IsIncreasing cmp (e ∷ es)
unfolding IsStrictlySortedBy
IsIncreasing-cons cmp e es all up = (all-keys (λ k. cmp e.0 k ≡ Less) es all, up)

tail : {K X : Type 0} (cmp : K → K → Ordering) (e : K × X) (es : List (K × X)) → IsIncreasing cmp (e ∷ es) → IsIncreasing cmp es
unfolding IsStrictlySortedBy
tail cmp e es up = up.1

module _ {K X : Type 0} (cmp : K → K → Ordering) (o : IsTotalOrder cmp) where
  -- an insertion, by the first entry: behind it, at it, or in front of it
  pub put-later : (e : K × X) (es : List (K × X)) (k : K) (v : X) → IsIncreasing cmp (e ∷ es) → cmp k e.0 ≡ Greater → put cmp (e ∷ es) k v ≡ e ∷ put cmp es k v
  put-later e es k v up is = put-entry cmp o (e ∷ es) k v up ∙ ap (λ r. match_ordering r ((k, v) ∷ e ∷ es) ((e.0, v) ∷ es) (e ∷ insert_entry cmp es k v)) is ∙ ap (λ l. e ∷ l) (sym (put-entry cmp o es k v (tail cmp e es up)))

  pub put-same : (e : K × X) (es : List (K × X)) (k : K) (v : X) → IsIncreasing cmp (e ∷ es) → cmp k e.0 ≡ Equal → put cmp (e ∷ es) k v ≡ (e.0, v) ∷ es
  put-same e es k v up is = put-entry cmp o (e ∷ es) k v up ∙ ap (λ r. match_ordering r ((k, v) ∷ e ∷ es) ((e.0, v) ∷ es) (e ∷ insert_entry cmp es k v)) is

  pub put-first : (e : K × X) (es : List (K × X)) (k : K) (v : X) → IsIncreasing cmp (e ∷ es) → cmp k e.0 ≡ Less → put cmp (e ∷ es) k v ≡ (k, v) ∷ e ∷ es
  put-first e es k v up is = put-entry cmp o (e ∷ es) k v up ∙ ap (λ r. match_ordering r ((k, v) ∷ e ∷ es) ((e.0, v) ∷ es) (e ∷ insert_entry cmp es k v)) is

  -- an insertion of a key behind all others
  pub put-last : (es : List (K × X)) (k : K) (v : X) → IsIncreasing cmp es → AllByRecursion (λ e. is_lt (cmp e.0 k) ≡ true) es → put cmp es k v ≡ es ++ (k, v) ∷ []
  put-last [] k v up all = refl
  put-last (e ∷ es) k v up all = put-later e es k v up (behind (cmp e.0 k) refl all.0) ∙ ap (λ l. e ∷ l) (put-last es k v (tail cmp e es up) all.1)
    where
      behind : (r : Ordering) → cmp e.0 k ≡ r → is_lt (cmp e.0 k) ≡ true → cmp k e.0 ≡ Greater
      behind Less t less = o.antisymm k e.0 ∙ ap ordering_reverse t
      behind Equal t less = absurd (let bad = sym (ap is_lt t) ∙ less in cc)
      behind Greater t less = absurd (let bad = sym (ap is_lt t) ∙ less in cc)

  -- a removal, by the first entry: behind it, or of it
  pub cut-later : (e : K × X) (es : List (K × X)) (k : K) → IsIncreasing cmp (e ∷ es) → cmp k e.0 ≡ Greater → cut cmp (e ∷ es) k ≡ e ∷ cut cmp es k
  cut-later e es k up is = cut-entry cmp o (e ∷ es) k up ∙ ap (λ r. cond (is_eq r) es (e ∷ remove_entry (is_at (cmp k)) es)) is ∙ ap (λ l. e ∷ l) (sym (cut-entry cmp o es k (tail cmp e es up)))

  pub cut-same : (e : K × X) (es : List (K × X)) (k : K) → IsIncreasing cmp (e ∷ es) → cmp k e.0 ≡ Equal → cut cmp (e ∷ es) k ≡ es
  cut-same e es k up is = cut-entry cmp o (e ∷ es) k up ∙ ap (λ r. cond (is_eq r) es (e ∷ remove_entry (is_at (cmp k)) es)) is

module _ {K X : Type 0} (cmp : K → K → Ordering) where
  put_all-snoc : (es xs : List (K × X)) (x : K × X) → put_all cmp es (xs ++ x ∷ []) ≡ put cmp (put_all cmp es xs) x.0 x.1
  put_all-snoc es [] x = refl
  put_all-snoc es (y ∷ xs) x = put_all-snoc (put cmp es y.0 y.1) xs x

  -- one insertion more: a step of a loop over a slice
  pub put_all-more : (es xs : List (K × X)) (i : ℕ) (d : K × X) → i < length xs → put_all cmp es (take (i + 1) xs) ≡ put cmp (put_all cmp es (take i xs)) (get_or xs i d).0 (get_or xs i d).1
  put_all-more es xs i d low = ap (put_all cmp es) (take_more xs i d low) ∙ put_all-snoc es (take i xs) (get_or xs i d)

  -- an insertion makes the list longer by one entry at most
  pub length-put-most : (es : List (K × X)) (k : K) (v : X) → length (put cmp es k v) ≤ length es + 1
  length-put-most es k v = go (is_present cmp es k) (length-put cmp es k v)
    where
      go : (t : Bool) → length (put cmp es k v) ≡ length es + cond t 0 1 → length (put cmp es k v) ≤ length es + 1
      go true is = omega (arith, is)
      go false is = omega (arith, is)

  -- insertions make the list longer by at most as many entries
  pub length-put_all : (es xs : List (K × X)) → length (put_all cmp es xs) ≤ length es + length xs
  length-put_all es [] = omega arith
  length-put_all es (x ∷ xs) = omega (arith, length-put_all (put cmp es x.0 x.1) xs, length-put-most es x.0 x.1)

  -- insertions keep a list increasing
  pub IsIncreasing-put_all : IsTotalOrder cmp → (es xs : List (K × X)) → IsIncreasing cmp es → IsIncreasing cmp (put_all cmp es xs)
  IsIncreasing-put_all o es [] up = up
  IsIncreasing-put_all o es (x ∷ xs) up = IsIncreasing-put_all o (put cmp es x.0 x.1) xs (IsIncreasing-put cmp o es x.0 x.1 up)

module _ {K X : Type 0} (cmp : K → K → Ordering) (k : K) where
  -- e is the entry that `get_or_less` of k finds: it is not behind k, and each entry behind it is
  pub record LastAtMost (es : List (K × X)) (e : K × X) : Type 0 where
    pub before : List (K × X)
    pub after : List (K × X)
    pub parts : es ≡ before ++ e ∷ after
    pub here : is_gt (cmp e.0 k) ≡ false
    pub behind : AllByRecursion (λ x. is_gt (cmp x.0 k) ≡ true) after

  -- e is the entry that `get_or_greater` of k finds: it is not in front of k, and each entry in front of it is
  pub record FirstAtLeast (es : List (K × X)) (e : K × X) : Type 0 where
    pub before : List (K × X)
    pub after : List (K × X)
    pub parts : es ≡ before ++ e ∷ after
    pub here : is_lt (cmp e.0 k) ≡ false
    pub in_front : AllByRecursion (λ x. is_lt (cmp x.0 k) ≡ true) before

  most : List (K × X) → List (K × X)
  most es = filter (λ e. not (is_gt (cmp e.0 k))) es

  least : List (K × X) → List (K × X)
  least es = filter (λ e. not (is_lt (cmp e.0 k))) es

  last-some : (x : K × X) (xs : List (K × X)) → last_or (Some x) xs ≡ Some (unwrap_or (last_or None xs) x)
  last-some x [] = refl
  last-some x (y ∷ ys) = last-some y ys ∙ ap (λ o. Some (unwrap_or o x)) (sym (last-some y ys))

  -- `get_or_less`, where the first entry is not behind k: it is found where no later one is
  pub at_most-here : (x : K × X) (es : List (K × X)) → is_gt (cmp x.0 k) ≡ false → entry_at_most cmp (x ∷ es) k ≡ Some (unwrap_or (entry_at_most cmp es k) x)
  unfolding most
  at_most-here x es low = ap (λ t. last_or None (if not t then x ∷ most es else most es)) low ∙ last-some x (most es)

  -- `get_or_less`, where the first entry is behind k
  pub at_most-later : (x : K × X) (es : List (K × X)) → is_gt (cmp x.0 k) ≡ true → entry_at_most cmp (x ∷ es) k ≡ entry_at_most cmp es k
  unfolding most
  at_most-later x es high = ap (λ t. last_or None (if not t then x ∷ most es else most es)) high

  -- `get_or_less` finds nothing where all entries are behind k
  pub at_most-none : (es : List (K × X)) → AllByRecursion (λ x. is_gt (cmp x.0 k) ≡ true) es → entry_at_most cmp es k ≡ None
  at_most-none [] all = refl
  at_most-none (x ∷ es) all = at_most-later x es all.0 ∙ at_most-none es all.1

  -- `get_or_less` finds nothing only where all entries are behind k
  pub none-at_most : (es : List (K × X)) → entry_at_most cmp es k ≡ None → AllByRecursion (λ x. is_gt (cmp x.0 k) ≡ true) es
  none-at_most [] none = tt
  none-at_most (x ∷ es) none = go (is_gt (cmp x.0 k)) refl (none-at_most es)
    where
      go : (t : Bool) → is_gt (cmp x.0 k) ≡ t → (entry_at_most cmp es k ≡ None → AllByRecursion (λ x. is_gt (cmp x.0 k) ≡ true) es) → AllByRecursion (λ x. is_gt (cmp x.0 k) ≡ true) (x ∷ es)
      go true t rest = (t, rest (sym (at_most-later x es t) ∙ none))
      go false t rest = absurd (let bad = sym (at_most-here x es t) ∙ none in cc)

  -- what `get_or_less` finds is the last entry that is not behind k
  pub some-at_most : (es : List (K × X)) (e : K × X) → entry_at_most cmp es k ≡ Some e → LastAtMost es e
  some-at_most [] e some = absurd (cc)
  some-at_most (x ∷ es) e some = go (is_gt (cmp x.0 k)) (entry_at_most cmp es k) refl refl (some-at_most es e)
    where
      later : LastAtMost es e → LastAtMost (x ∷ es) e
      later rest = record { before = x ∷ rest.before; after = rest.after; parts = ap (λ l. x ∷ l) rest.parts; here = rest.here; behind = rest.behind }

      go : (t : Bool) (o : Option (K × X)) → is_gt (cmp x.0 k) ≡ t → entry_at_most cmp es k ≡ o → (entry_at_most cmp es k ≡ Some e → LastAtMost es e) → LastAtMost (x ∷ es) e
      go true o t is rest = later (rest (sym (at_most-later x es t) ∙ some))
      go false (Some y) t is rest = later (rest (is ∙ sym (at_most-here x es t ∙ ap (λ o. Some (unwrap_or o x)) is) ∙ some))
      go false None t is rest =
          let same : x ≡ e = let found = sym (at_most-here x es t ∙ ap (λ o. Some (unwrap_or o x)) is) ∙ some in cc in
          record { before = []; after = es; parts = ap (λ y. y ∷ es) same; here = subst (λ y. is_gt (cmp y.0 k) ≡ false) same t; behind = none-at_most es is }

  -- `get_or_greater`, where the first entry is not in front of k: it is found
  pub at_least-here : (x : K × X) (es : List (K × X)) → is_lt (cmp x.0 k) ≡ false → entry_at_least cmp (x ∷ es) k ≡ Some x
  unfolding least
  at_least-here x es high = ap (λ t. slice_get (if not t then x ∷ least es else least es) 0) high

  -- `get_or_greater`, where the first entry is in front of k
  pub at_least-later : (x : K × X) (es : List (K × X)) → is_lt (cmp x.0 k) ≡ true → entry_at_least cmp (x ∷ es) k ≡ entry_at_least cmp es k
  unfolding least
  at_least-later x es low = ap (λ t. slice_get (if not t then x ∷ least es else least es) 0) low

  -- `get_or_greater` finds nothing where all entries are in front of k
  pub at_least-none : (es : List (K × X)) → AllByRecursion (λ x. is_lt (cmp x.0 k) ≡ true) es → entry_at_least cmp es k ≡ None
  at_least-none [] all = refl
  at_least-none (x ∷ es) all = at_least-later x es all.0 ∙ at_least-none es all.1

  -- what `get_or_greater` finds is the first entry that is not in front of k
  pub some-at_least : (es : List (K × X)) (e : K × X) → entry_at_least cmp es k ≡ Some e → FirstAtLeast es e
  some-at_least [] e some = absurd (cc)
  some-at_least (x ∷ es) e some = go (is_lt (cmp x.0 k)) refl (some-at_least es e)
    where
      go : (t : Bool) → is_lt (cmp x.0 k) ≡ t → (entry_at_least cmp es k ≡ Some e → FirstAtLeast es e) → FirstAtLeast (x ∷ es) e
      go true t found =
          let rest = found (sym (at_least-later x es t) ∙ some) in
          record { before = x ∷ rest.before; after = rest.after; parts = ap (λ l. x ∷ l) rest.parts; here = rest.here; in_front = (t, rest.in_front) }
      go false t found =
          let same : x ≡ e = let is = sym (at_least-here x es t) ∙ some in cc in
          record { before = []; after = es; parts = ap (λ y. y ∷ es) same; here = subst (λ y. is_lt (cmp y.0 k) ≡ false) same t; in_front = tt }

module _ {K X : Type 0} (cmp : K → K → Ordering) (o : IsTotalOrder cmp) (k : K) where
  later-greater : (e : K × X) (es : List (K × X)) → IsIncreasing cmp (e ∷ es) → is_lt (cmp e.0 k) ≡ false → AllByRecursion (λ x. is_gt (cmp x.0 k) ≡ true) es
  unfolding IsStrictlySortedBy
  later-greater e es up not_less = go (cmp e.0 k) refl es up.0
    where
      greater : (x : K) → cmp k x ≡ Less → is_gt (cmp x k) ≡ true
      greater x is = ap is_gt (o.antisymm x k ∙ ap ordering_reverse is)

      go : (r : Ordering) → cmp e.0 k ≡ r → (xs : List (K × X)) → AllByRecursion (λ x. cmp e.0 x ≡ Less) (keys_of xs) → AllByRecursion (λ x. is_gt (cmp x.0 k) ≡ true) xs
      go r t [] all = tt
      go Less t (x ∷ xs) all = absurd (let bad = ap is_lt t in cc)
      go Equal t (x ∷ xs) all = (greater x.0 (sym (o.congr e.0 k x.0 t) ∙ all.0), go Equal t xs all.1)
      go Greater t (x ∷ xs) all = (greater x.0 (o.trans k e.0 x.0 (o.antisymm k e.0 ∙ ap ordering_reverse t) all.0), go Greater t xs all.1)

  -- An insertion of k, where a key that compares equal is k, parts the entries: those in front, the one put in, and those behind.
  pub put-parts : (v : X) → ((a : K) → cmp k a ≡ Equal → a ≡ k) → (es : List (K × X)) → IsIncreasing cmp es → put cmp es k v ≡ filter (λ x. is_lt (cmp x.0 k)) es ++ (k, v) ∷ filter (λ x. is_gt (cmp x.0 k)) es
  put-parts v exact [] up = refl
  put-parts v exact (e ∷ es) up = go (cmp k e.0) refl (put-parts v exact es (tail cmp e es up))
    where
      back : (r : Ordering) → cmp k e.0 ≡ r → cmp e.0 k ≡ ordering_reverse r
      back r t = o.antisymm e.0 k ∙ ap ordering_reverse t

      parts : (r : Ordering) → cmp k e.0 ≡ r → filter (λ x. is_lt (cmp x.0 k)) (e ∷ es) ++ (k, v) ∷ filter (λ x. is_gt (cmp x.0 k)) (e ∷ es)
          ≡ (if is_lt (ordering_reverse r) then e ∷ filter (λ x. is_lt (cmp x.0 k)) es else filter (λ x. is_lt (cmp x.0 k)) es) ++ (k, v) ∷ (if is_gt (ordering_reverse r) then e ∷ filter (λ x. is_gt (cmp x.0 k)) es else filter (λ x. is_gt (cmp x.0 k)) es)
      parts r t = λ j. (if is_lt (back r t j) then e ∷ filter (λ x. is_lt (cmp x.0 k)) es else filter (λ x. is_lt (cmp x.0 k)) es) ++ (k, v) ∷ (if is_gt (back r t j) then e ∷ filter (λ x. is_gt (cmp x.0 k)) es else filter (λ x. is_gt (cmp x.0 k)) es)

      behind-all : is_lt (cmp e.0 k) ≡ false → (filter (λ x. is_lt (cmp x.0 k)) es ≡ []) × (filter (λ x. is_gt (cmp x.0 k)) es ≡ es)
      behind-all t =
          let all = later-greater e es up t in
          (filter-none (λ x. is_lt (cmp x.0 k)) es (all-map (λ x g. not-less (cmp x.0 k) g) es all), filter-all (λ x. is_gt (cmp x.0 k)) es all)
        where
          not-less : (r : Ordering) → is_gt r ≡ true → is_lt r ≡ false
          not-less Less g = absurd (cc)
          not-less Equal g = refl
          not-less Greater g = refl

      go : (r : Ordering) → cmp k e.0 ≡ r → put cmp es k v ≡ filter (λ x. is_lt (cmp x.0 k)) es ++ (k, v) ∷ filter (λ x. is_gt (cmp x.0 k)) es
          → put cmp (e ∷ es) k v ≡ filter (λ x. is_lt (cmp x.0 k)) (e ∷ es) ++ (k, v) ∷ filter (λ x. is_gt (cmp x.0 k)) (e ∷ es)
      go Less t rest = let b = behind-all (ap is_lt (back Less t)) in put-first cmp o e es k v up t ∙ sym (parts Less t ∙ (λ j. b.0 j ++ (k, v) ∷ e ∷ b.1 j))
      go Equal t rest = let b = behind-all (ap is_lt (back Equal t)) in put-same cmp o e es k v up t ∙ (λ j. (exact e.0 t j, v) ∷ es) ∙ sym (parts Equal t ∙ (λ j. b.0 j ++ (k, v) ∷ b.1 j))
      go Greater t rest = put-later cmp o e es k v up t ∙ ap (λ l. e ∷ l) rest ∙ sym (parts Greater t)

  -- entries behind one that is behind k are behind k
  pub greater-from : (es : List (K × X)) (p : ℕ) (e : K × X) → IsIncreasing cmp es → slice_get es p ≡ Some e → is_gt (cmp e.0 k) ≡ true → AllByRecursion (λ x. is_gt (cmp x.0 k) ≡ true) (drop p es)
  greater-from [] p e up at high = absurd (cc)
  greater-from (x ∷ es) zero e up at high =
      let here : is_gt (cmp x.0 k) ≡ true = let same : x ≡ e = cc in ap (λ y. is_gt (cmp y.0 k)) same ∙ high in
      (here, later-greater x es up (not-both (cmp x.0 k) here))
    where
      not-both : (r : Ordering) → is_gt r ≡ true → is_lt r ≡ false
      not-both Less t = absurd (cc)
      not-both Equal t = refl
      not-both Greater t = refl
  greater-from (x ∷ es) (suc p) e up at high = greater-from es p e (tail cmp x es up) at high

  -- where k is present: the entries up to its place are not behind it, and those from there on are
  pub around-place : (es : List (K × X)) → IsIncreasing cmp es → is_present cmp es k ≡ true
      → AllByRecursion (λ x. is_gt (cmp x.0 k) ≡ false) (take (suc (place cmp es k)) es) × AllByRecursion (λ x. is_gt (cmp x.0 k) ≡ true) (drop (suc (place cmp es k)) es)
  around-place [] up here = absurd (cc)
  around-place (x ∷ es) up here = go (cmp x.0 k) refl (around-place es)
    where
      Around : ℕ → Type 0
      Around p = AllByRecursion (λ y. is_gt (cmp y.0 k) ≡ false) (take (suc p) (x ∷ es)) × AllByRecursion (λ y. is_gt (cmp y.0 k) ≡ true) (drop (suc p) (x ∷ es))

      at : (p : ℕ) → place cmp (x ∷ es) k ≡ p → Around p → Around (place cmp (x ∷ es) k)
      at p is a = subst Around (sym is) a

      go : (r : Ordering) → cmp x.0 k ≡ r → (IsIncreasing cmp es → is_present cmp es k ≡ true → AllByRecursion (λ y. is_gt (cmp y.0 k) ≡ false) (take (suc (place cmp es k)) es) × AllByRecursion (λ y. is_gt (cmp y.0 k) ≡ true) (drop (suc (place cmp es k)) es)) → Around (place cmp (x ∷ es) k)
      go Less t rest =
          let before = place-later cmp o x es k t in
          let more = rest (tail cmp x es up) (sym (ap (λ p. is_some (option_and_then (λ y. if is_eq (cmp y.0 k) then Some y else None) (slice_get (x ∷ es) p))) before) ∙ here) in
          at (suc (place cmp es k)) before ((ap is_gt t, more.0), more.1)
      go Equal t rest = at 0 (place-here cmp o x es k up (ap is_lt t)) ((ap is_gt t, tt), later-greater x es up (ap is_lt t))
      go Greater t rest = absurd (let bad = sym (ap (λ p. is_some (option_and_then (λ y. if is_eq (cmp y.0 k) then Some y else None) (slice_get (x ∷ es) p))) (place-here cmp o x es k up (ap is_lt t)) ∙ ap (λ r. is_some (if is_eq r then Some x else None)) t) ∙ here in cc)

module _ {F K X : Type 0} (step : F → K → X → Bool → X → F → Type 0) (test : K → X → Bool) (f : F) (plain : (k : K) (v : X) (b : Bool) (w : X) (f' : F) → step f k v b w f' → (b ≡ test k v) × (w ≡ v) × (f' ≡ f)) where
  filtered : (es : List (K × X)) (answers : List (Bool × X)) → AsksEach step f es answers → kept_by es answers ≡ filter (λ e. test e.0 e.1) es
  filtered [] answers asked = refl
  filtered (e ∷ es) [] asked = absurd asked
  filtered (e ∷ es) (answer ∷ answers) asked =
      let told = plain e.0 e.1 answer.0 answer.1 asked.0 asked.1 in
      (λ j. if told.0 j then (e.0, told.1 j) ∷ kept_by es answers else kept_by es answers)
      ∙ ap (λ l. if test e.0 e.1 then e ∷ l else l) (filtered es answers (subst (λ f'. AsksEach step f' es answers) told.2 asked.2))

  -- `retain` by a predicate that is a test, and changes nothing, is `filter`
  pub retains-filter : {most : ℕ} {es kept : List (K × X)} {sizes after : List (List ℕ)} → Retains step most f es sizes kept after → kept ≡ filter (λ e. test e.0 e.1) es
  retains-filter {es = es} r = r.kept_is ∙ filtered es r.answers r.asked

-- the levels above a node need at most two nodes more than there are levels
need_above-most : (o : Option ℕ) (levels : List (List ℕ)) → need_above o levels ≤ length levels + 2
need_above-most None levels = omega arith
need_above-most (Some p) [] = omega arith
need_above-most (Some p) (level ∷ levels) = omega (arith, need_above-most (inner_gain p level).0 levels)

need-most : (most p : ℕ) (sizes : List (List ℕ)) → need most p sizes ≤ length sizes + 1
need-most most p [] = omega arith
need-most most p (leaves ∷ levels) = omega (arith, need_above-most (leaf_gain most p leaves).0 levels)

-- an insertion needs at most one node more than the tree has levels
pub need-levels : {K X : Type 0} (most : ℕ) (cmp : K → K → Ordering) (f : Forest K X) (h : Option ℕ) (k : K) → need_of most cmp f h k ≤ length (sizes_of f h) + 1
need-levels most cmp f h k = go (is_present cmp (list_of f h) k)
  where
    go : (b : Bool) → (if b then 0 else need most (place cmp (list_of f h) k) (sizes_of f h)) ≤ length (sizes_of f h) + 1
    go true = omega arith
    go false = need-most most (place cmp (list_of f h) k) (sizes_of f h)
