-- A key near the entry where a path stands.
use Rattle.bforest_core.proofs.Words.{place-here, place-later, ◌≡◌, ◌≢◌, ℕ, zero, suc, ◌+◌, ◌-◌, ◌≤◌, ◌<◌, true, false, List, [], ◌∷◌, get_or, length}
use Rattle.bforest_core.proofs.Words.{length-append, drop, slice_get, IfSome, Option, Some, None, refl, sym, subst, ap, ◌∙◌, arith, Row, IsTotalOrder}
use Rattle.bforest_core.proofs.Words.{IsStrictlySortedBy, AllByRecursion, is_some, option_map, is_lt, ordering_reverse, drop_all, Path, IsUpTo, Solid, flat}
use Rattle.bforest_core.proofs.Words.{half_of, node, StandsAt, StandsOn, index_of, leaf_of, list_under, entry_before, leaf_content, Table, IsUnion, tree_of}
use Rattle.bforest_core.proofs.{Words.{IsIncreasing, entry_for, place}, rows.LevelRows.{FitRow-split, some_leaf}}
use Rattle.bforest_core.proofs.{table.Stored.some_same, walks.Backward.{at_end, at_entry}, walks.Entered.{entry_read, points_in}, walks.Rising.all_greater}
use Rattle.bforest_core.proofs.{walks.Rising.{entry_between, increasing_rest, less_from, place_between}, walks.Standing.{on-leaf-in, on-tree, on-within}}
use Rattle.bforest_core.proofs.{walks.Standing.points-stands, walks.Steps.{never, read}}
use Rattle.{std.specs.{Map.keys_of, declared.cmp.Ordering.{Ordering, TheVariants.{Less, Equal, Greater}}}, bforest_core.specs.Paths.{GoesTo, IsPlaced}}

module _ {K X : Type 0} (cmp : K → K → Ordering) (es : List (K × X)) (key : K) where
  -- what a search finds: the place of the key, and the entry there if the key is present
  pub record Finds (p : ℕ) (entry : Option (K × X)) : Type 0 where
    pub place_is : place cmp es key ≡ p
    pub entry_is : entry_for cmp es key ≡ entry

-- where the entry at a place is greater than the key, the key is less than the list from there on
upto_at : {K X : Type 0} (cmp : K → K → Ordering) (key : K) (es : List (K × X)) (p e : _) → slice_get es p ≡ Some e → cmp e.0 key ≡ Greater → IsUpTo cmp (drop p es) key
upto_at cmp key [] p e here t = absurd cc
upto_at cmp key (x ∷ es) zero e here t = cc
upto_at cmp key (x ∷ es) (suc p) e here t = upto_at cmp key es p e here t

-- a property of all keys of a list holds of each
pub all_at : {K X : Type 0} (P : K → Type 0) (es : List (K × X)) (p e : _) → AllByRecursion P (keys_of es) → slice_get es p ≡ Some e → P e.0
all_at P [] p e h here = absurd cc
all_at P (x ∷ es) zero e h here = rw (← some_same here) h.0
all_at P (x ∷ es) (suc p) e h here = all_at P es p e h.1 here

module _ {K X : Type 0} {cmp : K → K → Ordering} (o : IsTotalOrder cmp) (key : K) where
  -- a search that passes a lesser first entry
  later : (e : K × X) {es : List (K × X)} → cmp e.0 key ≡ Less → {p found : _} → Finds cmp es key p found → Finds cmp (e ∷ es) key (suc p) found
  later e {es} t f = let z = place-later cmp o e es key t in record { place_is = cc; entry_is = cc }

  -- a search in a list whose first entry is greater
  finds_first : (es : List (K × X)) → IsIncreasing cmp es → IsUpTo cmp es key → Finds cmp es key 0 None
  finds_first es h up = let high = all_greater o es key h (λ y c is. subst (λ z. IsUpTo cmp z key) is up) in
      record { place_is = place_between o [] [] es key h tt high; entry_is = entry_between o [] [] es key h tt high }

  -- a search from an entry on that is not greater, as in the whole list
  behind : (es : List (K × X)) (p e : _) → slice_get es p ≡ Some e → IsIncreasing cmp es → cmp e.0 key ≢ Greater → (n found : _) → (IsIncreasing cmp (e ∷ drop (suc p) es) → Finds cmp (e ∷ drop (suc p) es) key n found) → Finds cmp es key (p + n) found
  unfolding IsStrictlySortedBy
  behind [] p e here h ng n found f = absurd cc
  behind (x ∷ es) zero e here h ng n found f = let same = some_same here in
      subst (λ z. Finds cmp (x ∷ es) key z found) (omega arith) (subst (λ z. Finds cmp (z ∷ es) key n found) (sym same) (f (subst (λ z. IsIncreasing cmp (z ∷ es)) same h)))
  behind (x ∷ es) (suc p) e here h ng n found f =
      subst (λ z. Finds cmp (x ∷ es) key z found) (omega arith) (later x (less_from o _ _ _ (all_at _ _ p e h.0 here) ng) (behind es p e here h.1 ng n found f))

  -- a search that ends at an entry whose key compares equal
  finds_here : (es : List (K × X)) (p e : _) → slice_get es p ≡ Some e → IsIncreasing cmp es → cmp key e.0 ≡ Equal → Finds cmp es key p (Some e)
  finds_here es p e here h t = let same = o.antisymm e.0 key ∙ ap ordering_reverse t in
      subst (λ z. Finds cmp es key z (Some e)) (omega arith) (behind es p e here h (λ g. let bad = sym same ∙ g in absurd cc) 0 (Some e) (λ i.
      let z = place-here cmp o e (drop (suc p) es) key i (ap is_lt same) in
      record { place_is = z; entry_is = cc }))

  -- a search that ends after a lesser entry, where the next is greater
  finds_behind : (es : List (K × X)) (p e : _) → slice_get es p ≡ Some e → IsIncreasing cmp es → cmp key e.0 ≡ Greater → IsUpTo cmp (drop (suc p) es) key → Finds cmp es key (suc p) None
  finds_behind es p e here h t up = let less = o.antisymm e.0 key ∙ ap ordering_reverse t in
      subst (λ z. Finds cmp es key z None) (omega arith) (behind es p e here h (λ g. let bad = sym less ∙ g in absurd cc) 1 None (λ i. later e less (finds_first _ (increasing_rest o e (drop (suc p) es) i) up)))

-- solid nodes without entries are none
no_nodes : {K X : Type 0} (half most : ℕ) → 1 ≤ half → (row : Row K X) → Solid half most row → length (flat row) ≡ 0 → row ≡ []
no_nodes half most one [] solid none = refl
no_nodes half most one (node m es ∷ row) solid none = absurd (omega (arith, length-append es (flat row)))

module _ {K V : Type 0} {n : ℕ} (table : Table K V) (root : ℕ) (path : Path K V n) where
  module _ (union : IsUnion n table) where
    -- an entry may be inserted after the one on which the path stands
    placed-behind : (path' : Path K V n) (p : ℕ) → StandsOn table root path p → path'.node ≡ path.node → index_of path' ≡ index_of path + 1 → ((i : ℕ) → i ≢ 0 → get_or path'.entry i 0 ≡ get_or path.entry i 0) → path'.size ≡ path.size → IsPlaced table root path' (suc p)
    placed-behind path' p on same index_is above size_is = let points = points_in (on-leaf-in union path on) (cc) path'.entry (suc p) same above (omega arith) (omega arith) in
        record { root_is = on.root_is; at = record { points = points; first = λ none. absurd (omega arith) } }

    -- an entry may be inserted before the first of the list
    placed-first : StandsOn table root path 0 → IsPlaced table root path 0
    placed-first on = let s = on.stands in
        let solid = (FitRow-split (half_of n) n s.leaf.before (node (leaf_of path) s.leaf.entries) s.leaf.after (rw (← s.leaf.row_is) (on-tree union path on).fit.leaves_fit)).0 in
        let points = points-stands _ _ _ 0 s in
        record { root_is = on.root_is; at = record { points = points; first = λ none. no_nodes _ n (some_leaf union.1.capacity) _ solid (omega arith) } }

    -- the index after an entry of a leaf is at most 255
    pub behind-low : (p : ℕ) → StandsOn table root path p → index_of path + 1 ≤ 255
    behind-low p on = omega (arith, (on-leaf-in union path on).room)

  module _ (cmp : K → K → Ordering) (key : K) where
    -- the search ended on the key's entry, or at its place where the key is absent
    ended : {p found : _} → Finds cmp (list_under table root) key p found → (is_some found ≡ true → StandsOn table root path p) → (is_some found ≡ false → IsPlaced table root path p) → GoesTo cmp table root key (option_map (λ w. w.1) found) path
    ended f on at = record { value = cc; present = λ yes. rw f.place_is (on cc); absent = λ none. rw f.place_is (at cc) }

-- a path that moved to the entry before a place
module _ {K V : Type 0} {n : ℕ} {cmp : K → K → Ordering} (o : IsTotalOrder cmp) (table : Table K V) {root : _} (key : _)
    (increasing : IsIncreasing cmp (list_under table root)) (path : Path K V n) {answer : Option (K × V)} where
  -- there is no entry before the place
  pub before-none : (p : ℕ) → answer ≡ entry_before (list_under table root) p → StandsOn table root path (p - 1) → IsUnion n table → IsUpTo cmp (drop p (list_under table root)) key → answer ≡ None → GoesTo cmp table root key None path
  before-none zero value on union up none =
      ended table root path cmp key (finds_first o key (list_under table root) increasing up) (λ some. never some refl) (λ none. placed-first table root path union on)
  before-none (suc p) value on union up none = let r = read (list_under table root) p (omega (arith, on-within table path on)) in absurd (cc)

  -- the entry before the place has an equal key
  pub before-equal : (p : ℕ) → answer ≡ entry_before (list_under table root) p → StandsOn table root path (p - 1) → {e : K × V} → answer ≡ Some e → cmp key e.0 ≡ Equal → GoesTo cmp table root key (Some e.1) path
  before-equal zero value on is t = let bad = sym is ∙ value in absurd (cc)
  before-equal (suc p) value on {e} is t =
      ended table root path cmp key (finds_here o _ _ p e (sym value ∙ is) increasing t) (λ some. subst (StandsOn table root path) (omega arith) on) (never refl)

  -- the entry before the place is less, and the path moved just past it
  pub before-greater : (p : ℕ) → answer ≡ entry_before (list_under table root) p → StandsOn table root path (p - 1) → {e : K × V} → answer ≡ Some e →
      (path' : Path K V n) → IsUnion n table → path'.node ≡ path.node → index_of path' ≡ index_of path + 1 → ((i : ℕ) → i ≢ 0 → get_or path'.entry i 0 ≡ get_or path.entry i 0) → path'.size ≡ path.size →
      IsUpTo cmp (drop p (list_under table root)) key → cmp key e.0 ≡ Greater → GoesTo cmp table root key None path'
  before-greater zero value on is path' union same index_is above size_is up t = let bad = sym is ∙ value in absurd (cc)
  before-greater (suc p) value on {e} is path' union same index_is above size_is up t =
      ended table root path' cmp key (finds_behind o _ _ p e (sym value ∙ is) increasing t up)
      (λ some. never some refl) (λ none. placed-behind _ _ path union path' p
      (subst (StandsOn table root path) (omega arith) on) same index_is above size_is)

-- a path at a place
module _ {K V : Type 0} {n : ℕ} (table : Table K V) {root : ℕ} (path : Path K V n) {p : ℕ} (at : StandsAt table root path p) where
  -- a path at the end has no entries left
  pub none-left : (cmp : K → K → Ordering) (key : K) → path.size ≡ 0 → IsUpTo cmp (drop p (list_under table root)) key
  none-left cmp key none =
      rw (drop_all p (list_under table root) (omega (arith, at_end path.node path.entry (tree_of table.nodes root) p path.size none at.at))) tt

  -- a path that is not at the end is on an entry
  pub some-on : 0 < path.size → StandsOn table root path p
  some-on some = record { root_is = at.root_is; stands = at_entry _ _ _ p _ (λ none. omega arith) at.at }

-- a path on an entry
module _ {K V : Type 0} {n : ℕ} {table : Table K V} {root : ℕ} {path : Path K V n} {p : ℕ} (union : IsUnion n table) (on : StandsOn table root path p) where
  -- the path's leaf has the entry
  pub here-leaf : (entries : List (K × V)) × (slice_get table.nodes (leaf_of path) ≡ Some (leaf_content entries)) × (index_of path < length entries)
  here-leaf = (on.stands.leaf.entries, (on-leaf-in union path on).slot_is, on.stands.leaf.within)

  module _ {e : K × V} (read_is : (entries : List (K × V)) → slice_get table.nodes (leaf_of path) ≡ Some (leaf_content entries) → slice_get entries (index_of path) ≡ Some e) where
    -- the entry read in the leaf is the entry of the list
    pub here-entry : slice_get (list_under table root) p ≡ Some e
    here-entry = entry_read union.1.capacity (on-tree union path on) read_is

    -- the entry is less than a key
    pub before-key : (cmp : K → K → Ordering) (key : K) → cmp key e.0 ≡ Greater → IfSome (slice_get (list_under table root) p) (λ entry. cmp key entry.0 ≡ Greater)
    before-key cmp key t = subst (λ o. IfSome o (λ entry. cmp key entry.0 ≡ Greater)) (sym here-entry) t

    module _ {cmp : K → K → Ordering} (o : IsTotalOrder cmp) (key : K) where
      -- the entry has an equal key
      pub here-equal : IsIncreasing cmp (list_under table root) → cmp key e.0 ≡ Equal → GoesTo cmp table root key (Some e.1) path
      here-equal increasing t = ended table root path cmp key (finds_here o _ _ p e here-entry increasing t) (λ some. on) (never refl)

      -- the entry is greater than the key
      pub here-greater : cmp key e.0 ≡ Less → IsUpTo cmp (drop p (list_under table root)) key
      here-greater t = upto_at _ _ _ p e here-entry (cc (o.antisymm e.0 key))
