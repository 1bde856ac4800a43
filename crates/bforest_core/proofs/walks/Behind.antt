-- A search that stays in the leaf of the entry where a path stands: the key is behind that entry, and not behind the leaf's last.
use Rattle.bforest_core.proofs.Words.{◌≡◌, ℕ, zero, suc, ◌+◌, ◌-◌, ◌≤◌, ◌<◌, false, List, [], ◌∷◌, ◌++◌, get_or, length, set}
use Rattle.bforest_core.proofs.Words.{slice_get, IfSome, Some, refl, sym, subst, ap, ◌∙◌, arith, IsTotalOrder, IsStrictlySortedBy, AllByRecursion, is_some, is_gt, is_lt}
use Rattle.bforest_core.proofs.Words.{ordering_reverse, option_map, Path, flat, node, EndsIn, leaf_of, index_of, list_under, Table, IsUnion, tree_of}
use Rattle.bforest_core.proofs.Words.{Bool, KeyIs, None, Option, heads, value_for-absent, slice_get-map, true, IsIncreasing, is_present, place, place-later, place-present, value_for, entry_keys, get_or-set_same, all_greater_behind, leaf_content, length-map}
use Rattle.bforest_core.proofs.{rows.LevelRows.flat-append, table.Lists.{slice_get-append_left, slice_get-append-add}, table.Stored.some_same}
use Rattle.bforest_core.proofs.removal.{Dropping.{next_node, none_next}, Removal.stands_in}
use Rattle.bforest_core.proofs.walks.{Entered.points_in, Nearby.all_at, Rising.{all_split, entry_between, increasing_split, place-le, place_between}, Standing.on-leaf-in}
use Rattle.bforest_core.proofs.walks.{Steps.{at_index, read}, TopNode.set_but, Whole.stands-pointed}
use Rattle.bforest_core.specs.Place.{IsAt}
use Rattle.{std.specs.{Map.keys_of, declared.cmp.Ordering.{Ordering, TheVariants.{Less, Equal, Greater}}}, bforest_core.specs.Paths.{GoesTo, StandsBefore}}

module _ {K X : Type 0} where
  -- an entry's key is greater than those of a part in front of its own
  less_in_front : (cmp : K → K → Ordering) (xs ys : List (K × X)) (i e : _) → IsIncreasing cmp (xs ++ ys) → slice_get ys i ≡ Some e → AllByRecursion (λ p. cmp p e.0 ≡ Less) (keys_of xs)
  unfolding IsStrictlySortedBy
  less_in_front cmp [] ys i e h here = tt
  less_in_front cmp (x ∷ xs) ys i e h here = (all_at (λ k. cmp x.0 k ≡ Less) ys i e (all_split (λ k. cmp x.0 k ≡ Less) xs ys h.0).1 here, less_in_front cmp xs ys i e h.1 here)

  -- a key is less than those of a part behind its own
  less_behind : (cmp : K → K → Ordering) (xs ys : List (K × X)) (i : ℕ) (k : K) → IsIncreasing cmp (xs ++ ys) → slice_get (entry_keys xs) i ≡ Some k → AllByRecursion (λ q. cmp k q ≡ Less) (keys_of ys)
  unfolding IsStrictlySortedBy
  less_behind cmp [] ys i k h here = absurd cc
  less_behind cmp (x ∷ xs) ys zero k h here = rw (← some_same here) (all_split (λ q. cmp x.0 q ≡ Less) xs ys h.0).1
  less_behind cmp (x ∷ xs) ys (suc i) k h here = less_behind cmp xs ys i k h.1 here

module _ {K : Type 0} {cmp : K → K → Ordering} (o : IsTotalOrder cmp) (key : K) where
  -- keys less than a lesser one are less
  all_lower : (e : K) (ks : List K) → cmp e key ≡ Less → AllByRecursion (λ p. cmp p e ≡ Less) ks → AllByRecursion (λ p. cmp p key ≡ Less) ks
  all_lower e [] t h = tt
  all_lower e (k ∷ ks) t h = (o.trans k e key h.0 t, all_lower e ks t h.1)

  -- the place of a key behind an entry is behind it
  place-above : {X : Type 0} (es : List (K × X)) (i e : _) → IsIncreasing cmp es → slice_get es i ≡ Some e → cmp e.0 key ≡ Less → i < place cmp es key
  unfolding IsStrictlySortedBy
  place-above [] i e h here t = absurd cc
  place-above (x ∷ es) zero e h here t = omega (arith, place-later cmp o x es key (ap (λ z. cmp z.0 key) (some_same here) ∙ t))
  place-above (x ∷ es) (suc i) e h here t =
      omega (arith, place-later cmp o x es key (o.trans x.0 e.0 key (all_at (λ k. cmp x.0 k ≡ Less) es i e h.0 here) t), place-above es i e h.1 here t)

  -- a key whose place is behind all entries is absent
  absent-behind : {X : Type 0} (es : List (K × X)) → place cmp es key ≡ length es → is_present cmp es key ≡ false
  absent-behind es at = go (is_present cmp es key) refl
    where
      go : (b : Bool) → is_present cmp es key ≡ b → b ≡ false
      go true here = absurd (omega (arith, at, place-present cmp es key here))
      go false here = refl

  -- a key that is not less than the other is not less in the turned comparison
  not_below : (k : K) → is_gt (cmp key k) ≡ false → is_lt (cmp k key) ≡ false
  not_below k upto = ap is_lt (o.antisymm k key) ∙ go (cmp key k) upto
    where
      go : (r : Ordering) → is_gt r ≡ false → is_lt (ordering_reverse r) ≡ false
      go Less t = refl
      go Equal t = refl
      go Greater t = absurd cc

  -- a key above a lesser one
  turned : (k : K) → is_lt (cmp key k) ≡ true → cmp k key ≡ Greater
  turned k less = o.antisymm k key ∙ go (cmp key k) less
    where
      go : (r : Ordering) → is_lt r ≡ true → ordering_reverse r ≡ Greater
      go Less t = refl
      go Equal t = absurd cc
      go Greater t = absurd cc

  -- a key below a greater one
  beneath : (k : K) → is_gt (cmp key k) ≡ true → cmp k key ≡ Less
  beneath k above = o.antisymm k key ∙ go (cmp key k) above
    where
      go : (r : Ordering) → is_gt r ≡ true → ordering_reverse r ≡ Less
      go Less t = absurd cc
      go Equal t = absurd cc
      go Greater t = refl

-- a path on an entry that is less than a key
module _ {K V : Type 0} {n : ℕ} {table : Table K V} {root : ℕ} {path : Path K V n} (union : IsUnion n table) {cmp : K → K → Ordering} (o : IsTotalOrder cmp) {key : K}
    (increasing : IsIncreasing cmp (list_under table root)) (b : StandsBefore cmp table root path key) where
  abbrev pub leaf : IsAt (tree_of table.nodes root).leaves (leaf_of path) (index_of path) b.place
  leaf = b.on.stands.leaf

  whole : list_under table root ≡ flat leaf.before ++ (leaf.entries ++ flat leaf.after)
  whole = ap flat leaf.row_is ∙ flat-append leaf.before (node (leaf_of path) leaf.entries ∷ leaf.after)

  parts : IsIncreasing cmp (flat leaf.before ++ (leaf.entries ++ flat leaf.after))
  parts = subst (IsIncreasing cmp) whole increasing

  own : IsIncreasing cmp (leaf.entries ++ flat leaf.after)
  own = (increasing_split o (flat leaf.before) (leaf.entries ++ flat leaf.after) parts).1

  e : K × V
  e = (read leaf.entries (index_of path) leaf.within).0

  here : slice_get leaf.entries (index_of path) ≡ Some e
  unfolding e
  here = (read leaf.entries (index_of path) leaf.within).1

  lesser : cmp e.0 key ≡ Less
  lesser =
      let listed : slice_get (list_under table root) b.place ≡ Some e =
      ap (λ l. slice_get l b.place) whole ∙ ap (slice_get (flat leaf.before ++ (leaf.entries ++ flat leaf.after))) leaf.place_is
      ∙ slice_get-append-add (flat leaf.before) (leaf.entries ++ flat leaf.after) (index_of path) ∙ slice_get-append_left leaf.entries (flat leaf.after) (index_of path) e here in
      let greater : cmp key e.0 ≡ Greater = subst (λ o. IfSome o (λ entry. cmp key entry.0 ≡ Greater)) listed b.less in
      o.antisymm e.0 key ∙ ap ordering_reverse greater

  low : AllByRecursion (λ p. cmp p key ≡ Less) (keys_of (flat leaf.before))
  low = all_lower o key e.0 (keys_of (flat leaf.before)) lesser (less_in_front cmp (flat leaf.before) (leaf.entries ++ flat leaf.after) (index_of path) e parts (slice_get-append_left leaf.entries (flat leaf.after) (index_of path) e here))

  -- the leaf, by its number as it was read
  pub here-slot : (r : ℕ) → length path.node ≡ 17 → slice_get table.nodes (get_or path.node 0 r) ≡ Some (leaf_content leaf.entries)
  here-slot r wide = at_index table.nodes path.node r (omega (arith, wide)) refl (on-leaf-in union path b.on).slot_is

  -- the leaf has an entry
  pub has-some : 0 < length (entry_keys leaf.entries)
  has-some = omega (arith, leaf.within, length-map leaf.entries (λ w. w.0))

  pub entries-up : IsIncreasing cmp leaf.entries
  entries-up = (increasing_split o leaf.entries (flat leaf.after) own).0

  behind-up : IsIncreasing cmp (flat leaf.after)
  behind-up = (increasing_split o leaf.entries (flat leaf.after) own).1

  -- the key is less than all behind the leaf
  abbrev pub IsLow : Type 0
  IsLow = AllByRecursion (λ q. cmp q key ≡ Greater) (keys_of (flat leaf.after))

  -- a key that is not greater than the last of the leaf is less than all behind it
  pub low-here : {k : K} → slice_get (entry_keys leaf.entries) (length (entry_keys leaf.entries) - 1) ≡ Some k → is_gt (cmp key k) ≡ false → IsLow
  low-here {k} last upto = all_greater_behind cmp key o k (keys_of (flat leaf.after)) (less_behind cmp leaf.entries (flat leaf.after) (length (entry_keys leaf.entries) - 1) k own last) (not_below o key k upto)

  -- a key that is less than the first one behind the leaf is less than all behind it
  pub low-next : (next : Option K) → KeyIs next (heads leaf.after) → IfSome next (λ k. is_lt (cmp key k) ≡ true) → IsLow
  unfolding IsStrictlySortedBy
  low-next None is less = rw (none_next (stands_in n table union b.on) is) tt
  low-next (Some k) is less = let d = next_node (stands_in n table union b.on) is.1 in
      let below = turned o key d.f.0 (rw d.k_is at less) in let list_is : flat leaf.after ≡ d.f ∷ (d.fs ++ flat d.rest) = ap flat d.after_is in
      subst (λ l. AllByRecursion (λ q. cmp q key ≡ Greater) (keys_of l)) (sym list_is)
      (below, all_greater_behind cmp key o d.f.0 (keys_of (d.fs ++ flat d.rest)) (subst (IsIncreasing cmp) list_is behind-up).0 (ap is_lt below))

  -- the place in the leaf of a key that is greater than the last of it, where the path stands on that one, or else
  pub place-here : suc (index_of path) ≡ length leaf.entries → place cmp leaf.entries key ≡ length leaf.entries
  place-here is = omega (arith, is, place-above o key leaf.entries (index_of path) e entries-up here lesser, place-le o leaf.entries key)

  pub place-last : (i : ℕ) {k : K} → suc i ≡ length leaf.entries → slice_get (entry_keys leaf.entries) i ≡ Some k → is_gt (cmp key k) ≡ true → place cmp leaf.entries key ≡ length leaf.entries
  place-last i {k} is last above = let r = read leaf.entries i (omega (arith, is)) in let key_is = some_same (sym (slice_get-map (λ w. w.0) leaf.entries i ∙ ap (option_map (λ w. w.0)) r.1) ∙ last) in
      omega (arith, is, place-above o key leaf.entries i r.0 entries-up r.1 (ap (λ z. cmp z key) key_is ∙ beneath o key k above), place-le o leaf.entries key)

  -- a search for such a key ends in the leaf
  pub ends-here : IsLow → length path.node ≡ 17 → length path.entry ≡ 17 → EndsIn cmp table root key (leaf_of path) path.node path.entry path.size
  ends-here high wide indexed =
      let place_is : place cmp (list_under table root) key ≡ length (flat leaf.before) + place cmp leaf.entries key = ap (λ l. place cmp l key) whole ∙ place_between o (flat leaf.before) leaf.entries (flat leaf.after) key behind-up low high in
      let found = entry_between o (flat leaf.before) leaf.entries (flat leaf.after) key behind-up low high in
      let present_is : is_present cmp (list_under table root) key ≡ is_present cmp leaf.entries key = ap (λ l. is_present cmp l key) whole ∙ ap is_some found in
      let at : get_or (set path.entry 0 (place cmp leaf.entries key)) 0 0 ≡ place cmp leaf.entries key = get_or-set_same path.entry 0 (place cmp leaf.entries key) 0 (omega (arith, indexed)) in
      let within : get_or (set path.entry 0 (place cmp leaf.entries key)) 0 0 ≤ length leaf.entries = omega (arith, at, place-le o leaf.entries key) in
      let points = points_in (on-leaf-in union path b.on) b.on.stands.size_is (set path.entry 0 (place cmp leaf.entries key)) (place cmp (list_under table root) key) refl (set_but path.entry 0 (place cmp leaf.entries key) refl) within (omega (arith, at, place_is)) in
      record {
        root_is = b.on.root_is;
        leaf_is = refl;
        entries = leaf.entries;
        slot_is = (on-leaf-in union path b.on).slot_is;
        increasing = entries-up;
        value_is = ap (λ l. value_for cmp l key) whole ∙ ap (option_map (λ w. w.1)) found;
        found_is = present_is;
        wide = wide;
        indexed = omega (arith, indexed);
        present = λ yes. record { root_is = b.on.root_is; stands = stands-pointed points (omega (arith, at, place-present cmp leaf.entries key (sym present_is ∙ yes))) };
        absent = λ no. record { root_is = b.on.root_is; at = record { points = points; first = λ none. absurd (omega (arith, at, none, place-above o key leaf.entries (index_of path) e entries-up here lesser)) } };
      }

  -- where the key is greater than the leaf's and less than those behind, a path that goes behind the leaf's last entry is where a search ends
  pub ends-behind : (count : ℕ) → count ≡ length leaf.entries → place cmp leaf.entries key ≡ count → IsLow → length path.node ≡ 17 → length path.entry ≡ 17 → (now : Path K V n)
      → now.node ≡ path.node → now.entry ≡ set path.entry 0 count → now.size ≡ path.size
      → GoesTo cmp table root key None now
  unfolding ends-here
  ends-behind count is at low wide indexed now nodes entries size =
      let e = ends-here low wide indexed in let none = e.found_is ∙ absent-behind o key leaf.entries (at ∙ is) in record {
        value = sym (value_for-absent cmp (list_under table root) key none);
        present = λ here. absurd (let bad : true ≡ false = sym here ∙ none in cc);
        absent = λ absent. rw (nodes, entries, size, ← at) (e.absent absent);
      }
