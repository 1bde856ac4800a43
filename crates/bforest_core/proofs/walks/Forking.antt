-- Two searches that go to the same child of a node: each answer of `goes_along` is one of these.
use Rattle.bforest_core.proofs.Words.{all_greater_behind, count_up_to-no, count_up_to-none, count_up_to-yes, count_up_to, alike_right, is_gt, is_lt, ◌≡◌, ℕ}
use Rattle.bforest_core.proofs.Words.{suc, ◌<◌, ◌≤◌, List, [], ◌∷◌, Some, arith, false, length, refl, slice_get, sym, ap, true, ◌∙◌, Content, Inner}
use Rattle.bforest_core.proofs.{Words.{false≢true, IsStrictlySortedBy, IsTotalOrder, child_index, slice_get_within}, table.Stored.some_same, walks.Reading.LastRead}
use Rattle.{bforest_nodes.specs.Content.keys_of, std.specs.declared.cmp.Ordering.{Ordering, TheVariants.{Equal, Greater, Less}}}

module _ {K : Type 0} {cmp : K → K → Ordering} (o : IsTotalOrder cmp) where
  -- what is not greater than a key is not greater than one that is not less
  not-behind : (x from to : K) → is_gt (cmp x from) ≡ false → is_gt (cmp from to) ≡ false → is_gt (cmp x to) ≡ false
  not-behind x from to low ordered = go _ refl (cmp from to) refl
    where
      go : (r : Ordering) → cmp x from ≡ r → (s : Ordering) → cmp from to ≡ s → is_gt (cmp x to) ≡ false
      go Less e Less f = ap is_gt (o.trans x from to e f)
      go Less e Equal f = ap is_gt (sym (alike_right o from to x f) ∙ e)
      go Less e Greater f = absurd (let bad = sym (ap is_gt f) ∙ ordered in cc)
      go Equal e s f = cc (o.congr x from to e)
      go Greater e s f = absurd (let bad = sym (ap is_gt e) ∙ low in cc)

  module _ (from to : K) (ordered : is_gt (cmp from to) ≡ false) where
    -- where the separator behind the first key's child is greater than the second key, or there is none, both go there
    same-child : (ks : List K) → IsStrictlySortedBy cmp ks
        → ((s : K) → slice_get ks (count_up_to cmp ks from) ≡ Some s → cmp s to ≡ Greater) → count_up_to cmp ks from ≡ count_up_to cmp ks to
    unfolding IsStrictlySortedBy
    same-child [] sorted says = refl
    same-child (x ∷ ks) sorted says = go (λ more. same-child ks sorted.1 (λ s found. says s cc)) (cmp x from) refl
      where
        later : (count_up_to cmp (x ∷ ks) from ≡ suc (count_up_to cmp ks from) → count_up_to cmp ks from ≡ count_up_to cmp ks to)
            → is_gt (cmp x from) ≡ false → count_up_to cmp (x ∷ ks) from ≡ count_up_to cmp (x ∷ ks) to
        later rest low = let more = count_up_to-yes cmp x ks from low in cc (rest more, count_up_to-yes cmp x ks to (not-behind x from to low ordered))

        go : (count_up_to cmp (x ∷ ks) from ≡ suc (count_up_to cmp ks from) → count_up_to cmp ks from ≡ count_up_to cmp ks to)
            → (r : Ordering) → cmp x from ≡ r → count_up_to cmp (x ∷ ks) from ≡ count_up_to cmp (x ∷ ks) to
        go rest Less e = later rest (ap is_gt e)
        go rest Equal e = later rest (ap is_gt e)
        go rest Greater e =
            let none = count_up_to-no cmp x ks from (ap is_gt e) ∙ count_up_to-none cmp from ks (all_greater_behind cmp from o x ks sorted.0 (ap is_lt e)) in
            let above = says x (ap (slice_get (x ∷ ks)) none) in
            cc (count_up_to-no cmp x ks to (ap is_gt above), count_up_to-none cmp to ks (all_greater_behind cmp to o x ks sorted.0 (ap is_lt above)))

  -- the separator behind the child to which a search goes is greater than the key
  greater-behind : (from s : K) (ks : List K) → IsStrictlySortedBy cmp ks → slice_get ks (count_up_to cmp ks from) ≡ Some s → cmp s from ≡ Greater
  unfolding IsStrictlySortedBy
  greater-behind from s [] sorted read = absurd (cc)
  greater-behind from s (x ∷ ks) sorted read = go (λ more. greater-behind from s ks sorted.1 cc) (cmp x from) refl
    where
      go : (count_up_to cmp (x ∷ ks) from ≡ suc (count_up_to cmp ks from) → cmp s from ≡ Greater) → (r : Ordering) → cmp x from ≡ r → cmp s from ≡ Greater
      go rest Less e = rest (count_up_to-yes cmp x ks from (ap is_gt e))
      go rest Equal e = rest (count_up_to-yes cmp x ks from (ap is_gt e))
      go rest Greater e =
          let none = count_up_to-no cmp x ks from (ap is_gt e) ∙ count_up_to-none cmp from ks (all_greater_behind cmp from o x ks sorted.0 (ap is_lt e)) in cc

  -- a key that is less than a separator is not greater than one that is not less
  not-greater : (from s to : K) → cmp s from ≡ Greater → is_lt (cmp to s) ≡ false → is_gt (cmp from to) ≡ false
  not-greater from s to greater past = go _ refl
    where
      less : cmp from s ≡ Less
      less = cc (o.antisymm from s)

      go : (r : Ordering) → cmp to s ≡ r → is_gt (cmp from to) ≡ false
      go Less e = absurd (let bad = sym (ap is_lt e) ∙ past in cc)
      go Equal e = ap is_gt (alike_right o to s from e ∙ less)
      go Greater e = ap is_gt (o.trans from s to less (cc (o.antisymm s to)))

module _ {K V : Type 0} {cmp : K → K → Ordering} (o : IsTotalOrder cmp) (slots : List (Content K V)) (node index : ℕ) (key : K)
    (asked : (keys : List K) × (children : List ℕ) × (slice_get slots node ≡ Some (Inner keys children)) × IsStrictlySortedBy cmp keys
    × (length children ≡ suc (length keys)) × (index ≤ length keys)) where
  -- a search for the key goes to the child at the index, where one for a key that is not greater does
  abbrev pub GoesAlong : Type 0
  GoesAlong = (from : K) (keys : List K) (children : List ℕ) → slice_get slots node ≡ Some (Inner keys children) → index ≡ child_index cmp keys from
      → is_gt (cmp from key) ≡ false → index ≡ child_index cmp keys key

  module _ {keys : List K} {children : List ℕ} (found : slice_get slots node ≡ Some (Inner keys children)) where
    same-keys : asked.0 ≡ keys
    same-keys = ap keys_of (some_same (sym asked.2 ∙ found))

    sorted-keys : IsStrictlySortedBy cmp keys
    sorted-keys = rw (← same-keys) asked.3

  -- there is a separator at an index that is not that of the last child
  module _ {last : ℕ} (says : LastRead slots node last) where
    pub separator-there : (index ≡ last → ⊥) → (keys : List K) × (children : List ℕ) × (slice_get slots node ≡ Some (Inner keys children))
        × (index < length keys)
    separator-there other = let is = says (Inner asked.0 asked.1) asked.2 in (asked.0, asked.1, asked.2, omega arith)

    -- behind the last child there is none
    pub along-last : index ≡ last → GoesAlong
    along-last is from keys children found at ordered = let end = says (Inner asked.0 asked.1) asked.2 in let same = ap length (same-keys found) in
        at ∙ same-child o from key ordered keys (sorted-keys found)
        (λ s read. absurd (omega (arith, slice_get_within keys (child_index cmp keys from) s read)))

  -- the separator behind the child is greater
  pub along-below : {s : K} → ((keys : List K) (children : _) → slice_get slots node ≡ Some (Inner keys children)
      → slice_get keys index ≡ Some s) → cmp key s ≡ Less → GoesAlong
  along-below {s} reads less from keys children found at ordered =
      cc (same-child o from key ordered keys (sorted-keys found) (λ z read. let is = some_same (sym read ∙ ap (slice_get keys) (sym at) ∙ reads keys children found) in simp (is, o.antisymm s key, less)))

  -- the separator behind the child is not greater, so the key is not less than one whose search goes to the child
  pub not-along : {s : K} → ((keys : List K) (children : _) → slice_get slots node ≡ Some (Inner keys children)
      → slice_get keys index ≡ Some s) → is_lt (cmp key s) ≡ false → (from : K) (keys : List K) (children : _) → slice_get slots node ≡ Some (Inner
      keys children)
      → index ≡ child_index cmp keys from → is_gt (cmp from key) ≡ false
  not-along {s} reads past from keys children found at =
      not-greater o from s key (greater-behind o from s keys (sorted-keys found) (cc (reads keys children found))) past

  -- a search for a key that is not less than the separator does not go to the child
  pub not-here : {s : K} → ((keys : List K) (children : _) → slice_get slots node ≡ Some (Inner keys children)
      → slice_get keys index ≡ Some s) → is_lt (cmp key s) ≡ false → (keys : List K) (children : _) → slice_get slots node ≡ Some (Inner keys children)
      → index ≡ child_index cmp keys key → ⊥
  not-here {s} reads past keys children found at =
      let greater = greater-behind o key s keys (sorted-keys found) (cc (reads keys children found)) in
      let less : cmp key s ≡ Less = cc (o.antisymm key s) in
      false≢true (sym past ∙ ap is_lt less)

-- a key that is tested to be less
pub less-tested : (r : Ordering) → is_lt r ≡ true → r ≡ Less
less-tested Less e = refl
less-tested Equal e = absurd (cc)
less-tested Greater e = absurd (cc)
