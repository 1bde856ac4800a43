-- Two increasing lists, compared and united entry by entry.
use Rattle.bforest_nodes.proofs.Ordered.{IsIncreasing-put, above, place-here, place-later}
use Rattle.bforest_nodes.specs.Entries.{IsIncreasing, is_present, place, put, with_value}
use Rattle.bforest_trees.specs.Merge.{TakesOff, front_order, new_entries}
use Rattle.bforest_trees.specs.Union.{are_among, fits, kept_from, united}
use Rattle.bforest_trees.specs.declared.trees.unite.NewEntries.{NewEntries}
use Rattle.std.proofs.Common.{Bool, List, None, Some, [], ap, arith, false, if◌then◌else◌, insert, length, not, refl, slice_get, suc, sym, true, zero, append_assoc, append-nil, length-append, ◌++◌, ◌<◌, ◌+◌, ◌≤◌, ◌∙◌, ◌∷◌, ◌≡◌, ◌&&◌, ℕ}
use Rattle.std.specs.Cmp.{IsTotalOrder, tied_itself}
use Rattle.std.specs.List.Sorted.{IsStrictlySortedBy}
use Rattle.std.specs.List.{AllByRecursion, list_all}
use Rattle.std.specs.Map.{keys_of}
use Rattle.std.specs.Option.{is_some, option_and_then}
use Rattle.std.specs.Ordering.{is_eq, is_gt, is_lt, ordering_reverse}
use Rattle.std.specs.declared.cmp.Ordering.TheVariants.{Equal, Greater, Less}
use Rattle.std.specs.declared.cmp.Ordering.{Ordering}

module _ {K : Type 0} (cmp : K → K → Ordering) (o : IsTotalOrder cmp) where
  pub flip : (a b : K) → cmp a b ≡ Less → cmp b a ≡ Greater
  flip a b t = o.antisymm b a ∙ ap ordering_reverse t

  pub equal-back : (a b : K) → cmp a b ≡ Equal → cmp b a ≡ Equal
  equal-back a b t = o.antisymm b a ∙ ap ordering_reverse t

module _ {K X : Type 0} (cmp : K → K → Ordering) where
  -- the key of e is less than each of these
  abbrev pub IsBelow : K × X → List (K × X) → Type 0
  IsBelow e es = AllByRecursion (λ y. cmp e.0 y ≡ Less) (keys_of es)

  -- the key of e is less than the first of these
  abbrev pub IsBefore : K × X → List (K × X) → Type 0
  IsBefore e [] = Unit {0}
  IsBefore e (x ∷ es) = cmp e.0 x.0 ≡ Less

  -- whether the entry at a place has this key
  abbrev found_at : List (K × X) → K → ℕ → Bool
  found_at es k p = is_some (option_and_then (λ (x : K × X). if is_eq (cmp x.0 k) then Some x else None) (slice_get es p))

  -- the list with a value put in at a place
  abbrev put_at : List (K × X) → K → X → ℕ → List (K × X)
  put_at es k v p = if found_at es k p then with_value es p v else insert es p (k, v)

  -- whether each key of es is present in others, or each absent there, as `present` says
  abbrev pub each_is : List (K × X) → List (K × X) → Bool → Bool
  each_is es others present = list_all (λ e. fits present (is_present cmp others e.0)) es

  module _ (o : IsTotalOrder cmp) where
    -- a key is present behind a lesser one where it is among the others
    pub present-later : (e : K × X) (es : List (K × X)) (k : K) → cmp e.0 k ≡ Less → is_present cmp (e ∷ es) k ≡ is_present cmp es k
    present-later e es k t = ap (found_at (e ∷ es) k) (place-later cmp o e es k t)

    put-later : (e : K × X) (es : List (K × X)) (k : K) (v : X) → cmp e.0 k ≡ Less → put cmp (e ∷ es) k v ≡ e ∷ put cmp es k v
    put-later e es k v t = ap (put_at (e ∷ es) k v) (place-later cmp o e es k t) ∙ go (is_present cmp es k)
      where
        go : (b : Bool) → (if b then e ∷ with_value es (place cmp es k) v else e ∷ insert es (place cmp es k) (k, v)) ≡ e ∷ (if b then with_value es (place cmp es k) v else insert es (place cmp es k) (k, v))
        go true = refl
        go false = refl

    -- a key that compares equal to the first is present
    pub present-first : (e : K × X) (es : List (K × X)) (k : K) → IsIncreasing cmp (e ∷ es) → cmp e.0 k ≡ Equal → is_present cmp (e ∷ es) k ≡ true
    present-first e es k up t = ap (found_at (e ∷ es) k) (place-here cmp o e es k up (ap is_lt t)) ∙ ap (λ r. is_some (if is_eq r then Some e else None)) t

    module _ (e : K × X) where
      -- a key below all others is not among them, and goes in front of them
      pub absent-below : (es : List (K × X)) → IsIncreasing cmp es → IsBelow e es → is_present cmp es e.0 ≡ false
      absent-below [] up below = refl
      absent-below (x ∷ es) up below =
          let t = flip cmp o e.0 x.0 below.0 in
          ap (found_at (x ∷ es) e.0) (place-here cmp o x es e.0 up (ap is_lt t)) ∙ ap (λ r. is_some (if is_eq r then Some x else None)) t

      put-below : (es : List (K × X)) → IsIncreasing cmp es → IsBelow e es → put cmp es e.0 e.1 ≡ e ∷ es
      put-below [] up below = refl
      put-below (x ∷ es) up below =
          let t = flip cmp o e.0 x.0 below.0 in
          ap (put_at (x ∷ es) e.0 e.1) (place-here cmp o x es e.0 up (ap is_lt t)) ∙ ap (λ r. if is_some (if is_eq r then Some x else None) then (x.0, e.1) ∷ es else (e.0, e.1) ∷ x ∷ es) t

      -- an entry below the others stays in front of their union
      united-below : (es others : List (K × X)) → IsBelow e others → united cmp (e ∷ es) others ≡ e ∷ united cmp es others
      united-below es [] below = refl
      united-below es (x ∷ others) below =
          let first = ap (λ b. if b then e ∷ es else put cmp (e ∷ es) x.0 x.1) (present-later e es x.0 below.0) ∙ ap (λ z. if is_present cmp es x.0 then e ∷ es else z) (put-later e es x.0 x.1 below.0) ∙ out (is_present cmp es x.0) in
          ap (λ z. united cmp z others) first ∙ united-below (if is_present cmp es x.0 then es else put cmp es x.0 x.1) others below.1
        where
          out : (b : Bool) → (if b then e ∷ es else e ∷ put cmp es x.0 x.1) ≡ e ∷ (if b then es else put cmp es x.0 x.1)
          out true = refl
          out false = refl

      -- an entry below each key of a list adds nothing to what is present of it
      each-below : (es others : List (K × X)) (present : Bool) → IsBelow e es → each_is es (e ∷ others) present ≡ each_is es others present
      each-below [] others present below = refl
      each-below (x ∷ es) others present below =
          let first = present-later e others x.0 below.0 in
          let rest = each-below es others present below.1 in
          ap (λ b. fits present b && each_is es (e ∷ others) present) first ∙ ap (λ z. fits present (is_present cmp others x.0) && z) rest

      -- an entry below each key of a list changes nothing of which of its entries stay
      kept-below : (xs es : List (K × X)) (present : Bool) → IsBelow e xs → kept_from cmp present xs (e ∷ es) ≡ kept_from cmp present xs es
      kept-below [] es present below = refl
      kept-below (x ∷ xs) es present below =
          ap (λ b. if fits present b then x ∷ kept_from cmp present xs (e ∷ es) else kept_from cmp present xs (e ∷ es)) (present-later e es x.0 below.0)
          ∙ ap (λ z. if fits present (is_present cmp es x.0) then x ∷ z else z) (kept-below xs es present below.1)

      -- what increases is below its first entry
      pub first-below : (es : List (K × X)) → IsIncreasing cmp (e ∷ es) → IsBelow e es
      unfolding IsStrictlySortedBy
      first-below es up = up.0

      pub rest-up : (es : List (K × X)) → IsIncreasing cmp (e ∷ es) → IsIncreasing cmp es
      unfolding IsStrictlySortedBy
      rest-up es up = up.1

    -- a key before the first of increasing ones is below all
    pub all-below : (e : K × X) (es : List (K × X)) → IsIncreasing cmp es → IsBefore e es → IsBelow e es
    all-below e [] up before = tt
    all-below e (x ∷ es) up before = (before, above cmp o e.0 x.0 (keys_of es) before (first-below x es up))

    -- of two keys that compare equal, both are below the same keys
    equal-below : (e other : K × X) (es : List (K × X)) → cmp e.0 other.0 ≡ Equal → IsBelow other es → IsBelow e es
    equal-below e other [] t below = tt
    equal-below e other (x ∷ es) t below = (o.congr e.0 other.0 x.0 t ∙ below.0, equal-below e other es t below.1)

    -- what is left of two lists, and what the step tells of them
    pub record Goes (es others : List (K × X)) (order : Ordering) (first : K × X) (es' others' : List (K × X)) : Type 0 where
      pub up : IsIncreasing cmp es'
      pub others_up : IsIncreasing cmp others'
      pub among : are_among cmp es others ≡ (not (is_lt order) && are_among cmp es' others')
      pub new : kept_from cmp false others es ≡ (if is_gt order then first ∷ kept_from cmp false others' es' else kept_from cmp false others' es')
      pub unites : united cmp es others ≡ first ∷ united cmp es' others'

    goes-first : (e : K × X) (es others : List (K × X)) → IsIncreasing cmp (e ∷ es) → IsIncreasing cmp others → IsBefore e others → Goes (e ∷ es) others Less e es others
    goes-first e es others up others_up before =
        let below = all-below e others others_up before in record {
          up = rest-up e es up;
          others_up = others_up;
          among = ap (λ b. b && are_among cmp es others) (absent-below e others others_up below);
          new = kept-below e others es false below;
          unites = united-below e es others below;
        }

    goes-second : (other : K × X) (es others : List (K × X)) → IsIncreasing cmp es → IsIncreasing cmp (other ∷ others) → IsBefore other es → Goes es (other ∷ others) Greater other es others
    goes-second other es others up others_up before =
        let below = all-below other es up before in
        let absent = absent-below other es up below in record {
          up = up;
          others_up = rest-up other others others_up;
          among = each-below other es others true below;
          new = ap (λ b. if fits false b then other ∷ kept_from cmp false others es else kept_from cmp false others es) absent;
          unites = ap (λ b. united cmp (if b then es else put cmp es other.0 other.1) others) absent ∙ ap (λ z. united cmp z others) (put-below other es up below) ∙ united-below other es others (first-below other others others_up);
        }

    goes-both : (e other : K × X) (es others : List (K × X)) → IsIncreasing cmp (e ∷ es) → IsIncreasing cmp (other ∷ others) → cmp e.0 other.0 ≡ Equal → Goes (e ∷ es) (other ∷ others) Equal e es others
    goes-both e other es others up others_up same =
        let turned = equal-back cmp o e.0 other.0 same in
        let below = equal-below other e es turned (first-below e es up) in
        let others_below = equal-below e other others same (first-below other others others_up) in
        let here = present-first other others e.0 others_up turned in
        let there = present-first e es other.0 up same in record {
          up = rest-up e es up;
          others_up = rest-up other others others_up;
          among = ap (λ b. b && are_among cmp es (other ∷ others)) here ∙ each-below other es others true below;
          new = ap (λ b. if fits false b then other ∷ kept_from cmp false others (e ∷ es) else kept_from cmp false others (e ∷ es)) there ∙ kept-below e others es false others_below;
          unites = ap (λ b. united cmp (if b then e ∷ es else put cmp (e ∷ es) other.0 other.1) others) there ∙ united-below e es others others_below;
        }

    -- which entry is before the others
    front-less : (e : K × X) (es others : List (K × X)) → front_order cmp (e ∷ es) others ≡ Some Less → IsBefore e others
    front-less e es [] is = tt
    front-less e es (x ∷ others) is = cc

    front-greater : (other : K × X) (es others : List (K × X)) → front_order cmp es (other ∷ others) ≡ Some Greater → IsBefore other es
    front-greater other [] others is = tt
    front-greater other (x ∷ es) others is = o.antisymm other.0 x.0 ∙ ap ordering_reverse (let t : cmp x.0 other.0 ≡ Greater = cc in t)

    -- a step takes the first entry off
    pub goes : (order : Ordering) {es others : List (K × X)} {first : K × X} {es' others' : List (K × X)} → IsIncreasing cmp es → IsIncreasing cmp others → front_order cmp es others ≡ Some order → TakesOff order es others first es' others' → Goes es others order first es' others'
    goes Less {es} {others} {first} {es'} {others'} up others_up is t =
        rw (t.0, t.1) (goes-first first es' others (rw t.0 at up) others_up (front-less first es' others (rw t.0 at is)))
    goes Greater {es} {others} {first} {es'} {others'} up others_up is t =
        rw (t.0, t.1) (goes-second first es others' up (rw t.1 at others_up) (front-greater first es others' (rw t.1 at is)))
    goes Equal {es} {others} {first} {es'} {others'} up others_up is t =
        let seen : Some (cmp first.0 t.1.0) ≡ Some Equal = rw (t.0, t.2) at is in
        rw (t.0, t.2) (goes-both first t.1 es' others' (rw t.0 at up) (rw t.2 at others_up) (cc))

    -- a first key that is the lesser one is not among the others
    pub refuses : (es others : List (K × X)) → IsIncreasing cmp es → IsIncreasing cmp others → front_order cmp es others ≡ Some Less → are_among cmp es others ≡ false
    refuses [] [] up others_up is = absurd (cc)
    refuses [] (x ∷ others) up others_up is = absurd (cc)
    refuses (e ∷ es) others up others_up is = (goes Less {others = others} {first = e} {es' = es} {others' = others} up others_up is (refl, refl)).among

    -- the union of an increasing list with any list increases
    pub united-up : (es others : List (K × X)) → IsIncreasing cmp es → IsIncreasing cmp (united cmp es others)
    united-up es [] up = up
    united-up es (x ∷ others) up = united-up (if is_present cmp es x.0 then es else put cmp es x.0 x.1) others (go (is_present cmp es x.0))
      where
        go : (b : Bool) → IsIncreasing cmp (if b then es else put cmp es x.0 x.1)
        go true = up
        go false = IsIncreasing-put cmp o es x.0 x.1 up

    -- each key of an increasing list is among its own
    pub among-itself : (es : List (K × X)) → IsIncreasing cmp es → are_among cmp es es ≡ true
    among-itself [] up = refl
    among-itself (e ∷ es) up =
        ap (λ b. b && are_among cmp es (e ∷ es)) (present-first e es e.0 up (tied_itself o e.0)) ∙ each-below e es es true (first-below e es up) ∙ among-itself es (rest-up e es up)

  -- where no key is new, the union is the list
  pub united-same : (es others : List (K × X)) → are_among cmp others es ≡ true → united cmp es others ≡ es
  united-same es [] all = refl
  united-same es (x ∷ others) all = go (is_present cmp es x.0) refl (λ rest. united-same es others rest)
    where
      go : (b : Bool) → is_present cmp es x.0 ≡ b → (are_among cmp others es ≡ true → united cmp es others ≡ es) → united cmp (if is_present cmp es x.0 then es else put cmp es x.0 x.1) others ≡ es
      go true t rest = ap (λ b. united cmp (if b then es else put cmp es x.0 x.1) others) t ∙ rest (sym (ap (λ b. b && are_among cmp others es) t) ∙ all)
      go false t rest = absurd (let bad : false ≡ true = sym (ap (λ b. b && are_among cmp others es) t) ∙ all in cc)

  module _ (k : K) (v : X) where
    valued : (es : List (K × X)) (p : ℕ) → length (with_value es p v) ≡ length es
    valued [] p = refl
    valued (e ∷ es) zero = refl
    valued (e ∷ es) (suc p) = ap suc (valued es p)

    inserted : (es : List (K × X)) (p : ℕ) → length (insert es p (k, v)) ≡ suc (length es)
    inserted [] zero = refl
    inserted [] (suc p) = refl
    inserted (e ∷ es) zero = refl
    inserted (e ∷ es) (suc p) = ap suc (inserted es p)

    -- a list in which a new key is put has one more
    put-longer : (es : List (K × X)) → is_present cmp es k ≡ false → length (put cmp es k v) ≡ suc (length es)
    put-longer es absent = ap (λ b. length (if b then with_value es (place cmp es k) v else insert es (place cmp es k) (k, v))) absent ∙ inserted es (place cmp es k)

    -- a list in which an entry is put has at most one more
    put-length : (es : List (K × X)) → (length es ≤ length (put cmp es k v)) × (length (put cmp es k v) ≤ suc (length es))
    put-length es = go (is_present cmp es k) (place cmp es k)
      where
        go : (b : Bool) (p : ℕ) → (length es ≤ length (if b then with_value es p v else insert es p (k, v))) × (length (if b then with_value es p v else insert es p (k, v)) ≤ suc (length es))
        go true p = (omega (arith, valued es p), omega (arith, valued es p))
        go false p = (omega (arith, inserted es p), omega (arith, inserted es p))

  -- a union has at least the entries of the first list, and at most those of both
  pub united-grows : (es others : List (K × X)) → length es ≤ length (united cmp es others)
  united-grows es [] = omega arith
  united-grows es (x ∷ others) = omega (arith, united-grows (if is_present cmp es x.0 then es else put cmp es x.0 x.1) others, go (is_present cmp es x.0))
    where
      go : (b : Bool) → length es ≤ length (if b then es else put cmp es x.0 x.1)
      go true = omega arith
      go false = (put-length x.0 x.1 es).0

  -- where a key is new, the union has more entries than the first list
  pub united-more : (es others : List (K × X)) → are_among cmp others es ≡ false → length es < length (united cmp es others)
  united-more es [] new = absurd (cc)
  united-more es (x ∷ others) new = go (is_present cmp es x.0) refl new (united-more es others)
    where
      go : (b : Bool) → is_present cmp es x.0 ≡ b → (b && are_among cmp others es) ≡ false → (are_among cmp others es ≡ false → length es < length (united cmp es others))
          → length es < length (united cmp (if b then es else put cmp es x.0 x.1) others)
      go true t new rest = rest new
      go false t new rest = omega (arith, united-grows (put cmp es x.0 x.1) others, put-longer x.0 x.1 es t)

  pub united-length : (es others : List (K × X)) → length (united cmp es others) ≤ length es + length others
  united-length es [] = omega arith
  united-length es (x ∷ others) = omega (arith, united-length (if is_present cmp es x.0 then es else put cmp es x.0 x.1) others, go (is_present cmp es x.0))
    where
      go : (b : Bool) → length (if b then es else put cmp es x.0 x.1) ≤ suc (length es)
      go true = omega arith
      go false = (put-length x.0 x.1 es).1

module _ {K X : Type 0} (cmp : K → K → Ordering) where
  -- a step takes something off
  pub steps-less : (order : Ordering) (es others : List (K × X)) (first : K × X) (es' others' : List (K × X)) → TakesOff order es others first es' others' → length es' + length others' < length es + length others
  steps-less Less es others first es' others' t = omega (arith, ap length t.0, ap length t.1)
  steps-less Greater es others first es' others' t = omega (arith, ap length t.0, ap length t.1)
  steps-less Equal es others first es' others' t = omega (arith, ap length t.0, ap length t.2)

  -- the rest of two lists, of which the entries so far are as they should be
  pub record Comparing (es others : List (K × X)) (present : Bool) (rest others_rest : List (K × X)) : Type 0 where
    pub up : IsIncreasing cmp rest
    pub others_up : IsIncreasing cmp others_rest
    pub same : each_is cmp es others present ≡ each_is cmp rest others_rest present

  -- the rest of two lists, and the entries so far of the second that are new to the first
  pub record Seeking (es others : List (K × X)) (new : NewEntries K X) (rest others_rest : List (K × X)) : Type 0 where
    pub up : IsIncreasing cmp rest
    pub others_up : IsIncreasing cmp others_rest
    pub seen : List (K × X)
    pub new_is : new ≡ new_entries seen
    pub whole : kept_from cmp false others es ≡ seen ++ kept_from cmp false others_rest rest

  -- the rest of two lists, of whose union so many entries were taken off, and put into a list as far as memory was had
  pub record Gathering (es others items : List (K × X)) (entries : ℕ) (rest others_rest : List (K × X)) : Type 0 where
    pub up : IsIncreasing cmp rest
    pub others_up : IsIncreasing cmp others_rest
    pub count : entries + length (united cmp rest others_rest) ≡ length (united cmp es others)
    pub most : length items ≤ entries
    pub whole : length items ≡ entries → items ++ united cmp rest others_rest ≡ united cmp es others

  -- a key that is less than the next one of the others is not among them
  pub comparing-no : (o : IsTotalOrder cmp) {es others rest others_rest : List (K × X)} (order : Ordering) → front_order cmp rest others_rest ≡ Some order → Comparing es others true rest others_rest → is_lt order ≡ true → are_among cmp es others ≡ false
  comparing-no o {es} {others} {rest} {others_rest} Less is c told = c.same ∙ refuses cmp o rest others_rest c.up c.others_up is
  comparing-no o Equal is c told = absurd (cc)
  comparing-no o Greater is c told = absurd (cc)

  module _ (o : IsTotalOrder cmp) {es others rest others_rest : List (K × X)} (order : Ordering) (first : K × X) (rest' others_rest' : List (K × X)) (is : front_order cmp rest others_rest ≡ Some order) (t : TakesOff order rest others_rest first rest' others_rest') where
    pub comparing-next : Comparing es others true rest others_rest → is_lt order ≡ false → Comparing es others true rest' others_rest'
    comparing-next c told = let g = goes cmp o order c.up c.others_up is t in
        record { up = g.up; others_up = g.others_up; same = c.same ∙ g.among ∙ ap (λ b. not b && are_among cmp rest' others_rest') told }

    module _ {new : NewEntries K X} (c : Seeking es others new rest others_rest) where
      -- the entry that was taken off is not new
      pub seeking-old : is_gt order ≡ false → Seeking es others new rest' others_rest'
      seeking-old is_old = let g = goes cmp o order c.up c.others_up is t in record {
        up = g.up;
        others_up = g.others_up;
        seen = c.seen;
        new_is = c.new_is;
        whole = c.whole ∙ ap (λ z. c.seen ++ z) (g.new ∙ ap (λ b. if b then first ∷ kept_from cmp false others_rest' rest' else kept_from cmp false others_rest' rest') is_old);
      }

      -- the entry that was taken off is new
      pub seeking-new : is_gt order ≡ true → {new' : NewEntries K X} → ((seen : List (K × X)) → new ≡ new_entries seen → new' ≡ new_entries (seen ++ first ∷ [])) → Seeking es others new' rest' others_rest'
      seeking-new is_new more = let g = goes cmp o order c.up c.others_up is t in record {
        up = g.up;
        others_up = g.others_up;
        seen = c.seen ++ first ∷ [];
        new_is = more c.seen c.new_is;
        whole = c.whole ∙ ap (λ z. c.seen ++ z) (g.new ∙ ap (λ b. if b then first ∷ kept_from cmp false others_rest' rest' else kept_from cmp false others_rest' rest') is_new)
            ∙ sym (append_assoc c.seen (first ∷ []) (kept_from cmp false others_rest' rest'));
      }

    module _ {items : List (K × X)} {entries : ℕ} (c : Gathering es others items entries rest others_rest) where
      pub gathering-low : entries < length (united cmp es others)
      gathering-low = let g = goes cmp o order c.up c.others_up is t in omega (arith, c.count, ap length g.unites)

      -- the entry that was taken off was put into the list
      pub gathering-put : Gathering es others (items ++ first ∷ []) (entries + 1) rest' others_rest'
      gathering-put = let g = goes cmp o order c.up c.others_up is t in let longer = length-append items (first ∷ []) in record {
        up = g.up;
        others_up = g.others_up;
        count = omega (arith, c.count, ap length g.unites);
        most = omega (arith, c.most, longer);
        whole = λ all. append_assoc items (first ∷ []) (united cmp rest' others_rest') ∙ ap (λ z. items ++ z) (sym g.unites) ∙ c.whole (omega (arith, all, longer));
      }

      -- there was no memory for it
      pub gathering-past : Gathering es others items (entries + 1) rest' others_rest'
      gathering-past = let g = goes cmp o order c.up c.others_up is t in record {
        up = g.up;
        others_up = g.others_up;
        count = omega (arith, c.count, ap length g.unites);
        most = omega (arith, c.most);
        whole = λ all. absurd (omega (arith, all, c.most));
      }

  pub no-union : {rest others_rest : List (K × X)} → (rest ≡ []) × (others_rest ≡ []) → united cmp rest others_rest ≡ []
  no-union none = rw (none.0, none.1) refl

  -- both lists are over
  pub front-none : (es others : List (K × X)) → front_order cmp es others ≡ None → (es ≡ []) × (others ≡ [])
  front-none [] [] is = (refl, refl)
  front-none [] (x ∷ others) is = absurd (cc)
  front-none (x ∷ es) [] is = absurd (cc)
  front-none (x ∷ es) (y ∷ others) is = absurd (cc)

  module _ {es others rest others_rest : List (K × X)} where
    pub comparing-end : {present : Bool} → Comparing es others present rest others_rest → rest ≡ [] → each_is cmp es others present ≡ true
    comparing-end {present} c none = c.same ∙ ap (λ z. each_is cmp z others_rest present) none

    module _ (none : (rest ≡ []) × (others_rest ≡ [])) where
      pub seeking-end : {new : NewEntries K X} → Seeking es others new rest others_rest → new ≡ new_entries (kept_from cmp false others es)
      seeking-end c = c.new_is ∙ ap new_entries (sym (append-nil c.seen) ∙ ap (λ z. c.seen ++ kept_from cmp false z rest) (sym none.1) ∙ sym c.whole)

      pub gathering-end : {items : List (K × X)} {entries : ℕ} → Gathering es others items entries rest others_rest
          → (entries ≡ length (united cmp es others)) × (length items ≡ entries → items ≡ united cmp es others)
      gathering-end {items} c = (omega (arith, c.count, ap length (no-union none)), λ all. sym (append-nil items) ∙ ap (λ z. items ++ z) (sym (no-union none)) ∙ c.whole all)
