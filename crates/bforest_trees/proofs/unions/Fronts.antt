-- Two readers side by side: how their next entries compare, and taking one off.
use Rattle.bforest_trees.proofs.Readers.{Taken, taken}
use Rattle.bforest_trees.specs.Layout.{Entered, IsReader, left_of}
use Rattle.bforest_trees.specs.Merge.{CanTake, Compares, HoldsNext, TakesFrom, TakesLeast, TakesNew, TakesOff, front_order}
use Rattle.bforest_trees.specs.declared.reader.Reader.{Reader}
use Rattle.bforest_core.specs.Table.{Table}
use Rattle.std.proofs.Common.{List, None, Option, Some, [], ap, arith, false, length, refl, slice_get, subst, suc, sym, true, zero, ◌+◌, ◌<◌, ◌∙◌, ◌∷◌, ◌≡◌, ℕ}
use Rattle.std.specs.Iterator.{YieldsFirst}
use Rattle.std.specs.Ordering.{is_eq, is_gt}
use Rattle.std.specs.declared.cmp.Ordering.TheVariants.{Equal, Greater, Less}
use Rattle.std.specs.declared.cmp.Ordering.{Ordering}

-- there is an element at each place within a list
some-at : {A : Type 0} (xs : List A) (i : ℕ) → i < length xs → (x : A) × (slice_get xs i ≡ Some x)
some-at [] i low = absurd (omega (arith, low))
some-at (x ∷ xs) zero low = (x, refl)
some-at (x ∷ xs) (suc i) low = some-at xs i (omega (arith, low))

module _ {K X : Type 0} {n : ℕ} (table : Table K X) where
  -- what is left begins with the key at hand
  pub record Begins (r : Reader K X n) (k : K) : Type 0 where
    pub value : X
    pub rest : List (K × X)
    pub left_is : left_of table r ≡ (k, value) ∷ rest

  -- a reader that passes the key at hand
  pub passed : (r r' : Reader K X n) (k : K) → IsReader table r → HoldsNext r → slice_get r.keys.now r.index ≡ Some k → r' ≡ record r { index = r.index + 1 } → (v : X) × Taken table r r' (k, v)
  passed r r' k is held key moved = let v = some-at r.vals.now r.index (omega (arith, held.within, held.same)) in (v.0, taken table r r' (k, v.0) is key v.1 moved)

  pub begins : (r : Reader K X n) (k : K) → IsReader table r → HoldsNext r → slice_get r.keys.now r.index ≡ Some k → Begins r k
  begins r k is held key =
      let p = passed r (record r { index = r.index + 1 }) k is held key refl in
      record { value = p.0; rest = left_of table (record r { index = r.index + 1 }); left_is = p.1.left }

  -- whichever comes first is held where both are
  can-both : (first second : Reader K X n) (order : Ordering) → HoldsNext first → HoldsNext second → CanTake (Some order) first second
  can-both first second Less f s = f
  can-both first second Greater f s = s
  can-both first second Equal f s = (f, s)

  module _ (cmp : K → K → Ordering) (first second : Reader K X n) (is : IsReader table first) where
    module _ (held : HoldsNext first) where
      -- both readers have a next entry
      pub compared-both : (second' : Reader K X n) → Entered table (left_of table second) second' → (k q : K) → slice_get first.keys.now first.index ≡ Some k
          → slice_get second'.keys.now second'.index ≡ Some q → (order : Ordering) → order ≡ cmp k q → Compares table cmp first second (Some order) first second'
      compared-both second' e k q key other order told =
          let holds : HoldsNext second' = record { within = e.within; same = e.same } in
          let b = begins first k is held key in
          let d = begins second' q e.reader_is holds other in record {
            order_is = ap Some told ∙ sym ((λ j. front_order cmp (b.left_is j) ((e.left_is ∙ d.left_is) j)));
            left = refl;
            second_left = sym e.left_is;
            reader = is;
            second_reader = e.reader_is;
            can = can-both first second' order held holds;
          }

      -- the second reader has none
      pub compared-first : (second' : Reader K X n) → IsReader table second → left_of table second ≡ [] → second' ≡ second → Compares table cmp first second (Some Less) first second'
      compared-first second' second_is none same =
          let k = some-at first.keys.now first.index held.within in
          let b = begins first k.0 is held k.1 in
          subst (λ (z : Reader K X n). Compares table cmp first second (Some Less) first z) (sym same) (record {
            order_is = sym (λ j. front_order cmp (b.left_is j) (none j));
            left = refl;
            second_left = refl;
            reader = is;
            second_reader = second_is;
            can = held;
          })

    -- the first reader went to its next entry before
    pub compared-entered : (first' : Reader K X n) → Entered table (left_of table first) first' → (order : Option Ordering) (second' : Reader K X n) → Compares table cmp first' second order first' second' → Compares table cmp first second order first' second'
    compared-entered first' e order second' c = record {
      order_is = c.order_is ∙ ap (λ z. front_order cmp z (left_of table second)) (sym e.left_is);
      left = sym e.left_is;
      second_left = c.second_left;
      reader = c.reader;
      second_reader = c.second_reader;
      can = c.can;
    }

    module _ (first' : Reader K X n) (none : left_of table first ≡ []) (same : first' ≡ first) where
      -- the first reader has no next entry
      pub compared-second : (second' : Reader K X n) → Entered table (left_of table second) second' → Compares table cmp first second (Some Greater) first' second'
      compared-second second' e =
          let holds : HoldsNext second' = record { within = e.within; same = e.same } in
          let q = some-at second'.keys.now second'.index e.within in
          let d = begins second' q.0 e.reader_is holds q.1 in
          subst (λ (z : Reader K X n). Compares table cmp first second (Some Greater) z second') (sym same) (record {
            order_is = sym (λ j. front_order cmp (none j) ((e.left_is ∙ d.left_is) j));
            left = refl;
            second_left = sym e.left_is;
            reader = is;
            second_reader = e.reader_is;
            can = holds;
          })

      -- neither has
      pub compared-none : (second' : Reader K X n) → IsReader table second → left_of table second ≡ [] → second' ≡ second → Compares table cmp first second None first' second'
      compared-none second' second_is second_none second_same =
          subst (λ (z : Reader K X n). Compares table cmp first second None z second') (sym same) (subst (λ (z : Reader K X n). Compares table cmp first second None first z) (sym second_same) (record {
            order_is = sym (λ j. front_order cmp (none j) (second_none j));
            left = refl;
            second_left = refl;
            reader = is;
            second_reader = second_is;
            can = tt;
          }))

  module _ (first second : Reader K X n) (is : IsReader table first) (second_is : IsReader table second) (e : K × X) where
    pub took-first : (first' : Reader K X n) → slice_get first.keys.now first.index ≡ Some e.0 → slice_get first.vals.now first.index ≡ Some e.1 → first' ≡ record first { index = first.index + 1 } → TakesFrom table Less first second e first' second
    took-first first' key value moved = let t = taken table first first' e is key value moved in
        record { off = (t.left, refl); reader = t.reader; second_reader = second_is }

    pub took-second : (second' : Reader K X n) → slice_get second.keys.now second.index ≡ Some e.0 → slice_get second.vals.now second.index ≡ Some e.1 → second' ≡ record second { index = second.index + 1 } → TakesFrom table Greater first second e first second'
    took-second second' key value moved = let t = taken table second second' e second_is key value moved in
        record { off = (refl, t.left); reader = is; second_reader = t.reader }

    pub took-both : (first' second' : Reader K X n) → slice_get first.keys.now first.index ≡ Some e.0 → slice_get first.vals.now first.index ≡ Some e.1 → first' ≡ record first { index = first.index + 1 }
        → HoldsNext second → second' ≡ record second { index = second.index + 1 } → TakesFrom table Equal first second e first' second'
    took-both first' second' key value moved held second_moved = let t = taken table first first' e is key value moved in
        let k = some-at second.keys.now second.index held.within in
        let s = passed second second' k.0 second_is held k.1 second_moved in
        record { off = (t.left, (k.0, s.0), s.1.left); reader = t.reader; second_reader = s.1.reader }

  -- the next entries of two readers were compared, and the first of them was taken off
  took : {cmp : K → K → Ordering} {first second : Reader K X n} {answered : Option Ordering} {order : Ordering} {first1 second1 : Reader K X n} {e : K × X} {first2 second2 : Reader K X n}
      → answered ≡ Some order → Compares table cmp first second answered first1 second1 → TakesFrom table order first1 second1 e first2 second2
      → (front_order cmp (left_of table first) (left_of table second) ≡ Some order) × TakesFrom table order first second e first2 second2
  took {second = second} {order = order} {first1} {e = e} {first2} {second2} is c t = (
    sym c.order_is ∙ is,
    record {
      off = subst (λ z. TakesOff order z (left_of table second) e (left_of table first2) (left_of table second2)) c.left
          (subst (λ z. TakesOff order (left_of table first1) z e (left_of table first2) (left_of table second2)) c.second_left t.off);
      reader = t.reader;
      second_reader = t.second_reader;
    },
  )

  -- one turn of a loop over two readers: their next entries were compared, and the first of them was taken off
  pub record Turn (cmp : K → K → Ordering) (first second : Reader K X n) (order : Ordering) (e : K × X) (first' second' : Reader K X n) : Type 0 where
    pub front_is : front_order cmp (left_of table first) (left_of table second) ≡ Some order
    pub off : TakesOff order (left_of table first) (left_of table second) e (left_of table first') (left_of table second')
    pub reader : IsReader table first'
    pub second_reader : IsReader table second'

  pub turn : {cmp : K → K → Ordering} {first second : Reader K X n} {answered : Option Ordering} {order : Ordering} {first1 second1 : Reader K X n} {e : K × X} {first2 second2 : Reader K X n}
      → answered ≡ Some order → Compares table cmp first second answered first1 second1
      → ((t : Table K X) → IsReader t first1 → IsReader t second1 → TakesFrom t order first1 second1 e first2 second2) → Turn cmp first second order e first2 second2
  turn is c takes = let t = took is c (takes table c.reader c.second_reader) in record { front_is = t.0; off = t.1.off; reader = t.1.reader; second_reader = t.1.second_reader }

  module _ (cmp : K → K → Ordering) (first second : Reader K X n) where
    -- the entry that comes first was taken off
    pub least-took : (order : Ordering) {first1 second1 : Reader K X n} (e : K × X) {first2 second2 : Reader K X n} → Compares table cmp first second (Some order) first1 second1
        → TakesFrom table order first1 second1 e first2 second2 → TakesLeast table cmp first second (Some e) first2 second2
    least-took order e {first2} {second2} c t = record {
      none = λ bad. absurd cc;
      some = λ d is. let same : e ≡ d = cc in subst (λ z. (order : Ordering) × (front_order cmp (left_of table first) (left_of table second) ≡ Some order) × TakesFrom table order first second z first2 second2) same (let both = took refl c t in (order, both.0, both.1));
    }

    -- the second reader has no next entry
    pub least-first : IsReader table first → {first1 : Reader K X n} → Entered table (left_of table first) first1 → IsReader table second → left_of table second ≡ [] → (second1 : Reader K X n) → second1 ≡ second
        → (e : K × X) (first2 : Reader K X n) → slice_get first1.keys.now first1.index ≡ Some e.0 → slice_get first1.vals.now first1.index ≡ Some e.1 → first2 ≡ record first1 { index = first1.index + 1 }
        → TakesLeast table cmp first second (Some e) first2 second1
    least-first is {first1} d second_is over second1 same e first2 key value moved =
        least-took Less e (compared-entered cmp first second is first1 d (Some Less) second1 (compared-first cmp first1 second d.reader_is (record { within = d.within; same = d.same }) second1 second_is over same))
        (took-first first1 second1 d.reader_is (subst (IsReader table) (sym same) second_is) e first2 key value moved)

    -- both went to their next entries, and their keys were compared
    module _ (is : IsReader table first) {first1 second1 : Reader K X n} (d : Entered table (left_of table first) first1) (d2 : Entered table (left_of table second) second1) {k q : K}
        (key : slice_get first1.keys.now first1.index ≡ Some k) (other : slice_get second1.keys.now second1.index ≡ Some q) {order : Ordering} (told : order ≡ cmp k q) (e : K × X) where
      both : (r : Ordering) → order ≡ r → Compares table cmp first second (Some r) first1 second1
      both r is_r = subst (λ z. Compares table cmp first second (Some z) first1 second1) is_r
          (compared-entered cmp first second is first1 d (Some order) second1 (compared-both cmp first1 second d.reader_is (record { within = d.within; same = d.same }) second1 d2 k q key other order told))

      pub least-greater : is_gt order ≡ true → (second2 : Reader K X n) → slice_get second1.keys.now second1.index ≡ Some e.0 → slice_get second1.vals.now second1.index ≡ Some e.1
          → second2 ≡ record second1 { index = second1.index + 1 } → TakesLeast table cmp first second (Some e) first1 second2
      least-greater greater second2 here value moved = go order refl greater
        where
          go : (r : Ordering) → order ≡ r → is_gt r ≡ true → TakesLeast table cmp first second (Some e) first1 second2
          go Less is_r t = absurd cc
          go Equal is_r t = absurd cc
          go Greater is_r t = least-took Greater e (both Greater is_r) (took-second first1 second1 d.reader_is d2.reader_is e second2 here value moved)

      module _ (not_greater : is_gt order ≡ false) (first2 second2 : Reader K X n) (here : slice_get first1.keys.now first1.index ≡ Some e.0) (value : slice_get first1.vals.now first1.index ≡ Some e.1)
          (moved : first2 ≡ record first1 { index = first1.index + 1 }) where
        pub least-equal : is_eq order ≡ true → second2 ≡ record second1 { index = second1.index + 1 } → TakesLeast table cmp first second (Some e) first2 second2
        least-equal equal passes = go order refl equal
          where
            go : (r : Ordering) → order ≡ r → is_eq r ≡ true → TakesLeast table cmp first second (Some e) first2 second2
            go Less is_r t = absurd cc
            go Greater is_r t = absurd cc
            go Equal is_r t = least-took Equal e (both Equal is_r) (took-both first1 second1 d.reader_is d2.reader_is e first2 second2 here value moved (record { within = d2.within; same = d2.same }) passes)

        pub least-less : is_eq order ≡ false → second2 ≡ second1 → TakesLeast table cmp first second (Some e) first2 second2
        least-less not_equal same = go order refl not_greater not_equal
          where
            go : (r : Ordering) → order ≡ r → is_gt r ≡ false → is_eq r ≡ false → TakesLeast table cmp first second (Some e) first2 second2
            go Greater is_r t u = absurd cc
            go Equal is_r t u = absurd cc
            go Less is_r t u = subst (λ (z : Reader K X n). TakesLeast table cmp first second (Some e) first2 z) (sym same)
                (least-took Less e (both Less is_r) (took-first first1 second1 d.reader_is d2.reader_is e first2 here value moved))

    -- the first reader has no next entry
    pub least-second : IsReader table first → left_of table first ≡ [] → (first' : Reader K X n) → first' ≡ first → (found : Option (K × X)) (second' : Reader K X n)
        → YieldsFirst (left_of table) second found second' → IsReader table second' → TakesLeast table cmp first second found first' second'
    least-second is over first' same None second' none reader =
        subst (λ (z : Reader K X n). TakesLeast table cmp first second None z second') (sym same) (record { none = λ e. (λ j. front_order cmp (over j) (none.0 j)); some = λ e bad. absurd cc })
    least-second is over first' same (Some x) second' some reader = subst (λ (z : Reader K X n). TakesLeast table cmp first second (Some x) z second') (sym same) (record {
      none = λ bad. absurd cc;
      some = λ e found. let x_is : x ≡ e = cc in (
        Greater,
        (λ j. front_order cmp (over j) (some j)),
        record { off = (refl, some ∙ ap (λ z. z ∷ left_of table second') x_is); reader = is; second_reader = reader },
      );
    })

-- what was taken off in a table is what was taken off in one that is the same
pub least-seen : {K X : Type 0} {n : ℕ} {pool table : Table K X} {cmp : K → K → Ordering} {first second : Reader K X n} {found : Option (K × X)} {first' second' : Reader K X n}
    → pool ≡ table → TakesLeast pool cmp first second found first' second' → TakesLeast table cmp first second found first' second'
least-seen {cmp = cmp} {first} {second} {found} {first'} {second'} is l = subst (λ z. TakesLeast z cmp first second found first' second') is l

module _ {K X : Type 0} {n : ℕ} (first second : Reader K X n) where
  -- an entry that is passed is not read
  pub passed-first : (first' : Reader K X n) → HoldsNext first → first' ≡ record first { index = first.index + 1 } → TakesNew Less first second None first' second
  passed-first first' held moved =
      let k = some-at first.keys.now first.index held.within in
      let v = some-at first.vals.now first.index (omega (arith, held.within, held.same)) in
      record { entry = (k.0, v.0); found_is = refl; taken = λ table is second_is. took-first table first second is second_is (k.0, v.0) first' k.1 v.1 moved }

  pub passed-both : (first' second' : Reader K X n) → HoldsNext first × HoldsNext second → first' ≡ record first { index = first.index + 1 } → second' ≡ record second { index = second.index + 1 }
      → TakesNew Equal first second None first' second'
  passed-both first' second' held moved second_moved =
      let k = some-at first.keys.now first.index held.0.within in
      let v = some-at first.vals.now first.index (omega (arith, held.0.within, held.0.same)) in
      record { entry = (k.0, v.0); found_is = refl; taken = λ table is second_is. took-both table first second is second_is (k.0, v.0) first' second' k.1 v.1 moved held.1 second_moved }
