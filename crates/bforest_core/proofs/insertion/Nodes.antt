-- A new entry in the path's node on a level, or in one half of it, for leaves and inner nodes alike.
use Rattle.bforest_core.proofs.Words.{◌≡◌, ℕ, suc, ◌+◌, ◌-◌, ◌≤◌, ◌<◌, Bool, true, false, Some, None, List, [], ◌∷◌, ◌++◌, length, map, refl, sym, ap, ◌∙◌}
use Rattle.bforest_core.proofs.Words.{length-append, arith, node, heads, sizes, get_or, set, slice_get, get_or_default, get_or-set_same, false≢true, Content}
use Rattle.bforest_core.proofs.Words.{IsFree, Table, entry_count, entry_capacity, entry_items, with_node, front_of, IsUsed, IsFullAt, IsSplitAt, PutsIn}
use Rattle.bforest_core.proofs.Words.{Halved, Raised, gain_above, IsTrue, OneAbove, need_above, slice_get_within, ◌↔◌, add-one, IsLeafCapacity, count, Option}
use Rattle.bforest_core.proofs.{Words.{Row, Rows, flat}, insertion.Halving.{Split, counted, split_at, into_left, into_right}}
use Rattle.bforest_core.proofs.{insertion.Level.{Growing, alone, halved, put_level, seen}, removal.Asked.some_first, removal.Lifted.headed}
use Rattle.bforest_core.proofs.{rows.LevelRows.FitRow-split, insertion.Grow.{Kind, Moves, PutAsks, in_left, in_right}, table.Tables.{is_used, row-split}}
use Rattle.bforest_core.proofs.{table.Lists.set-kept, table.Stored.some_same, walks.TopNode.set_but, table.Trading.puts}
use Rattle.bforest_nodes.specs.declared.node.SplitOff.{SplitOff}

-- the path's node on a level, which is to hold the entry `y` behind the entries `l`. The path's place on the level is `place`
pub record Inserting {K V X : Type 0} (k : Kind K V X) (t : Table K V) (ms js : List ℕ) (up size : ℕ) (row : Row K X) (rows : Rows K) (list : List (K × X))
    (place : ℕ) (gain : Option ℕ × List ℕ) (y : K × X) : Type 0 where
  pub before : Row K X
  pub es : List (K × X)
  pub l : List (K × X)
  pub r : List (K × X)
  pub after : Row K X
  pub rest : Rows K
  pub es_is : es ≡ l ++ r
  pub index_is : length l ≡ get_or js up 0 + k.behind
  pub place_is : place ≡ length (flat before) + get_or js up 0
  pub room_gain : length es < k.most → gain ≡ (None, sizes before ++ suc (length es) ∷ sizes after)
  pub full_gain : length es ≡ k.most → gain ≡ (Some (length (heads before)), sizes before ++ k.halves (get_or js up 0) (sizes after))
  pub grow : Growing k.content k.half k.most t ms js up size row before es (l ++ y ∷ r) after rows rest list

module _ {K V X : Type 0} (k : Kind K V X) {t : Table K V} {n : ℕ} (es : List (K × X)) where
  -- a node meets what inserting an entry requires
  asks : {number : ℕ} → number ≡ n → slice_get t.nodes n ≡ Some (k.content es) → IsUsed t n → (e : ℕ) → e + k.behind ≤ length es → PutAsks k.stored t number e
  asks here found used e within = rw here (used, (k.keys es, entry_items es, found ∙ ap Some (k.content_is es), k.low es e within))

  module _ {u : Table K V} {number e : ℕ} {y : K × X} {put : Bool} (here : number ≡ n) (found : slice_get t.nodes n ≡ Some (k.content es))
      (said : PutsIn k.stored k.size k.most (k.write e y) t u number put) where
    slot_is : slice_get t.nodes number ≡ Some (k.stored (k.keys es) (entry_items es))
    slot_is = cc (here, k.content_is es)

    room : put ≡ true → length es < k.most
    room done = rw (k.size_is es) at ((said.room _ _ slot_is).0 done)

    put_in : length es < k.most → u ≡ with_node t n (k.write e y (k.content es))
    put_in fewer = (rw ((said.room _ _ slot_is).1 (rw (k.size_is es) fewer)) at (said.node _ _ slot_is)) ∙ cc (here, k.content_is es)

    -- a failed insertion had no room and changes nothing
    put_past : put ≡ false → (¬ (length es < k.most)) × (u ≡ t)
    put_past none =
        (λ fewer. false≢true (sym none ∙ (said.room _ _ slot_is).1 (rw (k.size_is es) fewer)), (rw none at (said.node _ _ slot_is)) ∙ ap (λ z. record t { nodes = z }) (set-kept _ _ _ slot_is))

module _ {K V X : Type 0} {k : Kind K V X} {t : Table K V} {ms js up size row rows list place gain y : _}
    (w : Inserting k t ms js up size row rows list place gain y) (i : ℕ) (low : up < length ms) where
  open w use {before, l, r, after, rest, es, grow}

  abbrev num : ℕ
  num = get_or ms up 0

  abbrev read : ℕ
  read = get_or ms up i

  abbrev e : ℕ
  e = get_or js up 0

  num_is : read ≡ num
  num_is = get_or_default ms up i 0 low

  found : slice_get t.nodes num ≡ Some (k.content es)
  found = (row-split _ _ before (node num es ∷ after) grow.inside).1.0

  none_chain : count num t.chain ≡ 0
  none_chain = (alone grow).2

  within : e + k.behind ≤ length es
  within = omega (arith, w.index_is, ap length w.es_is, length-append l r)

  pub put_asks : PutAsks k.stored t read e
  put_asks = asks k es num_is found (is_used t num _ found none_chain) e within

  -- the slot of the path's node is within the table
  pub slot_within : read < length t.nodes
  slot_within = slice_get_within _ _ (k.content es) (cc (num_is, found))

  -- the rows above the level
  abbrev pub over : OneAbove t ms js (up + 1) size
  over = let h = some_first (l ++ y ∷ r) (omega (arith, length-append l (y ∷ r))) in
      record { rows = rest; before = heads before; x = (h.0.0, num); after = heads after; above = rw (add-one up) (headed before num after h grow.above) }

  -- the code reads the node, and whether it is full
  module _ {content : Content K V} (is : slice_get t.nodes read ≡ Some content) where
    content_is : content ≡ k.content es
    content_is = some_same (cc (num_is, found))

    pub not_free : ¬ IsFree content
    not_free = rw content_is (k.used es).0

    module _ {full : Bool} (says : IsTrue full ↔ (entry_count content ≡ entry_capacity k.cap content)) where
      tells : IsTrue full ↔ (length es ≡ k.most)
      tells = rw (content_is, (k.used es).1, (k.used es).2) at says

      pub full_needs : full ≡ true → {more : ℕ} → ((v : OneAbove t ms js (up + 1) size) → more ≡ need_above (Some (length v.before)) (map sizes v.rows)) →
          more ≡ need_above gain.0 (map sizes rows)
      full_needs so says_more = says_more over ∙ sym (cc (w.full_gain (tells.0 so), grow.sizes_above))

      pub room_needs : full ≡ false → need_above gain.0 (map sizes rows) ≡ 0
      room_needs none = let fewer : ¬ (length es ≡ k.most) = λ is. false≢true (sym none ∙ tells.1 is) in
          ap (λ z. need_above z.0 (map sizes rows)) (w.room_gain (omega (arith, fewer, (FitRow-split k.half k.most before (node num es) after grow.fit).1.1)))

  module _ {u : Table K V} {put : Bool} (said : PutsIn k.stored k.size k.most (k.write e y) t u read put) where
    -- a successful insertion leaves the level with the entry
    pub put_raises : put ≡ true → {js' : List ℕ} {p : ℕ} → Moves js js' up k.behind e place p →
        (gain.0 ≡ None) × Raised k.content k.half k.most t u ms js ms js' up size size row rows list p (gain.1 ∷ gain_above gain.0 (map sizes rows)) []
    put_raises done {js'} m = let fewer = room k es num_is found said done in let gain_is = w.room_gain fewer in
        let few = ap length w.es_is in let parts = length-append l r in let all = length-append l (y ∷ r) in
        let more : length (l ++ y ∷ r) ≡ suc (length es) = omega arith in
        let s = puts t u num _ _ found (put_in k es num_is found said fewer ∙ cc (k.writes l r e y w.index_is)) in
        (ap (λ z. z.0) gain_is, put_level grow js' gain_is fewer more s m.far (omega (arith, w.index_is)) (omega (arith, w.place_is)))

    -- a failed insertion means that the node is full, and changes nothing
    pub put_full : put ≡ false → IsFullAt k.cap t.nodes num × (u ≡ t)
    put_full none = let past = put_past k es num_is found said none in let used = k.used es in
        let most_is = (FitRow-split k.half k.most before (node num es) after grow.fit).1.1 in
        (rw found (used.0, omega (arith, used.1, used.2, past.0)), past.1)

  module _ (s : Table K V) (full : IsFullAt k.cap t.nodes num) where
    -- the node meets what a split of it requires
    pub full_asks : 0 < length t.chain → IsUsed t read × (IsFullAt k.cap t.nodes read × (0 < length t.chain))
    full_asks some = (put_asks.0, (rw num_is full, some))

    pub full_is : length es ≡ k.most
    full_is = let used = k.used es in let w = rw found at full in omega (arith, used.1, used.2, w.1)

    module _ {right : ℕ} {parts : SplitOff K} (front : front_of t.chain ≡ Some right) (right_used : IsUsed s right) (split : IsSplitAt k.cap t read e parts s)
        (capacity : IsLeafCapacity k.cap) where
      abbrev q : ℕ
      q = parts.lhs_entries

      -- how many entries are left of the cut
      pub left_count : q ≡ k.left e
      left_count = counted k.content num num_is es found split ∙ k.left_is es e

      cut : k.behind ≤ k.left e → k.left e < k.most → Split k.content t s num right q es parts.crit_key
      cut some less = split_at k.content num num_is es found split right (k.cuts q (omega (arith, left_count)))
          (omega (arith, full_is, left_count)) none_chain front right_used.within

      -- the entry goes into the left half
      module _ (few : e < k.mid) where
        left_cut : Split k.content t s num right q es parts.crit_key
        left_cut = let early = k.early capacity e few in cut (omega (arith, early.0)) (omega (arith, early.2, grow.half_some))

        pub early_asks : PutAsks k.stored s read e
        early_asks = asks k left_cut.zs num_is left_cut.two.here
            (is_used s num _ left_cut.two.here (omega (arith, none_chain, ap (λ z. count num z) left_cut.two.chain_is))) e
            (omega (arith, (k.early capacity e few).0, left_count, left_cut.count_is))

        pub early_halves : {u : Table K V} {put : Bool} → PutsIn k.stored k.size k.most (k.write e y) s u read put → {js' : List ℕ} {p : ℕ} →
            Moves js js' up k.behind e place p →
            Halved k.content k.half k.most t u ms js ms js' up size row rows gain list p parts.crit_key right false
        early_halves {u} said {js'} m = let early = rw (← left_count) at (k.early capacity e few) in
            let h = into_left k.content u left_cut (k.write e y) l y r w.es_is (omega (arith, w.index_is, early.0)) (λ mid. k.writes l mid e y w.index_is)
            (put_in k left_cut.zs num_is left_cut.two.here said (omega (arith, left_cut.count_is, early.2, grow.half_some))) in
            halved grow ms js' false (cc (w.full_gain full_is, early.3 (sizes after), full_is))
            (omega (arith, early.1), omega (arith, early.2, grow.half_some), omega (arith, early.2, full_is), omega (arith, full_is)) h (λ i other. refl) m.far
            (in_left before after num right (h.z ∷ h.xs) (h.y ∷ h.ys) (seen grow) (omega (arith, h.left_is, early.0)) (omega (arith, w.place_is)))

      -- the entry goes into the right half
      module _ (more : k.mid ≤ e) where
        right_cut : Split k.content t s num right q es parts.crit_key
        right_cut = let late = k.late capacity e more in cut late.4 late.3

        abbrev rights : List (K × X)
        rights = right_cut.y ∷ right_cut.ys

        rights_are : q + length rights ≡ length es
        rights_are = omega (arith, ap length right_cut.es_is, length-append right_cut.zs rights, right_cut.count_is)

        pub late_within : q ≤ e
        late_within = omega (arith, (k.late capacity e more).0, left_count)

        pub late_asks : {at : ℕ} → at ≡ e - k.left e → PutAsks k.stored s right at
        late_asks {at} at_is = asks k rights refl right_cut.two.there right_used at (omega (arith, rights_are, within, late_within, left_count))

        pub late_halves : {u : Table K V} {put : Bool} {at : ℕ} (first : K) → at ≡ e - k.left e → PutsIn k.stored k.size k.most (k.write at y) s u right put →
            (at + k.behind ≡ 0 → first ≡ y.0) → (0 < at + k.behind → first ≡ parts.crit_key) → {js' : List ℕ} {p : ℕ} → Moves js js' up k.behind at place p →
            Halved k.content k.half k.most t u ms js (set ms up right) js' up size row rows gain list p first right true
        late_halves {u} {at = at} first at_is said zero some {js'} m = let late = rw (← left_count) at (k.late capacity e more) in
            let rest_is : length l - q ≡ at + k.behind = omega (arith, w.index_is, late.0, left_count) in
            let h = into_right k.content u right_cut (k.write at y) l y r first w.es_is (omega (arith, w.index_is, late.0))
            (omega (arith, late.1, grow.half_some)) (λ none. zero (omega arith)) (λ few. some (omega arith))
            (λ mid is. k.writes mid r at y (omega arith))
            (put_in k rights refl right_cut.two.there said (omega (arith, rights_are, full_is, late.1, grow.half_some))) in
            halved grow (set ms up right) js' true (cc (w.full_gain full_is, late.5 (sizes after), full_is))
            (late.1, omega (arith, late.3), omega (arith, late.2, full_is), omega (arith, late.1, grow.half_some, full_is)) h
            (set_but ms up right refl) m.far
            (in_right _ _ _ _ _ _ _ _ _ (seen grow) (get_or-set_same ms up right 0 low) (omega (arith, h.right_is, rights_are, within))
            (omega (arith, w.place_is, h.left_is, late.0)))
