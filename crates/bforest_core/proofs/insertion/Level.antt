-- A level whose node gained an entry or was split, for leaves and inner nodes alike, and what the levels above do to it.
use Rattle.bforest_core.proofs.Words.{◌≡◌, ℕ, suc, ◌+◌, ◌-◌, ◌≤◌, ◌<◌, if◌then◌else◌, Bool, Option, Some, None, List, [], ◌∷◌, ◌++◌, length, refl, sym, ap}
use Rattle.bforest_core.proofs.Words.{◌∙◌, append_assoc, arith, length-append, length-map, get_or, slice_get, map, flat_map, Row, Rows, node, flat, heads}
use Rattle.bforest_core.proofs.Words.{sizes, numbers, FitRow, Topped, Content, Table, RowIn, Distinct, count, Above, gain_above, need_above, OneAbove, Grown}
use Rattle.bforest_core.proofs.{Words.{GrownBy, Halved, Raised, add-one}, insertion.Grow.{InHalf, gain_some}, insertion.Halving.Halves}
use Rattle.bforest_core.proofs.table.Tables.{count-append, count-row, count-same, counts, row-changed, row-same, rows-same}
use Rattle.bforest_core.proofs.table.Trading.{Puts, draws-then, not_there, row-put, trades-wider, takes}
use Rattle.bforest_core.proofs.rows.LevelRows.{flat-append, sizes-append, heads-append, least-le, FitRow-join, FitRow-split, Solid-full}
use Rattle.bforest_core.proofs.{walks.TopNode.SameBut, rows.Zipper.{apart_here, stands-same}}

module _ {K V : Type 0} where
  -- the rows above a level, after a change of the table and of the path on that level
  above-moved : {t : Table K V} (u : Table K V) {ms js : List ℕ} (ms' js' : List ℕ) {up size rows list p : _} →
      ((m : ℕ) → 0 < count m (flat_map numbers rows) → slice_get u.nodes m ≡ slice_get t.nodes m) →
      Distinct (flat_map numbers rows ++ u.chain) → SameBut up ms ms' → SameBut up js js' →
      Above t ms js (suc up) size rows list p → Above u ms' js' (suc up) size rows list p
  above-moved u ms' js' {rows = rows} same apart far_m far_j a = record {
    over = record {
      stacked = a.stacked;
      inside = rows-same _ u.nodes rows same a.inside;
      stands = stands-same _ _ _ _ _ _ _ (λ i high. far_m i (λ e. omega arith)) (λ i high. far_j i (λ e. omega arith)) a.stands;
      height = a.height;
    };
    apart = apart;
  }

-- the path's node on a level and the rows above it: the node's entries `es` become `fs`, and the rows above are given under its new head
pub record Growing {K V X : Type 0} (content : List (K × X) → Content K V) (half most : ℕ) (t : Table K V) (ms js : List ℕ) (up size : ℕ) (row before : Row K X)
    (es fs : List (K × X)) (after : Row K X) (rows rest : Rows K) (list : List (K × X)) : Type 0 where
  pub half_some : 1 ≤ half
  pub row_is : row ≡ before ++ node (get_or ms up 0) es ∷ after
  pub list_is : flat before ++ (fs ++ flat after) ≡ list
  pub inside : RowIn content t.nodes (before ++ node (get_or ms up 0) es ∷ after)
  pub fit : FitRow half most (before ++ node (get_or ms up 0) es ∷ after)
  pub apart : Distinct ((numbers (before ++ node (get_or ms up 0) es ∷ after) ++ flat_map numbers rest) ++ t.chain)
  pub above : Above t ms js (suc up) size rest (heads (before ++ node (get_or ms up 0) fs ∷ after)) (length (heads before))
  pub topped : Topped (heads row) rows → Topped (heads (before ++ node (get_or ms up 0) fs ∷ after)) rest
  pub sizes_above : map sizes rest ≡ map sizes rows
  pub numbers_above : (m : ℕ) → count m (flat_map numbers rest) ≡ count m (flat_map numbers rows)

module _ {K V X : Type 0} {content : List (K × X) → Content K V} {half most : ℕ} {t : Table K V} {ms js up size row before es fs after rows rest list : _}
    (w : Growing content half most t ms js up size row before es fs after rows rest list) where
  abbrev pub n : ℕ
  n = get_or ms up 0

  -- the node occurs nowhere else
  pub alone : (count n (numbers before) + count n (numbers after) ≡ 0) × (count n (flat_map numbers rest) ≡ 0) × (count n t.chain ≡ 0)
  alone = apart_here n before es after (flat_map numbers rest) t.chain w.apart

  pub seen : length (heads before) ≡ length before
  seen = Solid-full half most w.half_some before (FitRow-split half most before (node n es) after w.fit).0

  was : (m : ℕ) → count m (numbers row ++ flat_map numbers rows) ≡ count m (numbers before) + count m (n ∷ numbers after) + count m (flat_map numbers rest)
  was m = let row_is = ap (λ z. count m (numbers z)) w.row_is in
      omega (arith, count-append m (numbers row) (flat_map numbers rows), count-row m before n es after, w.numbers_above m)

  -- where the node has room, it holds the new entry
  pub put_level : {u : Table K V} (js' : List ℕ) {p : ℕ} {gain : Option ℕ × List ℕ} → gain ≡ (None, sizes before ++ suc (length es) ∷ sizes after) →
      length es < most → length fs ≡ suc (length es) → Puts t u n (content fs) →
      SameBut up js js' → get_or js' up 0 < length fs → p ≡ length (flat before) + get_or js' up 0 →
      Raised content half most t u ms js ms js' up size size row rows list p (gain.1 ∷ gain_above gain.0 (map sizes rows)) []
  put_level {u} js' gain_is room more s far within place = let c = λ (m : ℕ). counts m before n es after rest t.chain in record {
    row' = before ++ node n fs ∷ after;
    rows' = rest;
    flat_is = flat-append before _ ∙ w.list_is;
    fit = let f = FitRow-split half most before (node n es) after w.fit in
        FitRow-join half most before (node n fs) after f.0 (omega (arith, f.1.0), omega arith, f.1.2);
    inside = row-put content before es fs after w.inside s alone.0;
    at = record { before = before; entries = fs; after = after; row_is = refl; within = within; place_is = place };
    above = rw seen at (above-moved u ms js' (λ m some. s.others m (not_there m n _ some alone.1))
        (λ m. omega (arith, w.apart m, c m, ap (λ z. count m z) s.chain_is, count-append m (flat_map numbers rest) u.chain)) (λ i other. refl) far w.above);
    topped = w.topped;
    sizes_are = rw gain_is (cc (more, w.sizes_above, sizes-append before (node n fs ∷ after)));
    draws = trades-wider _ _ (λ m. omega (arith, was m, count-append m (n ∷ []) (numbers after), counts m before n fs after rest t.chain)) s.frees;
    climbs = record { nodes_below = λ i low. refl; entries_below = λ i low. far i (λ e. omega arith); same_top = λ e. refl; new_top = λ ne. absurd (ne refl) };
  }

  -- the node is split, and one half holds the new entry
  pub halved : {u : Table K V} (ms' js' : List ℕ) {middle : K} {right big small p : ℕ} {gain : Option ℕ × List ℕ} (moved : Bool) →
      gain ≡ (Some (length (heads before)), sizes before ++ big ∷ small ∷ sizes after) →
      (half ≤ big) × (big ≤ most) × (half ≤ small) × (small ≤ most) → (h : Halves content t u n right middle fs big small) →
      SameBut up ms ms' → SameBut up js js' → InHalf before n right (h.z ∷ h.xs) (h.y ∷ h.ys) after (get_or ms' up 0) (get_or js' up 0) p moved →
      Halved content half most t u ms js ms' js' up size row rows gain list p middle right moved
  halved {u} ms' js' {right = right} moved gain_is sides h far_m far_j at =
      let c = λ (m : ℕ). counts m before n es after rest t.chain in let c4 = λ (m : ℕ). ap (λ z. count m z) h.two.chain_is in
      let halves = before ++ node n (h.z ∷ h.xs) ∷ node right (h.y ∷ h.ys) ∷ after in
      let here = count-same n (numbers after) in let there = count-same right u.chain in
      let hs : heads (before ++ node n fs ∷ after) ≡ heads before ++ (h.z.0, n) ∷ heads after = rw (h.grown_is, heads-append before _) refl in
      let c2 = λ (m : ℕ). counts m before n (h.z ∷ h.xs) (node right (h.y ∷ h.ys) ∷ after) rest u.chain in
      let none = alone in let f = FitRow-split half most before (node n es) after w.fit in
      let none_right : count right (numbers before) + count right (numbers after) ≡ 0 = omega (arith, w.apart right, c right, c4 right) in
      let none_above : count right (flat_map numbers rest) ≡ 0 = omega (arith, w.apart right, c right, c4 right) in
      let both : (m : ℕ) (ms : List ℕ) → 0 < count m ms → count n ms ≡ 0 → count right ms ≡ 0 → count m (right ∷ n ∷ []) ≡ 0 =
      λ m ms some a b. omega (arith, not_there m n ms some a, not_there m right ms some b, count-append m (right ∷ []) (n ∷ [])) in
      record {
        before = before;
        after = after;
        rest = rest;
        first = h.z;
        lefts = h.xs;
        next = h.y;
        rights = h.ys;
        key_is = h.middle_is;
        flat_is = cc (flat-append before (node n (h.z ∷ h.xs) ∷ node right (h.y ∷ h.ys) ∷ after), append_assoc (h.z ∷ h.xs) (h.y ∷ h.ys) (flat after));
        fit = FitRow-join half most before (node n (h.z ∷ h.xs)) (node right (h.y ∷ h.ys) ∷ after) f.0
            (omega arith, omega arith, (omega (arith, least-le half w.half_some after), omega arith, f.1.2));
        inside = row-changed content t.nodes u.nodes before (node n es ∷ [])
            (node n (h.z ∷ h.xs) ∷ node right (h.y ∷ h.ys) ∷ []) after (right ∷ n ∷ []) w.inside h.two.others (h.two.here, (h.two.there, tt))
            (λ m some. both m (numbers before ++ numbers after) (omega (arith, count-append)) (omega (arith, count-append)) (omega (arith, count-append)));
        above = rw hs at (above-moved u ms' js' (λ m some. h.two.others m (both m _ some none.1 none_above))
            (λ m. omega (arith, w.apart m, c m, c4 m, count-append m (flat_map numbers rest) u.chain)) far_m far_j w.above);
        topped = rw hs at w.topped;
        sizes_above = w.sizes_above;
        gain_is = cc (sizes-append before (node n (h.z ∷ h.xs) ∷ node right (h.y ∷ h.ys) ∷ after), h.left_is, h.right_is);
        at = at.0;
        at_is = at.1;
        apart = λ m. omega (arith, w.apart m, c m, c2 m, c4 m);
        draws = trades-wider _ _ (λ m. omega (arith, was m, c2 m, count-append m (n ∷ []) (numbers after), count-append m (n ∷ right ∷ []) (numbers after))) h.two.draws;
        nodes_below = λ i low. far_m i (λ e. omega arith);
        entries_below = λ i low. far_j i (λ e. omega arith);
        nodes_above = λ i high. far_m i (λ e. omega arith);
      }

module _ {K V X : Type 0} {content : List (K × X) → Content K V} {half most : ℕ} {t u : Table K V}
    {ms js ms' js' up size row rows gain list p key right moved : _}
    (h : Halved content half most t u ms js ms' js' up size row rows gain list p key right moved) where
  open h use {before, after, rest, first, lefts, next, rights}

  abbrev node_was : ℕ
  node_was = get_or ms up 0

  abbrev halves : Row K X
  halves = before ++ node node_was (first ∷ lefts) ∷ node right (next ∷ rights) ∷ after

  -- the levels above gained the right half
  pub rise : {v : Table K V} {ms'' js'' : List ℕ} {size' : ℕ} {taken : List ℕ} (size2 : ℕ) → size2 ≡ size →
      Grown u v ms' js' ms'' js'' (up + 1) size2 size' rest (heads before ++ (first.0, node_was) ∷ (key, right) ∷ heads after)
      (if moved then suc (length (heads before)) else length (heads before)) (gain_above (Some (length (heads before))) (map sizes rest)) taken →
      Raised content half most t v ms js ms'' js'' up size size' row rows list p (gain.1 ∷ gain_above gain.0 (map sizes rows)) (right ∷ taken)
  rise {v} {ms''} {js''} {size'} {taken} size2 size2_is after_up = let g = rw (add-one, size2_is) at after_up in
      let hs : heads halves ≡ heads before ++ (first.0, node_was) ∷ (key, right) ∷ heads after = rw (heads-append before _, h.key_is) refl in
      let here_m = g.nodes_below up (omega arith) in let here_j = g.entries_below up (omega arith) in
      let above = rw (← hs, ← h.at_is) at g.above in
      record {
        row' = halves;
        rows' = g.rows';
        flat_is = h.flat_is;
        fit = h.fit;
        inside = row-same content u.nodes v.nodes halves (λ m some.
            (let chain = ap (λ z. count m z) g.chain_is in g.others m (omega (arith, h.apart m, count-append)))) h.inside;
        at = let a = h.at in record { before = a.before; entries = a.entries; after = a.after; row_is = rw here_m a.row_is; within = rw here_j a.within; place_is = rw here_j a.place_is };
        above = above;
        topped = λ top. rw hs (g.topped _ (omega (arith, length-append {A = K × ℕ})) (h.topped top));
        sizes_are = cc;
        draws = draws-then _ _ (λ m. omega (arith, count-append m (numbers halves) (flat_map numbers rest), count-append m (numbers halves) (flat_map numbers g.rows'))) h.draws g.draws;
        climbs = record {
          nodes_below = λ i low. g.nodes_below i (omega arith) ∙ h.nodes_below i low;
          entries_below = λ i low. g.entries_below i (omega arith) ∙ h.entries_below i low;
          same_top = λ same. g.same_top same ∙ h.nodes_above (size - 1)
              (omega (arith, above.height, ap length g.sizes_are, length-map g.rows' sizes, gain_some (length (heads before)) (map sizes rest)));
          new_top = λ other. omega (arith, g.new_top other);
        };
      }

  module _ (size2 : ℕ) (size2_is : size2 ≡ size) (left : ℕ) (left_is : left ≡ node_was) where
    -- the rows one level up
    abbrev up_next : OneAbove u ms' js' (up + 1) size2
    up_next = record { rows = rest; before = heads before; x = (first.0, node_was); after = heads after; above = rw (add-one, size2_is) h.above }

    -- the need, or the levels, above a level with a split node
    above_gain : {Y : Type 0} (change : Option ℕ → List (List ℕ) → Y) → change gain.0 (map sizes rows) ≡ change (Some (length (heads before))) (map sizes rest)
    above_gain change = cc

    -- the call one level up gets what it requires
    pub next_asks : need_above gain.0 (map sizes rows) ≤ length t.chain → up + suc (length (gain_above gain.0 (map sizes rows))) ≤ 17 →
        (v : OneAbove u ms' js' (up + 1) size2) × (v.x.1 ≡ left) × (need_above (Some (length v.before)) (map sizes v.rows) ≤ suc (length u.chain))
        × (up + 1 + length (gain_above (Some (length v.before)) (map sizes v.rows)) ≤ 17)
    next_asks enough few = (up_next, sym left_is, omega (arith, above_gain need_above, ap length h.chain_is), omega (arith, ap length (above_gain gain_above)))

    -- what it ensures leaves the level with its entry
    pub next_takes : {v : Table K V} {ms'' js'' : List ℕ} {size' : ℕ} →
        ((w : OneAbove u ms' js' (up + 1) size2) → w.x.1 ≡ left → (taken : List ℕ) × GrownBy w (key, right) moved v ms'' js'' size' taken) →
        (taken : List ℕ) × (length taken ≡ need_above gain.0 (map sizes rows))
        × Raised content half most t v ms js ms'' js'' up size size' row rows list p (gain.1 ∷ gain_above gain.0 (map sizes rows)) taken
    next_takes takes = let g = takes up_next (sym left_is) in (right ∷ g.0, g.1.0 ∙ sym (above_gain need_above), rise size2 size2_is g.1.1)
