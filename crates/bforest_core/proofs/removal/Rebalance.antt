-- A node that lost an entry: it stays, or is balanced with its right neighbour.
use Rattle.bforest_core.proofs.table.Tables.{row-changed, count-same, count-append, counts, count-row, row-same, row-split, rows-same}
use Rattle.bforest_core.proofs.Words.{◌≡◌, ℕ, suc, ◌+◌, ◌-◌, ◌/◌, ◌≤◌, ◌<◌, ◌≢◌, List, [], ◌∷◌, ◌++◌, length, refl, sym, ap, ◌∙◌, inl, inr, length-append}
use Rattle.bforest_core.proofs.Words.{arith, Content, Table, false, le-leb, lt-leb, lt-ltb, le-ltb, zero, ◌*◌, ◌⊎◌, map, set, get_or, append_assoc, Row}
use Rattle.bforest_core.proofs.Words.{Some, slice_get, flat_map, append-nil, get_or-set_other, get_or-set_same, with_freed, node, flat, heads, sizes, numbers, least}
use Rattle.bforest_core.proofs.Words.{rebalanced, count, Above, FitRow, Frees, Rebuilt, RowIn, Rows, OnLevel, Healed, Joined, Keeps}
use Rattle.bforest_core.specs.Descent.{SameAbove}
use Rattle.bforest_core.proofs.rows.LevelRows.{flat-append, heads-append, sizes-append, numbers-append, FitRow-join, least-le}
use Rattle.bforest_core.proofs.{rows.Zipper.{above_two, stands-same}, removal.Balance.{AllRight, IsHalf, PutsTwo, Spread}, removal.Lifted.above_same}
use Rattle.bforest_core.proofs.{removal.Asked.keeps-refl, table.Trading.{Puts, apart_from, trades-none, trades-wider, frees-after, frees-one}}

-- the last node, if not empty, stays
pub rebalanced_last : (q m : ℕ) → 1 ≤ m → rebalanced q m [] ≡ (false, m ∷ [])
rebalanced_last q zero one = absurd (omega arith)
rebalanced_last q (suc m) one = refl

-- a node that is half full or the last meets the least size, and stays as it is
pub judged : {K X : Type 0} (half most : ℕ) (es : List (K × X)) (after : Row K X) → most ≤ half + half → 1 ≤ length es → (half ≤ length es) ⊎ (after ≡ []) →
    (least half after ≤ length es) × (rebalanced most (length es) (sizes after) ≡ (false, length es ∷ sizes after))
judged half most es [] lo some w = (some, rebalanced_last _ _ some)
judged half most [] (x ∷ xs) lo some w = absurd (omega arith)
judged half most (e ∷ es) (node k fs ∷ xs) lo some (inl h) = (h, rw (le-ltb (2 * suc (length es)) most (omega arith)))
judged half most (e ∷ es) (x ∷ xs) lo some (inr none) = absurd cc

-- The right neighbour of a node has the entries `now`, and the path leads to it. The node is freed; the level above still names both
pub record Ceded {K V X : Type 0} (content : List (K × X) → Content K V) (half most : ℕ) (old new : Table K V) (path indices path' : List ℕ) (level size : ℕ)
    (before : Row K X) (n : ℕ) (e : K × X) (es : List (K × X)) (q : ℕ) (f : K × X) (fs : List (K × X)) (after : Row K X) (rest : Rows K) (now : List (K × X)) : Type 0 where
  pub inside : RowIn content new.nodes (before ++ node q now ∷ after)
  pub fit : FitRow half most (before ++ node q now ∷ after)
  pub above : Above new path' indices (suc level) size rest (heads before ++ (e.0, n) ∷ (f.0, q) ∷ heads after) (length (heads before))
  pub number_is : get_or path' level 0 ≡ q
  pub frees : Frees old new (numbers (before ++ node n (e ∷ es) ∷ node q (f ∷ fs) ∷ after)) (numbers (before ++ node q now ∷ after)) (n ∷ [])
  pub nodes_above : SameAbove level path path'
  pub keeps : Keeps path indices path' indices level size
  pub open keeps use *

module _ {K V X : Type 0} {content : List (K × X) → Content K V} {half most : ℕ} (hm : IsHalf half most) {t : Table K V} {path indices up size before n : _} where
  module _ {es after rest : _} (p : OnLevel content half most t path indices up size before n es after rest) (why : (half ≤ length es) ⊎ (after ≡ [])) where
    -- the level is unchanged, and the path leads to a node of the row
    settle_same : {path' indices' : _} (front : Row K X) (m fs back : _) → front ++ node m fs ∷ back ≡ before ++ node n es ∷ after → Above t path' indices' (suc up) size rest (heads (front ++ node m fs ∷ back)) (length (heads front)) →
        get_or path' up 0 ≡ m → (get_or indices up 0 < length (es ++ flat after) → get_or indices' up 0 < length fs)
        → length (flat front) + get_or indices' up 0 ≡ length (flat before) + get_or indices up 0 → Keeps path indices path' indices' up size
        → Healed content half most t t path indices path' indices' up size before n es after rest
    settle_same front m fs back same above m_is within place_is kept = let stays = judged _ _ _ _ hm.lo p.some why in
        record {
          before' = front;
          number' = m;
          entries' = fs;
          after' = back;
          rest' = rest;
          stays = cc (stays.1);
          inside = rw same p.inside;
          fit = rw same (FitRow-join _ _ _ (node n es) after p.solid (stays.0, p.most_is, p.fits));
          list_is = cc;
          above = above;
          number_is = m_is;
          within = within;
          place_is = place_is;
          sizes_are = cc (sizes-append before (node n es ∷ after), stays.1);
          rest_sizes = refl;
          row_numbers = cc;
          frees = rw same (trades-none t _);
          keeps = kept;
        }

    -- the level is unchanged, and so is the path
    pub settle_stay : (get_or indices up 0 < length (es ++ flat after) → get_or indices up 0 < length es) → Healed content half most t t path indices path indices up size before n es after rest
    settle_stay within = settle_same _ n _ _ refl p.above p.number_is within refl keeps-refl

  module _ {e es q f fs after rest : _} (p : OnLevel content half most t path indices up size before n (e ∷ es) (node q (f ∷ fs) ∷ after) rest) where
    abbrev row : Row K X
    row = before ++ node n (e ∷ es) ∷ node q (f ∷ fs) ∷ after

    -- the level above, cut at both nodes
    pub above_both : Above t path indices (suc up) size rest (heads before ++ (e.0, n) ∷ (f.0, q) ∷ heads after) (length (heads before))
    above_both = rw (← heads-append before (node n (e ∷ es) ∷ node q (f ∷ fs) ∷ after)) p.above

    -- the path moves from past the node to the next node
    pub settle_move : {path' indices' : _} → half ≤ length (e ∷ es) → get_or indices up 0 ≡ length (e ∷ es)
        → Above t path' indices' (suc up) size rest (heads before ++ (e.0, n) ∷ (f.0, q) ∷ heads after) (suc (length (heads before)))
        × (get_or path' up 0 ≡ q) → get_or indices' up 0 ≡ 0 → Keeps path indices path' indices' up size →
        Healed content half most t t path indices path' indices' up size before n (e ∷ es) (node q (f ∷ fs) ∷ after) rest
    settle_move {path'} {indices'} healthy e_is above z_is kept =
        let front = before ++ node n (e ∷ es) ∷ [] in let same = append_assoc before (node n (e ∷ es) ∷ []) (node q (f ∷ fs) ∷ after) in
        let len : length (heads front) ≡ suc (length (heads before)) = simp (heads-append, length-append) (omega arith) in
        let flats : length (flat front) ≡ length (flat before) + length (e ∷ es) = simp (flat-append, append-nil, length-append) in
        settle_same p (inl healthy) front q (f ∷ fs) after same (rw (same, heads-append before (node n (e ∷ es) ∷ node q (f ∷ fs) ∷ after), len) above.0)
        above.1 (λ low. omega arith) (omega arith) kept

    -- the two nodes are different and in no other row, and the right one is off the chain
    pub apart : (n ≢ q) × (count n (numbers before) + count n (numbers after) ≡ 0) × (count q (numbers before) + count q (numbers after) ≡ 0) × (count q t.chain ≡ 0)
    apart = let c = λ (m : ℕ). counts m before n (e ∷ es) (node q (f ∷ fs) ∷ after) rest t.chain in let sn = count-same n (q ∷ numbers after) in
        let sq = count-same q (numbers after) in (
          λ same. let h = ap (λ z. count z (q ∷ numbers after)) same in omega (arith, c n),
          omega (arith, c n),
          omega (arith, c q),
          omega (arith, c q),
        )

    -- the numbers of the two nodes among those of the row and of the rows above
    pair : (m : ℕ) → (count m (numbers row) ≡ count m (numbers before) + (count m (n ∷ q ∷ []) + count m (numbers after)))
        × (count m (numbers row ++ flat_map numbers rest) ≡ count m (numbers row) + count m (flat_map numbers rest))
    pair m = (count-row m before n (e ∷ es) _ ∙ ap (λ z. count m (numbers before) + z) (count-append m (n ∷ q ∷ []) (numbers after)), count-append m (numbers row) _)

    -- the two nodes are no others of the row
    pair_apart : (m : ℕ) → 0 < count m (numbers before) + count m (numbers after) → count m (n ∷ q ∷ []) ≡ 0
    pair_apart m some = omega (arith, p.apart m, pair m, count-append)

    -- the rows above, after a write of the two slots
    pub above_two_put : {u c d : _} → PutsTwo content t u n q c d → Above u path indices (suc up) size rest (heads before ++ (e.0, n) ∷ (f.0, q) ∷ heads after) (length (heads before))
    above_two_put {u} w = let b = above_both in above_same b u (λ m some. w.others m (omega (arith, p.apart m, pair m, count-append)))
        (λ m. omega (arith, b.apart m, ap (λ z. count m z) w.chain_is, count-append))

    -- the right neighbour has these entries, and the node's slot is freed
    settle_right : (v : Table K V) (now : List (K × X)) → Frees t v (n ∷ q ∷ []) (q ∷ []) (n ∷ []) → slice_get v.nodes q ≡ Some (content now) → least half after ≤ length now → length now ≤ most
        → up < length path → Ceded content half most t v path indices (set path up q) up size before n e es q f fs after rest now
    settle_right v now freed slot lo hi low =
        let fit_q = p.fits in let a = above_both in let high = above_two _ (heads before) (e.0, n) (f.0, q) (heads after) a in
        let c = λ (m : ℕ). counts m before n (e ∷ es) (node q (f ∷ fs) ∷ after) rest t.chain in
        let frees = trades-wider (numbers row) (numbers (before ++ node q now ∷ after))
        (λ m. omega (arith, pair m, count-row m before q now after, count-append m (q ∷ []) (numbers after), count-append m (n ∷ []) (q ∷ []))) freed in
        record {
          inside = row-changed content _ _ before (node n (e ∷ es) ∷ node q (f ∷ fs) ∷ []) (node q now ∷ []) after (n ∷ q ∷ []) p.inside freed.others (slot, tt) pair_apart;
          fit = FitRow-join _ _ _ (node q now) after p.solid (lo, hi, fit_q.2);
          above = record {
            over = record {
              stacked = a.stacked;
              inside = rows-same _ _ _ (λ m some. frees.others m (omega (arith, c m))) a.inside;
              stands = stands-same _ _ _ _ _ _ _ (λ i high. get_or-set_other path up i q 0 (λ w. omega arith)) (λ i high. refl) a.stands;
              height = a.height;
            };
            apart = λ m. omega (arith, c m, count-append m (flat_map numbers rest) v.chain, ap (λ z. count m z) frees.chain_is);
          };
          number_is = get_or-set_same _ _ _ 0 low;
          frees = frees;
          nodes_above = λ i above. get_or-set_other path up i q 0 (λ w. omega arith);
          keeps = record {
            nodes_below = λ i below. get_or-set_other path up i q 0 (λ w. omega arith);
            entries_below = λ i low. refl;
            same_top = get_or-set_other _ _ (size - 1) q 0 (λ w. omega arith);
          };
        }

    module _ {u : Table K V} (v : Table K V) (under : length (e ∷ es) < half) where
      -- the node takes entries of its right neighbour, and the key between the two was updated above
      pub settle_spread : {key : K} (s : Spread content t u most n q (e ∷ es) (f ∷ fs) key) → Rebuilt u v path indices path indices (suc up) size rest (heads before ++ (e.0, n) ∷ (key, q) ∷ heads after) (length (heads before)) (map sizes rest) [] →
          Healed content half most t v path indices path indices up size before n (e ∷ es) (node q (f ∷ fs) ∷ after) rest
      settle_spread {key} s b = let both = length (e ∷ es) + length (f ∷ fs) in let row2 = before ++ node n (s.x ∷ s.xs) ∷ node q (s.y ∷ s.ys) ∷ after in
          let outcome : rebalanced most (suc (length es)) (suc (length fs) ∷ sizes after) ≡ (false, (both - both / 2) ∷ both / 2 ∷ sizes after) =
          rw (lt-ltb (2 * suc (length es)) most (omega arith), lt-leb both most s.more) in let fit_q = p.fits in
          let x_is : e ≡ s.x = (let w = s.whole in cc) in let lo : half ≤ suc (length s.xs) = omega arith in let hi : suc (length s.xs) ≤ most = omega arith in
          let hi_q : suc (length s.ys) ≤ most = omega arith in let c = λ (m : ℕ). counts m before n (e ∷ es) (node q (f ∷ fs) ∷ after) rest t.chain in
          let c2 = λ (m : ℕ). count-row m before n (s.x ∷ s.xs) (node q (s.y ∷ s.ys) ∷ after) in
          let in_u = row-changed content _ _ before (node n (e ∷ es) ∷ node q (f ∷ fs) ∷ []) (node n (s.x ∷ s.xs) ∷ node q (s.y ∷ s.ys) ∷ []) after (n ∷ q ∷ []) p.inside
          s.two.others (s.two.here, (s.two.there, tt)) pair_apart in
          let hs : heads before ++ (e.0, n) ∷ (key, q) ∷ heads after ≡ heads row2 = cc (heads-append _ _) in
          record {
            before' = before;
            number' = n;
            entries' = s.x ∷ s.xs;
            after' = node q (s.y ∷ s.ys) ∷ after;
            rest' = b.rows';
            stays = rw outcome;
            inside = row-same _ _ _ _ (λ m some. b.frees.others m (omega (arith, c m, c2 m))) in_u;
            fit = FitRow-join _ _ _ (node n (s.x ∷ s.xs)) (node q (s.y ∷ s.ys) ∷ after) p.solid
                (lo, hi, (omega (arith, least-le half (omega arith) after), hi_q, fit_q.2));
            list_is = simp flat-append (cc (append_assoc _ _ _, append_assoc _ _ _));
            above = rw (← hs) b.above;
            number_is = p.number_is;
            within = λ low. omega arith;
            place_is = refl;
            sizes_are = rw outcome (cc (sizes-append _ _));
            rest_sizes = b.sizes_are;
            row_numbers = simp numbers-append;
            frees = frees-after _ _ (λ m. omega (arith, pair m, c m, c2 m, count-append m (numbers row2) (flat_map numbers b.rows'))) s.two.frees b.frees;
            keeps = keeps-refl;
          }

      -- the node is merged into its right neighbour, and its slot is freed
      pub settle_join : AllRight content t u most n q (e ∷ es) (f ∷ fs) → v ≡ with_freed u n → up < length path → Joined content half most t v path indices (set path up q) indices up size before n (e ∷ es) (node q (f ∷ fs) ∷ after) rest
      settle_join s v_is low =
          let few = lt-ltb (2 * suc (length es)) most (omega arith) in let fits = le-leb (suc (length es) + suc (length fs)) most s.fits in
          let len = length-append (e ∷ es) (f ∷ fs) in let fit_q = p.fits in let one = frees-one u v n s.two.here v_is in
          let joined = frees-after (n ∷ q ∷ []) (q ∷ []) (λ m. omega (arith, count-append m (n ∷ []) (q ∷ []))) s.two.frees one in
          let y = settle_right v ((e ∷ es) ++ f ∷ fs) joined (one.others q (apart_from q n (λ w. apart.0 (sym w))) ∙ s.two.there) (omega arith) (omega arith) low in
          record {
            first = e;
            others = es;
            key = f.0;
            right = q;
            right_entries = f ∷ fs;
            after' = after;
            entries_are = refl;
            after_is = refl;
            outcome = rw (few, fits) cc;
            inside = y.inside;
            fit = y.fit;
            above = y.above;
            number_is = y.number_is;
            entry_is = refl;
            frees = y.frees;
            nodes_above = y.nodes_above;
            keeps = y.keeps;
          }

    -- the right neighbour takes the node's entries in place of its own, and the node's slot is freed
    pub settle_cede : {u : Table K V} (v : Table K V) → half ≤ length (e ∷ es) → Puts t u q (content (e ∷ es)) → v ≡ with_freed u n → up < length path
        → Ceded content half most t v path indices (set path up q) up size before n e es q f fs after rest (e ∷ es)
    settle_cede {u} v healthy w v_is low =
        let fit_q = p.fits in let slot = (row-split content t.nodes before (node n (e ∷ es) ∷ node q (f ∷ fs) ∷ after) p.inside).1.0 in
        let one = frees-one u v n (w.others n (apart_from n q apart.0) ∙ slot) v_is in
        let freed = frees-after (n ∷ q ∷ []) (q ∷ []) (λ m. omega (arith, count-append m (n ∷ []) (q ∷ []))) w.frees one in
        settle_right v (e ∷ es) freed (one.others q (apart_from q n (λ w. apart.0 (sym w))) ∙ w.here) (omega (arith, least-le half (omega arith) after)) p.most_is low
