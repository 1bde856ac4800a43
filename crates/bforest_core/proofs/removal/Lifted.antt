-- The rows above a level in another table, and under a row whose keys were written: the answers of `update_separator` and `update_next_separator`.
use Rattle.bforest_core.proofs.Words.{◌≡◌, ℕ, suc, ◌-◌, ◌≤◌, List, [], ◌∷◌, ◌++◌, length, set, slice_get, refl, sym, ◌∙◌, append_assoc, length-append, arith}
use Rattle.bforest_core.proofs.Words.{Heads, inner_content, entry_keys, entry_items, ◌+◌, ◌<◌, get_or, ap, with_key, Table, with_node, sizes, count, Above}
use Rattle.bforest_core.proofs.Words.{subst, Row, flat_map, node, flat, heads, head_of, numbers, FitRow, RowIn, Distinct, Frees, nil_from_length, Rekeyed}
use Rattle.bforest_core.proofs.{Words.least, table.Tables.{count-append, counts, row-same, rows-same, row-split, row-join}}
use Rattle.bforest_core.proofs.table.Trading.{Puts, not_there, puts, row-put, trades-none, trades-wider, trades-apart}
use Rattle.bforest_core.proofs.{rows.LevelRows.{least-pos, flat-append, heads-append, sizes-append, FitRow-join}, rows.Zipper.{Spot, stands_here}}
use Rattle.bforest_core.proofs.removal.Asked.{First, keeps-refl, some_first}

-- a node's first key does not change with a later entry's item
pub head-other : {K X : Type 0} (n : ℕ) (l : List (K × X)) (k : K) (x y : X) (r s : List (K × X)) → head_of n (l ++ (k, x) ∷ r) ≡ head_of n (l ++ (k, y) ∷ s)
head-other n [] k x y r s = refl
head-other n (z ∷ l) k x y r s = refl

-- the heads of a row depend only on the heads of its nodes
pub heads-put : {K X : Type 0} (before : Row K X) (n es fs after : _) → head_of n es ≡ head_of n fs → heads (before ++ node n es ∷ after) ≡ heads (before ++ node n fs ∷ after)
heads-put before n es fs after e = simp (heads-append, e)

-- writing the key of an entry
pub key_set : {K X : Type 0} (p : List (K × X)) (y : K × X) (s : List (K × X)) (key : K) → (set (entry_keys (p ++ y ∷ s)) (length p) key ≡ entry_keys (p ++ (key, y.1) ∷ s)) ×
    (entry_items (p ++ y ∷ s) ≡ entry_items (p ++ (key, y.1) ∷ s))
key_set [] y s key = (refl, refl)
key_set (z ∷ p) y s key = let again = key_set p y s key in (cc (again.0), cc (again.1))

-- writing the key before an entry that is not the first
with_key_is : {K V : Type 0} (p : Heads K) (y : K × ℕ) (s : Heads K) (e : ℕ) (key : K) → suc e ≡ length p → with_key {V = V} (inner_content (p ++ y ∷ s)) e key ≡ inner_content (p ++ (key, y.1) ∷ s)
with_key_is [] y s e key p_is = absurd (omega arith)
with_key_is (z ∷ p) y s e key p_is = let e_is : e ≡ length p = omega arith in let w = key_set p y s key in rw (e_is, w.0, w.1) refl

-- the next node of a row, whose first key and number these are
pub record NextNode {K X : Type 0} (after : Row K X) (k : K) (q : ℕ) : Type 0 where
  pub f : K × X
  pub fs : List (K × X)
  pub rest : Row K X
  pub after_is : after ≡ node q (f ∷ fs) ∷ rest
  pub k_is : k ≡ f.0

-- the first of nodes that have an entry
pub first_after : {K X : Type 0} (half most : ℕ) → 1 ≤ half → (after : Row K X) → FitRow half most after → 1 ≤ length (flat after) →
    (k : K) × (q : ℕ) × NextNode after k q
first_after half most one [] fit some = absurd (omega arith)
first_after half most one (node q [] ∷ after) fit some = absurd (omega (arith, least-pos half one after))
first_after half most one (node q (f ∷ fs) ∷ after) fit some = (f.0, q, record { f = f; fs = fs; rest = after; after_is = refl; k_is = refl })

-- a row with heads has a first node
pub next_of : {K X : Type 0} (half most : ℕ) → 1 ≤ half → (after : Row K X) (k q cs : _) → FitRow half most after → heads after ≡ (k, q) ∷ cs → NextNode after k q
next_of half most one [] k q cs f e = absurd cc
next_of half most one (node m [] ∷ after) k q cs f e = absurd (let g = f.0 in omega (arith, least-pos half one after))
next_of {K} half most one (node m (x ∷ xs) ∷ after) k q cs f e = let kq : ◌≡◌ {A = K × ℕ} (x.0, m) (k, q) = cc in
    record { f = x; fs = xs; rest = after; after_is = ap (λ z. node z (x ∷ xs) ∷ after) (ap (λ z. z.1) kq); k_is = ap (λ z. z.0) (sym kq) }

module _ {K V : Type 0} where
  -- the rows above, cut at a node of the level
  pub headed : {X : Type 0} {t : Table K V} {path indices up size : _} (before : Row K X) (n : ℕ) {es : List (K × X)} (after : Row K X) {rest : _}
      (h : First es) → Above t path indices up size rest (heads (before ++ node n es ∷ after)) (length (heads before)) →
      Above t path indices up size rest (heads before ++
      (h.0.0, n) ∷ heads after) (length (heads before))
  headed {t} {path} {indices} {up} {size} before n after {rest} h p =
      subst (λ z. Above t path indices up size rest z (length (heads before))) (cc (heads-append _ _)) p

  module _ {t : Table K V} {path indices up size rows list p : _} (a : Above t path indices up size rows list p) where
    -- the rows above, in a table that agrees on their slots
    pub above_same : (u : Table K V) → ((m : ℕ) → 0 < count m (flat_map numbers rows) → slice_get u.nodes m ≡ slice_get t.nodes m) →
        Distinct (flat_map numbers rows ++ u.chain) → Above u path indices up size rows list p
    above_same u same apart = record { over = record { stacked = a.stacked; inside = rows-same _ _ _ same a.inside; stands = a.stands; height = a.height }; apart = apart }

    -- without a row above, the list has one element
    pub top_one : size ≤ up → length list ≡ 1
    top_one high = rw (nil_from_length rows (omega arith)) at a.stacked

    -- without a row above, only the length of the list matters
    pub above_top : (list' : _) → size ≤ up → length list' ≡ length list → Above t path indices up size rows list' p
    above_top list' high same =
        record { over = record { stacked = rw (nil_from_length rows (omega arith)) (same ∙ top_one high); inside = a.inside; stands = a.stands; height = a.height }; apart = a.apart }

    -- the rows above, unchanged
    pub rebuilt_same : Rekeyed t t path indices up size rows list p
    rebuilt_same = record { rows' = rows; above = a; sizes_are = refl; frees = trades-none t _; keeps = keeps-refl }

  -- the rows above, after a write to a slot that is not theirs
  pub above_written : {t u : Table K V} {n c path indices up size rows list p : _} → Puts t u n c → count n (flat_map numbers rows) ≡ 0 →
      Above t path indices up size rows list p → Above u path indices up size rows list p
  above_written {u} {n} w none a =
      above_same a u (λ m some. w.others m (not_there m n _ some none)) (λ m. omega (arith, a.apart m, ap (λ z. count m z) w.chain_is, count-append))

  module _ {t : Table K V} {path indices up size rows a x b : _} (d : Spot t path indices up size rows a x b) where
    open d use {before, l, r, after, rest, whole}

    abbrev pub n : ℕ
    n = get_or path up 0

    abbrev pub old : Heads K
    old = l ++ x ∷ r

    -- the rows above the path's row
    pub rows_above : Above t path indices (suc up) size rest (heads (before ++ node n old ∷ after)) (length (heads before))
    rows_above = let p = whole in let c = λ (m : ℕ). counts m before n old after rest t.chain in
        record { over = record { stacked = p.stacked.2; inside = p.inside.1; stands = d.stands; height = omega arith }; apart = λ m. omega (arith, c m, count-append m (flat_map numbers rest) t.chain) }

    -- the list of a level's nodes, with other nodes from the path's on
    pub flat_at : (es hs ns : _) → es ++ flat ns ≡ l ++ hs → flat (before ++ node n es ∷ ns) ≡ a ++ hs
    flat_at es hs ns is = cc (flat-append before (node n es ∷ ns), append_assoc (flat before) l hs)

    -- the path's place in the list of nodes
    pub place_at : length a ≡ length (flat before) + get_or indices up 0
    place_at = omega (arith, ap length d.a_is, length-append (flat before) l)

    -- with other entries in the path's node and other first keys behind it, the level below has `hs` from the path's place on, and this one `list`
    abbrev pub Other : Heads K → Row K ℕ → Heads K → Heads K → Type 0
    Other es ns hs list = (sizes ns ≡ sizes after) × (numbers ns ≡ numbers after) × (es ++ flat ns ≡ l ++ hs) × (list ≡ heads (before ++ node n es ∷ ns))

    -- the row with other keys, under rows above that have those keys
    lifted : {v u : Table K V} (es ns : _) {list : _} (hs : _) → length es ≡ length old → Other es ns hs list → FitRow 4 8 (node n es ∷ ns) →
        RowIn inner_content u.nodes (before ++ node n es ∷ ns) → (above : Rekeyed v u path indices (suc up) size rest list (length (heads before))) →
        Frees t u (numbers (before ++ node n old ∷ after) ++ flat_map numbers rest) (numbers (before ++ node n es ∷ ns) ++ flat_map numbers above.rows') [] →
        Rekeyed t u path indices up size rows (a ++ hs) (length a)
    lifted es ns hs len o fits inside above frees = record {
      rows' = (before ++ node n es ∷ ns) ∷ above.rows';
      above = record {
        over = record {
          stacked = (flat_at _ _ _ o.2, FitRow-join 4 8 before (node n es) ns d.solid fits, rw (← o.3) above.above.stacked);
          inside = (inside, above.above.inside);
          stands = stands_here _ _ _ _ _ _ _ _ _ _ _ d.solid refl refl refl (omega arith) place_at above.above.stands;
          height = omega arith;
        };
        apart = trades-apart frees whole.apart;
      };
      sizes_are = let same = o.0 in cc (sizes-append _ _, sizes-append _ _);
      frees = rw d.rows_are frees;
      keeps = keeps-refl;
    }

    -- the row after writes to the rows above it alone
    pub lifted_above : {u : Table K V} (es ns : _) {list : _} (hs : _) → length es ≡ length old → Other es ns hs list → FitRow 4 8 (node n es ∷ ns) →
        RowIn inner_content t.nodes (before ++ node n es ∷ ns) →
        Rekeyed t u path indices (suc up) size rest list (length (heads before)) → Rekeyed t u path indices up size rows (a ++ hs) (length a)
    lifted_above {u} es ns hs len o fits inside above = let c = λ (m : ℕ). counts m before n old after rest t.chain in let c2 = λ (m : ℕ). counts m before n es ns above.rows' u.chain in
        let c3 = λ (m : ℕ). ap (λ z. count m (n ∷ z)) o.1 in
        lifted es ns hs len o fits (row-same _ _ _ _ (λ m some. above.frees.others m (omega (arith, c m, c2 m, c3 m))) inside) above
        (trades-wider _ _ (λ m. omega (arith, c m, c2 m, c3 m)) above.frees)

    -- the row after a write of the key before an entry of the node
    pub renamed : (u : Table K V) (p y s e key hs : _) → old ≡ p ++ y ∷ s → suc e ≡ length p → u ≡ with_node t n (with_key (inner_content old) e key) →
        (p ++ (key, y.1) ∷ s) ++ flat after ≡ l ++ hs → Rekeyed t u path indices up size rows (a ++ hs) (length a)
    renamed u p y s e key hs es_is p_is u_is flat_is = let es = p ++ (key, y.1) ∷ s in let w = puts _ _ _ _ _ d.slot_is (cc (with_key_is p y s e key p_is)) in
        let len : length es ≡ length old = rw es_is (simp length-append) in
        let above = rebuilt_same (above_written w d.none_rest rows_above) in
        lifted es after hs len (refl, refl, flat_is, heads-put before n old es after (rw (es_is, (some_first p (omega arith)).2)))
        (omega arith, omega arith, d.fit.2) (row-put inner_content before old es after d.inside w d.none) above
        (trades-wider _ _ (λ m. omega (arith, counts m before n old after rest t.chain, counts m before n es after above.rows' t.chain, above.frees.numbers_are m, count-append m (n ∷ []) (numbers after))) w.frees)

    module _ (u : Table K V) (key : K) where
      -- updating the key where it is a separator in the path's parent
      pub rekey_parent : 0 < get_or indices up 0 → u ≡ with_node t n (with_key (inner_content old) (get_or indices up 0 - 1) key) →
          Rekeyed t u path indices up size rows (a ++ (key, x.1) ∷ b) (length a)
      rekey_parent some u_is = renamed _ _ _ _ _ _ _ refl (omega arith) u_is (cc (append_assoc _ _ _))

      -- updating the key where it is the parent's first, in the rows above
      pub rekey_first : get_or indices up 0 ≤ 0 → Rekeyed t u path indices (suc up) size rest (heads before ++ (key, n) ∷ heads after) (length (heads before)) → Rekeyed t u path indices up size rows (a ++ (key, x.1) ∷ b) (length a)
      rekey_first none above = let l_is = nil_from_length l (omega arith) in let s = row-split _ _ _ _ d.inside in
          lifted_above ((key, x.1) ∷ r) after ((key, x.1) ∷ b) (ap (λ z. length (z ++ x ∷ r)) (sym l_is))
          (refl, refl, cc (d.b_is, l_is), sym (heads-append before (node n ((key, x.1) ∷ r) ∷ after))) (rw l_is at d.fit)
          (row-join _ _ _ (node n ((key, x.1) ∷ r) ∷ after) s.0 (rw l_is at s.1)) above

-- the next node has the same parent
pub next_in : {K : Type 0} (l : Heads K) (x : K × ℕ) (r : Heads K) (e : ℕ) (y : K × ℕ) (b more : Heads K) → y ∷ b ≡ r ++ more → length l ≡ e → e + 1 < length (l ++ x ∷ r) → (ys : Heads K) × (r ≡ y ∷ ys) × (b ≡ ys ++ more)
next_in l x [] e y b more is l_is high = absurd (omega (arith, length-append l (x ∷ [])))
next_in l x (w ∷ ys) e y b more is l_is high = (ys, cc, cc)

-- the next node has the next parent
pub record Across {K : Type 0} (l : Heads K) (r : Heads K) (after : Row K ℕ) (y : K × ℕ) (b : Heads K) : Type 0 where
  pub z : K × ℕ
  pub zs : Heads K
  pub q : ℕ
  pub ys : Heads K
  pub rest : Row K ℕ
  pub l_is : l ≡ z ∷ zs
  pub r_is : r ≡ []
  pub after_is : after ≡ node q (y ∷ ys) ∷ rest
  pub b_is : b ≡ ys ++ flat rest

pub across : {K : Type 0} (n : ℕ) (l : Heads K) (x : K × ℕ) (r : Heads K) (after : Row K ℕ) (y : K × ℕ) (b : Heads K) → FitRow 4 8 (node n (l ++ x ∷ r) ∷ after) → y ∷ b ≡ r ++ flat after → length (l ++ x ∷ r) ≤ length l + 1 → Across l r after y b
across n l x r after y b f e h = let len = length-append l (x ∷ r) in let none = nil_from_length r (omega arith) in
    let next = first_after 4 8 (omega arith) after f.2 (omega (arith, ap length e, length-append r (flat after))) in let a = next.2 in
    let one = some_first l (omega (arith, f.0, ap (λ z. least 4 z) a.after_is)) in let whole : y ∷ b ≡ a.f ∷ (a.fs ++ flat a.rest) =
    rw (none, a.after_is) at e in
    record { z = one.0; zs = one.1; q = next.1; ys = a.fs; rest = a.rest; l_is = one.2; r_is = none; after_is = cc (a.after_is); b_is = cc }
