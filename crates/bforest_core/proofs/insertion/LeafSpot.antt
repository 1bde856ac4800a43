-- The leaf where an entry may be inserted: the insertion where the leaf has room, or its split.
use Rattle.bforest_core.proofs.Words.{◌≡◌, ◌⊎◌, ℕ, zero, suc, ◌+◌, ◌≤◌, ◌<◌, Bool, true, List, [], ◌∷◌, ◌++◌, map, length, take, drop, insert, get_or, Some}
use Rattle.bforest_core.proofs.Words.{None, inl, inr, refl, sym, ap, append_assoc, length-append, arith, cases_lt, nil_from_length, Heads, Row, Rows}
use Rattle.bforest_core.proofs.Words.{LevelNode, node, flat, heads, sizes, FitRow, Tree, half_of, leaf_gain, need_above, Table, PutsEntry, Above, Rekeyed}
use Rattle.bforest_core.proofs.{Words.{Placed, Inserted, count}, rows.LevelRows.{Solid-full, flat-append, heads-append, least-pos, sizes-append}}
use Rattle.bforest_core.proofs.{insertion.Grow.{here, leaf_full, leaf_kind, leaf_room}, insertion.Nodes.{Inserting, put_raises}}
use Rattle.bforest_core.proofs.{table.Tables.{count-append, counts}, removal.LeafAt.as_many_heads, rows.Zipper.{LeafCut, cut_leaf, spot}}
use Rattle.bforest_core.proofs.{removal.Lifted.{above_top, heads-put, rebuilt_same, rekey_first, rows_above}, removal.Asked.some_first}
use Rattle.bforest_core.proofs.removal.Collapse.{heads-flat, topped-sizes}

module _ {K V : Type 0} {t : Table K V} {path indices : List ℕ} {size : ℕ} where
  -- the rows above a level, under another first key of its first node
  pub first_rekeyed : (count up : ℕ) (rows : Rows K) (a : Heads K) (x : K × ℕ) (b : Heads K) (key : K) → length rows ≡ count → length a ≡ 0 →
      Above t path indices up size rows (a ++ x ∷ b) (length a) →
      Rekeyed t t path indices up size rows (a ++ (key, x.1) ∷ b) (length a)
  first_rekeyed zero up rows a x b key none front p =
      rebuilt_same (above_top p _ (omega (arith, p.height)) (simp length-append))
  first_rekeyed (suc count) up rows a x b key some front p = let d = spot a x b p (omega (arith, p.height)) in
      let few = ap length d.a_is in let parts = length-append (flat d.before) d.l in let l_is = nil_from_length d.l (omega arith) in
      rekey_first d t key (omega (arith, d.entry_is)) (first_rekeyed count (suc up) d.rest (heads d.before) (x.0, get_or path up 0) (heads d.after) key
      (omega (arith, ap length d.rows_are)) (omega (arith, heads-flat d.before)) (rw (heads-append d.before _, l_is) at (rows_above d)))

  -- the rows over the leaves after an insertion into one, at the front of the first leaf only
  renewed : (rows : Rows K) (before : Row K V) (n : ℕ) (l : List (K × V)) (entry : K × V) (r : List (K × V)) (after : Row K V) →
      (before ≡ []) ⊎ (1 ≤ length l) → 1 ≤ length (l ++ r) →
      Above t path indices 1 size rows (heads (before ++ node n (l ++ r) ∷ after)) (length (heads before)) →
      Rekeyed t t path indices 1 size rows (heads (before ++ node n (l ++ entry ∷ r) ∷ after)) (length (heads before))
  renewed rows before n (x ∷ l) entry r after at some p = rebuilt_same (rw (heads-put before n (x ∷ (l ++ r)) (x ∷ (l ++ entry ∷ r)) after refl) at p)
  renewed rows (z ∷ before) n [] entry r after (inl none) some p = absurd cc
  renewed rows [] n [] entry [] after (inl none) some p = absurd (omega arith)
  renewed rows [] n [] entry (y ∷ r) after (inl none) some p = first_rekeyed (length rows) 1 rows [] (y.0, n) (heads after) entry.0 refl refl p
  renewed rows before n [] entry r after (inr one) some p = absurd (omega arith)

insert_between : {A : Type 0} (p s : List A) (x : A) → insert (p ++ s) (length p) x ≡ p ++ x ∷ s
insert_between [] s x = refl
insert_between (z ∷ p) s x = cc (insert_between p s x)

-- inserting an entry between two parts of a node
pub insert_flat : {K V : Type 0} (before : Row K V) (n l r after x : _) →
    insert (flat (before ++ node n (l ++ r) ∷ after)) (length (flat before) + length l) x ≡ flat before ++ ((l ++ x ∷ r) ++ flat after)
insert_flat before n l r after x =
    let whole : flat (before ++ node n (l ++ r) ∷ after) ≡ (flat before ++ l) ++ (r ++ flat after) = simp (flat-append, append_assoc) in
    rw (whole, ← length-append _ l, insert_between _ _ x) (simp append_assoc)

-- the capacity of a row's nodes is not 0
some_most : {K X : Type 0} (half most : ℕ) (first : LevelNode K X) (row : Row K X) → FitRow half most (first ∷ row) → 1 ≤ most
some_most half most (node n es) [] f = omega arith
some_most half most (node n es) (next ∷ row) f = some_most half most next row f.2

module _ {K V : Type 0} where
  -- the tree, cut at the place in its leaf
  pub record LeafSpot (most : ℕ) (t : Table K V) (ms js : List ℕ) (tree : Tree K V) (place : ℕ) : Type 0 where
    pub l : List (K × V)
    pub r : List (K × V)
    pub cut : LeafCut most t ms js tree place l r
    pub open cut use *
    pub first : (before ≡ []) ⊎ (1 ≤ length l)

  pub leaf_spot : {most t ms js size tree place : _} → Placed most t ms js size tree place → LeafSpot most t ms js tree place
  leaf_spot {js = js} p = let at = p.at.points in let c =
      cut_leaf at.before at.entries at.after p.fit p.inside p.apart at.leaves_are at.within at.place_is at.above in
      record { l = take (get_or js 0 0) at.entries; r = drop (get_or js 0 0) at.entries; cut = c; first = elim (cases_lt 0 (get_or js 0 0)) [ inl lt ↦ inr (omega (arith, c.index_is)) | inr ge ↦ inl (p.at.first (omega arith)) ] }

  module _ {most : ℕ} {t : Table K V} {ms js size tree place : _} (p : Placed most t ms js size tree place) where
    abbrev pub d : LeafSpot most t ms js tree place
    d = leaf_spot p

    open d use {before, l, r, after}

    abbrev n : ℕ
    n = get_or ms 0 0

    abbrev e : ℕ
    e = get_or js 0 0

    half : 1 ≤ half_of most
    half = let one = some_most (half_of most) most (node n (l ++ r)) after d.fits in omega arith

    seen : length (heads before) ≡ length before
    seen = Solid-full (half_of most) most half before d.solid

    -- the sizes of the leaves where the leaf has room, and where it is full
    room_gain : length (l ++ r) < most → leaf_gain most place (sizes tree.leaves) ≡ (None, sizes before ++ suc (length (l ++ r)) ∷ sizes after)
    room_gain room =
        cc (d.leaves_are, d.place_is, sizes-append before (node n (l ++ r) ∷ after), leaf_room most before (length (l ++ r)) (length l) (sizes after) (omega (arith, length-append l r)) d.first room)

    full_gain : length (l ++ r) ≡ most → leaf_gain most place (sizes tree.leaves) ≡
        (Some (length (heads before)), sizes before ++ half_of most ∷ half_of most ∷ sizes after)
    full_gain full =
        cc (seen, d.leaves_are, d.place_is, sizes-append before (node n (l ++ r) ∷ after), leaf_full most before (length (l ++ r)) (length l) (sizes after) (omega (arith, length-append l r)) d.first full)

    -- the rows above the leaf
    above : Above t ms js 1 size tree.above (heads (before ++ node n (l ++ r) ∷ after)) (length (heads before))
    above = let size_is = p.at.points.size_is in let stacked = d.fit.stacked in let inside = p.inside.rows_in in
        record { over = record { stacked = stacked; inside = inside; stands = rw seen d.stands; height = omega arith }; apart = λ m. omega (arith, d.apart m, count-append) }

    -- the leaf has an entry
    some : 1 ≤ length (l ++ r)
    some = omega (arith, d.fits.0, least-pos (half_of most) half after)

    pub one_entry : K × V
    one_entry = (some_first (l ++ r) some).0

    -- the leaf where the entry is inserted
    pub site : (entry : K × V) → Inserting (leaf_kind most) t ms js 0 size tree.leaves tree.above (insert (flat tree.leaves) place entry) place
        (leaf_gain most place (sizes tree.leaves)) entry
    site entry =
        let new : 1 ≤ length (l ++ entry ∷ r) = omega (arith, length-append l (entry ∷ r)) in
        let up = renewed tree.above before n l entry r after d.first some above in
        record {
          before = before;
          es = l ++ r;
          l = l;
          r = r;
          after = after;
          rest = up.rows';
          es_is = refl;
          index_is = omega (arith, d.index_is);
          place_is = omega (arith, d.place_is, d.index_is);
          room_gain = room_gain;
          full_gain = full_gain;
          grow = record {
            half_some = half;
            row_is = d.leaves_are;
            list_is = cc (insert_flat before n l r after entry, d.leaves_are, d.place_is);
            inside = d.inside;
            fit = d.fit.leaves_fit;
            apart = λ m. (let c = λ (rows : Rows K). counts m before n (l ++ r) after rows t.chain in
                omega (arith, d.apart m, up.frees.numbers_are m, c up.rows', c tree.above));
            above = up.above;
            topped = λ top. topped-sizes _ _ _ _ d.fit.stacked up.above.stacked
                (as_many_heads before n (l ++ r) (l ++ entry ∷ r) after some new) up.sizes_are d.fit.topped;
            sizes_above = up.sizes_are;
            numbers_above = λ m. omega (arith, up.frees.numbers_are m);
          };
        }

    -- a successful insertion leaves the tree with the entry inserted
    pub put_inserts : {u : Table K V} {key : K} {value : V} {put : Bool} (i : ℕ) → 0 < length ms → PutsEntry most t u (get_or ms 0 i) e key value put →
        put ≡ true →
        ((leaf_gain most place (sizes tree.leaves)).0 ≡ None) × Inserted most t u ms js ms js size size tree place (key, value)
    put_inserts {key = key} {value} i low said done = let g = put_raises (site (key, value)) i low said done here in
        (g.0, record { taken = []; taken_is = sym (ap (λ z. need_above z (map sizes tree.above)) g.0); raised = g.1 })
