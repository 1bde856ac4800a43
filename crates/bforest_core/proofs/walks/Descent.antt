-- The descent of a search: one level of it, and its end in a leaf.
use Rattle.bforest_core.proofs.Words.{place-present, ◌≡◌, ◌≢◌, ℕ, suc, ◌+◌, ◌≤◌, ◌<◌, ◌⊎◌, inl, inr, List, [], ◌∷◌, ◌++◌, length, get_or, set, slice_get}
use Rattle.bforest_core.proofs.Words.{Some, refl, sym, ap, subst, ◌∙◌, arith, append_assoc, length-append, length-set, Heads, Row, get_or-set_same}
use Rattle.bforest_core.proofs.Words.{nil_from_length, slice_get_within, IsTotalOrder, IsStrictlySortedBy, AllByRecursion, is_some, Content, Inner}
use Rattle.bforest_core.proofs.Words.{IsLeafCapacity, IsIncreasing, place, is_present, value_for, node, flat, entry_keys, entry_items, child_index, IsFrom}
use Rattle.bforest_core.proofs.{Words.{IsUpTo, Descended, Reached, SearchThrough}, rows.LevelRows.{flat-append, some_leaf}, table.Stored.some_same}
use Rattle.bforest_core.proofs.{table.Stored.slice_get_at, walks.Downward.{HeadNode, last_of, heads_increasing, upto_flat, stacked_increasing}}
use Rattle.bforest_core.proofs.{walks.Leading.{inner_up, leaf_up}, walks.LeafSearch.items-read, walks.Reading.ChildRead, walks.Rising.{all_split, all_less}}
use Rattle.bforest_core.proofs.walks.Rising.{increasing_split, increasing_rest, all_before, all_greater, place_between, entry_between, place-le, first_passed}
use Rattle.bforest_core.proofs.{walks.Rising.sides, walks.TopNode.{InnerUnder, LeafUnder, flat_parted, set_but}}
use Rattle.{std.specs.{Map.keys_of, declared.cmp.Ordering.{Ordering, TheVariants.{Less, Greater}}}, bforest_core.specs.Descent.IsPlaced}

-- writing the first of a list twice
set_twice : (xs : List ℕ) (i j : ℕ) → set (set xs 0 i) 0 j ≡ set xs 0 j
set_twice [] i j = refl
set_twice (x ∷ xs) i j = refl

module _ {K : Type 0} (cmp : K → K → Ordering) where
  is_from : (a first key : _) → cmp first key ≢ Greater → IsFrom cmp a first key
  is_from [] first key ng = tt
  is_from (x ∷ a) first key ng = ng

  -- a node's first key is the first of its level, or not greater
  from_at : {X : Type 0} {half most : _} {row : Row K X} (a : _) {first number b : _} {key : K} (at : HeadNode half most row a first number b) → IsFrom cmp a first key → (at.before ≡ []) ⊎ (cmp at.e.0 key ≢ Greater)
  from_at [] at f = inl (nil_from_length _ at.before_is)
  from_at (x ∷ a) at f = inr (rw at.first_is f)

  -- the key is less than the next of two parts of a list, the first of which may be empty
  upto_parts : (r after : Heads K) (key : K) → AllByRecursion (λ p. cmp p key ≡ Greater) (keys_of r) → IsUpTo cmp after key → IsUpTo cmp (r ++ after) key
  upto_parts [] after key h u = u
  upto_parts (y ∷ r) after key h u = h.0

  -- the last entry that is not greater than the key is the first of its level, or not greater
  from_last : (front init : Heads K) (last : K × ℕ) {e : K × ℕ} (l : Heads K) (key : K) → (front ≡ []) ⊎ (cmp e.0 key ≢ Greater) → e ∷ l ≡ init ++ last ∷ [] → AllByRecursion (λ p. cmp p key ≢ Greater) (keys_of l) → IsFrom cmp (front ++ init) last.0 key
  from_last front [] last {e} l key f is h =
      let same : e ≡ last = cc in elim f [ inl none ↦ rw none tt | inr ng ↦ is_from _ _ _ (rw (← same) ng) ]
  from_last front (x ∷ init) last l key f is h =
      let rest : l ≡ init ++ last ∷ [] = cc in is_from _ _ _ (all_split (λ p. cmp p key ≢ Greater) init (last ∷ []) (rw (← rest) h)).1.0

module _ {K V : Type 0} {cmp : K → K → Ordering} {most : ℕ} {slots : List (Content K V)} {leaves key number depth : _} (t : SearchThrough cmp most slots leaves key number depth) where
  -- a search in an inner node, whose row is the highest of those below
  pub record InnerStep : Type 0 where
    pub here : InnerUnder t.on
    pub open here use *
    pub increasing : IsIncreasing cmp (e ∷ es)
    pub from : (before ≡ []) ⊎ (cmp e.0 key ≢ Greater)
    pub upto : IsUpTo cmp (flat after) key

  -- a search at its end, in a leaf
  pub record LeafStep : Type 0 where
    pub here : LeafUnder t.on
    pub open here use *
    pub increasing : IsIncreasing cmp (e ∷ es)
    pub increasing_after : IsIncreasing cmp (flat after)
    pub from : (before ≡ []) ⊎ (cmp e.0 key ≢ Greater)
    pub low : AllByRecursion (λ p. cmp p key ≡ Less) (keys_of (flat before))
    pub high : AllByRecursion (λ p. cmp p key ≡ Greater) (keys_of (flat after))

-- the entries of a row around a node increase
increasing_about : {K X : Type 0} (cmp : K → K → Ordering) (o : IsTotalOrder cmp) {half most : _} {row : Row K X} {a first number b : _} (at : HeadNode half most row a first number b) → IsIncreasing cmp (flat row) →
    IsIncreasing cmp (flat at.before ++ (at.e ∷ (at.es ++ flat at.after))) × IsIncreasing cmp (at.e ∷ at.es) × IsIncreasing cmp (flat at.after)
increasing_about cmp o {number} at inc = let parts = subst (IsIncreasing cmp) (cc (flat-append at.before (node number (at.e ∷ at.es) ∷ at.after))) inc in
    let two = increasing_split o (at.e ∷ at.es) (flat at.after) (increasing_split o _ ((at.e ∷ at.es) ++ flat at.after) parts).1 in (parts, two.0, two.1)

module _ {K V : Type 0} {cmp : K → K → Ordering} (o : IsTotalOrder cmp) {most : ℕ} (capacity : IsLeafCapacity most) {slots : List (Content K V)} {leaves key number depth : _}
    (t : SearchThrough cmp most slots leaves key number depth) where
  -- the search in an inner node, from what is under it
  pub inner_step : InnerUnder t.on → InnerStep t
  inner_step s = record {
    here = s;
    increasing = (increasing_about cmp o s.at (stacked_increasing _ o _ _ _ s.under.stacked (heads_increasing o leaves t.increasing))).1;
    from = from_at cmp t.before s.at t.through.from;
    upto = upto_flat _ 4 8 (omega arith) _ _ s.after_fit (rw s.after_is t.through.upto);
  }

  pub leaf_step : LeafUnder t.on → LeafStep t
  leaf_step s = let at = s.at in let parts = increasing_about cmp o at t.increasing in
      let upto = upto_flat _ _ _ (some_leaf capacity) _ _ at.after_fit (rw at.after_is t.through.upto) in let from = from_at cmp t.before at t.through.from in
      record {
        here = s;
        increasing = parts.1;
        increasing_after = parts.2;
        from = from;
        low = elim from [ inl none ↦ rw none tt | inr ng ↦ all_less o _ _ _ (all_before o _ _ (at.es ++ flat at.after) parts.0) ng ];
        high = all_greater o _ key parts.2 (λ y c is. subst (λ z. IsUpTo cmp z key) is upto);
      }

module _ {K V : Type 0} {cmp : K → K → Ordering} (o : IsTotalOrder cmp) {most : ℕ} (capacity : IsLeafCapacity most) {slots : List (Content K V)} {leaves key number depth : _}
    {t : SearchThrough cmp most slots leaves key number depth} where
  -- the search one level down: at the child of this index, with everything below it
  pub record Below (s : InnerStep t) (index child deeper : ℕ) : Type 0 where
    pub on : SearchThrough cmp most slots leaves key child deeper
    pub rows_are : on.lower ≡ s.rows
    pub place_is : length on.before ≡ length (flat s.before) + index
    pub within : index ≤ length s.es

  module _ (s : InnerStep t) where
    -- the node meets what following a child requires
    pub follow_asks : (keys : List K) × (children : _) × (slice_get slots number ≡ Some (Inner keys children)) × IsStrictlySortedBy cmp keys
    follow_asks = (entry_keys s.es, entry_items (s.e ∷ s.es), s.slot_is, increasing_rest o s.e s.es s.increasing)

    -- following a child gives the search one level down
    pub below : {index child : ℕ} → ((keys : List K) (children : _) → slice_get slots number ≡ Some (Inner keys children) → index ≡ child_index cmp keys key)
        → ChildRead slots number index child → (deeper : ℕ) → deeper ≤ suc depth → Below s index child deeper
    below {index} {child} says reads deeper low = let index_is = says (entry_keys s.es) (entry_items (s.e ∷ s.es)) s.slot_is in
        let child_at = reads (entry_keys s.es) (entry_items (s.e ∷ s.es)) s.slot_is in let at = s.at in
        let d = sides o at.es key (increasing_rest o at.e at.es s.increasing) in let w = last_of at.e d.l in
        let es_is = ap (λ z. at.e ∷ z) d.es_is ∙ ap (λ z. z ++ d.r) w.is ∙ append_assoc w.init (w.last ∷ []) d.r in
        let count_is : length w.init ≡ index = omega (arith, ap length w.is, length-append w.init (w.last ∷ [])) in
        let here = ap (λ z. slice_get z index) es_is ∙ slice_get_at _ _ _ _ count_is in
        let child_is = some_same {x = child} {y = w.last.1} (cc (items-read (at.e ∷ at.es) index, here)) in record {
          on = record {
            on = record {
              lower = s.rows;
              before = flat at.before ++ w.init;
              first = w.last.0;
              after = d.r ++ flat at.after;
              under = rw (← (ap flat at.row_is ∙ flat_parted at.before number w.init w.last d.r at.after es_is ∙ ap (λ z. (flat at.before ++ w.init) ++ (w.last.0, z) ∷ (d.r ++ flat at.after)) (sym child_is))) s.under;
            };
            increasing = t.increasing;
            through = record {
              from = from_last _ _ _ _ _ key (elim s.from [ inl none ↦ inl (ap flat none) | inr ng ↦ inr ng ]) w.is d.low;
              upto = upto_parts _ _ _ key d.high s.upto;
            };
            low = omega (arith, s.count_is, low);
          };
          rows_are = refl;
          place_is = cc (length-append (flat at.before) w.init);
          within = omega (arith, slice_get_within (at.e ∷ at.es) index w.last here);
        }

    -- a level of the descent, whose place was written into the path
    pub passed : (index : _) {child deeper : _} (w : Below s index child deeper) (path indices : _) {path' indices' path'' indices'' : _} {high : ℕ} → high ≡ length t.lower
        → Descended cmp leaves w.on.lower key (length w.on.before) path' indices' path'' indices'' → get_or path' high 0 ≡ number → get_or indices' high 0 ≡ index
        → path' ≡ set path high number → indices' ≡ set indices high index → Descended cmp leaves t.lower key (length t.before) path indices path'' indices''
    passed index w path indices {high} high_is d m_is j_is nodes entries = record {
      leaf = d.leaf;
      up = inner_up s.here w.rows_are w.place_is w.within high high_is d.up m_is j_is (set_but _ _ _ nodes) (set_but _ _ _ entries);
    }

  module _ (s : LeafStep t) where
    abbrev entries : List (K × V)
    entries = s.e ∷ s.es

    pub all_are : flat leaves ≡ flat s.before ++ (entries ++ flat s.after)
    all_are = cc (flat-append s.before (node number entries ∷ s.after))

    -- the key's value in the leaf is its value among all entries
    pub leaf_value : value_for cmp (flat leaves) key ≡ value_for cmp entries key
    leaf_value = cc (all_are, entry_between o _ _ _ _ s.increasing_after s.low s.high)

    -- the key is present in the leaf exactly if it is present among all entries
    pub leaf_found : is_present cmp (flat leaves) key ≡ is_present cmp entries key
    leaf_found = cc (all_are, entry_between o _ _ _ _ s.increasing_after s.low s.high)

    abbrev pub placed : (m j : ℕ) → m ≡ number → j ≡ place cmp entries key → IsPlaced cmp leaves key m j
    placed m j m_is j_is = let at = s.at in
        let same = ap (λ z. is_present cmp z key) all_are ∙ ap is_some (entry_between o (flat at.before) entries (flat at.after) key s.increasing_after s.low s.high) in
        record {
          before = at.before;
          entries = entries;
          after = at.after;
          row_is = cc;
          within = omega (arith, place-le o entries key);
          place_is = cc (all_are, place_between o (flat at.before) entries (flat at.after) key s.increasing_after s.low s.high);
          found = λ yes. omega (arith, place-present cmp entries key cc);
          first = λ no zero_is. elim s.from [ inl none ↦ none | inr ng ↦ absurd (first_passed o at.e at.es key s.increasing ng (cc) cc) ];
        }

    -- the end of the descent
    pub reached : (path indices path' indices' : List ℕ) → 0 < length path → 0 < length indices → path' ≡ set path 0 number → indices' ≡ set indices 0 0 → Reached cmp slots leaves t.lower key (length t.before) path indices path' indices' number
    reached path indices path' indices' wide wide' nodes indices_are = record {
      leaf_is = cc (get_or-set_same path 0 number 0 wide);
      entries = entries;
      slot_is = s.slot_is;
      increasing = s.increasing;
      value_is = leaf_value;
      found_is = leaf_found;
      nodes_wide = cc (length-set path 0 number);
      indices_wide = cc (length-set indices 0 0);
      descended = record {
        leaf = placed _ _ (cc (get_or-set_same path 0 number 0 wide)) (cc (set_twice indices 0 (place cmp entries key), get_or-set_same indices 0 (place cmp entries key) 0 wide'));
        up = leaf_up s.here (set_but _ 0 _ nodes) (set_but indices 0 (place cmp entries key) (cc (set_twice indices 0 (place cmp entries key))));
      };
    }
