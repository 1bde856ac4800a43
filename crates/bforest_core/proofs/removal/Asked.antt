-- What the calls on the nodes of a path and on the rows above a level require and ensure. In this folder a lemma `.._asks` has what a call requires.
use Rattle.bforest_core.proofs.Words.{◌≡◌, ℕ, suc, ◌-◌, ◌≤◌, List, [], ◌∷◌, ◌++◌, length, drop, set, slice_get, Some, refl, sym, ◌∙◌, inl, inr, map}
use Rattle.bforest_core.proofs.Words.{length-append, arith, Heads, remove, append-nil, length-map, map-append, eqb_tells, Inner, without_child, inner_content}
use Rattle.bforest_core.proofs.Words.{entry_keys, entry_items, ◌+◌, ◌<◌, Option, get_or, ap, Rows, IsFree, IsUsed, entry_count, with_key, Table, with_node}
use Rattle.bforest_core.proofs.Words.{count, Above, LastAbove, NextIs, OneAbove, TwoAbove, get_or_default, Row, node, heads, FitRow, Rekeyed, Keeps}
use Rattle.bforest_core.proofs.{table.Stored.{slice_get_at, some_same, key_count, item_count}, table.Tables.is_used, rows.Zipper.{Spot, spot, above_two}}
use Rattle.bforest_core.proofs.rows.LevelRows.{least-pos}

-- removing the element between two lists
pub remove_at : {A : Type 0} → (p : List A) (y : A) (ys : List A) → remove (p ++ y ∷ ys) (length p) ≡ p ++ ys
remove_at [] y ys = refl
remove_at (z ∷ p) y ys = cc (remove_at p y ys)

-- removing the image of the element between two lists
pub remove_map : {X Y : Type 0} (f : X → Y) (l : List X) (x : X) (r : List X) → remove (map f (l ++ x ∷ r)) (length l) ≡ map f (l ++ r)
remove_map f [] x r = refl
remove_map f (z ∷ l) x r = cc (remove_map f l x r)

-- the same, where the next element got its image first
remove_moved : {X Y : Type 0} (f : X → Y) (l : List X) (x y z : X) (r : List X) → f z ≡ f x →
    remove (set (map f (l ++ x ∷ y ∷ r)) (suc (length l)) (f x)) (length l) ≡ map f (l ++ z ∷ r)
remove_moved f [] x y z r same = cc
remove_moved f (w ∷ l) x y z r same = cc (remove_moved f l x y z r same)

-- the key before the last child
pub last_key : {K : Type 0} (l : Heads K) (x : K × ℕ) → 1 ≤ length l → slice_get (drop 1 (entry_keys (l ++ x ∷ []))) (length l - 1) ≡ Some x.0
last_key [] x some = absurd (omega arith)
last_key (z ∷ l) x some = cc (map-append (λ w. w.0) l (x ∷ []), slice_get_at (entry_keys l) x.0 [] (suc (length l) - 1) (length-map l (λ w. w.0) ∙ omega arith))

module _ {K : Type 0} (V : Type 0) where
  -- removing one of two children or more removes the key before it
  pub without_some : (ks : List K) (cs index : _) → 2 ≤ length cs → without_child {V = V} (Inner ks cs) index ≡ Inner (remove ks (index - 1)) (remove cs index)
  without_some ks cs index two = elim (eqb_tells (length cs) 1) [ inl w ↦ absurd (let e = w.1 in omega arith) | inr w ↦ (let e = w.0 in rw e refl) ]

  -- removing a child that another follows, with the removed child's key passed to the next
  pub removed_same : (l : Heads K) (x y : K × ℕ) (r : Heads K) (key : K) → slice_get (drop 1 (entry_keys (l ++ x ∷ y ∷ r))) (length l - 1) ≡ Some key →
      without_child {V = V} (Inner (set (drop 1 (entry_keys (l ++ x ∷ y ∷ r))) (length l) key) (entry_items (l ++ x ∷ y ∷ r))) (length l) ≡ inner_content
      (l ++ (x.0, y.1) ∷ r)
  removed_same [] x y r key k = without_some (key ∷ entry_keys r) (x.1 ∷ y.1 ∷ entry_items r) 0 (omega arith)
  removed_same (z ∷ l) x y r key k = let less : suc (length l) - 1 ≡ length l = omega arith in
      let key_is = some_same {x = key} {y = x.0}
      (sym k ∙ rw (less, map-append (λ w. w.0) l (x ∷ y ∷ r)) (slice_get_at (entry_keys l) x.0 _ _ (length-map l (λ w. w.0)))) in
      without_some (set (entry_keys (l ++ x ∷ y ∷ r)) (suc (length l)) key) (entry_items ((z ∷ l) ++ x ∷ y ∷ r)) (suc (length l))
      (simp (length-map, length-append) (omega arith))
      ∙ rw (less, key_is, remove_moved (λ w. w.0) l x y (x.0, y.1) r refl, remove_map (λ w. w.1) l x (y ∷ r), map-append (λ w. w.1) l (y ∷ r), map-append (λ w. w.1) l ((x.0, y.1) ∷ r)) refl

  -- removing the last child
  pub removed_last : (l : Heads K) (x : K × ℕ) → 1 ≤ length l → without_child {V = V} (inner_content (l ++ x ∷ [])) (length l) ≡ inner_content l
  removed_last [] x some = absurd (omega arith)
  removed_last (z ∷ l) x some = let less : suc (length l) - 1 ≡ length l = omega arith in
      without_some (entry_keys (l ++ x ∷ [])) (entry_items ((z ∷ l) ++ x ∷ [])) (suc (length l)) (simp (length-map, length-append) (omega arith))
      ∙ rw (less, remove_map (λ w. w.0) l x [], remove_map (λ w. w.1) l x [], append-nil l) refl

-- a row without heads has no nodes
pub no_nodes : {K X : Type 0} (half most : ℕ) → 1 ≤ half → (row : Row K X) → FitRow half most row → heads row ≡ [] → row ≡ []
no_nodes half most one [] f e = refl
no_nodes half most one (node n [] ∷ row) f e = absurd (omega (arith, least-pos half one row))
no_nodes half most one (node n (x ∷ es) ∷ row) f e = absurd cc

-- the first element of a list, and the others
abbrev pub First : {A : Type 0} → List A → Type 0
First {A} es = (y : A) × (others : List A) × (es ≡ y ∷ others)

pub some_first : {A : Type 0} (es : List A) → 0 < length es → First es
some_first [] low = absurd (omega arith)
some_first (y ∷ es) low = (y, es, refl)

-- fewer levels are above the next one
pub fewer : {up size : ℕ} → up < size → (levels : ℕ) → size - up ≡ levels → size - (up + 1) < levels
fewer low levels is = omega arith

module _ {K V : Type 0} where
  -- a used node, whose entries are counted
  abbrev pub NodeAt : Table K V → ℕ → Type 0
  NodeAt t number = (content : _) × (slice_get t.nodes number ≡ Some content) × (¬ IsFree content)

  -- an inner node with a separator of this index
  abbrev pub KeyAt : Table K V → ℕ → ℕ → Type 0
  KeyAt t number index = (keys : List K) × (children : _) × (slice_get t.nodes number ≡ Some (Inner keys children)) × (index < length keys)

  -- an inner node with a child of this index
  abbrev pub ChildAt : Table K V → ℕ → ℕ → Type 0
  ChildAt t number index = (keys : List K) × (children : _) × (slice_get t.nodes number ≡ Some (Inner keys children)) × (index < length children)

  -- the answer of a read of a separator
  abbrev pub ReadsKey : Table K V → ℕ → ℕ → K → Type 0
  ReadsKey t number index key = (keys : List K) (children : _) → slice_get t.nodes number ≡ Some (Inner keys children) → slice_get keys index ≡ Some key

  abbrev pub ReadsChild : Table K V → ℕ → ℕ → ℕ → Type 0
  ReadsChild t number index child = (keys : List K) (children : _) → slice_get t.nodes number ≡ Some (Inner keys children) → slice_get children index ≡ Some child

  -- the answer of a count of a node's entries
  abbrev pub Counts : Table K V → ℕ → ℕ → Type 0
  Counts t number m = (content : _) → slice_get t.nodes number ≡ Some content → m ≡ entry_count content

  -- the effect of writing a separator
  abbrev pub Writes : Table K V → Table K V → ℕ → ℕ → K → Type 0
  Writes t u number index key = (keys : List K) (children : _) → slice_get t.nodes number ≡ Some (Inner keys children) → u ≡ with_node t number (with_key (Inner keys children) index key)

  -- the effect of removing a child
  abbrev pub Removes : Table K V → Table K V → ℕ → ℕ → Type 0
  Removes t u number index = (keys : List K) (children : _) → slice_get t.nodes number ≡ Some (Inner keys children) → u ≡ with_node t number (without_child (Inner keys children) index)

  module _ {t : Table K V} {path indices : List ℕ} {up size : ℕ} where
    -- a path goes no higher than its levels, and is below the highest where a level has two nodes
    pub above_low : {rows list place : _} → Above t path indices up size rows list place → up ≤ size
    above_low p = omega arith

    pub one_low : OneAbove t path indices up size → up ≤ size
    one_low w = above_low w.above

    pub two_low : TwoAbove t path indices up size → up < size
    two_low w = above_two _ _ _ _ _ w.above

    pub last_low : LastAbove t path indices up size → up < size
    last_low w = above_two _ _ _ _ _ w.above

    -- an index above the leaves is that of one of 8 children
    pub one_small : OneAbove t path indices up size → up < size → get_or indices up 0 < 8
    one_small w low = let d = spot _ _ _ w.above low in omega arith

    pub two_small : TwoAbove t path indices up size → get_or indices up 0 < 8
    two_small w = let d = spot _ _ _ w.above (two_low w) in omega arith

  -- the answer of the call for the right neighbour
  abbrev pub Beside : Table K V → List ℕ → List ℕ → ℕ → ℕ → Option (K × ℕ) → Type 0
  Beside t path indices up size r = (w : OneAbove t path indices up size) → NextIs r w.after

  -- the effect of the call that updates the key between two neighbours
  abbrev pub Rekeys : Table K V → Table K V → List ℕ → List ℕ → ℕ → ℕ → K → Type 0
  Rekeys u v path indices up size key =
      (w : TwoAbove u path indices up size) → Rekeyed u v path indices up size w.rows (w.before ++ w.x ∷ (key, w.y.1) ∷ w.after) (length w.before)

  -- the effect of the call that enters the next node
  abbrev pub Enters : Table K V → List ℕ → List ℕ → List ℕ → List ℕ → ℕ → ℕ → Type 0
  Enters t path indices path' indices' up size =
      (w : TwoAbove t path indices (suc up) size) → Above t path' indices' (suc up) size w.rows (w.before ++ w.x ∷ w.y ∷ w.after) (suc (length w.before)) × (get_or path' up 0 ≡ w.y.1)

  -- the path's node on a level above, by the number that was read, and what the calls on it require
  pub record Seen (t : Table K V) (path indices : List ℕ) (up size : ℕ) (rows : Rows K) (a : Heads K) (x : K × ℕ) (b : Heads K) (r : ℕ) : Type 0 where
    pub d : Spot t path indices up size rows a x b
    pub num_is : get_or path up r ≡ get_or path up 0
    pub slot_is : slice_get t.nodes (get_or path up r) ≡ Some (inner_content (d.l ++ x ∷ d.r))
    pub none_chain : count (get_or path up r) t.chain ≡ 0
    pub used : IsUsed t (get_or path up r)
    pub node_asks : NodeAt t (get_or path up r)
    pub child_asks : ChildAt t (get_or path up r) (get_or indices up 0)
    pub counted : (m : ℕ) → Counts t (get_or path up r) m → m ≡ length (d.l ++ x ∷ d.r)
    pub low_key_asks : (i : ℕ) → i < get_or indices up 0 → KeyAt t (get_or path up r) i
    pub key_asks : (m i : ℕ) → Counts t (get_or path up r) m → i + 1 < m → KeyAt t (get_or path up r) i

  pub seen : {t path indices up size rows : _} (a x : _) (b : _) → Above t path indices up size rows (a ++ x ∷ b) (length a) → up < size → (r : ℕ) → length path
      ≡ 17 → size ≤ 17 → Seen t path indices up size rows a x b r
  seen {t} {path} {up} a x b p low r wide height =
      let d = spot _ _ _ p low in let es = d.l ++ x ∷ d.r in let num_is = get_or_default path up r 0 (omega arith) in
      let slot = ap (λ z. slice_get t.nodes z) num_is ∙ d.slot_is in let none = ap (λ z. count z t.chain) num_is ∙ d.none_chain in
      let counted : (m : ℕ) → Counts t (get_or path up r) m → m ≡ length es = λ m value. value (inner_content es) slot ∙ item_count es in
      record {
        d = d;
        num_is = num_is;
        slot_is = slot;
        none_chain = none;
        used = is_used _ (get_or path up r) (inner_content es) slot none;
        node_asks = (inner_content es, slot, λ free. free);
        child_asks = (drop 1 (entry_keys es), entry_items es, slot, omega (arith, item_count es));
        counted = counted;
        low_key_asks = λ i below. (drop 1 (entry_keys es), entry_items es, slot, omega (arith, key_count es));
        key_asks = λ m i value more. (drop 1 (entry_keys es), entry_items es, slot, omega (arith, counted m value, key_count es));
      }

-- a path that is unchanged
pub keeps-refl : {path indices : List ℕ} {level size : ℕ} → Keeps path indices path indices level size
keeps-refl = record { nodes_below = λ i low. refl; entries_below = λ i low. refl; same_top = refl }
