-- The descent to the first entry and to the last, as one on a side: the answers of `descend_first` and `descend_last`.
use Rattle.bforest_core.proofs.Words.{◌≡◌, ◌≢◌, ℕ, zero, suc, ◌+◌, ◌-◌, ◌≤◌, ◌<◌, List, [], ◌∷◌, ◌++◌, length, get_or, set, slice_get, Some, refl, sym, ap}
use Rattle.bforest_core.proofs.Words.{subst, ◌∙◌, arith, length-append, Heads, Row, Rows, length-map, nil_from_length, Content, IsInner, entry_count}
use Rattle.bforest_core.proofs.Words.{node, flat, leaf_content, inner_content, entry_items, Bool, HasBelow, IsFirst, IsLast, IsNearest, nearest, true, false, Led, LedUp, NodeOver, OnBelow}
use Rattle.bforest_core.proofs.{Words.IsLeafCapacity, walks.Downward.{HeadNode, stands_more}, walks.RowNodes.no_heads}
use Rattle.bforest_core.proofs.{table.Stored.{some_same, item_count}, rows.LevelRows.{flat-append, some_leaf}, walks.Reading.{ChildAsked, ChildRead, LastRead}}
use Rattle.bforest_core.proofs.walks.TopNode.{SameBut, none_flat, flat_parted, head_at, set_but, LeafUnder, InnerUnder, inner_at, leaf_at}

-- a node's entries, cut at the child of an index
child_cut : {K : Type 0} (es : Heads K) (index child : ℕ) → slice_get (entry_items es) index ≡ Some child → (l : Heads K) × (key : K)
    × (r : Heads K) × (es ≡ l ++ (key, child) ∷ r) × (length l ≡ index)
child_cut [] index child found = absurd cc
child_cut (y ∷ es) zero child found = ([], y.0, es, ap (λ z. (y.0, z) ∷ es) (some_same found), refl)
child_cut (y ∷ es) (suc index) child found = let r = child_cut _ _ _ found in (y ∷ r.0, r.1, r.2, ap (λ z. y ∷ z) r.3, ap suc r.4)

-- the entries of a row end with those of its last node
last-end : {K X : Type 0} {half most : _} → 1 ≤ half → {row : Row K X} {a : _} {first number : _} {b : _}
    (at : HeadNode half most row a first number b) → b ≡ [] → length (flat row) ≡ length (flat at.before) + suc (length at.es)
last-end one {number} at last = let none = ap (λ z. length (flat z)) (no_heads _ _ one _ at.after_fit (at.after_is ∙ last)) in
    let parts = ap length (ap flat at.row_is ∙ flat-append at.before (node number (at.e ∷ at.es) ∷ at.after)) in
    omega (arith, length-append (flat at.before) ((at.e ∷ at.es) ++ flat at.after), length-append (at.e ∷ at.es) (flat at.after))

module _ {K V : Type 0} {most : ℕ} {slots : List (Content K V)} {leaves : Row K V} {number : ℕ} {n : NodeOver most slots leaves number} (s : InnerUnder n) where
  -- the node meets what reading a child requires
  pub child_asks : {content : Content K V} → slice_get slots number ≡ Some content → (index : ℕ) → index ≤ length s.es → IsInner content × (index < entry_count content)
  child_asks {content} read index within = let is : content ≡ inner_content (s.e ∷ s.es) = some_same (cc) in
      (subst IsInner (sym is) tt, rw is (omega (arith, within, item_count (s.e ∷ s.es))))

  -- a child of the node, as a node over the leaves and rows under it
  pub record ChildUnder (index child : ℕ) : Type 0 where
    pub on : NodeOver most slots leaves child
    pub rows_are : on.lower ≡ s.rows
    pub place_is : length on.before ≡ length (flat s.before) + index
    rest_is : length on.before + suc (length on.after) ≡ length (flat s.row)

  pub child_under : (index : ℕ) {child : ℕ} → ChildRead slots number index child → ChildUnder index child
  child_under index {child} reads = let c = child_cut (s.e ∷ s.es) index child (reads _ _ s.slot_is) in let front = flat s.before ++ c.0 in
      let back = c.2 ++ flat s.after in let flat_is = ap flat s.row_is ∙ flat_parted s.before number c.0 (c.1, child) c.2 s.after c.3 in record {
        on = record { lower = s.rows; before = front; first = c.1; after = back; under = rw flat_is at s.under };
        rows_are = refl;
        place_is = cc (length-append (flat s.before) c.0);
        rest_is = sym (cc (length-append front ((c.1, child) ∷ back)));
      }

module _ {K V : Type 0} {most : ℕ} {slots : List (Content K V)} {leaves : Row K V} {number : ℕ} {n : NodeOver most slots leaves number} {path indices : List ℕ} where
  -- the path is in a leaf, above which it was not written
  pub leaf_up : (s : LeafUnder n) {path' indices' : _} → SameBut 0 path path' → SameBut 0 indices indices'
      → LedUp n.lower (length s.before) (length n.before) path indices path' indices'
  leaf_up s nodes entries = rw s.lower_is (record {
    stands = s.before_is;
    nodes_above = λ i low. nodes i (λ z. omega arith);
    entries_above = λ i low. entries i (λ z. omega arith);
  })

  -- the path, once it was written at an inner node, leads on from a child
  pub inner_up : (s : InnerUnder n) {lower1 : Rows K} {index top : ℕ} → lower1 ≡ s.rows → top ≡ length (flat s.before) + index → index ≤ length s.es
      → {path1 indices1 path2 indices2 : _} {place : ℕ} (high : ℕ) → high ≡ length n.lower → LedUp lower1 place top path1 indices1 path2 indices2
      → get_or path1 high 0 ≡ number → get_or indices1 high 0 ≡ index → SameBut high path path1 → SameBut high indices indices1
      → LedUp n.lower place (length n.before) path indices path2 indices2
  inner_up s rows_are top_is within {path2} {indices2} {place} high high_is led m_is j_is nodes entries =
      let d = rw rows_are at led in let at = head_at s.at (d.nodes_above high (omega arith) ∙ m_is) (d.entries_above high (omega arith) ∙ j_is) within top_is in
      let more = stands_more path2 indices2 1 s.rows place high d.stands (omega arith) at in record {
        stands = rw s.lower_is (rw (← s.before_is) more);
        nodes_above = λ i low. d.nodes_above i (omega arith) ∙ nodes i (λ z. omega arith);
        entries_above = λ i low. d.entries_above i (omega arith) ∙ entries i (λ z. omega arith);
      }

-- the last leaf stands at the last place
pub last-place : {K V : Type 0} {most : ℕ} {slots : List (Content K V)} {leaves : Row K V} {number : ℕ} {n : NodeOver most slots leaves number} → IsLeafCapacity most
    → LeafUnder n → n.after ≡ [] → length n.before ≡ length leaves - 1
last-place {number} capacity s none = let a = s.at in let after = no_heads _ _ (some_leaf capacity) _ a.after_fit (a.after_is ∙ none) in
    omega (arith, ap length after, ap length a.row_is, length-append a.before (node number (a.e ∷ a.es) ∷ a.after))

module _ {K V : Type 0} (most : ℕ) (slots : List (Content K V)) (Side : Heads K → Heads K → Type 0) (place : Row K V → ℕ)
    (number index : ℕ) where
  -- The way down one side of a tree goes on from a node to its child at this index. In a leaf it ends at this index, and
  -- at this place of the list.
  pub record Turns : Type 0 where
    pub within : {leaves : _} {n : NodeOver most slots leaves number} (s : InnerUnder n) → Side n.before n.after → index ≤ length s.es
    pub keeps : {leaves : _} {n : NodeOver most slots leaves number} (s : InnerUnder n) → Side n.before n.after → {child : ℕ} (c : ChildUnder s index child)
        → Side c.on.before c.on.after
    pub low : {leaves : _} {n : NodeOver most slots leaves number} (s : LeafUnder n) → Side n.before n.after → index ≤ length s.es
    pub ends : {leaves : _} {n : NodeOver most slots leaves number} (s : LeafUnder n) → Side n.before n.after → place leaves ≡ length (flat s.before) + index

module _ {K V : Type 0} {most : ℕ} {slots : List (Content K V)} where
  pub first-turns : {number : ℕ} → Turns most slots IsFirst (λ leaves. 0) number 0
  first-turns = record {
    within = λ s side. omega arith;
    keeps = λ s side c. nil_from_length c.on.before (omega (arith, none_flat s.before cc));
    low = λ s side. omega arith;
    ends = λ s side. omega (arith, none_flat s.before cc);
  }

  pub last-turns : {number last : ℕ} (capacity : IsLeafCapacity most) → LastRead slots number last
      → Turns most slots IsLast (λ leaves. length (flat leaves) - 1) number last
  last-turns {number} {last} capacity says = record {
    within = λ s side. omega (arith, index s);
    keeps = λ s side c. nil_from_length c.on.after (omega (arith, index s, last-end (omega arith) s.at side));
    low = λ s side. omega (arith, at-leaf s);
    ends = λ s side. omega (arith, at-leaf s, last-end (some_leaf capacity) s.at side);
  }
    where
      index : {leaves : _} {n : NodeOver most slots leaves number} (s : InnerUnder n) → last ≡ length s.es
      index s = omega (arith, says (inner_content (s.e ∷ s.es)) s.slot_is, item_count (s.e ∷ s.es))

      at-leaf : {leaves : _} {n : NodeOver most slots leaves number} (s : LeafUnder n) → last ≡ length s.es
      at-leaf s = omega (arith, says (leaf_content (s.e ∷ s.es)) s.slot_is, length-map (s.e ∷ s.es) (λ w. w.0))

  -- a way that comes into each node by the child nearest to it
  pub near-turns : (on : Bool) {number index : ℕ} → IsLeafCapacity most → {content : Content K V} → slice_get slots number ≡ Some content
      → ((other : Content K V) → slice_get slots number ≡ Some other → index ≡ nearest on (entry_count other))
      → Turns most slots (IsNearest on) (λ leaves. nearest on (length (flat leaves))) number index
  near-turns true {number} capacity read says = subst (λ i. Turns most slots IsFirst (λ leaves. 0) number i) (sym (says _ read)) first-turns
  near-turns false capacity read says = last-turns capacity says

-- the descent on one side, from a node whose index in the path was written
module _ {K V : Type 0} {most : ℕ} (capacity : IsLeafCapacity most) {slots : List (Content K V)} {Side : Heads K → Heads K → Type 0}
    {place : Row K V → ℕ} {number index : ℕ} (turns : Turns most slots Side place number index) {level : ℕ} where
  -- at the leaf
  pub led-ends : level ≡ 0 → {path indices path1 indices1 : _} → (get_or path1 level 0 ≡ number) × (get_or indices1 level 0 ≡ index)
      → path1 ≡ set path level number → indices1 ≡ set indices level index → OnBelow most slots Side number level
      (λ leaves lower top. Led leaves lower (place leaves) top path indices path1 indices1)
  led-ends none here path_is indices_are leaves n side level_is = let s = leaf_at capacity n (omega arith) in
      record {
        leaf = head_at s.at (cc) (cc) (turns.low s side) (turns.ends s side);
        up = leaf_up s (λ i ne. set_but _ _ _ path_is i (λ e. ne (e ∙ none))) (λ i ne. set_but _ _ _ indices_are i (λ e. ne (e ∙ none)));
      }

  module _ (some : level ≢ 0) where
    abbrev inner : {leaves : _} (n : NodeOver most slots leaves number) → level ≡ length n.lower → InnerUnder n
    inner n is = inner_at capacity n (λ z. some (is ∙ z))

    -- what reading the child requires
    pub led-asks : HasBelow most slots Side number level → ChildAsked slots number index
    led-asks w = let s = inner w.1 w.3 in (_, _, s.slot_is, omega (arith, turns.within s w.2, item_count (s.e ∷ s.es)))

    module _ {child : ℕ} (says : ChildRead slots number index child) where
      -- what the call one level down requires
      pub led-goes : HasBelow most slots Side number level → HasBelow most slots Side child (level - 1)
      led-goes w = let s = inner w.1 w.3 in let c = child_under s index says in
          (w.0, c.on, turns.keeps s w.2 c, omega (arith, s.count_is, w.3, ap length c.rows_are))

      pub led-on : {path indices path1 indices1 path2 indices2 : _} → (get_or path1 level 0 ≡ number) × (get_or indices1 level 0 ≡ index)
          → path1 ≡ set path level number → indices1 ≡ set indices level index → OnBelow most slots Side child (level - 1)
          (λ leaves lower top. Led leaves lower (place leaves) top path1 indices1 path2 indices2)
          → OnBelow most slots Side number level (λ leaves lower top. Led leaves lower (place leaves) top path indices path2 indices2)
      led-on here path_is indices_are leads leaves n side level_is = let s = inner n level_is in let c = child_under s index says in
          let d = leads leaves c.on (turns.keeps s side c) (omega (arith, s.count_is, ap length c.rows_are)) in record {
            leaf = d.leaf;
            up = inner_up s c.rows_are c.place_is (turns.within s side) level level_is d.up here.0 here.1 (set_but _ _ _ path_is) (set_but _ _ _ indices_are);
          }
