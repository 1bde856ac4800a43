-- A node on top of some rows: a leaf where there are no inner rows, else a node of the highest of them.
use Rattle.bforest_core.proofs.Words.{◌≡◌, ◌≢◌, ℕ, suc, ◌+◌, ◌≤◌, ◌<◌, ◌⊎◌, inl, inr, List, [], ◌∷◌, ◌++◌, length, get_or, set, slice_get, Some, refl, sym, ap}
use Rattle.bforest_core.proofs.Words.{subst, ◌∙◌, arith, append_assoc, length-append, Row, Rows, get_or-set_other, nil_from_length, slice_get_within}
use Rattle.bforest_core.proofs.Words.{Content, IsInner, node, flat, half_of, RowIn, leaf_content, inner_content, IsAt, NodeOver, Under, IsLeafCapacity}
use Rattle.bforest_core.proofs.{rows.LevelRows.{FitRow-split, flat-append, some_leaf}, walks.Downward.{HeadNode, at_node, head_node, last_of, stacked_last, in_last}}
use Rattle.bforest_core.proofs.{table.Stored.some_same, table.Tables.row-split, walks.Reading.LastAsked}

-- the list is unchanged except at this level
abbrev pub SameBut : ℕ → List ℕ → List ℕ → Type 0
SameBut level old new = (i : ℕ) → i ≢ level → get_or new i 0 ≡ get_or old i 0

pub set_but : (old : _) {new : _} (level n : ℕ) → new ≡ set old level n → SameBut level old new
set_but old level n is i other = cc (get_or-set_other old level i n 0 other)

-- a row of no nodes has no entries
pub none_flat : {K X : Type 0} (row : Row K X) → length row ≡ 0 → length (flat row) ≡ 0
none_flat row e = cc (nil_from_length row e)

-- the entries of a row, cut within a node
pub flat_parted : {K X : Type 0} (before : Row K X) (n : ℕ) {es : List (K × X)} (l : List (K × X)) (x r after : _) → es ≡ l ++ x ∷ r → flat (before ++ node n es ∷ after) ≡ (flat before ++ l) ++ x ∷ (r ++ flat after)
flat_parted before n {es} l x r after is =
    cc (flat-append before (node n es ∷ after), append_assoc l (x ∷ r) (flat after), append_assoc (flat before) l (x ∷ (r ++ flat after)))

-- a path's place at the node
abbrev pub head_at : {K X : Type 0} {half most : _} {row : Row K X} {a first number b : _} (at : HeadNode half most row a first number b) {n j index place : ℕ} → n ≡ number → j ≡ index → index ≤ length at.es
    → place ≡ length (flat at.before) + index → IsAt row n j place
head_at at n_is j_is within place_is = at_node _ _ _ at.row_is n_is j_is (omega arith) place_is

module _ {K V : Type 0} {most : ℕ} {slots : List (Content K V)} {leaves : Row K V} {number : ℕ} (n : NodeOver most slots leaves number) where
  -- the node is a leaf
  pub record LeafUnder : Type 0 where
    pub lower_is : n.lower ≡ []
    pub at : HeadNode (half_of most) most leaves n.before n.first number n.after
    pub open at use *
    pub slot_is : slice_get slots number ≡ Some (leaf_content (e ∷ es))

  -- the node is one of the highest row
  pub record InnerUnder : Type 0 where
    pub rows : Rows K
    pub row : Row K ℕ
    pub lower_is : n.lower ≡ rows ++ row ∷ []
    pub count_is : length n.lower ≡ suc (length rows)
    pub at : HeadNode 4 8 row n.before n.first number n.after
    pub open at use *
    pub room : length es < 8
    pub under : Under most slots leaves rows (flat row)
    pub slot_is : slice_get slots number ≡ Some (inner_content (e ∷ es))

-- a node, by all that lies around it
abbrev pub node_over : {K V : Type 0} {most : ℕ} {slots : List (Content K V)} {leaves : _} (lower : _) (a first : _) (number : ℕ) (b : _) → Under most slots leaves lower (a ++ (first, number) ∷ b) → NodeOver most slots leaves number
node_over lower a first number b u = record { lower = lower; before = a; first = first; after = b; under = u }

head_slot : {K V X : Type 0} (content : List (K × X) → Content K V) (slots : List (Content K V)) {half most : _} {row : Row K X} {a first number b : _} (at : HeadNode half most row a first number b) → RowIn content slots row → slice_get slots number ≡ Some (content (at.e ∷ at.es))
head_slot content slots {number} at i = (row-split content slots at.before (node number (at.e ∷ at.es) ∷ at.after) (rw (← at.row_is) i)).1.0

module _ {K V : Type 0} {most : ℕ} (capacity : IsLeafCapacity most) {slots : List (Content K V)} {leaves : _} where
  parted : (lower : _) (a first number b : _) (u : Under most slots leaves lower (a ++ (first, number) ∷ b)) → LeafUnder (node_over lower a first number b u) ⊎ InnerUnder (node_over lower a first number b u)
  parted [] a first number b u = let at = head_node (half_of most) most (some_leaf capacity) leaves a first number b u.leaves_fit u.stacked in
      inl (record { lower_is = refl; at = at; slot_is = head_slot _ _ at u.leaves_in })
  parted (r ∷ rs) a first number b u =
      let z = last_of r rs in let s = stacked_last _ _ _ _ (rw (← z.is) u.stacked) in let i = in_last _ _ _ (rw (← z.is) u.rows_in) in
      let at = head_node 4 8 (omega arith) z.last a first number b s.1 s.2 in inr (record {
        rows = z.init;
        row = z.last;
        lower_is = z.is;
        count_is = ap length z.is ∙ length-append z.init (z.last ∷ []) ∙ omega arith;
        at = at;
        room = omega (arith, (FitRow-split 4 8 at.before (node number (at.e ∷ at.es)) at.after (rw (← at.row_is) s.1)).1.1);
        under = record { leaves_fit = u.leaves_fit; leaves_in = u.leaves_in; stacked = s.0; rows_in = i.0 };
        slot_is = head_slot _ _ at i.1;
      })

  module _ {number : ℕ} (n : NodeOver most slots leaves number) where
    pub node_under : LeafUnder n ⊎ InnerUnder n
    node_under = parted n.lower n.before n.first number n.after n.under

    -- the node's slot holds a node with entries
    pub node_held : LastAsked slots number
    node_held = elim node_under [ inl s ↦ (leaf_content (s.e ∷ s.es), s.slot_is, omega arith) | inr s ↦ (inner_content (s.e ∷ s.es), s.slot_is, omega arith) ]

    pub node_within : number < length slots
    node_within = slice_get_within _ _ _ node_held.1

    same_inner : {c d : Content K V} → slice_get slots number ≡ Some c → slice_get slots number ≡ Some d → IsInner d → IsInner c
    same_inner e f i = subst IsInner (some_same (sym f ∙ e)) i

    -- the node is a leaf if its content is not an inner node
    pub leaf_under : {content : Content K V} → slice_get slots number ≡ Some content → (IsInner content → ⊥) → LeafUnder n
    leaf_under found other = elim node_under [ inl s ↦ s | inr s ↦ absurd (other (same_inner found s.slot_is tt)) ]

    pub inner_under : {content : Content K V} → slice_get slots number ≡ Some content → IsInner content → InnerUnder n
    inner_under found inner = elim node_under [ inl s ↦ absurd (same_inner s.slot_is found inner) | inr s ↦ s ]

    -- the node is a leaf if there are no rows below it
    pub leaf_at : length n.lower ≡ 0 → LeafUnder n
    leaf_at none = elim node_under [ inl s ↦ s | inr s ↦ absurd (omega arith) ]

    pub inner_at : (length n.lower ≡ 0 → ⊥) → InnerUnder n
    inner_at some = elim node_under [ inl s ↦ absurd (some (ap length s.lower_is)) | inr s ↦ s ]
