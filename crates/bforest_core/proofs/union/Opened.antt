-- A stack of rows, cut in two between two nodes of its top level, and the node on top of it, opened: its content, and what is below its children.
use Rattle.bforest_core.proofs.Words.{◌≡◌, ℕ, ◌+◌, ◌≤◌, List, [], ◌∷◌, ◌++◌, length, refl, ap, arith, Heads, Row, Rows, flat_map, Content, node, flat, heads}
use Rattle.bforest_core.proofs.Words.{numbers, FitRow, half_of, RowsIn, leaf_content, count, StackedTo, Under, numbers_under, suc, ◌<◌, reverse, slice_get}
use Rattle.bforest_core.proofs.Words.{IsLeaf, length-append, length-map, Some, append-nil, sym, subst, inl, inr, flat_map-append, Inner, Leaf, Free, IsInner, children_of, entry_count}
use Rattle.bforest_core.proofs.{Words.{inner_content, entry_items, numbers_down, nil_from_length, IsLeafCapacity}, rows.LevelRows.flat-append}
use Rattle.bforest_core.proofs.{rows.LevelRows.{numbers-append, least-pos, some_leaf}, table.Read.slot-is, table.Tables.{count-append, row-split}}
use Rattle.bforest_core.proofs.{union.Joining.beside, walks.Downward.HeadNode, walks.RowNodes.no_heads, walks.TopNode.{LeafUnder, InnerUnder, node_over, node_under}}

module _ {K X : Type 0} where
  -- a row, cut between two of its heads
  pub record RowCut (row : Row K X) (a b : Heads K) : Type 0 where
    pub left : Row K X
    pub right : Row K X
    pub row_is : row ≡ left ++ right
    pub left_is : heads left ≡ a
    pub right_is : heads right ≡ b

  row-cut : (half most : ℕ) → 1 ≤ half → (row a b : _) → FitRow half most row → heads row ≡ a ++ b → RowCut row a b
  row-cut half most one row [] b f h = record { left = []; right = row; row_is = refl; left_is = refl; right_is = h }
  row-cut half most one [] (x ∷ a) b f h = absurd cc
  row-cut half most one (node m [] ∷ ns) (x ∷ a) b f h = absurd (omega (arith, least-pos half one ns))
  row-cut half most one (node m (e ∷ es) ∷ ns) (x ∷ a) b f h = let r = row-cut half most one ns a b f.2 (cc) in
      record { left = node m (e ∷ es) ∷ r.left; right = r.right; row_is = cc; left_is = cc; right_is = r.right_is }

  -- both parts of a fit row fit
  fit_cut : (half most : ℕ) → 1 ≤ half → (xs ys : Row K X) → FitRow half most (xs ++ ys) → FitRow half most xs × FitRow half most ys
  fit_cut half most one [] ys f = (tt, f)
  fit_cut half most one (node m es ∷ []) ys f = ((omega (arith, least-pos half one ys), f.1, tt), f.2)
  fit_cut half most one (node m es ∷ (x ∷ xs)) ys f = let r = fit_cut half most one (x ∷ xs) ys f.2 in ((f.0, f.1, r.0), r.1)

-- inner rows cut below two parts of the top
pub record RowsCut {K V : Type 0} (slots : List (Content K V)) (list : Heads K) (rows : Rows K) (a b : Heads K) : Type 0 where
  pub list_left : Heads K
  pub list_right : Heads K
  pub left : Rows K
  pub right : Rows K
  pub list_is : list ≡ list_left ++ list_right
  pub rows_are : rows ≡ beside left right
  pub left_stacked : StackedTo list_left left a
  pub right_stacked : StackedTo list_right right b
  pub left_in : RowsIn slots left
  pub right_in : RowsIn slots right
  pub left_height : length left ≡ length rows
  pub right_height : length right ≡ length rows
  pub counted : (m : ℕ) → count m (flat_map numbers rows) ≡ count m (flat_map numbers left) + count m (flat_map numbers right)

module _ {K V : Type 0} where
  rows-cut : (slots : List (Content K V)) (list rows a b : _) → StackedTo list rows (a ++ b) → RowsIn slots rows → RowsCut slots list rows a b
  rows-cut slots list [] a b s i =
      record { list_left = a; list_right = b; left = []; right = []; list_is = s; rows_are = refl; left_stacked = refl; right_stacked = refl; left_in = tt; right_in = tt; left_height = refl; right_height = refl; counted = λ m. refl }
  rows-cut slots list (row ∷ rows) a b s i =
      let r = rows-cut slots (heads row) rows a b s.2 i.1 in let c = row-cut 4 8 (omega arith) row r.list_left r.list_right s.1 r.list_is in
      let fits = fit_cut 4 8 (omega arith) c.left c.right (rw (← c.row_is) s.1) in let ins = row-split _ _ _ c.right (rw (← c.row_is) i.0) in record {
        list_left = flat c.left;
        list_right = flat c.right;
        left = c.left ∷ r.left;
        right = c.right ∷ r.right;
        list_is = cc (flat-append _ _);
        rows_are = cc (c.row_is, r.rows_are);
        left_stacked = (refl, fits.0, rw c.left_is r.left_stacked);
        right_stacked = (refl, fits.1, rw c.right_is r.right_stacked);
        left_in = (ins.0, r.left_in);
        right_in = (ins.1, r.right_in);
        left_height = cc;
        right_height = cc;
        counted = λ m. omega (arith, r.counted m, ap (λ z. count m (numbers z)) c.row_is, ap (count m) (numbers-append c.left c.right), count-append);
      }

module _ {K V : Type 0} (most : ℕ) (slots : List (Content K V)) where
  -- the leaves and rows under some nodes, cut between two of the nodes
  pub record UnderCut (leaves : Row K V) (lower : Rows K) (a b : Heads K) : Type 0 where
    pub leaves_left : Row K V
    pub leaves_right : Row K V
    pub lower_left : Rows K
    pub lower_right : Rows K
    pub leaves_are : leaves ≡ leaves_left ++ leaves_right
    pub lower_are : lower ≡ beside lower_left lower_right
    pub left : Under most slots leaves_left lower_left a
    pub right : Under most slots leaves_right lower_right b
    pub left_height : length lower_left ≡ length lower
    pub right_height : length lower_right ≡ length lower
    pub counted : (m : ℕ) → count m (numbers_under leaves lower) ≡ count m (numbers_under leaves_left lower_left) + count m (numbers_under leaves_right lower_right)

  pub under-cut : 1 ≤ half_of most → {leaves lower : _} (a b : _) → Under most slots leaves lower (a ++ b) → UnderCut leaves lower a b
  under-cut one {leaves} {lower} a b u = let r = rows-cut slots (heads leaves) lower a b u.stacked u.rows_in in
      let c = row-cut (half_of most) most one leaves r.list_left r.list_right u.leaves_fit r.list_is in
      let fits = fit_cut _ _ one _ _ (rw (← c.row_is) u.leaves_fit) in let ins = row-split leaf_content slots c.left c.right (rw (← c.row_is) u.leaves_in) in
      record {
        leaves_left = c.left;
        leaves_right = c.right;
        lower_left = r.left;
        lower_right = r.right;
        leaves_are = c.row_is;
        lower_are = r.rows_are;
        left = record { leaves_fit = fits.0; leaves_in = ins.0; stacked = rw c.left_is r.left_stacked; rows_in = r.left_in };
        right = record { leaves_fit = fits.1; leaves_in = ins.1; stacked = rw c.right_is r.right_stacked; rows_in = r.right_in };
        left_height = r.left_height;
        right_height = r.right_height;
        counted = λ m. omega (arith, r.counted m, ap (λ z. count m (numbers z)) c.row_is, ap (count m) (numbers-append c.left c.right), count-append);
      }

-- a row with one head has one node
pub one_node : {K X : Type 0} {half : ℕ} (most : ℕ) → 1 ≤ half → {row : Row K X} {first number : _} (at : HeadNode half most row [] first number []) → row ≡ node number (at.e ∷ at.es) ∷ []
one_node most one at = cc (nil_from_length _ at.before_is, no_heads _ _ one _ at.after_fit at.after_is)

module _ {K V : Type 0} where
  -- only inner nodes have children, which are their entries
  pub inner-children : (content : Content K V) → 0 < length (children_of content) → IsInner content × (entry_count content ≡ length (children_of content))
  inner-children (Inner keys children) some = (tt, refl)
  inner-children (Leaf keys vals) some = absurd (omega arith)
  inner-children (Free next) some = absurd (omega arith)

  -- the node on top of the rows below it: its content, and what is below its children, if any
  pub record Opened (most : ℕ) (slots : List (Content K V)) (leaves : Row K V) (lower : Rows K) (number : ℕ) : Type 0 where
    pub low : Row K V
    pub rows : Rows K
    pub top : Heads K
    pub content : Content K V
    pub slot_is : slice_get slots number ≡ Some content
    pub children_are : children_of content ≡ entry_items top
    pub under : Under most slots low rows top
    pub leaf : length top ≡ 0 → (length lower ≡ 0) × IsLeaf content × (entry_count content ≡ length (flat leaves))
    pub whole : 0 < length top → low ≡ leaves
    pub counted : (m : ℕ) → count m (numbers_under leaves lower) ≡ count m (numbers_under low rows) + count m (number ∷ [])
    pub height : 0 < length top → suc (length rows) ≡ length lower
    pub down : numbers_down slots (length lower) number ≡ number ∷ flat_map (numbers_down slots (length rows)) (reverse (entry_items top))

  module _ {most : ℕ} (capacity : IsLeafCapacity most) {slots leaves : _} where
    open_leaf : {lower : _} {first number : _} {u : Under most slots leaves lower ((first, number) ∷ [])} → LeafUnder (node_over lower [] first number [] u) → Opened most slots leaves lower number
    open_leaf s = let row = one_node most (some_leaf capacity) s.at in
        record {
          low = [];
          rows = [];
          top = [];
          content = leaf_content (s.e ∷ s.es);
          slot_is = s.slot_is;
          children_are = refl;
          under = record { leaves_fit = tt; leaves_in = tt; stacked = refl; rows_in = tt };
          leaf = λ none. (ap length s.lower_is, tt, omega (arith, ap (λ z. length (flat z)) row, length-append (s.e ∷ s.es) [], length-map (s.e ∷ s.es) (λ (e : K × V). e.0)));
          whole = λ some. absurd (omega arith);
          counted = λ m. omega (arith, count-append, ap (λ z. count m (numbers z)) row, ap (λ z. count m (flat_map numbers z)) s.lower_is);
          height = λ some. absurd (omega arith);
          down = cc;
        }

    open_inner : {lower : _} {first number : _} {u : Under most slots leaves lower ((first, number) ∷ [])} → InnerUnder (node_over lower [] first number [] u) → Opened most slots leaves lower number
    open_inner s = let row = one_node 8 (omega arith) s.at in let es = s.e ∷ s.es in
        record {
          low = leaves;
          rows = s.rows;
          top = es;
          content = inner_content es;
          slot_is = s.slot_is;
          children_are = refl;
          under = subst (Under most slots leaves s.rows) (cc (append-nil es)) s.under;
          leaf = λ none. absurd (omega arith);
          whole = λ some. refl;
          counted = λ m. omega (arith, ap (λ z. count m (flat_map numbers z)) s.lower_is, ap (count m) (flat_map-append numbers s.rows (s.row ∷ [])), ap (count m) (append-nil (numbers s.row)), ap (λ z. count m (numbers z)) row, count-append);
          height = λ some. sym s.count_is;
          down = cc (slot-is _ _ s.slot_is);
        }

    pub under-open : {lower : _} {first number : _} → Under most slots leaves lower ((first, number) ∷ []) → Opened most slots leaves lower number
    under-open u = elim (node_under capacity (node_over _ [] _ _ [] u)) [ inl s ↦ open_leaf s | inr s ↦ open_inner s ]
