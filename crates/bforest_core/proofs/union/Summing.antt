-- Counting the entries below a node, child by child.
use Rattle.bforest_core.proofs.Words.{◌≡◌, ℕ, suc, ◌+◌, ◌*◌, ◌≤◌, ◌<◌, List, [], ◌∷◌, length, drop, slice_get, Some, refl, subst, ap, ◌∙◌, arith, length-append}
use Rattle.bforest_core.proofs.Words.{Row, Rows, Heads, Tree, node, flat, numbers, half_of, FitRow, StackedTo, Content, Inner, Leaf, Free, IsFree, IsLeaf, children_of, entry_count, Under, IsLeafCapacity, drop_all, slice_get_within, Table, heads, flat_map}
use Rattle.bforest_core.proofs.{table.Lists.drop-read, rows.LevelRows.{flat-append, some_leaf}, walks.RowNodes.no_heads, union.Unions.Rooted, union.Counting.tree-small}
use Rattle.bforest_core.proofs.union.{Opened.{Opened, UnderCut, under-cut}, Sweep.item_at}

-- a row has few entries
few-flat : {K X : Type 0} (half most : ℕ) (row : Row K X) → FitRow half most row → length (flat row) ≤ most * length (numbers row)
few-flat half most [] f = omega arith
few-flat half most (node m es ∷ ns) f = omega (arith, few-flat half most ns f.2, f.1, length-append es (flat ns))

-- rows below no nodes list none
list-none : {K : Type 0} (list : Heads K) (rows : Rows K) → StackedTo list rows [] → list ≡ []
list-none list [] s = s
list-none list (row ∷ rows) s = let none = no_heads 4 8 (omega arith) row s.1 (list-none (heads row) rows s.2) in cc (s.0)

module _ {K V : Type 0} where
  -- a tree has few entries
  pub entries-small : {most : ℕ} {table : Table K V} {root : ℕ} {tree : Tree K V} → IsLeafCapacity most → length table.nodes ≤ 4294967295 → Rooted most table root tree → length (flat tree.leaves) ≤ 1099511627776
  entries-small {most} {table} {tree = tree} capacity slots r =
      let few = few-flat (half_of most) most tree.leaves r.fit.leaves_fit in
      let small : length (numbers tree.leaves) ≤ 4294967295 = omega (arith, tree-small r, slots, length-append (numbers tree.leaves) (flat_map numbers tree.above)) in
      grind (arith, few, small, capacity.most)

  -- the entries below the first children of a node, on top of these leaves and rows, are counted
  pub record Summing (most : ℕ) (slots : List (Content K V)) (leaves : Row K V) (lower : Rows K) (number index entries : ℕ) : Type 0 where
    pub opened : Opened most slots leaves lower number
    pub some : 0 < length opened.top
    pub left_leaves : Row K V
    pub left_rows : Rows K
    pub under : Under most slots left_leaves left_rows (drop index opened.top)
    pub height : length left_rows ≡ length opened.rows
    pub sum : entries + length (flat left_leaves) ≡ length (flat leaves)

  pub sum-first : {most : ℕ} {slots : List (Content K V)} {leaves lower number : _} → (o : Opened most slots leaves lower number) → 1 ≤ length lower → Summing most slots leaves lower number 0 0
  sum-first o deep = let some : 0 < length o.top = grind (arith, o.leaf, deep) in record {
    opened = o;
    some = some;
    left_leaves = o.low;
    left_rows = o.rows;
    under = o.under;
    height = refl;
    sum = omega (arith, ap (λ z. length (flat z)) (o.whole some));
  }

  module _ {most : ℕ} {slots : List (Content K V)} {leaves : Row K V} {lower : Rows K} {number index entries : ℕ} (s : Summing most slots leaves lower number index entries) where
    -- the next child of the top, and that not all is counted yet
    pub record SumTurn (child : ℕ) : Type 0 where
      pub x : K × ℕ
      pub low : index < length s.opened.top
      pub cut : UnderCut most slots s.left_leaves s.left_rows (x ∷ []) (drop (suc index) s.opened.top)
      pub under : Under most slots cut.leaves_left cut.lower_left ((x.0, child) ∷ [])
      pub height : suc (length cut.lower_left) ≡ length lower
      pub split : length (flat s.left_leaves) ≡ length (flat cut.leaves_left) + length (flat cut.leaves_right)

    pub sum-turn : IsLeafCapacity most → {child : ℕ} → slice_get (children_of s.opened.content) index ≡ Some child → SumTurn child
    sum-turn capacity {child} found = let i = item_at s.opened.top index child (cc (s.opened.children_are)) in let x = i.0 in
        let cut = under-cut most slots (some_leaf capacity) (x ∷ []) (drop (suc index) s.opened.top) (rw (← drop-read s.opened.top index x i.1) s.under) in
        record {
          x = x;
          low = slice_get_within _ _ _ i.1;
          cut = cut;
          under = subst (λ z. Under most slots cut.leaves_left cut.lower_left ((x.0, z) ∷ [])) i.2 cut.left;
          height = omega (arith, s.opened.height s.some, s.height, cut.left_height);
          split = ap (λ z. length (flat z)) cut.leaves_are ∙ ap length (flat-append cut.leaves_left cut.leaves_right) ∙ length-append (flat cut.leaves_left) (flat cut.leaves_right);
        }

    pub sum-next : {child more : ℕ} (t : SumTurn child) → more ≡ length (flat t.cut.leaves_left) → Summing most slots leaves lower number (suc index) (entries + more)
    sum-next t is = record {
      opened = s.opened;
      some = s.some;
      left_leaves = t.cut.leaves_right;
      left_rows = t.cut.lower_right;
      under = t.cut.right;
      height = omega (arith, t.cut.right_height, s.height);
      sum = omega (arith, s.sum, is, t.split);
    }

    -- at last all are counted
    pub sum-last : IsLeafCapacity most → length s.opened.top ≤ index → entries ≡ length (flat leaves)
    sum-last capacity past =
        let u = subst (Under most slots s.left_leaves s.left_rows) (drop_all _ _ past) s.under in
        let none = no_heads _ _ (some_leaf capacity) _ u.leaves_fit (list-none _ _ u.stacked) in
        omega (arith, s.sum, ap (λ z. length (flat z)) none)

  leaf-used : (content : Content K V) → IsLeaf content → ¬ IsFree content
  leaf-used (Leaf keys vals) leaf free = free
  leaf-used (Inner keys children) leaf free = leaf
  leaf-used (Free next) leaf free = leaf

  -- a node without children, or with no level below it, is a leaf, which tells how many entries there are
  pub childless-many : {most : ℕ} {slots : List (Content K V)} {leaves lower number : _} (o : Opened most slots leaves lower number) → length o.top ≡ 0 → (¬ IsFree o.content) × (entry_count o.content ≡ length (flat leaves))
  childless-many o none = let l = o.leaf none in (leaf-used o.content l.1, l.2)

  pub leaf-many : {most : ℕ} {slots : List (Content K V)} {leaves lower number : _} (o : Opened most slots leaves lower number) → length lower ≡ 0 → (¬ IsFree o.content) × (entry_count o.content ≡ length (flat leaves))
  leaf-many o low = childless-many o (grind (arith, o.height, low))
