-- Counting a node and everything below it, child by child.
use Rattle.bforest_core.proofs.Words.{◌≡◌, ℕ, suc, ◌+◌, ◌≤◌, ◌<◌, List, [], ◌∷◌, ◌++◌, length, drop, slice_get, Some, refl, subst, arith, length-append, Row, Rows}
use Rattle.bforest_core.proofs.Words.{Tree, cases_lt, inl, inr, numbers_of, Content, children_of, count, Under, numbers_under, IsLeafCapacity, drop_all, slice_get_within, Table}
use Rattle.bforest_core.proofs.{table.Lists.drop-read, table.Tables.count-append, rows.LevelRows.some_leaf, union.Account.length-same, union.Unions.Rooted, rows.Counts.{below-one, few-below}}
use Rattle.bforest_core.proofs.union.{Opened.{Opened, UnderCut, under-cut}, Sweep.{item_at, under_none}}

module _ {K V : Type 0} where
  -- a node and everything below its first children is counted
  pub record Counting (most : ℕ) (slots : List (Content K V)) (leaves : Row K V) (lower : Rows K) (number index nodes : ℕ) : Type 0 where
    pub opened : Opened most slots leaves lower number
    pub left_leaves : Row K V
    pub left_rows : Rows K
    pub own : List ℕ
    pub under : Under most slots left_leaves left_rows (drop index opened.top)
    pub height : length left_rows ≡ length opened.rows
    pub split : (m : ℕ) → count m (numbers_under opened.low opened.rows) ≡ count m own + count m (numbers_under left_leaves left_rows)
    pub nodes_are : nodes ≡ suc (length own)

  pub counting-first : {most : ℕ} {slots : List (Content K V)} {leaves lower number : _} → (o : Opened most slots leaves lower number) → Counting most slots leaves lower number 0 1
  counting-first o = record {
    opened = o;
    left_leaves = o.low;
    left_rows = o.rows;
    own = [];
    under = o.under;
    height = refl;
    split = λ m. omega arith;
    nodes_are = refl;
  }

  module _ {most : ℕ} {slots : List (Content K V)} {leaves : Row K V} {lower : Rows K} {number index nodes : ℕ} (s : Counting most slots leaves lower number index nodes) where
    -- the next child of the top, and that not all is counted yet
    pub record CountTurn (child : ℕ) : Type 0 where
      pub x : K × ℕ
      pub low : index < length s.opened.top
      pub cut : UnderCut most slots s.left_leaves s.left_rows (x ∷ []) (drop (suc index) s.opened.top)
      pub under : Under most slots cut.leaves_left cut.lower_left ((x.0, child) ∷ [])
      pub fewer : nodes + length (numbers_under cut.leaves_left cut.lower_left) ≤ length (numbers_under leaves lower)

    pub count-turn : IsLeafCapacity most → {child : ℕ} → slice_get (children_of s.opened.content) index ≡ Some child → CountTurn child
    count-turn capacity {child} found = let i = item_at s.opened.top index child (cc (s.opened.children_are)) in let x = i.0 in
        let cut = under-cut most slots (some_leaf capacity) (x ∷ []) (drop (suc index) s.opened.top) (rw (← drop-read s.opened.top index x i.1) s.under) in
        let own = numbers_under cut.leaves_left cut.lower_left in let rest = numbers_under cut.leaves_right cut.lower_right in
        record {
          x = x;
          low = slice_get_within _ _ _ i.1;
          cut = cut;
          under = subst (λ z. Under most slots cut.leaves_left cut.lower_left ((x.0, z) ∷ [])) i.2 cut.left;
          fewer = omega (
            arith,
            s.nodes_are,
            length-same (numbers_under leaves lower) (((s.own ++ own) ++ rest) ++ number ∷ []) (λ m. omega (arith, s.opened.counted m, s.split m, cut.counted m, count-append)),
            length-append ((s.own ++ own) ++ rest) (number ∷ []),
            length-append (s.own ++ own) rest,
            length-append s.own own,
          );
        }

    pub counting-next : {child more : ℕ} (t : CountTurn child) → more ≡ length (numbers_under t.cut.leaves_left t.cut.lower_left) → Counting most slots leaves lower number (suc index) (nodes + more)
    counting-next t is = let own = numbers_under t.cut.leaves_left t.cut.lower_left in record {
      opened = s.opened;
      left_leaves = t.cut.leaves_right;
      left_rows = t.cut.lower_right;
      own = s.own ++ own;
      under = t.cut.right;
      height = omega (arith, t.cut.right_height, s.height);
      split = λ m. omega (arith, s.split m, t.cut.counted m, count-append);
      nodes_are = omega (arith, s.nodes_are, is, length-append s.own own);
    }

    -- at last all are counted
    pub counting-last : IsLeafCapacity most → length s.opened.top ≤ index → nodes ≡ length (numbers_under leaves lower)
    counting-last capacity past = let none = under_none most capacity (subst (Under most slots s.left_leaves s.left_rows) (drop_all _ _ past) s.under) in
        omega (arith, s.nodes_are, length-same (numbers_under leaves lower) (s.own ++ number ∷ []) (λ m. omega (arith, s.opened.counted m, s.split m, none m, count-append)), length-append s.own (number ∷ []))

module _ {K V : Type 0} where
  -- a tree of a table has at most as many nodes as the table has slots
  pub tree-small : {most : ℕ} {table : Table K V} {root : ℕ} {tree : Tree K V} → Rooted most table root tree → length (numbers_of tree) ≤ length table.nodes
  tree-small {table = table} {tree = tree} r = few-below (length table.nodes) (numbers_of tree) (λ m. elim (cases_lt 0 (count m (numbers_of tree))) [
    | inl some ↦ omega (arith, r.apart m, count-append, below-one m (length table.nodes) (r.within m some))
    | inr none ↦ omega arith
  ])
