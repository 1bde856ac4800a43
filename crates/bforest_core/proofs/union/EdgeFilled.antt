-- The first node of each level below a node is filled from its right neighbour, from the top down: the answers of `fill_edge`.
use Rattle.bforest_core.proofs.Words.{◌≡◌, ◌≢◌, ℕ, suc, ◌+◌, ◌-◌, ◌/◌, ◌≤◌, ◌<◌, ◌⊎◌, inl, inr, List, [], ◌∷◌, ◌++◌, length, map, slice_get, Bool, true, false, Some, refl, sym}
use Rattle.bforest_core.proofs.Words.{ap, subst, ◌∙◌, arith, append_assoc, append-nil, cases_lt, flat_map, flat_map-append, length-append, map-append, nil_from_length, Distinct, Every}
use Rattle.bforest_core.proofs.Words.{Heads, Row, RowIn, Rows, RowsIn, IsLeafCapacity, Content, Frees, Item, Table, content_at, count, flat, heads, inner_content, leaf_content}
use Rattle.bforest_core.proofs.Words.{most_at, node, numbers, numbers_under, sizes}
use Rattle.bforest_core.proofs.removal.{Asked.{ChildAt, ReadsChild, some_first}, Collapse.length-sizes}
use Rattle.bforest_core.proofs.rows.LevelRows.{flat-append, heads-append, numbers-append, sizes-append}
use Rattle.bforest_core.proofs.table.{Stored.some_same, Tables.{count-append, row-join, row-same, row-split, rows-same}, Trading.{frees-then, trades-apart, trades-none, trades-wider}}
use Rattle.bforest_core.proofs.union.Filled.{IsWide, below-levels, below-next, filled-behind, filled-fewer, filled-left, filled-one, filled-wide, filled_below}
use Rattle.bforest_core.proofs.union.Filled.{last-is, last_level, last_most, lessened-none, ready-stays, ready-wide}
use Rattle.bforest_core.proofs.{union.{FilledChild.{AllSome, heads-some}, Forests.{every-append, every-join}}, walks.Downward.{Last, in_last, last_of}}
use Rattle.bforest_core.specs.{Detach.{FillsChild, FillsEdge, HasChildren, OnEdge, row_sizes}, Packed.Piled, Sizes.{filled, lessened}}

-- every node of each of these levels has an entry or a child
abbrev pub AllLevels : List (List ℕ) → Type 0
AllLevels levels = Every (Every (λ size. 1 ≤ size)) levels

-- the last of these levels, and those below it
levels-last : (levels : List (List ℕ)) (last : List ℕ) → AllLevels (levels ++ last ∷ []) → AllLevels levels × Every (λ size. 1 ≤ size) last
levels-last levels last some = let e = every-append (Every (λ size. 1 ≤ size)) levels (last ∷ []) some in (e.0, e.1.0)

levels-more : (levels : List (List ℕ)) (last : List ℕ) → AllLevels levels → Every (λ size. 1 ≤ size) last → AllLevels (levels ++ last ∷ [])
levels-more levels last some some' = every-join (Every (λ size. 1 ≤ size)) levels (last ∷ []) some (some', tt)

-- a row of nodes that are not empty, cut where its heads are cut
pub record Parted {K X : Type 0} (row : Row K X) (a b : Heads K) : Type 0 where
  pub l : Row K X
  pub r : Row K X
  pub row_is : row ≡ l ++ r
  pub left_is : heads l ≡ a
  pub right_is : heads r ≡ b

-- a row, cut where its heads are cut
row-parted : {K X : Type 0} (row : Row K X) (a b : Heads K) → AllSome row → heads row ≡ a ++ b → Parted row a b
row-parted row [] b some is = record { l = []; r = row; row_is = refl; left_is = refl; right_is = is }
row-parted [] (x ∷ a) b some is = absurd cc
row-parted (node n [] ∷ row) (x ∷ a) b some is = absurd (omega (arith, some.0))
row-parted (node n (e ∷ es) ∷ row) (x ∷ a) b some is = let p = row-parted row a b some.1 (cc) in let first : ◌≡◌ {A = _} (e.0, n) x = cc in
    record { l = node n (e ∷ es) ∷ p.l; r = p.r; row_is = cc (p.row_is); left_is = cc (p.left_is); right_is = p.right_is }

-- the first node of such a row, and its first key
pub record Lead {K X : Type 0} (row : Row K X) (x : K × ℕ) (hs : Heads K) : Type 0 where
  pub e : K × X
  pub es : List (K × X)
  pub after : Row K X
  pub row_is : row ≡ node x.1 (e ∷ es) ∷ after
  pub key_is : e.0 ≡ x.0
  pub after_is : heads after ≡ hs

-- what its heads begin with is its first node
lead : {K X : Type 0} (row : Row K X) (x : K × ℕ) (hs : Heads K) → AllSome row → heads row ≡ x ∷ hs → Lead row x hs
lead [] x hs some is = absurd cc
lead (node n [] ∷ row) x hs some is = absurd (omega (arith, some.0))
lead {K} (node n (e ∷ es) ∷ row) x hs some is = let first : ◌≡◌ {A = K × ℕ} (e.0, n) x = cc in
    record { e = e; es = es; after = row; row_is = ap (λ (z : K × ℕ). node z.1 (e ∷ es) ∷ row) first; key_is = ap (λ (z : K × ℕ). z.0) first; after_is = cc }

-- a row that has entries has a first node with the first of them
led : {K X : Type 0} (row : Row K X) (z : K × X) (zs : List (K × X)) → AllSome row → flat row ≡ z ∷ zs → (x : K × ℕ) × (hs : Heads K) × (heads row ≡ x ∷ hs) × (x.0 ≡ z.0)
led [] z zs some is = absurd cc
led (node n [] ∷ row) z zs some is = absurd (omega (arith, some.0))
led (node n (e ∷ es) ∷ row) z zs some is = ((e.0, n), heads row, refl, (let same : e ≡ z = cc in cc))

module _ {K : Type 0} where
  -- rows up to a row on top
  piled-last : (list : Heads K) (rows : Rows K) (row : Row K ℕ) (top : Heads K) → Piled list (rows ++ row ∷ []) top → Piled list rows (flat row) × (heads row ≡ top)
  piled-last list [] row top p = (sym p.0, p.1)
  piled-last list (r ∷ rows) row top p = let w = piled-last (heads r) rows row top p.1 in ((p.0, w.0), w.1)

  -- a row on top of rows
  piled-more : (list : Heads K) (rows : Rows K) (row : Row K ℕ) (top : Heads K) → Piled list rows (flat row) → heads row ≡ top → Piled list (rows ++ row ∷ []) top
  piled-more list [] row top p is = (sym p, is)
  piled-more list (r ∷ rows) row top p is = (p.0, piled-more (heads r) rows row top p.1 is)

  -- rows with one more on top lie in the slots
  in-more : {V : Type 0} (slots : List (Content K V)) (rows : Rows K) (row : Row K ℕ) → RowsIn slots rows → RowIn inner_content slots row → RowsIn slots (rows ++ row ∷ [])
  in-more slots [] row i j = (j, tt)
  in-more slots (r ∷ rows) row i j = (i.0, in-more slots rows row i.1 j)

  -- the numbers of rows with one more on top
  numbers-more : (m : ℕ) (rows : Rows K) (row : Row K ℕ) → count m (flat_map numbers (rows ++ row ∷ [])) ≡ count m (flat_map numbers rows) + count m (numbers row)
  numbers-more m rows row = omega (arith, ap (count m) (flat_map-append numbers rows (row ∷ [])), count-append m (flat_map numbers rows) (numbers row ++ []), count-append m (numbers row) [])

  -- an only node over the rows is an only node of the highest
  piled-one : {X : Type 0} (most : ℕ) (row : Row K X) (rows : Rows K) (top : Heads K) → Piled (heads row) rows top → AllLevels (sizes row ∷ map sizes rows) → length top ≤ 1 →
      filled (last_most most (map sizes rows)) (last_level (sizes row) (map sizes rows)) ≡ last_level (sizes row) (map sizes rows)
  piled-one most row [] top p some one = filled-one most (sizes row) (omega (arith, heads-some row some.0, ap length p))
  piled-one most row (next ∷ rows) top p some one = piled-one 8 next rows top p.1 some.1 one

module _ {K V : Type 0} where
  -- The node is the first of a level, whose nodes are listed, and of two entries or children or more where it is not the only one. These leaves and
  -- the rows over them are that level and all below, off the free list, and no node is empty.
  pub record AtEdge (table : Table K V) (level node : ℕ) (leaves : Row K V) (rows : Rows K) (first : K) (rest : Heads K) : Type 0 where
    pub leaves_in : RowIn leaf_content table.nodes leaves
    pub rows_in : RowsIn table.nodes rows
    pub piled : Piled (heads leaves) rows ((first, node) ∷ rest)
    pub some : AllLevels (row_sizes leaves rows)
    pub wide : rest ≢ [] → IsWide (last_level (sizes leaves) (map sizes rows))
    pub height : length rows ≡ level
    pub apart : Distinct (numbers_under leaves rows ++ table.chain)

  -- the first node of each level below such a node was filled, from the highest down
  pub record FillsBelow (most : ℕ) (old new : Table K V) (node : ℕ) (leaves : Row K V) (rows : Rows K) (first : K) (rest : Heads K) : Type 0 where
    pub leaves' : Row K V
    pub rows' : Rows K
    pub leaves_in : RowIn leaf_content new.nodes leaves'
    pub rows_in : RowsIn new.nodes rows'
    pub list_is : flat leaves' ≡ flat leaves
    pub piled : Piled (heads leaves') rows' ((first, node) ∷ rest)
    pub sizes_are : row_sizes leaves' rows' ≡ filled_below most 0 (sizes leaves) (map sizes rows)
    pub freed : List ℕ
    pub frees : Frees old new (numbers_under leaves rows) (numbers_under leaves' rows') freed

  -- Down to this node of a level the edge is filled: with what is below the node filled too, all is.
  pub record FillingEdge {old : Table K V} {most level top leaves rows first rest : _} (o : OnEdge most old level top leaves rows first rest) (now : Table K V) (up node : ℕ) : Type 0 where
    pub leaves' : Row K V
    pub rows' : Rows K
    pub first' : K
    pub rest' : Heads K
    pub at : AtEdge now up node leaves' rows' first' rest'
    pub closes : (new : Table K V) → FillsBelow most now new node leaves' rows' first' rest' → FillsEdge most old new top leaves rows first rest

  -- at the start nothing is filled
  pub filling-first : {most : ℕ} → IsLeafCapacity most → {old : Table K V} {level top leaves rows first rest : _} (o : OnEdge most old level top leaves rows first rest) → FillingEdge o old level top
  filling-first {most} capacity {leaves = leaves} {rows = rows} {first = first} {rest = rest} o = record {
    leaves' = leaves;
    rows' = rows;
    first' = first;
    rest' = rest;
    at = record {
      leaves_in = o.leaves_in;
      rows_in = o.rows_in;
      piled = o.piled;
      some = o.some;
      wide = λ more. ready-wide most (sizes leaves) (map sizes rows) capacity.least (o.ready more);
      height = o.height;
      apart = o.apart;
    };
    closes = λ new f. (let same = stays rest refl in record {
      leaves' = f.leaves';
      rows' = f.rows';
      leaves_in = f.leaves_in;
      rows_in = f.rows_in;
      list_is = f.list_is;
      piled = f.piled;
      sizes_are = f.sizes_are ∙ below-levels most (sizes leaves) (map sizes rows) same;
      freed = f.freed;
      frees = f.frees;
    });
  }
    where
      stays : (others : Heads K) → rest ≡ others → filled (last_most most (map sizes rows)) (last_level (sizes leaves) (map sizes rows)) ≡ last_level (sizes leaves) (map sizes rows)
      stays [] is = piled-one most leaves rows _ o.piled o.some (omega (arith, ap length is))
      stays (x ∷ others) is = ready-stays most (sizes leaves) (map sizes rows) (o.ready (λ none. absurd (omega (arith, ap length is, ap length none))))

  -- below a leaf nothing is left to be filled
  pub filling-last : {old now : Table K V} {most level top up node leaves rows first rest : _} {o : OnEdge most old level top leaves rows first rest} →
      (f : FillingEdge o now up node) → up ≡ 0 → FillsEdge most old now top leaves rows first rest
  filling-last {now = now} f bottom = let none = nil_from_length f.rows' (omega (arith, f.at.height)) in f.closes now (record {
    leaves' = f.leaves';
    rows' = f.rows';
    leaves_in = f.at.leaves_in;
    rows_in = f.at.rows_in;
    list_is = refl;
    piled = f.at.piled;
    sizes_are = rw none (cc (lessened-none (sizes f.leaves')));
    freed = [];
    frees = trades-none now (numbers_under f.leaves' f.rows');
  })

module _ {K V X : Type 0} where
  -- A node with these children, in front of others of its level, over the row of all their children. It has two or more where it is not alone.
  pub record OverRow (content : List (K × X) → Content K V) (table : Table K V) (number : ℕ) (x : K × ℕ) (xs : Heads K) (after : Row K ℕ) (under : Row K X) : Type 0 where
    pub slot_is : slice_get table.nodes number ≡ Some (inner_content (x ∷ xs))
    pub after_in : RowIn inner_content table.nodes after
    pub inside : RowIn content table.nodes under
    pub some : AllSome under
    pub heads_is : heads under ≡ (x ∷ xs) ++ flat after
    pub wide : flat after ≢ [] → 2 ≤ length (x ∷ xs)
    pub once : (m : ℕ) → count m (number ∷ []) + count m (numbers after) + count m (numbers under) + count m table.chain ≤ 1

  module _ {content : List (K × X) → Content K V} {t : Table K V} {number : ℕ} {x : K × ℕ} {xs : Heads K} {after : Row K ℕ} {under : Row K X} (w : OverRow content t number x xs after under) where
    -- the node's own children, and those of the nodes behind it
    pub parts : Parted under (x ∷ xs) (flat after)
    parts = row-parted under (x ∷ xs) (flat after) w.some w.heads_is

    abbrev pub own : Row K X
    own = parts.l

    abbrev pub others : Row K X
    others = parts.r

    sizes-are : sizes under ≡ sizes own ++ sizes others
    sizes-are = ap sizes parts.row_is ∙ sizes-append own others

    some-parts : AllSome own × AllSome others
    some-parts = every-append (λ size. 1 ≤ size) (sizes own) (sizes others) (subst (Every (λ size. 1 ≤ size)) sizes-are w.some)

    in-parts : RowIn content t.nodes own × RowIn content t.nodes others
    in-parts = row-split content t.nodes own others (subst (RowIn content t.nodes) parts.row_is w.inside)

    own-count : length (sizes own) ≡ length (x ∷ xs)
    own-count = sym (heads-some own some-parts.0) ∙ ap length parts.left_is

    others-count : length (sizes others) ≡ length (flat after)
    others-count = sym (heads-some others some-parts.1) ∙ ap length parts.right_is

    under-count : (m : ℕ) → count m (numbers under) ≡ count m (numbers own) + count m (numbers others)
    under-count m = ap (λ z. count m (numbers z)) parts.row_is ∙ ap (count m) (numbers-append own others) ∙ count-append m (numbers own) (numbers others)

    own-split : (m : ℕ) → count m (number ∷ numbers own) ≡ count m (number ∷ []) + count m (numbers own)
    own-split m = count-append m (number ∷ []) (numbers own)

    -- the node with its own children
    pub own-has : HasChildren content t number own
    own-has = record {
      slot_is = w.slot_is ∙ ap (λ z. Some (inner_content z)) (sym parts.left_is);
      inside = in-parts.0;
      some = some-parts.0;
      apart = λ m. omega (arith, w.once m, under-count m, own-split m, count-append m (number ∷ numbers own) t.chain);
    }

    -- filling the first of them fills the first node of the level
    level-filled : (most : ℕ) → filled most (sizes own ++ sizes others) ≡ filled most (sizes own) ++ sizes others
    level-filled most = elim (cases_lt 0 (length (sizes others))) [
      | inl more ↦ filled-behind most (sizes own) (sizes others) (omega (arith, own-count, w.wide (λ none. omega (arith, more, others-count, ap length none))))
      | inr none ↦ (let e = nil_from_length (sizes others) (omega arith) in cc (append-nil (sizes own), append-nil (filled most (sizes own))))
    ]

    module _ {most : ℕ} {u : Table K V} (f : FillsChild content most t u number own) where
      abbrev pub under' : Row K X
      under' = f.row' ++ others

      -- the level has lost a node, or its first two share
      sizes-filled : sizes under' ≡ filled most (sizes under)
      sizes-filled = cc (sizes-append f.row' others, f.sizes_are, sizes-are, level-filled most)

      unchanged : (m : ℕ) → count m (number ∷ []) + count m (numbers own) ≡ 0 → slice_get u.nodes m ≡ slice_get t.nodes m
      unchanged m none = f.frees.others m (omega (arith, none, own-split m))

      in-under : RowIn content u.nodes under'
      in-under = row-join content u.nodes f.row' others f.has.inside (row-same content t.nodes u.nodes others (λ m some. unchanged m (omega (arith, w.once m, under-count m, some))) in-parts.1)

      flat-under : flat under' ≡ flat under
      flat-under = cc (flat-append f.row' others, flat-append own others, f.list_is, parts.row_is)

      some-under : AllSome under'
      some-under = subst (Every (λ size. 1 ≤ size)) (sym (sizes-append f.row' others)) (every-join (λ size. 1 ≤ size) (sizes f.row') (sizes others) f.has.some some-parts.1)

      -- the first child now, and the others of the node
      pub first-child : (y : K × ℕ) × (ys : Heads K) × (heads f.row' ≡ y ∷ ys) × (y.0 ≡ x.0)
      first-child = let l = lead own x xs some-parts.0 parts.left_is in let r = led f.row' l.e (l.es ++ flat l.after) f.has.some (f.list_is ∙ ap flat l.row_is) in (r.0, r.1, r.2, r.3 ∙ l.key_is)

      abbrev pub y : K × ℕ
      y = first-child.0

      abbrev pub ys : Heads K
      ys = first-child.1

      heads-under : heads under' ≡ y ∷ (ys ++ flat after)
      heads-under = cc (heads-append f.row' others, first-child.2, parts.right_is)

      slot-filled : slice_get u.nodes number ≡ Some (inner_content (y ∷ ys))
      slot-filled = f.has.slot_is ∙ ap (λ z. Some (inner_content z)) first-child.2

      -- the level of the node
      abbrev pub row' : Row K ℕ
      row' = node number (y ∷ ys) ∷ after

      row-in : RowIn inner_content u.nodes row'
      row-in = (slot-filled, row-same inner_content t.nodes u.nodes after (λ m some. unchanged m (omega (arith, w.once m, under-count m, some))) w.after_in)

      -- which has lost as many children as the level below has lost nodes
      sizes-row : sizes row' ≡ lessened (length (sizes under) - length (filled most (sizes under))) (length (x ∷ xs) ∷ sizes after)
      sizes-row = let left = filled-left most (sizes own) (sizes others) (level-filled most) in
          let now : length (y ∷ ys) ≡ length (filled most (sizes own)) = ap length (sym first-child.2) ∙ heads-some f.row' f.has.some ∙ ap length f.sizes_are in
          let lost = ap (λ z. length z - length (filled most z)) sizes-are in
          ap (λ z. z ∷ sizes after) (omega (arith, left, now, lost, own-count))

      -- the first child is wide where it is not alone
      wide-under : 3 ≤ most → (ys ++ flat after) ≢ [] → IsWide (sizes under')
      wide-under three more = let heads = ap length heads-under in let nodes = heads-some under' some-under in
          elim (cases_lt 1 (length (sizes under))) [
            | inl two ↦ subst IsWide (sym sizes-filled) (filled-wide most (sizes under) three w.some two)
            | inr one ↦ absurd (more (nil_from_length (ys ++ flat after) (omega (arith, heads, nodes, ap length sizes-filled, filled-fewer most (sizes under), one))))
          ]

      -- how often a number occurs in the level now
      count-filled : (m : ℕ) → (count m (number ∷ numbers own) ≤ count m (number ∷ []) + count m (numbers under))
          × (count m (numbers under') + count m (number ∷ numbers own) ≡ count m (numbers under) + count m (number ∷ numbers f.row'))
      count-filled m = let now = ap (count m) (numbers-append f.row' others) ∙ count-append m (numbers f.row') (numbers others) in
          omega (arith, under-count m, own-split m, now, count-append m (number ∷ []) (numbers f.row'))

module _ {K V : Type 0} where
  -- One level was filled: these leaves and rows are below the node's level, and `row'` is that.
  pub record Stepped (most : ℕ) (old new : Table K V) (level number : ℕ) (leaves : Row K V) (rows : Rows K) (first : K) (rest : Heads K) : Type 0 where
    pub leaves' : Row K V
    pub rows' : Rows K
    pub row' : Row K ℕ
    pub y : K × ℕ
    pub ys : Heads K
    pub rest' : Heads K
    pub next : AtEdge new (level - 1) y.1 leaves' rows' y.0 rest'
    pub slot_is : slice_get new.nodes number ≡ Some (inner_content (y ∷ ys))
    pub list_is : flat leaves' ≡ flat leaves
    pub row_in : RowIn inner_content new.nodes row'
    pub flat_is : flat row' ≡ y ∷ rest'
    pub heads_is : heads row' ≡ (first, number) ∷ rest
    pub sizes_are : filled_below most 0 (sizes leaves) (map sizes rows) ≡ filled_below most 0 (sizes leaves') (map sizes rows') ++ sizes row' ∷ []
    pub freed : List ℕ
    pub frees : Frees old new (numbers_under leaves rows) (numbers_under leaves' rows' ++ numbers row') freed

  -- the numbers of the leaves and the rows with a row on top
  under-more : (m : ℕ) (leaves : Row K V) (rows : Rows K) (row : Row K ℕ) → count m (numbers_under leaves (rows ++ row ∷ [])) ≡ count m (numbers_under leaves rows) + count m (numbers row)
  under-more m leaves rows row = omega (arith, count-append m (numbers leaves) (flat_map numbers (rows ++ row ∷ [])), numbers-more m rows row, count-append m (numbers leaves) (flat_map numbers rows))

  -- with what is below it filled too, all below the node is filled
  closes-step : {t u v : Table K V} {most level number leaves rows first rest : _} → AtEdge t level number leaves rows first rest → (s : Stepped most t u level number leaves rows first rest) →
      FillsBelow most u v s.y.1 s.leaves' s.rows' s.y.0 s.rest' → FillsBelow most t v number leaves rows first rest
  closes-step {u = u} {v = v} {leaves = leaves} {rows = rows} a s f =
      let own = numbers_under s.leaves' s.rows' in let split = λ (m : ℕ). count-append m own (numbers s.row') in let once = trades-apart s.frees a.apart in
      let same = λ (m : ℕ) (some : 0 < count m (numbers s.row')). f.frees.others m (omega (arith, some, once m, count-append m (own ++ numbers s.row') u.chain, split m)) in
      record {
        leaves' = f.leaves';
        rows' = f.rows' ++ s.row' ∷ [];
        leaves_in = f.leaves_in;
        rows_in = in-more v.nodes f.rows' s.row' f.rows_in (row-same inner_content u.nodes v.nodes s.row' same s.row_in);
        list_is = f.list_is ∙ s.list_is;
        piled = piled-more (heads f.leaves') f.rows' s.row' _ (subst (Piled (heads f.leaves') f.rows') (sym s.flat_is) f.piled) s.heads_is;
        sizes_are = ap (λ z. sizes f.leaves' ∷ z) (map-append sizes f.rows' (s.row' ∷ [])) ∙ ap (λ z. z ++ sizes s.row' ∷ []) f.sizes_are ∙ sym s.sizes_are;
        freed = f.freed ++ s.freed;
        frees = frees-then (numbers_under leaves rows) (numbers_under f.leaves' (f.rows' ++ s.row' ∷ []))
            (λ m. omega (arith, under-more m f.leaves' f.rows' s.row', split m)) a.apart s.frees f.frees;
      }

  -- what filling the first child of a node says, for leaves and for inner nodes
  abbrev pub FillsFirst : ℕ → Table K V → Table K V → ℕ → ℕ → Type 0
  FillsFirst cap old new number half =
      (leaf : Bool) (row : Row K (Item V leaf)) → HasChildren (content_at leaf) old number row → half ≡ most_at leaf cap / 2 → FillsChild (content_at leaf) (most_at leaf cap) old new number row

  module _ {cap : ℕ} (capacity : IsLeafCapacity cap) {t : Table K V} {level number leaves rows first rest : _} (a : AtEdge t level number leaves rows first rest) (above : 0 < level) where
    -- the node's level, and the rows between it and the leaves
    z : Last rows
    z = let f = some_first rows (omega (arith, a.height, above)) in subst Last (sym f.2) (last_of f.0 f.1)

    height-is : level ≡ suc (length z.init)
    height-is = omega (arith, a.height, ap length z.is, length-append z.init (z.last ∷ []))

    piled-under : Piled (heads leaves) z.init (flat z.last) × (heads z.last ≡ (first, number) ∷ rest)
    piled-under = piled-last (heads leaves) z.init z.last _ (subst (λ w. Piled (heads leaves) w ((first, number) ∷ rest)) z.is a.piled)

    rows-under : RowsIn t.nodes z.init × RowIn inner_content t.nodes z.last
    rows-under = in_last t.nodes z.init z.last (subst (RowsIn t.nodes) z.is a.rows_in)

    levels-are : map sizes rows ≡ map sizes z.init ++ sizes z.last ∷ []
    levels-are = ap (map sizes) z.is ∙ map-append sizes z.init (z.last ∷ [])

    some-under-last : AllLevels (map sizes z.init) × AllSome z.last
    some-under-last = levels-last (map sizes z.init) (sizes z.last) (subst AllLevels levels-are a.some.1)

    -- the node at the front of its level, with its children
    top : Lead z.last (first, number) rest
    top = lead z.last (first, number) rest some-under-last.1 piled-under.1

    top-in : RowIn inner_content t.nodes (node number (top.e ∷ top.es) ∷ top.after)
    top-in = subst (RowIn inner_content t.nodes) top.row_is rows-under.1

    -- the highest row's first node has two children or more where others are behind it
    top-wide : flat top.after ≢ [] → 2 ≤ length (top.e ∷ top.es)
    top-wide more = subst IsWide (ap (last_level (sizes leaves)) levels-are ∙ last-is (sizes leaves) (map sizes z.init) (sizes z.last) ∙ ap sizes top.row_is) (a.wide (λ none. more (behind none)))
      where
        behind : rest ≡ [] → flat top.after ≡ []
        behind none = let some = subst AllSome top.row_is some-under-last.1 in
            ap flat (nil_from_length top.after (omega (arith, heads-some top.after some.1, length-sizes top.after, ap length top.after_is, ap length none)))

    all-count : (m : ℕ) → count m (numbers_under leaves rows) ≡ count m (numbers leaves) + count m (flat_map numbers z.init) + count m (number ∷ []) + count m (numbers top.after)
    all-count m = let is = ap (λ w. count m (numbers_under leaves w)) z.is ∙ under-more m leaves z.init z.last in
        omega (arith, is, count-append m (numbers leaves) (flat_map numbers z.init), ap (λ w. count m (numbers w)) top.row_is, count-append m (number ∷ []) (numbers top.after))

    -- the node over the row below it
    over-row : {X : Type 0} (content : List (K × X) → Content K V) (under : Row K X) → RowIn content t.nodes under → AllSome under → heads under ≡ flat z.last →
        ((m : ℕ) → count m (numbers under) ≤ count m (numbers leaves) + count m (flat_map numbers z.init)) → OverRow content t number top.e top.es top.after under
    over-row content under inside some is few = record {
      slot_is = top-in.0;
      after_in = top-in.1;
      inside = inside;
      some = some;
      heads_is = is ∙ ap flat top.row_is;
      wide = top-wide;
      once = λ m. omega (arith, a.apart m, all-count m, few m, count-append m (numbers_under leaves rows) t.chain);
    }

    -- that row is the leaves
    over-leaves : z.init ≡ [] → OverRow leaf_content t number top.e top.es top.after leaves
    over-leaves none = over-row leaf_content leaves a.leaves_in a.some.0 (subst (λ w. Piled (heads leaves) w (flat z.last)) none piled-under.0) (λ m. omega arith)

    -- a row of inner nodes is below the highest one
    record InnerBelow : Type 0 where
      lower : Rows K
      under : Row K ℕ
      init_is : z.init ≡ lower ++ under ∷ []

    below : (z.init ≡ []) ⊎ InnerBelow
    below = go z.init refl
      where
        go : (w : Rows K) → z.init ≡ w → (z.init ≡ []) ⊎ InnerBelow
        go [] is = inl is
        go (r ∷ rs) is = let l = last_of r rs in inr (record { lower = l.init; under = l.last; init_is = is ∙ l.is })

    module _ (b : InnerBelow) where
      piled-inner : Piled (heads leaves) b.lower (flat b.under) × (heads b.under ≡ flat z.last)
      piled-inner = piled-last (heads leaves) b.lower b.under _ (subst (λ w. Piled (heads leaves) w (flat z.last)) b.init_is piled-under.0)

      inner-in : RowsIn t.nodes b.lower × RowIn inner_content t.nodes b.under
      inner-in = in_last t.nodes b.lower b.under (subst (RowsIn t.nodes) b.init_is rows-under.0)

      inner-levels : map sizes z.init ≡ map sizes b.lower ++ sizes b.under ∷ []
      inner-levels = ap (map sizes) b.init_is ∙ map-append sizes b.lower (b.under ∷ [])

      inner-some : AllLevels (map sizes b.lower) × AllSome b.under
      inner-some = levels-last (map sizes b.lower) (sizes b.under) (subst AllLevels inner-levels some-under-last.0)

      inner-count : (m : ℕ) → count m (flat_map numbers z.init) ≡ count m (flat_map numbers b.lower) + count m (numbers b.under)
      inner-count m = ap (λ w. count m (flat_map numbers w)) b.init_is ∙ numbers-more m b.lower b.under

      over-inner : OverRow inner_content t number top.e top.es top.after b.under
      over-inner = over-row inner_content b.under inner-in.1 inner-some.1 piled-inner.1 (λ m. omega (arith, inner-count m))

    -- the row below the node's level was filled, and has become part of these leaves and rows
    module _ {X : Type 0} {content : List (K × X) → Content K V} {most : ℕ} (three : 3 ≤ most) {under : Row K X} (w : OverRow content t number top.e top.es top.after under)
        {u : Table K V} (f : FillsChild content most t u number (own w)) where
      abbrev last : List ℕ
      last = sizes (row' w f)

      last-is-less : last ≡ lessened (length (sizes under) - length (filled most (sizes under))) (sizes z.last)
      last-is-less = sizes-row w f ∙ ap (λ l. lessened (length (sizes under) - length (filled most (sizes under))) (sizes l)) (sym top.row_is)

      -- what is below the node's level is ready for the next step
      step : (leaves' : Row K V) (rows' : Rows K) → RowIn leaf_content u.nodes leaves' → RowsIn u.nodes rows' → Piled (heads leaves') rows' (heads (under' w f)) → AllLevels (row_sizes leaves' rows') →
          last_level (sizes leaves') (map sizes rows') ≡ sizes (under' w f) → length rows' ≡ length z.init → flat leaves' ≡ flat leaves →
          filled_below cap 0 (sizes leaves) (map sizes rows) ≡ filled_below cap 0 (sizes leaves') (map sizes rows') ++ last ∷ [] →
          ((m : ℕ) → (count m (numbers under) ≤ count m (numbers leaves) + count m (flat_map numbers z.init))
          × (count m (numbers_under leaves' rows') + count m (numbers under) ≡ count m (numbers leaves) + count m (flat_map numbers z.init) + count m (numbers (under' w f)))) →
          Stepped cap t u level number leaves rows first rest
      step leaves' rows' leaves-in rows-in piled some last-level height list-is sizes-is counts =
          let now = numbers_under leaves' rows' in
          let split = λ (m : ℕ). count-append m now (numbers (row' w f)) in
          let frees = trades-wider (numbers_under leaves rows) (now ++ numbers (row' w f))
          (λ m. omega (arith, all-count m, counts m, count-filled w f m, split m, count-append m (number ∷ []) (numbers top.after))) f.frees in
          record {
            leaves' = leaves';
            rows' = rows';
            row' = row' w f;
            y = y w f;
            ys = ys w f;
            rest' = ys w f ++ flat top.after;
            next = record {
              leaves_in = leaves-in;
              rows_in = rows-in;
              piled = subst (Piled (heads leaves') rows') (heads-under w f) piled;
              some = some;
              wide = λ more. subst IsWide (sym last-level) (wide-under w f three more);
              height = omega (arith, height, height-is);
              apart = λ m. omega (arith, trades-apart frees a.apart m, count-append m (now ++ numbers (row' w f)) u.chain, split m, count-append m now u.chain);
            };
            slot_is = slot-filled w f;
            list_is = list-is;
            row_in = row-in w f;
            flat_is = refl;
            heads_is = (let key = first-child w f in cc (key.3, top.key_is, top.after_is));
            sizes_are = sizes-is;
            freed = f.freed;
            frees = frees;
          }

    -- where a row of inner nodes was filled, the node's level has so many children less
    inner-sizes : (b : InnerBelow) {u : Table K V} (f : FillsChild inner_content 8 t u number (own (over-inner b))) →
        filled_below cap 0 (sizes leaves) (map sizes rows) ≡ filled_below cap 0 (sizes leaves) (map sizes (b.lower ++ under' (over-inner b) f ∷ [])) ++ sizes (row' (over-inner b) f) ∷ []
    inner-sizes b f = let w = over-inner b in
        ap (filled_below cap 0 (sizes leaves)) (levels-are ∙ ap (λ l. l ++ sizes z.last ∷ []) (inner-levels b) ∙ append_assoc (map sizes b.lower) (sizes b.under ∷ []) (sizes z.last ∷ []))
        ∙ below-next cap 0 (sizes leaves) (map sizes b.lower) (sizes b.under) (sizes z.last)
        ∙ cc (map-append sizes b.lower (under' w f ∷ []), sizes-filled w f, last-is-less (omega arith) w f)

    -- the leaves were filled
    leaf-step : (none : z.init ≡ []) {u : Table K V} (f : FillsChild leaf_content cap t u number (own (over-leaves none))) → Stepped cap t u level number leaves rows first rest
    leaf-step none {u} f = let w = over-leaves none in let levels : map sizes rows ≡ sizes z.last ∷ [] = levels-are ∙ ap (λ l. map sizes l ++ sizes z.last ∷ []) none in
        step capacity.least w f (under' w f) [] (in-under w f) tt refl (some-under w f, tt) refl (ap length (sym none)) (flat-under w f)
        (ap (filled_below cap 0 (sizes leaves)) levels ∙ cc (sizes-filled w f, last-is-less capacity.least w f))
        (λ m. omega (arith, ap (λ l. count m (flat_map numbers l)) none, count-append m (numbers (under' w f)) []))

    -- a row of inner nodes was filled
    inner-step : (b : InnerBelow) {u : Table K V} (f : FillsChild inner_content 8 t u number (own (over-inner b))) → Stepped cap t u level number leaves rows first rest
    inner-step b {u} f = let w = over-inner b in let rows' = b.lower ++ under' w f ∷ [] in
        let same = λ (m : ℕ) (some : 0 < count m (numbers leaves) + count m (flat_map numbers b.lower)).
        unchanged w f m (omega (arith, some, a.apart m, all-count m, inner-count b m, under-count w m, count-append m (numbers_under leaves rows) t.chain)) in
        let levels' = map-append sizes b.lower (under' w f ∷ []) in
        step (omega arith) w f leaves rows'
        (row-same leaf_content t.nodes u.nodes leaves (λ m some. same m (omega (arith, some))) a.leaves_in)
        (in-more u.nodes b.lower (under' w f) (rows-same t.nodes u.nodes b.lower (λ m some. same m (omega (arith, some))) (inner-in b).0) (in-under w f))
        (piled-more (heads leaves) b.lower (under' w f) (heads (under' w f)) (subst (Piled (heads leaves) b.lower) (sym (flat-under w f)) (piled-inner b).0) refl)
        (a.some.0, subst AllLevels (sym levels') (levels-more (map sizes b.lower) (sizes (under' w f)) (inner-some b).0 (some-under w f)))
        (ap (last_level (sizes leaves)) levels' ∙ last-is (sizes leaves) (map sizes b.lower) (sizes (under' w f)))
        (omega (arith, ap length b.init_is, length-append b.lower (b.under ∷ []), length-append b.lower (under' w f ∷ [])))
        refl
        (inner-sizes b f)
        (λ m. omega (arith, inner-count b m, numbers-more m b.lower (under' w f), count-append m (numbers leaves) (flat_map numbers rows')))

    module _ {half : ℕ} (at-leaf : level - 1 ≡ 0 → half ≡ cap / 2) (at-inner : level - 1 ≢ 0 → half ≡ 4) where
      leaf-half : z.init ≡ [] → half ≡ cap / 2
      leaf-half none = at-leaf (omega (arith, height-is, ap length none))

      inner-half : InnerBelow → half ≡ 4
      inner-half b = at-inner (λ none. absurd (omega (arith, none, height-is, ap length b.init_is, length-append b.lower (b.under ∷ []))))

      -- the node with its children
      pub fill-asks : (leaf : Bool) × (row : Row K (Item V leaf)) × HasChildren (content_at leaf) t number row × (half ≡ most_at leaf cap / 2)
      fill-asks = elim below [
        | inl none ↦ (true, own (over-leaves none), own-has (over-leaves none), leaf-half none)
        | inr b ↦ (false, own (over-inner b), own-has (over-inner b), inner-half b)
      ]

      -- one level is filled, whatever it holds
      pub stepped : {u : Table K V} → FillsFirst cap t u number half → Stepped cap t u level number leaves rows first rest
      stepped fills = elim below [
        | inl none ↦ leaf-step none (fills true (own (over-leaves none)) (own-has (over-leaves none)) (leaf-half none))
        | inr b ↦ inner-step b (fills false (own (over-inner b)) (own-has (over-inner b)) (inner-half b))
      ]

  -- the first child of the node is read
  pub child-asks : {t u : Table K V} {most level number leaves rows first rest : _} → Stepped most t u level number leaves rows first rest → ChildAt u number 0
  child-asks s = (_, _, s.slot_is, omega arith)

  -- the edge is filled down to that child
  pub filling-next : {old t u : Table K V} {most level top up number leaves rows first rest : _} {o : OnEdge most old level top leaves rows first rest} (g : FillingEdge o t up number) →
      Stepped most t u up number g.leaves' g.rows' g.first' g.rest' → {child : ℕ} → ReadsChild u number 0 child → FillingEdge o u (up - 1) child
  filling-next {u = u} {most = most} {up = up} g s reads = let is = some_same (reads _ _ s.slot_is) in record {
    leaves' = s.leaves';
    rows' = s.rows';
    first' = s.y.0;
    rest' = s.rest';
    at = subst (λ z. AtEdge u (up - 1) z s.leaves' s.rows' s.y.0 s.rest') is s.next;
    closes = λ new f. g.closes new (closes-step g.at s (subst (λ z. FillsBelow most u new z s.leaves' s.rows' s.y.0 s.rest') (sym is) f));
  }
