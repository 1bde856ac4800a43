-- A path that goes a way, of which the code's digits are the indices: the answers of `find`, `first`, `last` and `go`.
use Rattle.bforest_core.proofs.Words.{◌≡◌, ℕ, zero, suc, ◌+◌, ◌-◌, ◌*◌, ◌/◌, ◌%◌, ◌^◌, ◌≤◌, ◌<◌, List, [], ◌∷◌, ◌++◌, drop, length, get_or, set, slice_get}
use Rattle.bforest_core.proofs.Words.{Some, option_map, inl, inr, refl, sym, ap, subst, ◌∙◌, arith, shr-shr, eqb_tells, get_or-set_other, get_or-set_same, get_or_past}
use Rattle.bforest_core.proofs.Words.{length-set, Rows, Heads, Row, Content, IsInner, Inner, IsTrue, IsUnion, Table, is_root, tree_of, IsIncreasing, IsTotalOrder, Tree}
use Rattle.bforest_core.proofs.Words.{Coded, NumberAt, StandsAbove, Stands, PointsAt, Over, Follows, LeadsUp, Retraces, EndsOnWay, EntryTaken, PlacedUnder, PlacedOn}
use Rattle.bforest_core.proofs.Words.{TakenOn, IsFit, FitRow, RowsIn, half_of, node, flat, heads, place, place-present, child_index, root_above, root_of, inner_content, entry_items}
use Rattle.bforest_core.proofs.Words.{entry_keys, IsLeafCapacity}
use Rattle.bforest_core.proofs.{walks.Searches.{CameTo, came-first, search-ends, search-on}, walks.Rising.place-le, walks.Whole.stands-pointed}
use Rattle.bforest_core.proofs.Words.{IsFirst, IsLast, true, false, IsLeafAt, IsSpotAt, OnWay, length-append}
use Rattle.bforest_core.proofs.{walks.CodesDown.{GoesDown, NearSaid, down-on, end-of, near-here, root-under}, walks.Leading.Turns, walks.TopNode.none_flat}
use Rattle.bforest_core.proofs.{walks.Reading.{ChildAsked, ChildRead}, walks.RowNodes.{NodeIn, entry_at, node-in}, walks.Steps.read, walks.LeafSearch.items-read}
use Rattle.bforest_core.proofs.{table.Stored.{item_count, slice_get_at, some_same}, rows.LevelRows.{FitRow-split, Solid-full, flat-append, heads-append, least-pos, some_leaf}}
use Rattle.bforest_core.proofs.{removal.Asked.some_first, rows.Tops.top_rows, walks.TopNode.set_but, union.Unions.{is-rooted, rooted}}
use Rattle.bforest_core.specs.declared.path.way.Way.{Way}
use Rattle.bforest_core.specs.declared.spot.Spot.{Spot}
use Rattle.std.specs.declared.cmp.Ordering.{Ordering}

-- a list of so many numbers: the given ones, and 0 for each that is missing
abbrev padded : ℕ → List ℕ → List ℕ
padded zero list = []
padded (suc n) list = get_or list 0 0 ∷ padded n (drop 1 list)

padded-length : (n : ℕ) (list : List ℕ) → length (padded n list) ≡ n
padded-length zero list = refl
padded-length (suc n) list = ap suc (padded-length n (drop 1 list))

next-of : (list : List ℕ) (i : ℕ) → get_or (drop 1 list) i 0 ≡ get_or list (suc i) 0
next-of [] i = get_or_past [] i 0 (omega arith) ∙ sym (get_or_past [] (suc i) 0 (omega arith))
next-of (x ∷ list) i = refl

padded-at : (n : ℕ) (list : List ℕ) (i : ℕ) → i < n → get_or (padded n list) i 0 ≡ get_or list i 0
padded-at zero list i low = absurd (omega arith)
padded-at (suc n) list zero low = refl
padded-at (suc n) list (suc i) low = padded-at n (drop 1 list) i (omega arith) ∙ next-of list i

-- the octal digits of a number, the last first
abbrev digits : ℕ → ℕ → List ℕ
digits zero code = []
digits (suc n) code = code % 8 ∷ digits n (code / 8)

digits-length : (n code : ℕ) → length (digits n code) ≡ n
digits-length zero code = refl
digits-length (suc n) code = ap suc (digits-length n (code / 8))

pub up-none : (code : ℕ) → code / 2 ^ (3 * 0) ≡ code
up-none code = omega arith

pub up-digit : (code i : ℕ) → code / 8 / 2 ^ (3 * i) ≡ code / 2 ^ (3 * suc i)
up-digit code i = shr-shr code 3 (3 * i) ∙ ap (λ z. code / 2 ^ z) (omega arith)

digits-at : (n code i : ℕ) → i < n → get_or (digits n code) i 0 ≡ code / 2 ^ (3 * i) % 8
digits-at zero code i low = absurd (omega arith)
digits-at (suc n) code zero low = ap (λ z. z % 8) (sym (up-none code))
digits-at (suc n) code (suc i) low = digits-at n (code / 8) i (omega arith) ∙ ap (λ z. z % 8) (up-digit code i)

module _ {K : Type 0} where
  -- a path whose nodes are those of the way of a code, and whose indices are the code's digits, stands on its rows
  coded-stands : (path indices numbers : List ℕ) (level : ℕ) (rows : Rows K) (code place : ℕ) → Coded numbers rows code place →
      ((i : ℕ) → i < length rows → (get_or path (level + i) 0 ≡ get_or numbers i 0) × (get_or indices (level + i) 0 ≡ code / 2 ^ (3 * i) % 8)) →
      StandsAbove path indices level rows place
  coded-stands path indices numbers level [] code place c same = c.1
  coded-stands path indices numbers level (row ∷ rows) code place c same =
      let at = c.0 in let first = same 0 (omega arith) in let none : level + 0 ≡ level = omega arith in
      let node_is : get_or path level 0 ≡ get_or numbers 0 0 = ap (λ z. get_or path z 0) (sym none) ∙ first.0 in
      let index_is : get_or indices level 0 ≡ code % 8 = ap (λ z. get_or indices z 0) (sym none) ∙ first.1 ∙ ap (λ z. z % 8) (up-none code) in (
        record { before = at.before; entries = at.entries; after = at.after; row_is = rw node_is at.row_is; within = rw index_is at.within; place_is = rw index_is at.place_is },
        coded-stands path indices (drop 1 numbers) (suc level) rows (code / 8) (length at.before) c.1
            (λ i low. let s = same (suc i) (omega arith) in let up : suc level + i ≡ level + suc i = omega arith in (
              ap (λ z. get_or path z 0) up ∙ s.0 ∙ sym (next-of numbers i),
              ap (λ z. get_or indices z 0) up ∙ s.1 ∙ ap (λ z. z % 8) (sym (up-digit code i)),
            )),
      )

  -- two paths that agree on these rows stand on them alike
  stands-alike : (path indices path' indices' : List ℕ) (level : ℕ) (rows : Rows K) (place : ℕ) →
      ((i : ℕ) → level ≤ i → i < level + length rows → (get_or path' i 0 ≡ get_or path i 0) × (get_or indices' i 0 ≡ get_or indices i 0)) →
      StandsAbove path indices level rows place → StandsAbove path' indices' level rows place
  stands-alike path indices path' indices' level [] place same s = s
  stands-alike path indices path' indices' level (row ∷ rows) place same s = let at = s.0 in let here = same level (omega arith) (omega arith) in (
    record { before = at.before; entries = at.entries; after = at.after; row_is = rw here.0 at.row_is; within = rw here.1 at.within; place_is = rw here.1 at.place_is },
    stands-alike path indices path' indices' (suc level) rows (length at.before) (λ i high low. same i (omega arith) (omega arith)) s.1,
  )

-- a way as a spot
abbrev as-spot : Way → ℕ → Spot
as-spot way grand = record { code = way.code; parent = way.parent; grand = grand; height = way.height }

-- a search from the root on has come to the leaf of a way, or to what stands for it so far
pub record Came {K V : Type 0} (cmp : K → K → Ordering) (most : ℕ) (table : Table K V) (root : ℕ) (key : K) (way : Way) : Type 0 where
  pub grand : ℕ
  pub search : CameTo cmp most table root key (as-spot way grand) way.leaf
  pub alone : way.height ≡ 0 → (way.code ≡ 0) × (way.parent ≡ way.leaf)

module _ {K V : Type 0} {cmp : K → K → Ordering} {most : ℕ} {table : Table K V} {root key : _} where
  pub came-root : IsTotalOrder cmp → (union : IsUnion most table) (is : IsTrue (is_root table.nodes root)) → IsIncreasing cmp (flat (tree_of table.nodes root).leaves)
      → {way : Way} → way.code ≡ 0 → way.leaf ≡ root → way.parent ≡ root → way.height ≡ 0 → Came cmp most table root key way
  came-root o union is increasing {way} code leaf parent height = record {
    grand = 0;
    search = subst (CameTo cmp most table root key (as-spot way 0)) (sym leaf) (came-first o union is increasing code height);
    alone = λ none. (code, parent ∙ sym leaf);
  }

  module _ {way : Way} (w : Came cmp most table root key way) {content : Content K V} (found : slice_get table.nodes way.leaf ≡ Some content) where
    pub came-on : IsInner content → {index child : ℕ}
        → ((keys : List K) (children : _) → slice_get table.nodes way.leaf ≡ Some (Inner keys children) → index ≡ child_index cmp keys key)
        → ChildRead table.nodes way.leaf index child → {next : Way} → next.code ≡ way.code * 8 + index → next.leaf ≡ child
        → next.parent ≡ way.leaf → next.height ≡ suc way.height → Came cmp most table root key next
    came-on inner says reads {next} code leaf parent height = record {
      grand = way.parent;
      search = subst (CameTo cmp most table root key (as-spot next way.parent)) (sym leaf)
          (search-on w.search found inner says reads (record { code = code; parent = parent; grand = refl; height = height }));
      alone = λ none. absurd (omega arith);
    }

    pub came-ends : (union : IsUnion most table) (is : IsTrue (is_root table.nodes root)) → (IsInner content → ⊥) → EndsOnWay cmp table root key way
    came-ends union is other =
        let e = search-ends w.search found other in let tree = tree_of table.nodes root in
        let path = way.leaf ∷ padded 16 e.numbers in let indices = 0 ∷ digits 16 way.code in
        let height : way.height ≡ length tree.above = e.way.height_is in let low : way.height ≤ 16 = omega (arith, (is-rooted root union is).low) in
        let points : PointsAt path (set indices 0 (place cmp e.entries key)) (suc way.height) tree (place cmp (flat tree.leaves) key) = record {
          before = e.before;
          entries = e.entries;
          after = e.after;
          leaves_are = e.leaves_are;
          within = place-le w.search.total e.entries key;
          place_is = e.tells.place_is;
          above = coded-stands path (set indices 0 (place cmp e.entries key)) e.numbers 1 tree.above way.code (length e.before) e.way.coded
              (λ i within. (let up : 1 + i ≡ suc i = omega arith in (
                ap (λ z. get_or path z 0) up ∙ padded-at 16 e.numbers i (omega arith),
                ap (λ z. get_or (set indices 0 (place cmp e.entries key)) z 0) up ∙ digits-at 16 way.code i (omega arith),
              )));
          size_is = ap suc height;
        } in record {
          path = path;
          indices = indices;
          size = suc way.height;
          follows = record {
            wide = ap suc (padded-length 16 e.numbers);
            indexed = ap suc (digits-length 16 way.code);
            leaf_is = refl;
            parent_is = λ some. e.way.parent_is some;
            digits = λ level within. digits-at 16 way.code level (omega arith);
            alone = w.alone;
            size_is = refl;
            low = low;
          };
          ends = record {
            root_is = is;
            leaf_is = refl;
            entries = e.entries;
            slot_is = e.slot_is;
            increasing = e.tells.increasing;
            value_is = e.tells.value_is;
            found_is = e.tells.found_is;
            wide = ap suc (padded-length 16 e.numbers);
            indexed = omega arith;
            present = λ here. record { root_is = is; stands = stands-pointed points (place-present cmp e.entries key (sym e.tells.found_is ∙ here)) };
            absent = λ none. record { root_is = is; at = record { points = points; first = λ zero_is. e.tells.first none zero_is } };
          };
        }

-- a path's index in the leaf may be any
pub follows-at : {way : Way} {path indices size : _} → Follows way path indices size → (index : ℕ) → Follows way path (set indices 0 index) size
follows-at {indices} f index = record {
  wide = f.wide;
  indexed = length-set indices 0 index ∙ f.indexed;
  leaf_is = f.leaf_is;
  parent_is = f.parent_is;
  digits = λ level within. get_or-set_other indices 0 (suc level) index 0 (λ e. omega arith) ∙ f.digits level within;
  alone = f.alone;
  size_is = f.size_is;
  low = f.low;
}

module _ {K V : Type 0} {cmp : K → K → Ordering} {table : Table K V} {root : ℕ} {key : K} {way : Way} (w : EndsOnWay cmp table root key way) where
  -- an entry may be inserted there, at an index
  pub placed-on : {now : Table K V} {index at : ℕ} → PlacedUnder now.nodes root w.path (set w.indices 0 index) w.size at → PlacedOn now root way index at
  placed-on {index = index} p = record {
    path = w.path;
    indices = set w.indices 0 index;
    size = w.size;
    follows = follows-at w.follows index;
    index_is = get_or-set_same w.indices 0 index 0 (omega (arith, w.follows.indexed));
    placed = p;
  }

  -- the entry at an index was taken out there
  pub taken-on : {most : ℕ} {old now : Table K V} {index at : ℕ} → EntryTaken most old now root at w.path (set w.indices 0 index) w.size → TakenOn most old now root way index at
  taken-on {index = index} t = record {
    path = w.path;
    indices = set w.indices 0 index;
    size = w.size;
    follows = follows-at w.follows index;
    index_is = get_or-set_same w.indices 0 index 0 (omega (arith, w.follows.indexed));
    taken = t;
  }

-- the first node of a row that stands behind these nodes
head-number : {K X : Type 0} (before : Row K X) (n : ℕ) (es : List (K × X)) (after : Row K X) → 0 < length es → {place : ℕ} → length (heads before) ≡ place
    → NumberAt (heads (before ++ node n es ∷ after)) place n
head-number before n es after some {place} at = let first = some_first es some in (
  first.0.0,
  ap (λ z. slice_get z place) (heads-append before (node n es ∷ after) ∙ ap (λ z. heads before ++ heads (node n z ∷ after)) first.2)
      ∙ slice_get_at (heads before) (first.0.0, n) (heads after) place at,
)

-- the node of a path above a level, which has the path's node on the level as a child
pub record Rung {K V : Type 0} (slots : List (Content K V)) (path indices : List ℕ) (level : ℕ) : Type 0 where
  pub entries : Heads K
  pub slot_is : slice_get slots (get_or path (suc level) 0) ≡ Some (inner_content entries)
  pub within : get_or indices (suc level) 0 < length entries
  pub child : slice_get (entry_items entries) (get_or indices (suc level) 0) ≡ Some (get_or path level 0)

module _ {K V : Type 0} {slots : List (Content K V)} {path indices : List ℕ} {size : ℕ} where
  rung : (rows : Rows K) (list : Heads K) (at up : ℕ) → Over slots path indices (suc up) size rows list at → NumberAt list at (get_or path up 0) →
      (level : ℕ) → up ≤ level → suc level < size → Rung slots path indices level
  rung [] list at up p m level more low = absurd (omega arith)
  rung (row ∷ rows) list at up p m level more low =
      let s = p.stands.0 in let n = get_or path (suc up) 0 in let i = get_or indices (suc up) 0 in
      let a : NodeIn inner_content slots 8 row n (length s.before) =
      node-in inner_content slots 8 4 (omega arith) row p.stacked.1 p.inside.0 _ _ s.before s.entries s.after s.row_is refl in elim (eqb_tells level up) [
        | inl same ↦ (let e = read s.entries i s.within in
            let there = entry_at s.before n s.entries s.after i s.row_is e.1 in
            let is = some_same {x = e.0} {y = (m.0, get_or path up 0)} (sym there ∙ ap (λ z. slice_get z (length (flat s.before) + i)) p.stacked.0
            ∙ ap (λ z. slice_get list z) (sym s.place_is) ∙ m.1) in
            subst (Rung slots path indices) (sym same.1) (record {
              entries = s.entries;
              slot_is = (node-in inner_content slots 8 4 (omega arith) row p.stacked.1 p.inside.0 _ _ s.before s.entries s.after s.row_is refl).slot_is;
              within = s.within;
              child = items-read s.entries i ∙ ap (λ z. option_map (λ x. x.1) z) e.1 ∙ ap (λ z. Some z.1) is;
            }))
        | inr other ↦ (let full = Solid-full 4 8 (omega arith) s.before (FitRow-split 4 8 s.before (node n s.entries) s.after (subst (FitRow 4 8) s.row_is p.stacked.1)).0 in
            rung rows (heads row) (length s.before) (suc up)
            (record { stacked = p.stacked.2; inside = p.inside.1; stands = p.stands.1; height = omega arith })
            (subst (λ z. NumberAt (heads z) (length s.before) n) (sym s.row_is) (head-number s.before n s.entries s.after (omega arith) full)) level (omega arith) low)
      ]

  -- the topmost node of the path
  top-number : (rows : Rows K) (list : Heads K) (at : ℕ) {root : ℕ} → Over slots path indices 1 size rows list at → NumberAt list at (get_or path 0 0) →
      root_above list rows ≡ root → root ≡ get_or path (size - 1) 0
  top-number [] [] at p m is = absurd (omega arith)
  top-number [] (x ∷ list) at p m is =
      let same = some_same {x = x} {y = (m.0, get_or path 0 0)} (ap (slice_get (x ∷ list)) (sym p.stands) ∙ m.1) in let none : 0 ≡ size - 1 = omega arith in
      sym is ∙ ap (λ z. z.1) same ∙ ap (λ z. get_or path z 0) none
  top-number (row ∷ rows) list at p m is = let high : 1 + length rows ≡ size - 1 = omega arith in
      sym is ∙ top_rows list path indices 1 row rows at p.stacked p.stands ∙ ap (λ z. get_or path z 0) high

-- the parent of a path's leaf
pub first-rung : {K V : Type 0} {slots : List (Content K V)} {root : ℕ} {path indices : List ℕ} {size : ℕ} → LeadsUp slots root path indices size → 1 < size → Rung slots path indices 0
first-rung u low = rung u.rows u.list u.place 0 u.over u.leaf 0 (omega arith) low

-- a path that is being gone, down to a level, where it is at this node
pub record Gone (path indices : List ℕ) (size level node : ℕ) (path' indices' : List ℕ) (size' : ℕ) : Type 0 where
  pub node_is : node ≡ get_or path level 0
  pub nodes : (i : ℕ) → level < i → i < size → get_or path' i 0 ≡ get_or path i 0
  pub entries : (i : ℕ) → level < i → i < size → get_or indices' i 0 ≡ get_or indices i 0
  pub size_is : size' ≡ size
  pub low : level < size

module _ {K V : Type 0} {slots : List (Content K V)} {root : ℕ} {way : Way} {path indices size : _} (f : Follows way path indices size) (u : LeadsUp slots root path indices size) where
  pub gone-first : {path' indices' : List ℕ} {size' : ℕ} → size' ≡ suc way.height → Gone path indices size way.height root path' indices' size'
  gone-first size_is = record {
    node_is = top-number u.rows u.list u.place u.over u.leaf u.root_is ∙ ap (λ z. get_or path z 0) (omega (arith, f.size_is));
    nodes = λ i high low. absurd (omega (arith, f.size_is));
    entries = λ i high low. absurd (omega (arith, f.size_is));
    size_is = size_is ∙ sym f.size_is;
    low = omega (arith, f.size_is);
  }

  module _ {level node : ℕ} {path0 indices0 : List ℕ} {size0 : ℕ} (g : Gone path indices size level node path0 indices0 size0) {k : ℕ} (level_is : level ≡ suc k) where
    pub its-rung : Rung slots path indices k
    its-rung = rung u.rows u.list u.place 0 u.over u.leaf k (omega arith) (omega (arith, g.low))

    node-there : node ≡ get_or path (suc k) 0
    node-there = g.node_is ∙ ap (λ z. get_or path z 0) level_is

    module _ {digit : ℕ} (digit_is : digit ≡ way.code / 2 ^ (3 * k) % 8) where
      index-there : digit ≡ get_or indices (suc k) 0
      index-there = digit_is ∙ sym (f.digits k (omega (arith, g.low, f.size_is)))

      slot-there : slice_get slots node ≡ Some (inner_content its-rung.entries)
      slot-there = ap (slice_get slots) node-there ∙ its-rung.slot_is

      pub gone-asks : ChildAsked slots node digit
      gone-asks = let r = its-rung in
          (drop 1 (entry_keys r.entries), entry_items r.entries, slot-there, omega (arith, r.within, index-there, item_count r.entries))

      pub gone-on : {path1 indices1 : List ℕ} {size1 : ℕ} → (get_or path1 level 0 ≡ node) × (get_or indices1 level 0 ≡ digit) → path1 ≡ set path0 level node
          → indices1 ≡ set indices0 level digit → size1 ≡ size0 → {child : ℕ} → ChildRead slots node digit child → Gone path indices size k child path1 indices1 size1
      gone-on {path1} {indices1} here nodes entries same {child} reads = let r = its-rung in record {
        node_is = some_same (sym (reads (drop 1 (entry_keys r.entries)) (entry_items r.entries) slot-there) ∙ ap (slice_get (entry_items r.entries)) index-there ∙ r.child);
        nodes = λ i high low. elim (eqb_tells i level) [
          | inl at ↦ rw at.1 (here.0 ∙ g.node_is)
          | inr other ↦ set_but path0 level node nodes i other.1 ∙ g.nodes i (omega (arith, other.1)) low
        ];
        entries = λ i high low. elim (eqb_tells i level) [
          | inl at ↦ rw at.1 (here.1 ∙ index-there ∙ ap (λ z. get_or indices z 0) (sym level_is))
          | inr other ↦ set_but indices0 level digit entries i other.1 ∙ g.entries i (omega (arith, other.1)) low
        ];
        size_is = same ∙ g.size_is;
        low = omega (arith, g.low);
      }

-- the path went all the way
pub gone-all : {path indices size node : _} {path0 indices0 : List ℕ} {size0 level : ℕ} → Gone path indices size level node path0 indices0 size0 → level ≤ 0
    → {index : ℕ} {path1 indices1 : List ℕ} {size1 : ℕ} → (get_or path1 0 0 ≡ node) × (get_or indices1 0 0 ≡ index) → path1 ≡ set path0 0 node
    → indices1 ≡ set indices0 0 index → size1 ≡ size0 → Retraces path indices size index path1 indices1 size1
gone-all {path} {node = number} {path0} {indices0} {level = level} g none {index} here nodes entries same = let zero_is : level ≡ 0 = omega arith in record {
  nodes = λ i low. elim (eqb_tells i 0) [
    | inl at ↦ rw at.1 (here.0 ∙ g.node_is ∙ ap (λ z. get_or path z 0) zero_is)
    | inr other ↦ set_but path0 0 number nodes i other.1 ∙ g.nodes i (omega (arith, other.1)) low
  ];
  entries = λ i some low. set_but indices0 0 index entries i (λ e. omega arith) ∙ g.entries i (omega arith) low;
  index_is = here.1;
  size_is = same ∙ g.size_is;
}

module _ {K V : Type 0} {most : ℕ} {slots : List (Content K V)} {tree : Tree K V} {path indices size root : _} where
  -- a path that points to an entry of a tree's leaf, or past the last one, goes up from the leaf to the root
  pub leads-up : IsLeafCapacity most → IsFit most tree → RowsIn slots tree.above → root_of tree ≡ root → {at : ℕ} → PointsAt path indices size tree at → LeadsUp slots root path indices size
  leads-up capacity fit inside root_is p =
      let n = get_or path 0 0 in let half = some_leaf capacity in
      let f = FitRow-split (half_of most) most p.before (node n p.entries) p.after (rw (← p.leaves_are) fit.leaves_fit) in
      record {
        rows = tree.above;
        list = heads tree.leaves;
        place = length p.before;
        over = record { stacked = fit.stacked; inside = inside; stands = p.above; height = omega (arith, p.size_is) };
        leaf = subst (λ z. NumberAt (heads z) (length p.before) n) (sym p.leaves_are)
            (head-number p.before n p.entries p.after (omega (arith, f.1.0, least-pos (half_of most) half p.after)) (Solid-full (half_of most) most half p.before f.0));
        root_is = root_is;
      }

-- a path that stands at an entry points to it
pub stands-points : {K V : Type 0} {tree : Tree K V} {path indices size place : _} → Stands path indices size tree place → PointsAt path indices size tree place
stands-points s = record {
  before = s.leaf.before;
  entries = s.leaf.entries;
  after = s.leaf.after;
  leaves_are = s.leaf.row_is;
  within = omega (arith, s.leaf.within);
  place_is = s.leaf.place_is;
  above = s.above;
  size_is = s.size_is;
}

module _ {path indices : List ℕ} {size index : ℕ} {path' indices' : List ℕ} {size' : ℕ} (r : Retraces path indices size index path' indices' size') (index_is : get_or indices 0 0 ≡ index) where
  leaf-same : 0 < size → get_or path' 0 0 ≡ get_or path 0 0
  leaf-same some = r.nodes 0 some

  index-same : get_or indices' 0 0 ≡ get_or indices 0 0
  index-same = r.index_is ∙ sym index_is

  module _ {K V : Type 0} {tree : Tree K V} {place : ℕ} where
    -- where a path points, one that retraces it points, too
    abbrev points-alike : PointsAt path indices size tree place → PointsAt path' indices' size' tree place
    points-alike p = let some : 0 < size = omega (arith, p.size_is) in record {
      before = p.before;
      entries = p.entries;
      after = p.after;
      leaves_are = rw (leaf-same some) p.leaves_are;
      within = rw index-same p.within;
      place_is = rw index-same p.place_is;
      above = stands-alike path indices path' indices' 1 tree.above (length p.before)
          (λ i high low. (r.nodes i (omega (arith, p.size_is)), r.entries i (omega arith) (omega (arith, p.size_is)))) p.above;
      size_is = r.size_is ∙ p.size_is;
    }

    pub stands-retraced : Stands path indices size tree place → Stands path' indices' size' tree place
    stands-retraced s = let some : 0 < size = omega (arith, s.size_is) in record {
      leaf = record { before = s.leaf.before; entries = s.leaf.entries; after = s.leaf.after; row_is = rw (leaf-same some) s.leaf.row_is; within = rw index-same s.leaf.within; place_is = rw index-same s.leaf.place_is };
      above = stands-alike path indices path' indices' 1 tree.above (length s.leaf.before)
          (λ i high low. (r.nodes i (omega (arith, s.size_is)), r.entries i (omega arith) (omega (arith, s.size_is)))) s.above;
      size_is = r.size_is ∙ s.size_is;
    }

  module _ {K V : Type 0} {root place : ℕ} where
    pub placed-retraced : {slots : List (Content K V)} → PlacedUnder slots root path indices size place → PlacedUnder slots root path' indices' size' place
    placed-retraced p = record { root_is = p.root_is; at = record { points = points-alike p.at.points; first = λ none. p.at.first (sym index-same ∙ none) } }

    pub taken-retraced : {most : ℕ} {old now : Table K V} → EntryTaken most old now root place path indices size → EntryTaken most old now root place path' indices' size'
    taken-retraced t = let some : 0 < size = omega (arith, t.stood.stands.size_is) in record {
      union = t.union;
      stood = record { root_is = t.stood.root_is; stands = stands-retraced t.stood.stands };
      leaf = record { entries = t.leaf.entries; slot_was = rw (leaf-same some) t.leaf.slot_was; new_is = rw (leaf-same some, index-same) t.leaf.new_is };
    }

-- a path by which an entry may be inserted goes up from its leaf to the root
pub placed-up : {K V : Type 0} {most : ℕ} {table : Table K V} {root index place : ℕ} {way : Way} → IsUnion most table → (w : PlacedOn table root way index place) → LeadsUp table.nodes root w.path w.indices w.size
placed-up union w = let r = rooted _ _ _ union w.placed.root_is in leads-up union.1.capacity r.fit r.inside.rows_in r.root_is w.placed.at.points

module _ {K V : Type 0} {most : ℕ} {table : Table K V} {root : ℕ} (union : IsUnion most table) (is : IsTrue (is_root table.nodes root)) {way : Way} (grand : ℕ) {at : ℕ} where
  -- an entry of a spot's leaf, as that of a way's
  pub spot-on-way : IsSpotAt table root (as-spot way grand) at → (l : IsLeafAt table root at way.leaf) → (way.height ≡ 0 → (way.code ≡ 0) × (way.parent ≡ way.leaf))
      → (index : ℕ) → index < length l.entries → {place : ℕ} → place ≡ length (flat l.before) + index → OnWay table root way index place
  spot-on-way s l alone index within {place} place_is =
      let low : way.height ≤ 16 = omega (arith, (is-rooted root union is).low, s.height_is) in let indices = index ∷ digits 16 way.code in
      let path = way.leaf ∷ padded 16 s.numbers in record {
        path = path;
        indices = indices;
        size = suc way.height;
        follows = record {
          wide = ap suc (padded-length 16 s.numbers);
          indexed = ap suc (digits-length 16 way.code);
          leaf_is = refl;
          parent_is = λ some. s.parent_is some;
          digits = λ level high. digits-at 16 way.code level (omega arith);
          alone = alone;
          size_is = refl;
          low = low;
        };
        index_is = refl;
        stands = record {
          root_is = is;
          stands = record {
            leaf = record { before = l.before; entries = l.entries; after = l.after; row_is = l.leaves_are; within = within; place_is = place_is };
            above = coded-stands path indices s.numbers 1 (tree_of table.nodes root).above way.code (length l.before) (rw l.at s.coded)
                (λ i high. (let up : 1 + i ≡ suc i = omega arith in (
                  ap (λ z. get_or path z 0) up ∙ padded-at 16 s.numbers i (omega (arith, s.height_is)),
                  ap (λ z. get_or indices z 0) up ∙ digits-at 16 way.code i (omega (arith, s.height_is)),
                )));
            size_is = ap suc s.height_is;
          };
        };
      }

-- the way down one side of a tree has come to the leaf of a way, or to what stands for it so far
pub record Leading {K V : Type 0} (most : ℕ) (slots : List (Content K V)) (Side : Heads K → Heads K → Type 0) (Said : Spot → ℕ → Row K V → Rows K → Type 0) (root : ℕ) (way : Way) : Type 0 where
  pub grand : ℕ
  pub down : GoesDown most slots Side Said (as-spot (record { code = 0; leaf = root; parent = root; height = 0 }) root) root (as-spot way grand) way.leaf
  pub alone : way.height ≡ 0 → (way.code ≡ 0) × (way.parent ≡ way.leaf)

module _ {K V : Type 0} {most : ℕ} {table : Table K V} {root : ℕ} (union : IsUnion most table) (is : IsTrue (is_root table.nodes root)) where
  module _ {Side : Heads K → Heads K → Type 0} {Said : Spot → ℕ → Row K V → Rows K → Type 0} where
    pub leading-root : Side [] [] → {way : Way} → way.code ≡ 0 → way.leaf ≡ root → way.parent ≡ root → way.height ≡ 0 → Leading most table.nodes Side Said root way
    leading-root side {way} code leaf parent height = record {
      grand = root;
      down = rw (code, leaf, parent, height) (record { capacity = union.1.capacity; under = root-under union is refl refl side; ends = λ end leaf on. on });
      alone = λ none. (code, parent ∙ sym leaf);
    }

    pub leading-on : {way : Way} (w : Leading most table.nodes Side Said root way) {content : Content K V} (found : slice_get table.nodes way.leaf ≡ Some content) → IsInner content
        → {place : Row K V → ℕ} {index : ℕ} → Turns most table.nodes Side place way.leaf index → {child : ℕ} → ChildRead table.nodes way.leaf index child
        → {next : Way} → next.code ≡ way.code * 8 + index → next.leaf ≡ child → next.parent ≡ way.leaf → next.height ≡ suc way.height → Leading most table.nodes Side Said root next
    leading-on {way} w found inner turns reads {next} code leaf parent height = record {
      grand = way.parent;
      down = subst (GoesDown most table.nodes Side Said _ root (as-spot next way.parent)) (sym leaf)
          (down-on w.down found inner turns reads (record { code = code; parent = parent; grand = refl; height = height }));
      alone = λ none. absurd (omega arith);
    }

  module _ {way : Way} {content : Content K V} (found : slice_get table.nodes way.leaf ≡ Some content) (other : IsInner content → ⊥) where
    pub leading-first : Leading most table.nodes IsFirst (NearSaid true) root way → OnWay table root way 0 0
    leading-first w = let f = end-of union is refl refl true (w.down.ends (as-spot way w.grand) way.leaf (near-here union.1.capacity found other (as-spot way w.grand) true)) in
        spot-on-way union is w.grand f.0 f.1 w.alone 0 f.1.some (omega (arith, none_flat f.1.before f.1.at))

    pub leading-last : Leading most table.nodes IsLast (NearSaid false) root way → (index : ℕ) × OnWay table root way index (length (flat (tree_of table.nodes root).leaves) - 1)
    leading-last w = let f = end-of union is refl refl false (w.down.ends (as-spot way w.grand) way.leaf (near-here union.1.capacity found other (as-spot way w.grand) false)) in
        let l = f.1 in let index = length l.entries - 1 in
        let row : length (tree_of table.nodes root).leaves ≡ length l.before + suc (length l.after) = ap length l.leaves_are ∙ length-append l.before (node way.leaf l.entries ∷ l.after) in
        let all : length (flat (tree_of table.nodes root).leaves) ≡ length (flat l.before) + (length l.entries + length (flat l.after)) =
        ap (λ z. length (flat z)) l.leaves_are ∙ simp (flat-append, length-append) in
        let none = none_flat l.after (omega (arith, l.at, row)) in
        (index, spot-on-way union is w.grand f.0 l w.alone index (omega (arith, l.some)) (omega (arith, all, none, l.some)))
