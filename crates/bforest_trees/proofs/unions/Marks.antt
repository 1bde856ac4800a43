-- Where a reader stops, and goes on, also in a table to which trees were added.
use Rattle.bforest_trees.proofs.Readers.{held, key-count, left-some}
use Rattle.bforest_trees.specs.Layout.{Entered, IsMark, IsMarkOn, IsOnLeaf, IsReader, behind, entries_on, left_of}
use Rattle.bforest_trees.specs.declared.reader.Mark.{Mark}
use Rattle.bforest_trees.specs.declared.reader.Reader.{Reader}
use Rattle.bforest_core.specs.Levels.{node}
use Rattle.bforest_core.specs.Place.{entry_items, entry_keys}
use Rattle.bforest_core.specs.Sources.{Adds}
use Rattle.bforest_core.specs.Spots.{Coded, HasNoParent, IsLeafAt, IsSpotAt, place_by}
use Rattle.bforest_core.specs.Levels.{flat}
use Rattle.bforest_core.specs.Table.{Table}
use Rattle.bforest_core.specs.Trees.{IsUnion, is_root, tree_of}
use Rattle.bforest_core.specs.declared.spot.Spot.{Spot}
use Rattle.bforest_nodes.specs.Content.{Content, Leaf}
use Rattle.std.proofs.Common.{Bool, IsTrue, List, Some, [], ap, arith, drop, false, if◌then◌else◌, length, refl, slice_get, subst, sym, true, ◌++◌, ◌<◌, ◌∙◌, ◌∷◌, ◌≡◌, ◌≤◌, ℕ}
use Rattle.std.proofs.lemmas.List.{drop_at, length-append, length-drop, length-map, nil_from_length}
use Rattle.bforest_core.proofs.walks.Cousins.{place-is}

-- two nodes at the same place of a level are one
same-node : {A : Type 0} (before before' : List A) {x x' : A} (after after' : List A) → before ++ x ∷ after ≡ before' ++ x' ∷ after' → length before ≡ length before' → x ≡ x'
same-node [] [] after after' is at = cc
same-node [] (b ∷ before') after after' is at = absurd (omega (arith, at))
same-node (b ∷ before) [] after after' is at = absurd (omega (arith, at))
same-node (b ∷ before) (b' ∷ before') {x} {x'} after after' is at = let rest : before ++ x ∷ after ≡ before' ++ x' ∷ after' = cc in same-node before before' after after' rest (omega (arith, at))

by-some : {P : Type 0} (b : Bool) → (b ≡ true → P) → (b ≡ false → P) → P
by-some true on off = on refl
by-some false on off = off refl

module _ {K X : Type 0} {n : ℕ} where
  -- the mark of a reader that went to its next entry
  pub mark-on : (table : Table K X) (left : List (K × X)) (reader : Reader K X n) → Entered table left reader → IsMarkOn table (record { root = reader.root; spot = reader.spot; index = reader.index; some = true })
  mark-on table left reader e =
      let r = e.reader_is in let low : reader.index < length r.entries = omega (arith, e.within, key-count table reader r) in
      let o = r.leaf (omega (arith, low)) in let leaf = o.leaf in record {
        place = o.place;
        on = o.on;
        before = leaf.before;
        number = o.number;
        entries = leaf.entries;
        after = leaf.after;
        leaves_are = leaf.leaves_are;
        at = leaf.at;
        within = omega (arith, low, ap length o.entries_are);
      }

  pub mark-left : (table : Table K X) (left : List (K × X)) (reader : Reader K X n) → Entered table left reader → drop reader.index (entries_on table reader.root reader.spot) ≡ left
  mark-left table left reader e = sym (e.left_is ∙ left-some table reader.keys.now reader.index (entries_on table reader.root reader.spot) (omega (arith, e.within)))

  -- a reader goes on from a mark
  module _ (table : Table K X) (union : IsUnion n table) (mark : Mark) (m : IsMarkOn table mark) (some : mark.some ≡ true) (leaf : ℕ)
      (at : (place : ℕ) → IsSpotAt table mark.root mark.spot place → IsLeafAt table mark.root place leaf) (content : Content K X) (found : slice_get table.nodes leaf ≡ Some content)
      (reader : Reader K X n) (is : content ≡ Leaf reader.keys.now reader.vals.now) (index : reader.index ≡ mark.index) (root : reader.root ≡ mark.root) (spot : reader.spot ≡ mark.spot) where
    abbrev here : IsLeafAt table mark.root m.place leaf
    here = at m.place m.on

    same-entries : m.entries ≡ here.entries
    same-entries = let e : node m.number m.entries ≡ node leaf here.entries = same-node m.before here.before m.after here.after (sym m.leaves_are ∙ here.leaves_are) (m.at ∙ sym here.at) in cc

    held-here : (reader.keys.now ≡ entry_keys here.entries) × (reader.vals.now ≡ entry_items here.entries)
    held-here = held table.nodes leaf content here.entries reader.keys.now reader.vals.now found here.slot_is is

    pub resumed : IsReader table reader
    resumed = let on : IsOnLeaf table mark.root mark.spot here.entries = record { place = m.place; number = leaf; on = m.on; leaf = here; entries_are = refl } in record {
      union = union;
      entries = here.entries;
      within = omega (arith, m.within, index, ap length same-entries);
      leaf = λ any. subst (λ (z : Spot). IsOnLeaf table reader.root z here.entries) (sym spot) (subst (λ (z : ℕ). IsOnLeaf table z mark.spot here.entries) (sym root) on);
      none = λ e. absurd (omega (arith, e, here.some));
      keys = held-here.0;
      vals = held-here.1;
    }

    pub resumed-left : left_of table reader ≡ behind table mark
    resumed-left =
        left-some table reader.keys.now reader.index (entries_on table reader.root reader.spot) (omega (arith, ap length held-here.0, length-map here.entries (λ (e : K × X). e.0), here.some))
        ∙ (λ i. drop (index i) (entries_on table (root i) (spot i))) ∙ sym (ap (λ b. if b then drop mark.index (entries_on table mark.root mark.spot) else []) some)

  -- a reader goes on from a mark behind which nothing is left
  pub resumed-none : (table : Table K X) → IsUnion n table → (reader : Reader K X n) → reader.keys.now ≡ [] → reader.vals.now ≡ [] → reader.index ≡ 0 → HasNoParent reader.spot → IsReader table reader
  resumed-none table union reader keys vals index plain = record {
    union = union;
    entries = [];
    within = omega (arith, index);
    leaf = λ some. absurd (omega (arith, some));
    none = λ e. plain;
    keys = keys;
    vals = vals;
  }

module _ {K X : Type 0} where
  -- a mark in a tree that another table has, too
  module _ (old new : Table K X) (mark : Mark) (same : tree_of new.nodes mark.root ≡ tree_of old.nodes mark.root) where
    mark-same : IsTrue (is_root new.nodes mark.root) → IsMarkOn old mark → IsMarkOn new mark
    mark-same there m = let s = m.on in record {
      place = m.place;
      on = record {
        root_is = there;
        numbers = s.numbers;
        coded = subst (λ z. Coded s.numbers z.above mark.spot.code m.place) (sym same) s.coded;
        parent_is = s.parent_is;
        grand_is = s.grand_is;
        height_is = s.height_is ∙ sym (ap (λ z. length z.above) same);
      };
      before = m.before;
      number = m.number;
      entries = m.entries;
      after = m.after;
      leaves_are = ap (λ z. z.leaves) same ∙ m.leaves_are;
      at = m.at;
      within = m.within;
    }

    behind-same : behind new mark ≡ behind old mark
    behind-same = ap (λ z. if mark.some then drop mark.index (flat (drop (place_by z.above mark.spot.code) z.leaves)) else []) same

  pub behind-none : (table : Table K X) (mark : Mark) → mark.some ≡ false → behind table mark ≡ []
  behind-none table mark none = ap (λ b. if b then drop mark.index (entries_on table mark.root mark.spot) else []) none

  module _ {most : ℕ} {base now : Table K X} (a : Adds most base now) (mark : Mark) (m : IsMark base mark) where
    -- trees were added to the table
    pub mark-added : IsMark now mark
    mark-added some = let on = m some in let t = a.trees mark.root on.on.root_is in mark-same base now mark t.1 t.0 on

    pub behind-added : behind now mark ≡ behind base mark
    behind-added = by-some mark.some (λ some. let t = a.trees mark.root (m some).on.root_is in behind-same base now mark t.1) (λ none. behind-none now mark none ∙ sym (behind-none base mark none))

    -- a reader went on from a mark, and stopped in the tree of that
    module _ (mark' : Mark) (root : mark'.root ≡ mark.root) (fewer : behind base mark ≡ [] → behind now mark' ≡ []) (m' : IsMark now mark') where
      was-some : mark'.some ≡ true → mark.some ≡ true
      was-some some = by-some mark.some (λ is. is) (λ none. absurd (none-behind (m' some) some (fewer (behind-none base mark none))))
        where
          none-behind : IsMarkOn now mark' → mark'.some ≡ true → behind now mark' ≡ [] → ⊥
          none-behind on some none =
              let all = entries_on now mark'.root mark'.spot in let leaves = (tree_of now.nodes mark'.root).leaves in
              let whole : all ≡ on.entries ++ flat on.after = ap (λ z. flat (drop z leaves)) (place-is on.on) ∙ ap (λ z. flat (drop on.place z)) on.leaves_are ∙ ap flat (drop_at on.before (node on.number on.entries ∷ on.after) on.place on.at) in
              let over : drop mark'.index all ≡ [] = sym (ap (λ b. if b then drop mark'.index all else []) some) ∙ none in
              omega (arith, ap length over, length-drop mark'.index all, ap length whole, length-append on.entries (flat on.after), on.within)

      there : mark'.some ≡ true → IsTrue (is_root base.nodes mark'.root) × (tree_of base.nodes mark'.root ≡ tree_of now.nodes mark'.root)
      there some = let on = m (was-some some) in let t = a.trees mark.root on.on.root_is in
          (subst (λ z. IsTrue (is_root base.nodes z)) (sym root) on.on.root_is, subst (λ z. tree_of base.nodes z ≡ tree_of now.nodes z) (sym root) (sym t.1))

      pub mark-back : IsMark base mark'
      mark-back some = let t = there some in mark-same now base mark' t.1 t.0 (m' some)

      pub behind-back : behind base mark' ≡ behind now mark'
      behind-back = by-some mark'.some (λ some. behind-same now base mark' (there some).1) (λ none. behind-none base mark' none ∙ sym (behind-none now mark' none))

  -- a reader went on from a mark in a table to which trees were added, and stopped there
  module _ {most : ℕ} {base now : Table K X} (a : Adds most base now) {mark : Mark} (m : IsMark base mark) {list : List (K × X)} (left : list ≡ behind now mark) where
    pub from-base : list ≡ behind base mark
    from-base = left ∙ behind-added a mark m

    pub to-base : {mark' : Mark} {rest : List (K × X)} → IsMark now mark' → behind now mark' ≡ rest → length rest ≤ length list → mark'.root ≡ mark.root → IsMark base mark' × (behind base mark' ≡ rest)
    to-base {mark'} m' left' fewer root =
        let none : behind base mark ≡ [] → behind now mark' ≡ [] = λ is. nil_from_length (behind now mark') (omega (arith, ap length left', fewer, ap length from-base, ap length is)) in
        (mark-back a mark m mark' root none m', behind-back a mark m mark' root none m' ∙ left')
