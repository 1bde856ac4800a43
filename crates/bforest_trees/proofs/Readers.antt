-- What a reader holds, its step, and that each step makes progress.
use Rattle.bforest_trees.specs.Layout.{Entered, IsOnLeaf, IsReader, Opens, entries_on, unread, left_of}
use Rattle.bforest_trees.specs.declared.reader.Reader.{Reader}
use Rattle.bforest_core.proofs.table.Lists.{drop-read, slice_get-append_left}
use Rattle.bforest_core.proofs.table.Stored.{read_same}
use Rattle.bforest_core.proofs.walks.Entered.{pair_read}
use Rattle.bforest_core.proofs.walks.Cousins.{place-is}
use Rattle.bforest_core.specs.Place.{entry_items, entry_keys, leaf_content}
use Rattle.bforest_core.specs.Levels.{flat, node}
use Rattle.bforest_core.specs.Spots.{HasNoParent, IsLeafAt, IsSpotAt, leaf_count, leaf_place}
use Rattle.bforest_core.specs.Table.{Table}
use Rattle.bforest_core.specs.Trees.{tree_of}
use Rattle.bforest_core.specs.declared.spot.Spot.{Spot}
use Rattle.bforest_nodes.specs.Content.{Content, IsLeaf, Leaf, keys_of, vals_of}
use Rattle.std.proofs.Common.{length-append, append_assoc, arith, refl, List, None, Option, Some, [], ap, drop, inl, inr, length, slice_get, subst, suc, sym, ◌+◌, ◌++◌, ◌≤◌, ◌∙◌, ◌∷◌, ◌≡◌, ℕ}
use Rattle.std.proofs.Math.Seq.{drop-length}
use Rattle.std.proofs.lemmas.Bool.{cases_lt}
use Rattle.std.proofs.lemmas.List.{drop_at, length-map}
use Rattle.std.proofs.lemmas.Option.{slice_get_within}
use Rattle.std.specs.Iterator.{MakesProgress, YieldsFirst, YieldsLast, item_count}

-- a node that is read by a leaf's number is that leaf
pub held-leaf : {K V : Type 0} (slots : List (Content K V)) (number : ℕ) (content : Content K V) (entries : List (K × V)) → slice_get slots number ≡ Some content → slice_get slots number ≡ Some (leaf_content entries) → IsLeaf content
held-leaf slots number content entries found leaf = subst IsLeaf (read_same slots number found leaf) tt

-- a node that is read by a leaf's number has the leaf's keys and values
pub held : {K V : Type 0} (slots : List (Content K V)) (number : ℕ) (content : Content K V) (entries : List (K × V)) (keys : List K)
    (vals : List V) → slice_get slots number ≡ Some content → slice_get slots number ≡ Some (leaf_content entries)
    → content ≡ Leaf keys vals → (keys ≡ entry_keys entries) × (vals ≡ entry_items entries)
held slots number content entries keys vals found leaf is =
    let same = read_same slots number found leaf in (
      sym (ap keys_of is) ∙ sym (ap keys_of same),
      sym (ap vals_of is) ∙ sym (ap vals_of same),
    )

module _ {K V : Type 0} (table : Table K V) where
  -- from a spot on, the entries of its leaf and of those behind it are left
  from-leaf : (root : ℕ) (here : Spot) (entries : List (K × V)) (o : IsOnLeaf table root here entries) → entries_on table root here ≡ entries ++ flat (drop (suc o.place) (tree_of table.nodes root).leaves)
  from-leaf root here entries o =
      let leaf = o.leaf in
      let leaves = (tree_of table.nodes root).leaves in
      let front = leaf.before ++ node o.number leaf.entries ∷ [] in
      let front_at : drop (leaf_place table root here) leaves ≡ node o.number leaf.entries ∷ leaf.after =
      ap (λ z. drop z leaves) (place-is o.on) ∙ ap (λ z. drop o.place z) leaf.leaves_are ∙ drop_at leaf.before (node o.number leaf.entries ∷ leaf.after) o.place leaf.at in
      let behind : drop (suc o.place) leaves ≡ leaf.after =
      ap (λ z. drop (suc o.place) z) (leaf.leaves_are ∙ sym (append_assoc leaf.before (node o.number leaf.entries ∷ []) leaf.after)) ∙ drop_at front leaf.after (suc o.place) (omega (arith, leaf.at, length-append leaf.before (node o.number leaf.entries ∷ []))) in
      ap (λ z. flat z) front_at ∙ ap (λ z. z ++ flat leaf.after) o.entries_are ∙ ap (λ z. entries ++ flat z) (sym behind)

  -- what is left where a leaf is held
  pub left-some : (keys : List K) (index : ℕ) (entries : List (K × V)) → 1 ≤ length keys → unread keys index entries ≡ drop index entries
  left-some [] index entries some = absurd (omega (arith, some))
  left-some (first ∷ keys) index entries some = refl

  pub left-none : (keys : List K) (index : ℕ) (entries : List (K × V)) → length keys ≡ 0 → unread keys index entries ≡ []
  left-none [] index entries none = refl
  left-none (first ∷ keys) index entries none = absurd (omega (arith, none))

  module _ {n : ℕ} (reader : Reader K V n) (r : IsReader table reader) where
    -- a reader holds as many keys as its leaf has entries
    pub key-count : length reader.keys.now ≡ length r.entries
    key-count = ap length r.keys ∙ length-map r.entries (λ e. e.0)

    -- a reader holds as many values as keys
    pub held-same : length reader.keys.now ≡ length reader.vals.now
    held-same = key-count ∙ sym (length-map r.entries (λ e. e.1)) ∙ sym (ap length r.vals)

    -- a reader with a leaf has what is left of the leaf and what is behind it
    left-here : (some : 1 ≤ length r.entries) → left_of table reader ≡ drop reader.index (r.entries ++ flat (drop (suc (r.leaf some).place) (tree_of table.nodes reader.root).leaves))
    left-here some = left-some reader.keys.now reader.index (entries_on table reader.root reader.spot) (omega (arith, some, key-count)) ∙ ap (λ z. drop reader.index z) (from-leaf reader.root reader.spot r.entries (r.leaf some))

    -- the place of a reader's leaf, which is asked for where it has one
    pub stands : (¬ HasNoParent reader.spot) → (place : ℕ) × IsSpotAt table reader.root reader.spot place
    stands more = elim (cases_lt 0 (length r.entries)) [
      | inl some ↦ (let o = r.leaf some in (o.place, o.on))
      | inr past ↦ absurd (more (r.none (omega (arith, past))))
    ]

    module _ (read : length reader.keys.now ≤ reader.index) where
      -- where the leaf's entries are read, those behind the leaf are left
      behind : (some : 1 ≤ length r.entries) → left_of table reader ≡ flat (drop (suc (r.leaf some).place) (tree_of table.nodes reader.root).leaves)
      behind some = left-here some ∙ drop_at r.entries (flat (drop (suc (r.leaf some).place) (tree_of table.nodes reader.root).leaves)) reader.index (omega (arith, r.within, read, key-count))

      -- the spot of the next leaf opens it with what is left behind the leaf
      pub opens-next : (next : Spot) (leaf : ℕ) → (¬ HasNoParent reader.spot) → ((place : ℕ) → IsSpotAt table reader.root reader.spot place → IsSpotAt table reader.root next (suc place) × IsLeafAt table reader.root (suc place) leaf) → Opens n table (left_of table reader) reader.root next leaf
      opens-next next leaf more says = elim (cases_lt 0 (length r.entries)) [
        | inl some ↦ (
            let o = r.leaf some in
            let s = says o.place o.on in
            record { union = r.union; place = suc o.place; on = s.0; leaf = s.1; left_is = behind some }
            )
        | inr past ↦ absurd (more (r.none (omega (arith, past))))
      ]

      -- no entries are left behind the last leaf
      pub none-left : ((place : ℕ) → IsSpotAt table reader.root reader.spot place → suc place ≡ leaf_count table reader.root) → left_of table reader ≡ []
      none-left last = elim (cases_lt 0 (length r.entries)) [
        | inl some ↦ (
            let o = r.leaf some in
            behind some ∙ ap (λ z. flat z) (ap (λ z. drop z (tree_of table.nodes reader.root).leaves) (last o.place o.on) ∙ drop-length (tree_of table.nodes reader.root).leaves)
            )
        | inr past ↦ left-none reader.keys.now reader.index (entries_on table reader.root reader.spot) (omega (arith, past, key-count))
      ]

  module _ {n : ℕ} where
    -- a reader that took an entry of its leaf
    pub record Taken (old new : Reader K V n) (entry : K × V) : Type 0 where
      pub left : left_of table old ≡ entry ∷ left_of table new
      pub reader : IsReader table new

    pub taken : (old new : Reader K V n) (entry : K × V) → IsReader table old → slice_get old.keys.now old.index ≡ Some entry.0 → slice_get old.vals.now old.index ≡ Some entry.1 → new ≡ record old { index = old.index + 1 } → Taken old new entry
    taken old new entry r key value is =
        let found = pair_read r.entries old.index (ap (λ z. slice_get z old.index) (sym r.keys) ∙ key) (ap (λ z. slice_get z old.index) (sym r.vals) ∙ value) in
        let low = slice_get_within r.entries old.index entry found in
        let some : 1 ≤ length r.entries = omega (arith, low) in
        let keys : 1 ≤ length old.keys.now = omega (arith, some, key-count old r) in
        let rest = flat (drop (suc (r.leaf some).place) (tree_of table.nodes old.root).leaves) in
        let all = entries_on table old.root old.spot in
        let whole : all ≡ r.entries ++ rest = from-leaf old.root old.spot r.entries (r.leaf some) in
        let read = drop-read all old.index entry (ap (λ z. slice_get z old.index) whole ∙ slice_get-append_left r.entries rest old.index entry found) in
        let next : suc old.index ≡ old.index + 1 = omega arith in
        subst (λ (z : Reader K V n). Taken old z entry) (sym is) (record {
          left = left-some old.keys.now old.index all keys ∙ read ∙ ap (λ z. entry ∷ drop z all) next ∙ ap (λ z. entry ∷ z) (sym (left-some old.keys.now (old.index + 1) all keys));
          reader = record { union = r.union; entries = r.entries; within = omega (arith, low); leaf = r.leaf; none = r.none; keys = r.keys; vals = r.vals };
        })

    -- a reader to which nothing is left, and that stays as it is
    pub record Over (old new : Reader K V n) : Type 0 where
      pub left : (left_of table old ≡ []) × (left_of table new ≡ [])
      pub reader : IsReader table new

    pub over : (old new : Reader K V n) → IsReader table old → left_of table old ≡ [] → new ≡ old → Over old new
    over old new r none is = subst (λ (z : Reader K V n). Over old z) (sym is) (record { left = (none, none); reader = r })

    -- a reader that holds the leaf which a spot opens
    pub entered : (left : List (K × V)) (root : ℕ) (at : Spot) (leaf : ℕ) (content : Content K V) (new : Reader K V n)
        → Opens n table left root at leaf → slice_get table.nodes leaf ≡ Some content → content ≡ Leaf new.keys.now new.vals.now
        → new.index ≡ 0 → new.root ≡ root → new.spot ≡ at → Entered table left new
    entered left root at leaf content new o found leaf_is index root_is spot_is =
        let es = o.leaf.entries in
        let h = held table.nodes leaf content es new.keys.now new.vals.now found o.leaf.slot_is leaf_is in
        let keys : length new.keys.now ≡ length es = ap length h.0 ∙ length-map es (λ e. e.0) in
        let vals : length new.vals.now ≡ length es = ap length h.1 ∙ length-map es (λ e. e.1) in
        let on : IsOnLeaf table root at es = record { place = o.place; number = leaf; on = o.on; leaf = o.leaf; entries_are = refl } in
        let all : entries_on table root at ≡ left = ap (λ z. flat (drop z (tree_of table.nodes root).leaves)) (place-is o.on) ∙ sym o.left_is in
        let same : entries_on table new.root new.spot ≡ left = ap (λ z. entries_on table z new.spot) root_is ∙ ap (λ z. entries_on table root z) spot_is ∙ all in
        record {
          left_is = sym (left-some new.keys.now new.index (entries_on table new.root new.spot) (omega (arith, keys, o.leaf.some)) ∙ ap (λ z. drop z (entries_on table new.root new.spot)) index ∙ same);
          reader_is = record {
            union = o.union;
            entries = es;
            within = omega (arith, index);
            leaf = λ some. subst (λ (z : Spot). IsOnLeaf table new.root z es) (sym spot_is) (subst (λ (z : ℕ). IsOnLeaf table z at es) (sym root_is) on);
            none = λ e. absurd (omega (arith, e, o.leaf.some));
            keys = h.0;
            vals = h.1;
          };
          within = omega (arith, index, keys, o.leaf.some);
          same = keys ∙ sym vals;
        }

-- an iterator that yields the first of the entries left makes progress
pub progress : {A P : Type 0} (ready : P) (old new : List A) (o : Option A) → YieldsFirst (λ (entries : List A). entries) old o new → MakesProgress (λ (entries : List A). P) (item_count (λ (entries : List A). entries)) old o new
progress ready old new (Some entry) steps = record { on = λ fin. (ready, tt, omega (arith, ap length steps)); keeps = ready; rests = λ fin. tt }
progress ready old new None steps = record { on = λ fin. tt; keeps = tt; rests = λ fin. tt }

-- an iterator that yields the last of the entries left makes progress
pub progress-back : {A P : Type 0} (ready : P) (old new : List A) (o : Option A) → YieldsLast (λ (entries : List A). entries) old o new → MakesProgress (λ (entries : List A). P) (item_count (λ (entries : List A). entries)) old o new
progress-back ready old new (Some entry) steps = record { on = λ fin. (ready, tt, omega (arith, ap length steps, length-append new (entry ∷ []))); keeps = ready; rests = λ fin. tt }
progress-back ready old new None steps = record { on = λ fin. tt; keeps = tt; rests = λ fin. tt }
