-- What the loop of `keep` has done: a path in the tree whose entries are kept, and one beside it in the other tree.
use Rattle.bforest_core.proofs.table.Lists.{drop-read, length_remove}
use Rattle.bforest_core.proofs.walks.Standing.{at-on, on-at, on-within}
use Rattle.bforest_core.specs.Levels.{flat}
use Rattle.bforest_core.specs.Paths.{OnEntry, RemovesHere, Standing, StandsAt, StandsOn, list_under, sizes_under}
use Rattle.bforest_core.specs.Place.{IsPathAt}
use Rattle.bforest_core.specs.Table.{Table}
use Rattle.bforest_core.specs.Trees.{IsUnion, is_root, tree_of}
use Rattle.bforest_core.specs.declared.path.Path.{Path}
use Rattle.bforest_core.proofs.walks.Backward.{at_entry}
use Rattle.bforest_nodes.proofs.Seams.{slice_get-drop}
use Rattle.bforest_nodes.specs.Entries.{IsIncreasing, is_present, place, with_value}
use Rattle.bforest_trees.proofs.Cutting.{changes-none, gives-none}
use Rattle.bforest_trees.proofs.Reading.{left-at}
use Rattle.bforest_trees.proofs.Sifted.{read-removed, sifted-out}
use Rattle.bforest_trees.proofs.Sifting.{Sifting, sifting-first, sifting-last, sifting-next, sifting-none, sifting-rest, sifting-stands}
use Rattle.bforest_trees.proofs.unions.Choosing.{place-at, place-behind, place-end, place-grows}
use Rattle.bforest_trees.specs.Keep.{Kept, Nears, Reaches, Steps, Tells}
use Rattle.bforest_trees.specs.Layout.{entries_from}
use Rattle.bforest_trees.specs.Retain.{Stepped}
use Rattle.bforest_trees.specs.Union.{fits}
use Rattle.std.proofs.Common.{Bool, IfSome, IsTrue, List, None, Option, Some, [], ap, arith, drop, false, if◌then◌else◌, inl, inr, length, not, refl, remove, slice_get, subst, suc, sym, true, zero, ◌||◌, ◌<◌, ◌∙◌, ◌∷◌, ◌≡◌, ◌≢◌, ◌≤◌, ℕ}
use mathlib.Core.Bool.{beq}
use Rattle.std.proofs.lemmas.Bool.Decides.{eqb_tells}
use Rattle.std.proofs.lemmas.List.{length-drop}
use Rattle.std.proofs.lemmas.Option.{slice_get_within}
use Rattle.std.specs.Cmp.{IsTotalOrder}
use Rattle.std.specs.List.Sorted.{IsStrictlySortedBy}
use Rattle.std.specs.List.{AllByRecursion}
use Rattle.std.specs.Map.{keys_of}
use Rattle.std.specs.Ordering.{is_eq, is_lt}
use Rattle.std.specs.declared.cmp.Ordering.TheVariants.{Equal, Greater, Less}
use Rattle.std.specs.declared.cmp.Ordering.{Ordering}

-- a test that is as wanted tells what is to stay
beq-fits : (found present : Bool) → beq found present ≡ fits present found
beq-fits true true = refl
beq-fits true false = refl
beq-fits false true = refl
beq-fits false false = refl

-- writing the value that an entry has changes nothing
with-same : {K X : Type 0} (es : List (K × X)) (p : ℕ) (k : K) (v : X) → Some (k, v) ≡ slice_get es p → with_value es p v ≡ es
with-same [] p k v here = refl
with-same (e ∷ es) zero k v here = let same : (k, v) ≡ e = cc in λ i. (e.0, (same i).1) ∷ es
with-same (e ∷ es) (suc p) k v here = ap (λ l. e ∷ l) (with-same es p k v here)

-- a step over an entry that stays
stepped-on : {K X : Type 0} {most : ℕ} {table : Table K X} {root : ℕ} {path path' : Path K X most} {cmp : K → K → Ordering} {present : Bool} {others : List (K × X)} {place : ℕ} {k : K} {v : X}
    → IsUnion most table → true ≡ fits present (is_present cmp others k) → StandsOn table root path place → Some (k, v) ≡ slice_get (list_under table root) place → StandsAt table root path' (suc place)
    → Stepped most (Tells cmp present others) table table root root path' tt tt (list_under table root) (sizes_under table root) place k v
stepped-on {most = most} {table} {root} {path' = path'} {place = place} {k} {v} union told stands here at = record {
  stays = true;
  left = v;
  stepped = record { told = told; same = refl };
  changes = rw (with-same (list_under table root) place k v here) (changes-none most table root union stands.root_is);
  gives = gives-none table (sizes_under table root);
  at = at;
  same_root = (λ e. refl, λ e. refl);
  freed_root = λ ne. absurd (ne refl);
}

module _ {K X : Type 0} {most : ℕ} {old : Table K X} {root : ℕ} {path path' : Path K X most} {stays : Bool} where
  -- a step over an entry that stays
  pub steps-on : IsUnion most old → stays ≡ true → ((at : OnEntry old path) → StandsAt old at.root path' (suc at.place)) → {read : Option (K × X)} → ((at : OnEntry old path) → read ≡ slice_get (list_under old at.root) (suc at.place))
      → Steps most old old root path path' stays (Some (root, read))
  steps-on union kept at value = record {
    same_pool = λ e. refl;
    same_root = λ e. refl;
    read_is = λ place stands. value (record { root = root; place = place; on = stands });
    stepped = λ cmp present others place k v told stands here. stepped-on union (sym kept ∙ told) stands here (at (record { root = root; place = place; on = stands }));
    ended = λ bad. absurd (cc);
  }

  module _ {new : Table K X} (gone : stays ≡ false) where
    -- a step that removes the entry
    pub steps-off : {root' : ℕ} → RemovesHere old new path path' (Some root') → {read : Option (K × X)} → ((at : Standing new path') → read ≡ slice_get (list_under new at.root) at.place)
        → Steps most old new root path path' stays (Some (root', read))
    steps-off {root'} r value = record {
      same_pool = λ e. absurd (let bad : true ≡ false = sym e ∙ gone in cc);
      same_root = λ e. absurd (let bad : true ≡ false = sym e ∙ gone in cc);
      read_is = λ place stands.
          let at : OnEntry old path = record { root = root; place = place; on = stands } in
          let list = list_under old root in
          value (record { root = root'; place = place; at = r.stands at }) ∙ ap (λ l. slice_get l place) (r.removed at).list_is ∙ read-removed list place (on-within old path stands);
      stepped = λ cmp present others place k v told stands here.
          let at : OnEntry old path = record { root = root; place = place; on = stands } in
          sifted-out most (Tells cmp present others) old new root path' tt tt (list_under old root) (sizes_under old root) place k v v
          (record { told = sym gone ∙ told; same = refl }) (Some root') (r.removed at) (r.account at) (r.stands at) (r.same_root at) (r.freed_root at);
      ended = λ bad. absurd (cc);
    }

    -- a step that removes the only entry
    pub steps-last : RemovesHere old new path path' None → Steps most old new root path path' stays None
    steps-last r = record {
      same_pool = λ e. absurd (let bad : true ≡ false = sym e ∙ gone in cc);
      same_root = λ e. tt;
      read_is = λ place stands. tt;
      stepped = λ cmp present others place k v told stands here. tt;
      ended = λ none cmp present others place k v told stands here.
          let at : OnEntry old path = record { root = root; place = place; on = stands } in
          record {
            left = v;
            stepped = record { told = sym gone ∙ told; same = refl };
            last = (r.last at).0 refl;
            ended = r.ended refl at;
            gives = r.account at;
            none_left = r.none_left refl at;
          };
    }

module _ {K X : Type 0} {n : ℕ} {table : Table K X} {root : ℕ} where
  -- a path that stands at a place is on an entry unless it is at the end
  pub on-when : {path : Path K X n} {spot : ℕ} → StandsAt table root path spot → path.size ≢ 0 → OnEntry table path
  on-when {path} {spot} s some = record { root = root; place = spot; on = record { root_is = s.root_is; stands = at_entry path.node path.entry (tree_of table.nodes root) spot path.size some s.at } }

  -- how many entries are left in front of a step, and after it
  step-shortens : {path path' : Path K X n} {spot : ℕ} {e : K × X} → IsUnion n table → StandsAt table root path spot → Some e ≡ slice_get (list_under table root) spot → StandsAt table root path' (suc spot) → length (entries_from table path') < length (entries_from table path)
  step-shortens {path} {path'} {spot} {e} union s here s' =
      let low = slice_get_within (list_under table root) spot e (sym here) in
      omega (
        arith,
        low,
        ap length (left-at table root path spot union s),
        ap length (left-at table root path' (suc spot) union s'),
        length-drop spot (list_under table root),
        length-drop (suc spot) (list_under table root),
      )

  module _ {cmp : K → K → Ordering} {path : Path K X n} {read : Option (K × X)} {key : K} (s : Nears cmp table root path read key) where
    there : {o : Option (K × X)} → read ≡ o → o ≡ slice_get (list_under table root) s.spot
    there is = sym is ∙ s.read_is

    module _ {e : K × X} (is : read ≡ Some e) where
      -- a step goes on from the entry here
      module _ {path' : Path K X n} (stands : (at : OnEntry table path) → StandsAt table at.root path' (suc at.place)) where
        abbrev here_on : OnEntry table path
        here_on = record { root = root; place = s.spot; on = at-on table path s.at (slice_get_within (list_under table root) s.spot e (sym (there is))) }

        next_at : StandsAt table root path' (suc s.spot)
        next_at = stands here_on

        pub nears-shorter : IsUnion n table → length (entries_from table path') < length (entries_from table path)
        nears-shorter union = step-shortens union s.at (there is) next_at

        -- a lesser entry is passed
        pub nears-next : {read' : Option (K × X)} → ((at : OnEntry table path) → read' ≡ slice_get (list_under table at.root) (suc at.place)) → IsTotalOrder cmp
            → {order : Ordering} {less : Bool} → order ≡ cmp e.0 key → less ≡ is_lt order → less ≡ true → Nears cmp table root path' read' key
        nears-next value o told told_less lesser = record { spot = suc s.spot; at = next_at; read_is = value here_on; low = place-behind cmp o (list_under table root) s.spot e key s.up (there is) (is-less (cmp e.0 key) (sym (ap is_lt told) ∙ sym told_less ∙ lesser)); up = s.up }
          where
            is-less : (r : Ordering) → is_lt r ≡ true → r ≡ Less
            is-less Less t = refl
            is-less Equal t = absurd (cc)
            is-less Greater t = absurd (cc)

      -- at one that is not, the search ends
      pub nears-here : IsTotalOrder cmp → {order : Ordering} {less found : Bool} → order ≡ cmp e.0 key → less ≡ is_lt order → less ≡ false → found ≡ is_eq order → Reaches cmp table root path read key found
      nears-here o told told_less not_less found_is =
          let t = place-at cmp o (list_under table root) s.spot e key s.up (there is) s.low (sym (ap is_lt told) ∙ sym told_less ∙ not_less) in
          record { at = subst (StandsAt table root path) t.0 s.at; read_is = s.read_is ∙ ap (slice_get (list_under table root)) t.0; found_is = found_is ∙ ap is_eq told ∙ t.1 }

    pub nears-end : IsTotalOrder cmp → read ≡ None → Reaches cmp table root path read key false
    nears-end o is =
        let t = place-end cmp o (list_under table root) s.spot key (there is) s.low in
        record { at = subst (StandsAt table root path) t.0 s.at; read_is = s.read_is ∙ ap (slice_get (list_under table root)) t.0; found_is = t.1 }

-- the place in others is not behind that of the first key of these
abbrev pub IsAhead : {K X : Type 0} → (K → K → Ordering) → List (K × X) → ℕ → List (K × X) → Type 0
IsAhead cmp others spot [] = Unit {0}
IsAhead cmp others spot (e ∷ es) = spot ≤ place cmp others e.0

module _ {K X : Type 0} (most : ℕ) (cmp : K → K → Ordering) (present : Bool) (old : Table K X) (first other : ℕ) where
  -- the entries in front of the path's place are kept or removed, and the other tree's path is not behind the place of the next key; both
  -- paths' entries were read
  pub record Keeping (now : Table K X) (root : ℕ) (path beside : Path K X most) (mine theirs : Option (K × X)) (changed : Bool) : Type 0 where
    pub sift : Sifting most (Tells cmp present (list_under old other)) (λ f k v. Unit {0}) old first tt now root tt path
    pub other_root : IsTrue (is_root now.nodes other)
    pub tree_is : tree_of now.nodes other ≡ tree_of old.nodes other
    pub apart : other ≢ root
    pub others_up : IsIncreasing cmp (list_under old other)
    pub up : IsIncreasing cmp (entries_from now path)
    pub spot : ℕ
    pub beside_at : StandsAt now other beside spot
    pub ahead : IsAhead cmp (list_under old other) spot (entries_from now path)
    pub mine_is : mine ≡ slice_get (entries_from now path) 0
    pub theirs_is : theirs ≡ slice_get (list_under old other) spot
    pub same : changed ≡ false → (now ≡ old) × (root ≡ first)
    pub fewer : changed ≡ true → length (list_under now root) < length (list_under old first)

module _ {K X : Type 0} {most : ℕ} {cmp : K → K → Ordering} {present : Bool} {old : Table K X} {first other : ℕ} where
  pub keeping-first : {path beside : Path K X most} → IsUnion most old → first ≢ other → IsIncreasing cmp (list_under old first) → IsIncreasing cmp (list_under old other) → StandsOn old first path 0 → StandsOn old other beside 0
      → {mine theirs : K × X} → slice_get (list_under old first) 0 ≡ Some mine → slice_get (list_under old other) 0 ≡ Some theirs → Keeping most cmp present old first other old first path beside (Some mine) (Some theirs) false
  keeping-first {path} {beside} union apart up others_up on beside_on mine_is theirs_is = record {
    sift = sifting-first union on (record { at = λ before after f k v is t. tt });
    other_root = beside_on.root_is;
    tree_is = refl;
    apart = λ e. apart (sym e);
    others_up = others_up;
    up = subst (IsIncreasing cmp) (sym left) up;
    spot = 0;
    beside_at = on-at old beside beside_on;
    ahead = go (entries_from old path);
    mine_is = sym (ap (λ l. slice_get l 0) left ∙ mine_is);
    theirs_is = sym theirs_is;
    same = λ e. (refl, refl);
    fewer = λ bad. absurd (cc);
  }
    where
      left : entries_from old path ≡ list_under old first
      left = left-at old first path 0 union (on-at old path on)

      go : (es : List (K × X)) → IsAhead cmp (list_under old other) 0 es
      go [] = tt
      go (e ∷ es) = omega arith

  module _ {now : Table K X} {root : ℕ} {path beside : Path K X most} {mine theirs : Option (K × X)} {changed : Bool} (s : Keeping most cmp present old first other now root path beside mine theirs changed) where
    others_are : list_under now other ≡ list_under old other
    others_are = ap (λ t. flat t.leaves) s.tree_is

    mine_at : mine ≡ slice_get (list_under now root) s.sift.place
    mine_at = s.mine_is ∙ ap (λ l. slice_get l 0) (left-at now root path s.sift.place s.sift.changes.union s.sift.at) ∙ slice_get-drop (list_under now root) s.sift.place

    -- the path stands on an entry
    module _ {k : K} {v : X} (is : mine ≡ Some (k, v)) where
      here : Some (k, v) ≡ slice_get (list_under now root) s.sift.place
      here = sym is ∙ mine_at

      left : entries_from now path ≡ (k, v) ∷ drop (suc s.sift.place) (list_under now root)
      left = left-at now root path s.sift.place s.sift.changes.union s.sift.at ∙ drop-read (list_under now root) s.sift.place (k, v) (sym here)

      -- the path stands on the entry here
      pub keeping-stands : StandsOn now root path s.sift.place
      keeping-stands = sifting-stands s.sift here

      -- the path beside stands in front of the place of the key here
      pub keeping-nears : Nears cmp now other beside theirs k
      keeping-nears = record {
        spot = s.spot;
        at = s.beside_at;
        read_is = s.theirs_is ∙ ap (λ l. slice_get l s.spot) (sym others_are);
        low = subst (λ l. s.spot ≤ place cmp l k) (sym others_are) (subst (IsAhead cmp (list_under old other) s.spot) left s.ahead);
        up = subst (IsIncreasing cmp) (sym others_are) s.others_up;
      }

      -- the other path goes to the key's place
      module _ {found : Bool} {beside' : Path K X most} {theirs' : Option (K × X)} (reached : (m : ℕ) → Nears cmp now m beside theirs k → Reaches cmp now m beside' theirs' k found) where
        abbrev stays : Bool
        stays = beq found present

        r : Reaches cmp now other beside' theirs' k found
        r = reached other keeping-nears

        -- whether the entry stays, by the other list as it was
        keeping-told : stays ≡ fits present (is_present cmp (list_under old other) k)
        keeping-told = beq-fits found present ∙ ap (fits present) (r.found_is ∙ ap (λ l. is_present cmp l k) others_are)

        module _ {new : Table K X} {result : Option (ℕ × Option (K × X))} {path' : Path K X most} (steps : Steps most now new root path path' stays result) where
          -- the step at the entry here
          keeping-stepped : IfSome result (λ left. Stepped most (Tells cmp present (list_under old other)) now new root left.0 path' tt tt (list_under now root) (sizes_under now root) s.sift.place k v)
          keeping-stepped = steps.stepped cmp present (list_under old other) s.sift.place k v keeping-told (sifting-stands s.sift here) here

          -- where no entry is left
          pub keeping-none : result ≡ None → Kept most old new first cmp present other None (changed || not stays)
          keeping-none none =
              let t = steps.ended none cmp present (list_under old other) s.sift.place k v keeping-told (sifting-stands s.sift here) here in
              let removed : stays ≡ false = keeping-told ∙ sym t.stepped.told in
              let all : (changed || not stays) ≡ true = ap (λ b. changed || not b) removed ∙ or-true changed in record {
                kept = tt;
                ended = λ e. sifting-none s.sift here t;
                same_pool = λ bad. absurd (let no : true ≡ false = sym all ∙ bad in cc);
                same_root = λ bad. absurd (let no : true ≡ false = sym all ∙ bad in cc);
                fewer = λ e. tt;
              }
            where
              or-true : (b : Bool) → (b || true) ≡ true
              or-true true = refl
              or-true false = refl

          module _ {root' : ℕ} {mine' : Option (K × X)} (some : result ≡ Some (root', mine')) where
            t : Stepped most (Tells cmp present (list_under old other)) now new root root' path' tt tt (list_under now root) (sizes_under now root) s.sift.place k v
            t = rw some at keeping-stepped

            stays_is : t.stays ≡ stays
            stays_is = t.stepped.told ∙ sym keeping-told

            low : s.sift.place < length (list_under now root)
            low = slice_get_within (list_under now root) s.sift.place (k, v) (sym here)

            not_root : other ≢ root'
            not_root e = elim (eqb_tells root root') [
              | inl w ↦ s.apart (e ∙ sym w.1)
              | inr w ↦ t.changes.new_came w.1 (subst (λ z. IsTrue (is_root now.nodes z)) e s.other_root)
            ]

            other_tree : tree_of new.nodes other ≡ tree_of now.nodes other
            other_tree = (t.changes.others other s.apart not_root).1 s.other_root

            -- the entries that are left are those behind the one here
            rest : entries_from new path' ≡ drop (suc s.sift.place) (list_under now root)
            rest = sifting-rest s.sift here t

            up_here : IsIncreasing cmp ((k, v) ∷ drop (suc s.sift.place) (list_under now root))
            up_here = subst (IsIncreasing cmp) left s.up

            -- one entry less where one was removed
            removed : stays ≡ false → suc (length (list_under new root')) ≡ length (list_under now root)
            removed gone = go t.stays t.left t.changes.list_is (stays_is ∙ gone)
              where
                go : (b : Bool) (w : X) → list_under new root' ≡ (if b then with_value (list_under now root) s.sift.place w else remove (list_under now root) s.sift.place) → b ≡ false → suc (length (list_under new root')) ≡ length (list_under now root)
                go true w is bad = absurd (cc)
                go false w is f = omega (arith, ap length is, length_remove (list_under now root) s.sift.place low)

            next_read : mine' ≡ slice_get (list_under now root) (suc s.sift.place)
            next_read = rw some at (steps.read_is s.sift.place (sifting-stands s.sift here))

            kept_root : stays ≡ true → root' ≡ root
            kept_root kept = rw some at (steps.same_root kept)

            shorter : (stays changed : Bool) → (stays ≡ true → new ≡ now) → (stays ≡ true → root' ≡ root) → (stays ≡ false → suc (length (list_under new root')) ≡ length (list_under now root))
                → (changed ≡ false → (now ≡ old) × (root ≡ first)) → (changed ≡ true → length (list_under now root) < length (list_under old first)) → (changed || not stays) ≡ true → length (list_under new root') < length (list_under old first)
            shorter true true pool at gone same fewer all = let now_is : length (list_under new root') ≡ length (list_under now root) = λ i. length (list_under (pool refl i) (at refl i)) in omega (arith, fewer refl, now_is)
            shorter true false pool at gone same fewer all = absurd (cc)
            shorter false true pool at gone same fewer all = omega (arith, gone refl, fewer refl)
            shorter false false pool at gone same fewer all = let was : length (list_under now root) ≡ length (list_under old first) = λ i. length (list_under ((same refl).0 i) ((same refl).1 i)) in omega (arith, gone refl, was)

            unchanged : (stays changed : Bool) → (stays ≡ true → new ≡ now) → (stays ≡ true → root' ≡ root) → (changed ≡ false → (now ≡ old) × (root ≡ first)) → (changed || not stays) ≡ false → (new ≡ old) × (root' ≡ first)
            unchanged true true pool at same none = absurd (cc)
            unchanged true false pool at same none = (pool refl ∙ (same refl).0, at refl ∙ (same refl).1)
            unchanged false true pool at same none = absurd (cc)
            unchanged false false pool at same none = absurd (cc)

            -- the next state of the loop
            pub keeping-next : IsTotalOrder cmp → Keeping most cmp present old first other new root' path' beside' mine' theirs' (changed || not stays)
            unfolding IsStrictlySortedBy
            keeping-next o = record {
              sift = (sifting-next s.sift here t).0;
              other_root = (t.changes.others other s.apart not_root).0.1 s.other_root;
              tree_is = other_tree ∙ s.tree_is;
              apart = not_root;
              others_up = s.others_up;
              up = subst (IsIncreasing cmp) (sym rest) up_here.1;
              spot = place cmp (list_under old other) k;
              beside_at = record {
                root_is = (t.changes.others other s.apart not_root).0.1 s.other_root;
                at = subst (λ z. IsPathAt beside'.node beside'.entry beside'.size z (place cmp (list_under old other) k)) (sym other_tree)
                    (subst (λ l. IsPathAt beside'.node beside'.entry beside'.size (tree_of now.nodes other) (place cmp l k)) others_are r.at.at);
              };
              ahead = subst (IsAhead cmp (list_under old other) (place cmp (list_under old other) k)) (sym rest) (go (drop (suc s.sift.place) (list_under now root)) up_here.0);
              mine_is = next_read ∙ sym (slice_get-drop (list_under now root) (suc s.sift.place)) ∙ ap (λ l. slice_get l 0) (sym rest);
              theirs_is = r.read_is ∙ ap (λ l. slice_get l (place cmp l k)) others_are;
              same = unchanged stays changed steps.same_pool kept_root s.same;
              fewer = shorter stays changed steps.same_pool kept_root removed s.same s.fewer;
            }
              where
                go : (es : List (K × X)) → AllByRecursion (λ y. cmp k y ≡ Less) (keys_of es) → IsAhead cmp (list_under old other) (place cmp (list_under old other) k) es
                go [] below = tt
                go (e ∷ es) below = place-grows cmp o (list_under old other) k e.0 below.0

            pub keeping-shorter : length (entries_from new path') < length (entries_from now path)
            keeping-shorter = omega (arith, ap length rest, ap length left)

    -- where no entry is left, all of them are kept or removed
    pub keeping-last : mine ≡ None → Kept most old now first cmp present other (Some root) changed
    keeping-last is = record {
      kept = sifting-last s.sift (sym is ∙ mine_at);
      ended = λ bad. absurd (cc);
      same_pool = λ e. (s.same e).0;
      same_root = λ e. ap Some (s.same e).1;
      fewer = s.fewer;
    }
