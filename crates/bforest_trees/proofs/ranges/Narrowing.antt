-- All entries, narrowed to those between two places.
use Rattle.bforest_trees.proofs.ranges.Beside.{one-code, leaf-low, leaf-read, leaves}
use Rattle.bforest_trees.proofs.ranges.Between.{slice-between, up-to-absent, up-to-present}
use Rattle.bforest_trees.proofs.Held.{list-is, start-behind, start-is}
use Rattle.bforest_trees.proofs.ranges.Limits.{ends-rise, limit-in-leaf, limit-most, limits-crossed, places-rise}
use Rattle.bforest_trees.proofs.ranges.Ranging.{no-part, pairs-all, pairs-take, range-first, range-none}
use Rattle.bforest_trees.specs.Bounds.{end_place, entries_between, start_place}
use Rattle.bforest_trees.proofs.Changed.{list-root}
use Rattle.bforest_trees.specs.Forest.{Forest, list_of}
use Rattle.bforest_trees.specs.Looks.{start_of}
use Rattle.bforest_trees.specs.Range.{IsFresh, IsRange, back_held, back_leaf, front_held, leaf_behind, left_in, limit_place, pairs}
use Rattle.bforest_trees.specs.declared.trees.range.Ends.{Ends}
use Rattle.bforest_trees.specs.declared.trees.range.Limit.{Limit}
use Rattle.bforest_core.proofs.rows.LevelRows.{flat-append}
use Rattle.bforest_core.specs.Leaves.{SearchEndsAt, SearchSpot}
use Rattle.bforest_core.specs.Levels.{flat, node}
use Rattle.bforest_core.specs.Paths.{list_under}
use Rattle.bforest_core.specs.Place.{entry_items, entry_keys}
use Rattle.bforest_core.specs.Spots.{IsLeafAt, IsSpotAt, leaf_count, leaf_place}
use Rattle.bforest_core.specs.Trees.{is_root}
use Rattle.bforest_core.specs.declared.spot.Spot.{Spot}
use Rattle.bforest_nodes.proofs.Found.{place-present}
use Rattle.bforest_nodes.specs.Entries.{IsIncreasing, is_present, place}
use Rattle.std.proofs.Common.{Bool, IsTrue, List, Option, Some, [], ap, append-nil, append_assoc, arith, drop, false, if◌then◌else◌, inl, inr, length, length-append, refl, slice_range, subst, suc, sym, take, true, zero, ◌+◌, ◌++◌, ◌-◌, ◌<◌, ◌∙◌, ◌∷◌, ◌≡◌, ◌≢◌, ◌≤◌, ℕ}
use Rattle.std.proofs.Math.Seq.{drop-append-add, take-append-add, take-length}
use Rattle.std.proofs.lemmas.Bool.{cases_lt, false≢true}
use Rattle.std.proofs.lemmas.List.Sums.{count_by-le-length}
use Rattle.std.proofs.lemmas.List.{drop-append-le, length-map, length-take, take-append-le, take_at}
use Rattle.std.specs.Cmp.{IsTotalOrder}
use Rattle.std.specs.Ordering.{is_gt, is_lt}
use Rattle.std.specs.declared.cmp.Ordering.{Ordering}
use Rattle.std.specs.declared.ops.Bound.{Bound}

module _ {A : Type 0} where
  none-behind : (n : ℕ) → drop {A = A} n [] ≡ []
  none-behind zero = refl
  none-behind (suc n) = refl

  -- a slice is what is behind its start in the part up to its end
  range-drop : (xs : List A) (s e : ℕ) → slice_range xs s e ≡ drop s (take e xs)
  range-drop xs zero e = let n : e - 0 ≡ e = omega arith in ap (λ z. take z xs) n
  range-drop [] (suc s) e = no-part (e - suc s) ∙ sym (ap (drop (suc s)) (no-part e))
  range-drop (x ∷ xs) (suc s) zero = let n : 0 - suc s ≡ 0 = omega arith in ap (λ z. take z (drop s xs)) n
  range-drop (x ∷ xs) (suc s) (suc e) = let n : suc e - suc s ≡ e - s = omega arith in ap (λ z. take z (drop s xs)) n ∙ range-drop xs s e

  -- the part up to a place is that up to an earlier one, and the slice between
  take-split : (xs : List A) (p q : ℕ) → p ≤ q → take q xs ≡ take p xs ++ slice_range xs p q
  take-split xs zero q low = let n : q - 0 ≡ q = omega arith in ap (λ z. take z xs) (sym n)
  take-split [] (suc p) q low = no-part q ∙ sym (no-part (q - suc p))
  take-split (x ∷ xs) (suc p) zero low = absurd (omega (arith, low))
  take-split (x ∷ xs) (suc p) (suc q) low = let n : q - p ≡ suc q - suc p = omega arith in ap (λ l. x ∷ l) (take-split xs p q (omega (arith, low)) ∙ ap (λ z. take p xs ++ take z (drop p xs)) n)

module _ {K X : Type 0} (f : Forest K X) (root : ℕ) where
  front-is : {p number : ℕ} (l : IsLeafAt f root p number) → flat (take p (leaves f root)) ≡ flat l.before
  front-is {p = p} {number = number} l = ap (λ z. flat (take p z)) l.leaves_are ∙ ap (λ z. flat z) (take_at l.before (node number l.entries ∷ l.after) p l.at)

  -- the list up to a place in a leaf
  back-cut : {q number : ℕ} (l : IsLeafAt f root q number) (j : ℕ) → j ≤ length l.entries → take (start_of f root q + j) (list_under f root) ≡ flat (take q (leaves f root)) ++ take j l.entries
  back-cut {q = q} l j low =
      let front = flat (take q (leaves f root)) in
      ap (λ z. take (length front + j) z) (list-is f l ∙ ap (λ z. z ++ (l.entries ++ flat l.after)) (sym (front-is l)))
      ∙ take-append-add front (l.entries ++ flat l.after) j ∙ ap (λ z. front ++ z) (take-append-le j l.entries (flat l.after) low)

  -- what is behind a place in a leaf, up to a leaf behind that one
  front-cut : {p number : ℕ} (l : IsLeafAt f root p number) (i q : ℕ) (rest : List (K × X)) → i ≤ length l.entries → p < q
      → drop (start_of f root p + i) (flat (take q (leaves f root)) ++ rest) ≡ drop i l.entries ++ (flat (slice_range (leaves f root) (suc p) q) ++ rest)
  front-cut {p = p} {number = number} l i q rest low less =
      let all = leaves f root in
      let front = flat (take p all) in
      let between = flat (slice_range all (suc p) q) in
      let cut : flat (take q all) ≡ front ++ (l.entries ++ between) = ap (λ z. flat z) (take-split all p q (omega (arith, less)) ∙ ap (λ z. take p all ++ z) (range-first all p q (node number l.entries) less (leaf-read l))) ∙ flat-append (take p all) (node number l.entries ∷ slice_range all (suc p) q) in
      ap (λ z. drop (length front + i) (z ++ rest)) cut
      ∙ ap (λ z. drop (length front + i) z) (append_assoc front (l.entries ++ between) rest ∙ ap (λ z. front ++ z) (append_assoc l.entries between rest))
      ∙ drop-append-add front (l.entries ++ (between ++ rest)) i ∙ drop-append-le i l.entries (between ++ rest) low

  -- what is behind a place in a leaf, up to a place there
  one-cut : (p i : ℕ) (rest : List (K × X)) → drop (start_of f root p + i) (flat (take p (leaves f root)) ++ rest) ≡ drop i rest
  one-cut p i rest = drop-append-add (flat (take p (leaves f root))) rest i

  list-whole : list_under f root ≡ flat (take (leaf_count f root) (leaves f root)) ++ []
  list-whole = sym (append-nil (flat (take (leaf_count f root) (leaves f root))) ∙ ap (λ z. flat z) (take-length (leaves f root)))

  starts-rise : (p q : ℕ) → p ≤ q → start_of f root p ≤ start_of f root q
  starts-rise p q low =
      let all = leaves f root in
      omega (arith, ap (λ z. length (flat z)) (take-split all p q low), ap length (flat-append (take p all) (slice_range all p q)), length-append (flat (take p all)) (flat (slice_range all p q)))

  module _ {cmp : K → K → Ordering} (o : IsTotalOrder cmp) (up : IsIncreasing cmp (list_under f root)) where
    -- searches for two keys in order end in leaves in order
    module _ {from to : K} {p q first last : ℕ} (s : SearchEndsAt cmp f root from p first) (t : SearchEndsAt cmp f root to q last) (ordered : is_gt (cmp from to) ≡ false) where
      abbrev all : List (K × X)
      all = list_under f root

      most : q < p → place cmp all to ≤ place cmp all from
      most less = omega (arith, s.tells.place_is, t.tells.place_is, start-is f s.leaf, start-is f t.leaf, start-behind f t.leaf, starts-rise (suc q) p less, count_by-le-length (λ x. is_lt (cmp x.0 to)) t.leaf.entries)

      leaves-rise : p ≤ q
      leaves-rise = elim (cases_lt q p) [
        | inl less ↦ absurd (go less (is_present cmp s.leaf.entries from) refl (is_present cmp t.leaf.entries to) refl)
        | inr ge ↦ ge
      ]
        where
          go : q < p → (a : Bool) → is_present cmp s.leaf.entries from ≡ a → (b : Bool) → is_present cmp t.leaf.entries to ≡ b → ⊥
          go less false none b is =
              let zero : place cmp s.leaf.entries from ≡ 0 = omega (arith, s.tells.place_is, start-is f s.leaf, t.tells.place_is, start-is f t.leaf, start-behind f t.leaf, starts-rise (suc q) p less, count_by-le-length (λ x. is_lt (cmp x.0 to)) t.leaf.entries, places-rise cmp o all from to ordered) in
              omega (arith, less, s.leaf.at, ap length (s.tells.first (s.tells.found_is ∙ none) zero))
          go less true some true is = omega (arith, s.tells.place_is, t.tells.place_is, start-is f s.leaf, start-is f t.leaf, start-behind f t.leaf, starts-rise (suc q) p less, place-present cmp t.leaf.entries to is, places-rise cmp o all from to ordered)
          go less true some false is = omega (arith, most less, up-to-present cmp o from all up (s.tells.found_is ∙ some), up-to-absent cmp o to all up (t.tells.found_is ∙ is), ends-rise cmp o all from to ordered)

  -- the ends are a range of the entries from one place up to another
  pub record Narrowed (new : Ends K X) (s e : ℕ) : Type 0 where
    pub left : left_in f (Some root) new ≡ slice_range (list_under f root) s e
    pub range : IsRange f (Some root) new

  -- ends of which none has a leaf
  module _ {old : Ends K X} (fresh : IsFresh old) where
    empty-front : front_held old ≡ []
    empty-front = ap (λ z. drop old.index (pairs z old.vals.now)) fresh.keys ∙ none-behind old.index

    empty-back : back_held old ≡ []
    empty-back = ap (λ z. pairs z old.back_vals.now) fresh.back_keys

    behind-fresh : leaf_behind f root old ≡ 0
    behind-fresh = ap (λ z. if z then suc (leaf_place f root old.spot) else 0) fresh.front

    back-fresh : back_leaf f root old ≡ leaf_count f root
    back-fresh = ap (λ z. if z then leaf_place f root old.back_spot else leaf_count f root) fresh.back

    no-spot : {S : Type 0} (b : Bool) → b ≡ false → b ≡ true → S
    no-spot b none has = absurd (false≢true (sym none ∙ has))

    whole : {A : Type 0} (xs : List A) → slice_range xs 0 (length xs) ≡ xs
    whole xs = let n : length xs - 0 ≡ length xs = omega arith in ap (λ z. take z xs) n ∙ take-length xs

    pub all-narrowed : IsTrue (is_root f.nodes root) → Narrowed old 0 (length (list_under f root))
    unfolding left_in
    all-narrowed is = record {
      left = (λ j. empty-front j ++ ((if fresh.one j then [] else flat (slice_range (leaves f root) (behind-fresh j) (back-fresh j))) ++ empty-back j))
          ∙ append-nil (flat (slice_range (leaves f root) 0 (leaf_count f root))) ∙ ap (λ z. flat z) (whole (leaves f root)) ∙ sym (whole (list_under f root));
      range = record {
        paired = omega (arith, ap length fresh.keys);
        back_paired = omega (arith, ap length fresh.back_keys);
        one = no-spot old.is_one fresh.one;
        between = λ _. (root, refl, record { root_is = is; front = no-spot old.has_front fresh.front; back = no-spot old.has_back fresh.back; ordered = omega (arith, behind-fresh, back-fresh) });
      };
    }

    -- where nothing is left
    module _ (h : Option ℕ) where
      pub none-left : left_in f h (record old { is_one = true }) ≡ []
      unfolding left_in
      none-left = λ j. empty-front j ++ ([] ++ empty-back j)

      pub none-range : IsRange f h (record old { is_one = true })
      none-range = record {
        paired = omega (arith, ap length fresh.keys);
        back_paired = omega (arith, ap length fresh.back_keys);
        one = λ _. fresh.back_keys;
        between = λ other. absurd (false≢true (sym other));
      }

    module _ {cmp : K → K → Ordering} (o : IsTotalOrder cmp) (up : IsIncreasing cmp (list_under f root)) where
      -- the front is at a limit in its leaf
      module _ (start : Limit K) {spot : Spot} (on : IsSpotAt f root spot (leaf_place f root spot)) {number : ℕ} (s : SearchEndsAt cmp f root start.key (leaf_place f root spot) number)
          {index : ℕ} (index_is : index ≡ limit_place cmp start s.leaf.entries) where
        index-low : index ≤ length s.leaf.entries
        index-low = omega (arith, index_is, limit-most cmp o s.leaf.entries start)

        start-place : limit_place cmp start (list_under f root) ≡ start_of f root (leaf_place f root spot) + index
        start-place = limit-in-leaf cmp o start s up ∙ ap (λ z. start_of f root (leaf_place f root spot) + z) (sym index_is)

        module _ {new : Ends K X} (keys : new.keys.now ≡ entry_keys s.leaf.entries) (vals : new.vals.now ≡ entry_items s.leaf.entries)
            (is : new ≡ record old { keys = new.keys; vals = new.vals; index = index; spot = spot; has_front = true }) where
          pub start-narrowed : Narrowed new (limit_place cmp start (list_under f root)) (length (list_under f root))
          unfolding left_in
          start-narrowed =
              let list = list_under f root in
              let es = s.leaf.entries in
              let place = leaf_place f root spot in
              let count = leaf_count f root in
              let behind = flat (slice_range (leaves f root) (suc place) count) in
              subst (λ z. Narrowed z (limit_place cmp start list) (length list)) (sym is) (record {
                left = (λ j. drop index (pairs (keys j) (vals j)) ++ ((if fresh.one j then [] else flat (slice_range (leaves f root) (suc place) (back-fresh j))) ++ empty-back j))
                    ∙ ap (λ z. drop index z ++ (behind ++ [])) (pairs-all es)
                    ∙ sym (range-drop list (limit_place cmp start list) (length list) ∙ ap (drop (limit_place cmp start list)) (take-length list) ∙ (λ j. drop (start-place j) (list-whole j)) ∙ front-cut s.leaf index count [] index-low (leaf-low s.leaf));
                range = record {
                  paired = omega (arith, ap length keys, ap length vals, length-map es (λ e. e.0), length-map es (λ e. e.1));
                  back_paired = omega (arith, ap length fresh.back_keys);
                  one = no-spot old.is_one fresh.one;
                  between = λ _. (root, refl, record { root_is = on.root_is; front = λ _. on; back = no-spot old.has_back fresh.back; ordered = omega (arith, back-fresh, leaf-low s.leaf) });
                };
              })

      -- the back is at a limit in its leaf
      module _ (stop : Limit K) {spot : Spot} (on : IsSpotAt f root spot (leaf_place f root spot)) {number : ℕ} (t : SearchEndsAt cmp f root stop.key (leaf_place f root spot) number)
          {index : ℕ} (index_is : index ≡ limit_place cmp stop t.leaf.entries) where
        pub stop-low : index ≤ length t.leaf.entries
        stop-low = omega (arith, index_is, limit-most cmp o t.leaf.entries stop)

        stop-cut : take (limit_place cmp stop (list_under f root)) (list_under f root) ≡ flat (take (leaf_place f root spot) (leaves f root)) ++ take index t.leaf.entries
        stop-cut = ap (λ z. take z (list_under f root)) (limit-in-leaf cmp o stop t up ∙ ap (λ z. start_of f root (leaf_place f root spot) + z) (sym index_is)) ∙ back-cut t.leaf index stop-low

        module _ {new : Ends K X} (keys : new.back_keys.now ≡ take index (entry_keys t.leaf.entries)) (vals : new.back_vals.now ≡ entry_items t.leaf.entries)
            (is : new ≡ record old { back_keys = new.back_keys; back_vals = new.back_vals; back_spot = spot; has_back = true }) where
          pub stop-narrowed : Narrowed new 0 (limit_place cmp stop (list_under f root))
          unfolding left_in
          stop-narrowed =
              let list = list_under f root in
              let es = t.leaf.entries in
              let place = leaf_place f root spot in
              let n : place - 0 ≡ place = omega arith in
              let m : limit_place cmp stop list - 0 ≡ limit_place cmp stop list = omega arith in
              subst (λ z. Narrowed z 0 (limit_place cmp stop list)) (sym is) (record {
                left = (λ j. empty-front j ++ ((if fresh.one j then [] else flat (slice_range (leaves f root) (behind-fresh j) place)) ++ pairs (keys j) (vals j)))
                    ∙ (λ j. flat (take (n j) (leaves f root)) ++ pairs-take es index j)
                    ∙ sym (ap (λ z. take z list) m ∙ stop-cut);
                range = record {
                  paired = omega (arith, ap length fresh.keys);
                  back_paired = omega (arith, ap length keys, ap length vals, length-take index (entry_keys es), length-map es (λ e. e.0), length-map es (λ e. e.1));
                  one = no-spot old.is_one fresh.one;
                  between = λ _. (root, refl, record { root_is = on.root_is; front = no-spot old.has_front fresh.front; back = λ _. on; ordered = omega (arith, behind-fresh) });
                };
              })

      -- the front is at a limit in its leaf, and the end at another limit
      module _ (start stop : Limit K) {front : Spot} {first : ℕ} (s : SearchSpot cmp f root start.key front first) {from : ℕ}
          (from_is : from ≡ limit_place cmp start s.leaf.entries) where
        abbrev p : ℕ
        p = leaf_place f root front

        abbrev es : List (K × X)
        es = s.leaf.entries

        abbrev from-place : ℕ
        from-place = limit_place cmp start (list_under f root)

        abbrev to-place : ℕ
        to-place = limit_place cmp stop (list_under f root)

        -- the end is in the leaf in which its search ends
        module _ {back : Spot} {last : ℕ} (t : SearchSpot cmp f root stop.key back last) {to : ℕ} (to_is : to ≡ limit_place cmp stop t.leaf.entries) where
          abbrev q : ℕ
          q = leaf_place f root back

          abbrev xs : List (K × X)
          xs = t.leaf.entries

          -- what is between, cut out of the list
          between-cut : slice_range (list_under f root) from-place to-place ≡ drop (start_of f root p + from) (flat (take q (leaves f root)) ++ take to xs)
          between-cut = range-drop (list_under f root) from-place to-place ∙ (λ j. drop (start-place start s.spot_at s.search from_is j) (stop-cut stop t.spot_at t.search to_is j))

          module _ (ordered : is_gt (cmp start.key stop.key) ≡ false) (apart : front.code ≢ back.code) where
            less : p < q
            less = elim (cases_lt p q) [
              | inl l ↦ l
              | inr ge ↦ absurd (let rise = leaves-rise o up s.search t.search ordered in apart (one-code s.spot_at t.spot_at (omega (arith, ge, rise))))
            ]

            module _ {mid new : Ends K X} (keys : mid.keys.now ≡ entry_keys es) (vals : mid.vals.now ≡ entry_items es) (mid_is : mid ≡ record old { keys = mid.keys; vals = mid.vals; index = from; spot = front; has_front = true })
                (back_keys : new.back_keys.now ≡ take to (entry_keys xs)) (back_vals : new.back_vals.now ≡ entry_items xs) (new_is : new ≡ record mid { back_keys = new.back_keys; back_vals = new.back_vals; back_spot = back; has_back = true }) where
              both-is : new ≡ record old { keys = mid.keys; vals = mid.vals; index = from; spot = front; has_front = true; back_keys = new.back_keys; back_vals = new.back_vals; back_spot = back; has_back = true }
              both-is = new_is ∙ ap {A = Ends K X} (λ z. record z { back_keys = new.back_keys; back_vals = new.back_vals; back_spot = back; has_back = true }) mid_is

              pub both-narrowed : Narrowed new from-place to-place
              unfolding left_in
              both-narrowed = subst (λ z. Narrowed z from-place to-place) (sym both-is) (record {
                left = (λ j. drop from (pairs (keys j) (vals j)) ++ ((if fresh.one j then [] else flat (slice_range (leaves f root) (suc p) q)) ++ pairs (back_keys j) (back_vals j)))
                    ∙ (λ j. drop from (pairs-all es j) ++ (flat (slice_range (leaves f root) (suc p) q) ++ pairs-take xs to j))
                    ∙ sym (between-cut ∙ front-cut s.leaf from q (take to xs) (index-low start s.spot_at s.search from_is) less);
                range = record {
                  paired = omega (arith, ap length keys, ap length vals, length-map es (λ e. e.0), length-map es (λ e. e.1));
                  back_paired = omega (arith, ap length back_keys, ap length back_vals, length-take to (entry_keys xs), length-map xs (λ e. e.0), length-map xs (λ e. e.1));
                  one = no-spot old.is_one fresh.one;
                  between = λ _. (root, refl, record { root_is = s.spot_at.root_is; front = λ _. s.spot_at; back = λ _. t.spot_at; ordered = omega (arith, less) });
                };
              })

        -- the end is in the front's leaf, where its search ends too, if its key is not less
        module _ {to : ℕ} (to_is : to ≡ limit_place cmp stop es) (same : is_gt (cmp start.key stop.key) ≡ false → SearchSpot cmp f root stop.key front first) where
          pub hold-low : to ≤ length es
          hold-low = omega (arith, to_is, limit-most cmp o es stop)

          held-cut : slice_range (list_under f root) from-place to-place ≡ drop from (take to es)
          held-cut = go (is_gt (cmp start.key stop.key)) refl
            where
              go : (b : Bool) → is_gt (cmp start.key stop.key) ≡ b → slice_range (list_under f root) from-place to-place ≡ drop from (take to es)
              go true crossed = range-none (list_under f root) from-place to-place (limits-crossed cmp o (list_under f root) start stop crossed)
                  ∙ sym (sym (range-drop es from to) ∙ range-none es from to (omega (arith, from_is, to_is, limits-crossed cmp o es start stop crossed)))
              go false ordered = let t = same ordered in let one : t.leaf.entries ≡ es = cc (leaf-read s.leaf, leaf-read t.leaf) in
                  between-cut t (to_is ∙ ap (λ z. limit_place cmp stop z) (sym one))
                  ∙ (λ j. drop (start_of f root p + from) (flat (take p (leaves f root)) ++ take to (one j))) ∙ one-cut p from (take to es)

          module _ {new : Ends K X} (keys : new.keys.now ≡ take to (entry_keys es)) (vals : new.vals.now ≡ entry_items es)
              (is : new ≡ record old { keys = new.keys; vals = new.vals; index = from; spot = front; has_front = true; is_one = true }) where
            pub hold-narrowed : Narrowed new from-place to-place
            unfolding left_in
            hold-narrowed = subst (λ z. Narrowed z from-place to-place) (sym is) (record {
              left = (λ j. drop from (pairs (keys j) (vals j)) ++ ([] ++ empty-back j)) ∙ append-nil (drop from (pairs (take to (entry_keys es)) (entry_items es)))
                  ∙ ap (drop from) (pairs-take es to) ∙ sym held-cut;
              range = record {
                paired = omega (arith, ap length keys, ap length vals, length-take to (entry_keys es), length-map es (λ e. e.0), length-map es (λ e. e.1));
                back_paired = omega (arith, ap length fresh.back_keys);
                one = λ _. fresh.back_keys;
                between = λ other. absurd (false≢true (sym other));
              };
            })

  module _ (cmp : K → K → Ordering) (lo hi : Bound K) (new : Ends K X) where
    -- the limits of bounds
    pub bounds-told : IsTotalOrder cmp → IsIncreasing cmp (list_under f root) → {s e : ℕ} → left_in f (Some root) new ≡ slice_range (list_under f root) s e → s ≡ start_place cmp lo (list_under f root) → e ≡ end_place cmp hi (list_under f root) → left_in f (Some root) new ≡ entries_between cmp lo hi (list_under f root)
    bounds-told o up left from to = left ∙ (λ j. slice_range (list_under f root) (from j) (to j)) ∙ sym (slice-between cmp o lo hi (list_under f root) up)

    -- what is told of a root, of its handle
    pub root-told : IsTrue (is_root f.nodes root) → {h : Option ℕ} → h ≡ Some root → left_in f (Some root) new ≡ entries_between cmp lo hi (list_under f root) → left_in f h new ≡ entries_between cmp lo hi (list_of f h)
    root-told is {h} some left = subst (λ z. left_in f z new ≡ entries_between cmp lo hi (list_of f z)) (sym some) (left ∙ ap (λ l. entries_between cmp lo hi l) (sym (list-root f root is)))
