-- An end of a range goes to the leaf beside its own, or the ends meet in one leaf.
use Rattle.bforest_trees.proofs.ranges.Ranging.{pairs-all, pairs-none, range-first, range-last, range-none, range-past}
use Rattle.bforest_trees.specs.Forest.{Forest}
use Rattle.bforest_trees.specs.Range.{IsOpen, IsRange, back_held, back_leaf, front_held, leaf_behind, left_in, pairs}
use Rattle.bforest_trees.specs.declared.trees.range.Ends.{Ends}
use Rattle.bforest_core.proofs.rows.LevelRows.{flat-append}
use Rattle.bforest_core.proofs.table.Stored.{some_same}
use Rattle.bforest_core.proofs.walks.Cousins.{place-is}
use Rattle.bforest_core.proofs.walks.Ranks.{leaf-less, leaf-same}
use Rattle.bforest_core.specs.Levels.{LevelNode, flat, node}
use Rattle.bforest_core.specs.Place.{entry_items, entry_keys}
use Rattle.bforest_core.specs.Spots.{IsLeafAt, IsSpotAt, leaf_count, leaf_place}
use Rattle.bforest_core.specs.Trees.{tree_of}
use Rattle.bforest_core.specs.declared.spot.Spot.{Spot}
use Rattle.bforest_nodes.proofs.Seams.{seam_is}
use Rattle.std.proofs.Common.{Bool, List, Some, [], ap, append-nil, append_assoc, arith, drop, false, if◌then◌else◌, inl, inr, length, length-append, refl, slice_get, slice_range, subst, suc, sym, true, ◌++◌, ◌-◌, ◌<◌, ◌∙◌, ◌∷◌, ◌≡◌, ◌≢◌, ◌≤◌, ℕ}
use Rattle.std.proofs.lemmas.Bool.{cases_lt, false≢true}
use Rattle.std.proofs.lemmas.List.{length-map}

abbrev pub leaves : {K X : Type 0} → Forest K X → ℕ → List (LevelNode K X)
leaves f root = (tree_of f.nodes root).leaves

module _ {K X : Type 0} {f : Forest K X} {root : ℕ} where
  pub leaf-read : {p number : ℕ} (l : IsLeafAt f root p number) → slice_get (leaves f root) p ≡ Some (node number l.entries)
  leaf-read {p = p} {number = number} l =
      let all = l.before ++ node number l.entries ∷ l.after in
      ap (λ z. slice_get z p) l.leaves_are ∙ ap (λ z. slice_get all z) (sym l.at) ∙ seam_is l.before (node number l.entries) l.after

  pub leaf-low : {p number : ℕ} → IsLeafAt f root p number → p < leaf_count f root
  leaf-low {number = number} l = omega (arith, l.at, ap length l.leaves_are, length-append l.before (node number l.entries ∷ l.after))

  -- leaves at one place have one code
  pub one-code : {a b : Spot} {p q : ℕ} (x : IsSpotAt f root a p) (y : IsSpotAt f root b q) → p ≡ q → a.code ≡ b.code
  one-code {a = a} {b = b} x y same = elim (cases_lt a.code b.code) [
    | inl less ↦ absurd (omega (arith, same, leaf-less x y less))
    | inr ge ↦ elim (cases_lt b.code a.code) [
      | inl less ↦ absurd (omega (arith, same, leaf-less y x less))
      | inr le ↦ omega (arith, ge, le)
    ]
  ]

  module _ {old : Ends K X} (r : IsRange f (Some root) old) (more : old.is_one ≡ false) where
    -- the leaves between those of the ends
    abbrev pub gap : IsOpen f root old
    gap = let w = r.between more in subst (λ z. IsOpen f z old) (sym (some_same w.1)) w.2

    abbrev p : ℕ
    p = leaf_behind f root old

    abbrev q : ℕ
    q = back_leaf f root old

    left-open : left_in f (Some root) old ≡ front_held old ++ (flat (slice_range (leaves f root) p q) ++ back_held old)
    unfolding left_in
    left-open = λ j. front_held old ++ ((if more j then [] else flat (slice_range (leaves f root) p q)) ++ back_held old)

    back-is : old.has_back ≡ true → q ≡ leaf_place f root old.back_spot
    back-is has = λ j. if has j then leaf_place f root old.back_spot else leaf_count f root

    no-back-is : old.has_back ≡ false → q ≡ leaf_count f root
    no-back-is none = λ j. if none j then leaf_place f root old.back_spot else leaf_count f root

    front-is : old.has_front ≡ true → p ≡ suc (leaf_place f root old.spot)
    front-is has = λ j. if has j then suc (leaf_place f root old.spot) else 0

    no-front-is : old.has_front ≡ false → p ≡ 0
    no-front-is none = λ j. if none j then suc (leaf_place f root old.spot) else 0

    -- what is left, that it stays a range, and that an end has entries in its leaf
    pub record Beside (held : Ends K X → List (K × X)) (new : Ends K X) : Type 0 where
      pub left : left_in f (Some root) new ≡ left_in f (Some root) old
      pub range : IsRange f (Some root) new
      pub some : new.is_one ≡ false → held new ≢ []

    module _ {spot : Spot} (on : IsSpotAt f root spot p) where
      -- the front goes to the leaf behind its own, which is not the back's
      module _ {number : ℕ} (leaf : IsLeafAt f root p number) (apart : old.has_back ≡ true → old.back_spot.code ≢ spot.code) where
        low : p < q
        low = elim (cases_lt p q) [ inl l ↦ l | inr ge ↦ absurd (go old.has_back refl ge) ]
          where
            go : (b : Bool) → old.has_back ≡ b → q ≤ p → ⊥
            go true has ge = apart has (one-code (gap.back has) on (omega (arith, back-is has, gap.ordered, ge)))
            go false none ge = omega (arith, no-back-is none, leaf-low leaf, ge)

        module _ {new : Ends K X} (keys : new.keys.now ≡ entry_keys leaf.entries) (vals : new.vals.now ≡ entry_items leaf.entries)
            (is : new ≡ record old { keys = new.keys; vals = new.vals; index = 0; spot = spot; has_front = true }) where
          abbrev there : Ends K X
          there = record old { keys = new.keys; vals = new.vals; index = 0; spot = spot; has_front = true }

          held-is : front_held there ≡ leaf.entries
          held-is = (λ j. pairs (keys j) (vals j)) ∙ pairs-all leaf.entries

          place : leaf_place f root spot ≡ p
          place = place-is on

          -- the leaf, and those behind it
          opened : leaf.entries ++ flat (slice_range (leaves f root) (suc (leaf_place f root spot)) q) ≡ flat (slice_range (leaves f root) p q)
          opened = ap (λ z. leaf.entries ++ flat (slice_range (leaves f root) (suc z) q)) place ∙ sym (ap (λ z. flat z) (range-first (leaves f root) p q (node number leaf.entries) low (leaf-read leaf)))

          pub entered-next : front_held old ≡ [] → Beside front_held new
          unfolding left_in
          entered-next taken = subst (λ z. Beside front_held z) (sym is) (record {
            left = (λ j. held-is j ++ ((if more j then [] else flat (slice_range (leaves f root) (suc (leaf_place f root spot)) q)) ++ back_held old))
                ∙ sym (append_assoc leaf.entries (flat (slice_range (leaves f root) (suc (leaf_place f root spot)) q)) (back_held old))
                ∙ ap (λ z. z ++ back_held old) opened ∙ sym (left-open ∙ ap (λ z. z ++ (flat (slice_range (leaves f root) p q) ++ back_held old)) taken);
            range = record {
              paired = omega (arith, ap length keys, ap length vals, length-map leaf.entries (λ e. e.0), length-map leaf.entries (λ e. e.1));
              back_paired = r.back_paired;
              one = λ one. absurd (false≢true (sym more ∙ one));
              between = λ _. (root, refl, record { root_is = gap.root_is; front = λ _. subst (λ z. IsSpotAt f root spot z) (sym place) on; back = gap.back; ordered = omega (arith, low, place) });
            };
            some = λ _ none. omega (arith, leaf.some, ap length (sym held-is ∙ none));
          })

      -- the leaf behind the front's is the back's
      pub closed-next : old.has_back ≡ true → old.back_spot.code ≡ spot.code → flat (slice_range (leaves f root) p q) ≡ []
      closed-next has same = ap (λ z. flat z) (range-none (leaves f root) p q (omega (arith, back-is has, leaf-same (gap.back has) on same)))

    -- no leaf is behind the front's
    pub closed-end : p ≡ leaf_count f root → flat (slice_range (leaves f root) p q) ≡ []
    closed-end last = ap (λ z. flat z) (range-past (leaves f root) p q last)

    -- no leaf is before the back's
    pub closed-start : q ≡ 0 → flat (slice_range (leaves f root) p q) ≡ []
    closed-start first = ap (λ z. flat z) (range-none (leaves f root) p q (omega (arith, first)))

    module _ (closed : flat (slice_range (leaves f root) p q) ≡ []) where
      -- the front goes to the back's leaf
      pub met-front : front_held old ≡ [] → {new : Ends K X} → new.keys.now ≡ old.back_keys.now → new.vals.now ≡ old.back_vals.now → new.back_keys.now ≡ [] → new.index ≡ 0 → new.is_one ≡ true → Beside front_held new
      unfolding left_in
      met-front taken {new} keys vals none index one = record {
        left = (λ j. drop (index j) (pairs (keys j) (vals j)) ++ ((if one j then [] else flat (slice_range (leaves f root) (leaf_behind f root new) (back_leaf f root new))) ++ pairs (none j) new.back_vals.now))
            ∙ append-nil (back_held old) ∙ sym (left-open ∙ (λ j. taken j ++ (closed j ++ back_held old)));
        range = record {
          paired = omega (arith, ap length keys, ap length vals, r.back_paired);
          back_paired = omega (arith, ap length none);
          one = λ _. none;
          between = λ other. absurd (false≢true (sym other ∙ one));
        };
        some = λ other. absurd (false≢true (sym other ∙ one));
      }

      -- the front's leaf has all
      pub met-back : back_held old ≡ [] → Beside back_held (record old { is_one = true })
      unfolding left_in
      met-back taken = record {
        left = sym (left-open ∙ (λ j. front_held old ++ (closed j ++ back_held old)));
        range = record {
          paired = r.paired;
          back_paired = r.back_paired;
          one = λ _. pairs-none old.back_keys.now old.back_vals.now r.back_paired taken;
          between = λ other. absurd (false≢true (sym other));
        };
        some = λ other. absurd (false≢true (sym other));
      }

    -- the back goes to the leaf before its own, which is not the front's
    module _ {spot : Spot} (some : 0 < q) (on : IsSpotAt f root spot (q - 1)) where
      pub closed-prev : old.has_front ≡ true → old.spot.code ≡ spot.code → flat (slice_range (leaves f root) p q) ≡ []
      closed-prev has same = ap (λ z. flat z) (range-none (leaves f root) p q (omega (arith, some, front-is has, leaf-same (gap.front has) on same)))

      module _ {number : ℕ} (leaf : IsLeafAt f root (q - 1) number) (apart : old.has_front ≡ true → old.spot.code ≢ spot.code) where
        high : p ≤ q - 1
        high = elim (cases_lt (q - 1) p) [ inl l ↦ absurd (go old.has_front refl l) | inr le ↦ le ]
          where
            go : (b : Bool) → old.has_front ≡ b → q - 1 < p → ⊥
            go true has l = apart has (one-code (gap.front has) on (omega (arith, some, front-is has, gap.ordered, l)))
            go false none l = omega (arith, no-front-is none, l)

        module _ {new : Ends K X} (keys : new.back_keys.now ≡ entry_keys leaf.entries) (vals : new.back_vals.now ≡ entry_items leaf.entries)
            (is : new ≡ record old { back_keys = new.back_keys; back_vals = new.back_vals; back_spot = spot; has_back = true }) where
          abbrev back-there : Ends K X
          back-there = record old { back_keys = new.back_keys; back_vals = new.back_vals; back_spot = spot; has_back = true }

          back-held-is : back_held back-there ≡ leaf.entries
          back-held-is = (λ j. pairs (keys j) (vals j)) ∙ pairs-all leaf.entries

          back-place : leaf_place f root spot ≡ q - 1
          back-place = place-is on

          back-opened : flat (slice_range (leaves f root) p (leaf_place f root spot)) ++ leaf.entries ≡ flat (slice_range (leaves f root) p q)
          back-opened =
              let one = node number leaf.entries ∷ [] in
              let next : suc (q - 1) ≡ q = omega (arith, some) in
              ap (λ z. flat (slice_range (leaves f root) p z) ++ leaf.entries) back-place ∙ ap (λ z. flat (slice_range (leaves f root) p (q - 1)) ++ z) (sym (append-nil leaf.entries))
              ∙ sym (flat-append (slice_range (leaves f root) p (q - 1)) one) ∙ ap (λ z. flat z) (sym (range-last (leaves f root) p (q - 1) (node number leaf.entries) high (leaf-read leaf)))
              ∙ ap (λ z. flat (slice_range (leaves f root) p z)) next

          pub entered-prev : back_held old ≡ [] → Beside back_held new
          unfolding left_in
          entered-prev taken = subst (λ z. Beside back_held z) (sym is) (record {
            left = (λ j. front_held old ++ ((if more j then [] else flat (slice_range (leaves f root) p (leaf_place f root spot))) ++ back-held-is j))
                ∙ ap (λ z. front_held old ++ z) (back-opened ∙ sym (append-nil (flat (slice_range (leaves f root) p q))))
                ∙ sym (left-open ∙ ap (λ z. front_held old ++ (flat (slice_range (leaves f root) p q) ++ z)) taken);
            range = record {
              paired = r.paired;
              back_paired = omega (arith, ap length keys, ap length vals, length-map leaf.entries (λ e. e.0), length-map leaf.entries (λ e. e.1));
              one = λ one. absurd (false≢true (sym more ∙ one));
              between = λ _. (root, refl, record { root_is = gap.root_is; front = gap.front; back = λ _. subst (λ z. IsSpotAt f root spot z) (sym back-place) on; ordered = omega (arith, high, back-place) });
            };
            some = λ _ none. omega (arith, leaf.some, ap length (sym back-held-is ∙ none));
          })
