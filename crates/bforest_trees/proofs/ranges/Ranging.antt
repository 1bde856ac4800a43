-- Keys and values side by side, what a range holds of a leaf, and steps of either end.
use Rattle.bforest_trees.specs.Forest.{Forest}
use Rattle.bforest_trees.specs.Range.{IsRange, back_held, back_leaf, front_held, leaf_behind, left_between, left_in, pairs, root_in}
use Rattle.bforest_trees.specs.declared.trees.range.Ends.{Ends}
use Rattle.bforest_core.proofs.table.Lists.{drop-read}
use Rattle.bforest_core.specs.Levels.{flat}
use Rattle.bforest_core.specs.Place.{entry_items, entry_keys}
use Rattle.bforest_core.specs.Trees.{tree_of}
use Rattle.bforest_nodes.proofs.Seams.{last_taken}
use Rattle.std.proofs.Common.{Bool, List, None, Option, Some, [], ap, append-nil, append_assoc, arith, drop, false, if◌then◌else◌, length, refl, slice_get, slice_index_or, slice_range, subst, suc, sym, take, true, zero, ◌+◌, ◌++◌, ◌-◌, ◌<◌, ◌∙◌, ◌∷◌, ◌≡◌, ◌≢◌, ◌≤◌, ℕ}
use Rattle.std.proofs.Math.Seq.{drop-length}
use Rattle.std.proofs.lemmas.Bool.{false≢true}
use Rattle.std.proofs.lemmas.List.{drop-append-le, length-map, length-take}
use Rattle.std.specs.Iterator.{YieldsFirst, YieldsLast}
use Rattle.std.specs.Option.{is_some}

module _ {A : Type 0} where
  -- a slice that is not empty begins with the element at its start
  pub range-first : (xs : List A) (i j : ℕ) (x : A) → i < j → slice_get xs i ≡ Some x → slice_range xs i j ≡ x ∷ slice_range xs (suc i) j
  range-first xs i j x low e = let n : j - i ≡ suc (j - suc i) = omega (arith, low) in (λ k. take (n k) (drop-read xs i x e k))

  get-drop : (xs : List A) (i k : ℕ) → slice_get (drop i xs) k ≡ slice_get xs (i + k)
  get-drop xs zero k = let n : k ≡ 0 + k = omega arith in ap (λ m. slice_get xs m) n
  get-drop [] (suc i) k = refl
  get-drop (y ∷ xs) (suc i) k = let n : suc (i + k) ≡ suc i + k = omega arith in get-drop xs i k ∙ ap (λ m. slice_get (y ∷ xs) m) n

  -- a slice that is not empty ends with the element before its end
  pub range-last : (xs : List A) (i j : ℕ) (x : A) → i ≤ j → slice_get xs j ≡ Some x → slice_range xs i (suc j) ≡ slice_range xs i j ++ x ∷ []
  range-last xs i j x low e =
      let n : suc j - i ≡ suc (j - i) = omega (arith, low) in
      let m : i + (j - i) ≡ j = omega (arith, low) in
      ap (λ k. take k (drop i xs)) n ∙ last_taken (drop i xs) (j - i) x (get-drop xs i (j - i) ∙ ap (λ k. slice_get xs k) m ∙ e)

  pub range-none : (xs : List A) (i j : ℕ) → j ≤ i → slice_range xs i j ≡ []
  range-none xs i j low = let n : j - i ≡ 0 = omega (arith, low) in ap (λ k. take k (drop i xs)) n

  pub no-part : (n : ℕ) → take {A = A} n [] ≡ []
  no-part zero = refl
  no-part (suc n) = refl

  pub range-past : (xs : List A) (i j : ℕ) → i ≡ length xs → slice_range xs i j ≡ []
  range-past xs i j is = ap (λ z. take (j - i) z) (ap (λ z. drop z xs) is ∙ drop-length xs) ∙ no-part (j - i)

module _ {K X : Type 0} where
  pub pairs-past : (ks : List K) (vs : List X) (i : ℕ) → length ks ≤ i → drop i (pairs ks vs) ≡ []
  pairs-past [] vs zero low = refl
  pairs-past [] vs (suc i) low = refl
  pairs-past (k ∷ ks) vs zero low = absurd (omega (arith, low))
  pairs-past (k ∷ ks) [] (suc i) low = refl
  pairs-past (k ∷ ks) (v ∷ vs) (suc i) low = pairs-past ks vs i (omega (arith, low))

  -- the entry at an index, and those behind it
  pairs-first : (ks : List K) (vs : List X) (i : ℕ) (k : K) (v : X) → i < length ks → length ks ≤ length vs
      → drop i (pairs ks vs) ≡ (slice_index_or ks i k, slice_index_or vs i v) ∷ drop (suc i) (pairs ks vs)
  pairs-first [] vs i k v low paired = absurd (omega (arith, low))
  pairs-first (x ∷ ks) [] i k v low paired = absurd (omega (arith, paired))
  pairs-first (x ∷ ks) (y ∷ vs) zero k v low paired = refl
  pairs-first (x ∷ ks) (y ∷ vs) (suc i) k v low paired = pairs-first ks vs i k v (omega (arith, low)) (omega (arith, paired))

  pub pairs-next : (ks : List K) (vs : List X) (i : ℕ) (k : K) (v : X) → i < length ks → length ks ≤ length vs → (n : ℕ) → n ≡ suc i
      → drop i (pairs ks vs) ≡ (slice_index_or ks i k, slice_index_or vs i v) ∷ drop n (pairs ks vs)
  pairs-next ks vs i k v low paired n is = pairs-first ks vs i k v low paired ∙ ap (λ z. (slice_index_or ks i k, slice_index_or vs i v) ∷ drop z (pairs ks vs)) (sym is)

  -- those in front of the last, and the last
  pub pairs-last : (ks : List K) (vs : List X) (n : ℕ) (k : K) (v : X) → length ks ≡ suc n → length ks ≤ length vs
      → pairs ks vs ≡ pairs (take n ks) vs ++ (slice_index_or ks n k, slice_index_or vs n v) ∷ []
  pairs-last [] vs n k v is paired = absurd (omega (arith, is))
  pairs-last (x ∷ ks) [] n k v is paired = absurd (omega (arith, paired))
  pairs-last (x ∷ []) (y ∷ vs) zero k v is paired = refl
  pairs-last (x ∷ z ∷ ks) (y ∷ vs) zero k v is paired = absurd (omega (arith, is))
  pairs-last (x ∷ ks) (y ∷ vs) (suc n) k v is paired = ap (λ l. (x, y) ∷ l) (pairs-last ks vs n k v (omega (arith, is)) (omega (arith, paired)))

  pub pairs-count : (ks : List K) (vs : List X) → length ks ≤ length vs → length (pairs ks vs) ≡ length ks
  pairs-count [] vs low = refl
  pairs-count (k ∷ ks) [] low = absurd (omega (arith, low))
  pairs-count (k ∷ ks) (v ∷ vs) low = ap suc (pairs-count ks vs (omega (arith, low)))

  pub pairs-none : (ks : List K) (vs : List X) → length ks ≤ length vs → pairs ks vs ≡ [] → ks ≡ []
  pairs-none [] vs low none = refl
  pairs-none (k ∷ ks) [] low none = absurd (omega (arith, low))
  pairs-none (k ∷ ks) (v ∷ vs) low none = absurd (cc)

  -- the keys and the values of entries, or of the first of them
  pub pairs-all : (es : List (K × X)) → pairs (entry_keys es) (entry_items es) ≡ es
  pairs-all [] = refl
  pairs-all (e ∷ es) = ap (λ l. e ∷ l) (pairs-all es)

  pub pairs-take : (es : List (K × X)) (n : ℕ) → pairs (take n (entry_keys es)) (entry_items es) ≡ take n es
  pairs-take [] zero = refl
  pairs-take [] (suc n) = refl
  pairs-take (e ∷ es) zero = refl
  pairs-take (e ∷ es) (suc n) = ap (λ l. e ∷ l) (pairs-take es n)

  -- the keys of entries, cut
  pub cut-count : (es : List (K × X)) (n : ℕ) → n ≤ length es → {ks : List K} → ks ≡ entry_keys es → n ≡ length (take n ks)
  cut-count es n low {ks} is = omega (arith, low, length-take n ks, ap length is, length-map es (λ e. e.0))

  -- the last entry from an index on
  pub pairs-last-from : (ks : List K) (vs : List X) (i : ℕ) (k : K) (v : X) → i < length ks → length ks ≤ length vs
      → drop i (pairs ks vs) ≡ drop i (pairs (take (length ks - 1) ks) vs) ++ (slice_index_or ks (length ks - 1) k, slice_index_or vs (length ks - 1) v) ∷ []
  pairs-last-from ks vs i k v low paired =
      let n = length ks - 1 in
      let front = pairs (take n ks) vs in
      let count : length (take n ks) ≡ n = length-take n ks ∙ omega (arith, low) in
      ap (drop i) (pairs-last ks vs n k v (omega (arith, low)) paired)
      ∙ drop-append-le i front ((slice_index_or ks n k, slice_index_or vs n v) ∷ []) (omega (arith, low, paired, count, pairs-count (take n ks) vs (omega (arith, low, paired, count))))

-- what is asked of a step: what it says of the range, and that it stays one
module _ {K X : Type 0} (f : Forest K X) (h : Option ℕ) where
  pub record StepsFirst (old : Ends K X) (o : Option (K × X)) (new : Ends K X) : Type 0 where
    pub steps : YieldsFirst (left_in f h) old o new
    pub range : IsRange f h new

  pub record StepsLast (old : Ends K X) (o : Option (K × X)) (new : Ends K X) : Type 0 where
    pub steps : YieldsLast (left_in f h) old o new
    pub range : IsRange f h new

  -- what is left stays, and an end has nothing in its leaf any more
  pub record Passed (held : Ends K X → List (K × X)) (old new : Ends K X) : Type 0 where
    pub left : left_in f h new ≡ left_in f h old
    pub none : held new ≡ []
    pub range : IsRange f h new
    pub one : new.is_one ≡ old.is_one

  -- a step after what is left stayed
  pub first-after : {old mid : Ends K X} → left_in f h mid ≡ left_in f h old → (o : Option (K × X)) → {new : Ends K X} → StepsFirst mid o new → StepsFirst old o new
  first-after same None s = record { steps = (sym same ∙ s.steps.0, s.steps.1); range = s.range }
  first-after same (Some x) s = record { steps = sym same ∙ s.steps; range = s.range }

  pub last-after : {old mid : Ends K X} → left_in f h mid ≡ left_in f h old → (o : Option (K × X)) → {new : Ends K X} → StepsLast mid o new → StepsLast old o new
  last-after same None s = record { steps = (sym same ∙ s.steps.0, s.steps.1); range = s.range }
  last-after same (Some x) s = record { steps = sym same ∙ s.steps; range = s.range }

  module _ {old : Ends K X} (r : IsRange f h old) where
    -- where the front's leaf has all that is left, nothing else is
    rest-none : old.is_one ≡ true → left_between f (root_in h) old ++ back_held old ≡ []
    rest-none one = λ j.
        (if one j then [] else flat (slice_range (tree_of f.nodes (root_in h)).leaves (leaf_behind f (root_in h) old) (back_leaf f (root_in h) old))) ++ pairs (r.one one j) old.back_vals.now

    module _ (new : Ends K X) where
      -- the front moved within its leaf
      module _ (is : new ≡ record old { index = new.index }) where
        abbrev moved : Ends K X
        moved = record old { index = new.index }

        moved-range : IsRange f h moved
        moved-range = record {
          paired = r.paired;
          back_paired = r.back_paired;
          one = r.one;
          between = λ more. let w = r.between more in (w.0, w.1, record { root_is = w.2.root_is; front = w.2.front; back = w.2.back; ordered = w.2.ordered });
        }

        pub first-taken : (o : Option (K × X)) → YieldsFirst front_held old o new → (o ≡ None → old.is_one ≡ true) → StepsFirst old o new
        unfolding left_in
        first-taken o steps ended = subst (λ z. StepsFirst old o z) (sym is) (record { steps = go o (subst (λ z. YieldsFirst front_held old o z) is steps) ended; range = moved-range })
          where
            go : (o : Option (K × X)) → YieldsFirst front_held old o moved → (o ≡ None → old.is_one ≡ true) → YieldsFirst (left_in f h) old o moved
            go None steps ended = let none = rest-none (ended refl) in ((λ j. steps.0 j ++ none j), (λ j. steps.1 j ++ none j))
            go (Some x) steps ended = ap (λ l. l ++ (left_between f (root_in h) old ++ back_held old)) steps

        pub front-passed : YieldsFirst front_held old None new → Passed front_held old new
        unfolding left_in
        front-passed steps = subst (λ z. Passed front_held old z) (sym is) (record {
          left = let here = subst (λ z. YieldsFirst front_held old None z) is steps in ap (λ l. l ++ (left_between f (root_in h) old ++ back_held old)) (here.1 ∙ sym here.0);
          none = (subst (λ z. YieldsFirst front_held old None z) is steps).1;
          range = moved-range;
          one = refl;
        })

      -- the last key of the front's leaf was taken
      module _ (is : new ≡ record old { keys = new.keys }) (fewer : length new.keys.now ≤ length old.keys.now) where
        abbrev cut : Ends K X
        cut = record old { keys = new.keys }

        pub last-taken : (o : Option (K × X)) → YieldsLast front_held old o new → old.is_one ≡ true → StepsLast old o new
        unfolding left_in
        last-taken o steps one = subst (λ z. StepsLast old o z) (sym is) (record {
          steps = go o (subst (λ z. YieldsLast front_held old o z) is steps);
          range = record {
            paired = omega (arith, fewer, r.paired);
            back_paired = r.back_paired;
            one = r.one;
            between = λ more. let w = r.between more in (w.0, w.1, record { root_is = w.2.root_is; front = w.2.front; back = w.2.back; ordered = w.2.ordered });
          };
        })
          where
            whole : (l : List (K × X)) → l ++ (left_between f (root_in h) old ++ back_held old) ≡ l
            whole l = ap (λ z. l ++ z) (rest-none one) ∙ append-nil l

            go : (o : Option (K × X)) → YieldsLast front_held old o cut → YieldsLast (left_in f h) old o cut
            go None steps = (whole (front_held old) ∙ steps.0, whole (front_held cut) ∙ steps.1)
            go (Some x) steps = whole (front_held old) ∙ steps ∙ ap (λ l. l ++ x ∷ []) (sym (whole (front_held cut)))

      -- the last key of the back's leaf was taken, or there was none
      module _ (is : new ≡ record old { back_keys = new.back_keys }) (fewer : length new.back_keys.now ≤ length old.back_keys.now) where
        abbrev back-cut : Ends K X
        back-cut = record old { back_keys = new.back_keys }

        back-none : old.is_one ≡ true → new.back_keys.now ≡ []
        back-none one = no-more new.back_keys.now (omega (arith, fewer, ap length (r.one one)))
          where
            no-more : (ks : List K) → length ks ≤ 0 → ks ≡ []
            no-more [] low = refl
            no-more (k ∷ ks) low = absurd (omega (arith, low))

        back-cut-range : IsRange f h back-cut
        back-cut-range = record {
          paired = r.paired;
          back_paired = omega (arith, fewer, r.back_paired);
          one = back-none;
          between = λ more. let w = r.between more in (w.0, w.1, record { root_is = w.2.root_is; front = w.2.front; back = w.2.back; ordered = w.2.ordered });
        }

        pub back-taken : (x : K × X) → YieldsLast back_held old (Some x) new → StepsLast old (Some x) new
        unfolding left_in
        back-taken x steps = subst (λ z. StepsLast old (Some x) z) (sym is) (record { steps = go (subst (λ z. YieldsLast back_held old (Some x) z) is steps); range = back-cut-range })
          where
            go : YieldsLast back_held old (Some x) back-cut → YieldsLast (left_in f h) old (Some x) back-cut
            go steps = let between = left_between f (root_in h) old in
                ap (λ l. front_held old ++ (between ++ l)) steps ∙ ap (λ l. front_held old ++ l) (sym (append_assoc between (back_held back-cut) (x ∷ [])))
                ∙ sym (append_assoc (front_held old) (between ++ back_held back-cut) (x ∷ []))

        pub back-told : (o : Option (K × X)) (b : Bool) → b ≡ is_some o → b ≡ true → YieldsLast back_held old o new → StepsLast old o new
        back-told None b told tested steps = absurd (let bad : false ≡ true = sym told ∙ tested in cc)
        back-told (Some x) b told tested steps = back-taken x steps

        pub back-passed : YieldsLast back_held old None new → Passed back_held old new
        unfolding left_in
        back-passed steps = subst (λ z. Passed back_held old z) (sym is) (record {
          left = let here = subst (λ z. YieldsLast back_held old None z) is steps in ap (λ l. front_held old ++ (left_between f (root_in h) old ++ l)) (here.1 ∙ sym here.0);
          none = (subst (λ z. YieldsLast back_held old None z) is steps).1;
          range = back-cut-range;
          one = refl;
        })

pub none-told : {A : Type 0} (o : Option A) (b : Bool) → b ≡ is_some o → b ≡ false → o ≡ None
none-told None b is tested = refl
none-told (Some x) b is tested = absurd (let bad : true ≡ false = sym is ∙ tested in cc)

pub some-told : {A : Type 0} (o : Option A) (b : Bool) → b ≡ is_some o → b ≡ true → o ≡ None → ⊥
some-told o b is tested none = let bad : false ≡ true = sym (ap is_some none) ∙ sym is ∙ tested in false≢true bad

-- a step that goes to the leaf beside first
module _ {K X : Type 0} {f : Forest K X} {h : Option ℕ} {root : ℕ} (is : h ≡ Some root) {old mid : Ends K X} where
  module _ {held : Ends K X → List (K × X)} (p : Passed f h held old mid) where
    -- what going there asks
    pub passed-asks : mid.is_one ≡ false → IsRange f (Some root) mid × (mid.is_one ≡ false) × (held mid ≡ [])
    passed-asks more = (subst (λ z. IsRange f z mid) is p.range, more, p.none)

    module _ {beside : Ends K X} (left : left_in f (Some root) beside ≡ left_in f (Some root) mid) (range : IsRange f (Some root) beside) where
      same-left : left_in f h beside ≡ left_in f h old
      same-left = subst (λ z. left_in f z beside ≡ left_in f z mid) (sym is) left ∙ p.left

      beside-range : IsRange f h beside
      beside-range = subst (λ z. IsRange f z beside) (sym is) range

      module _ {new : Ends K X} where
        pub first-beside : (beside.is_one ≡ false → front_held beside ≢ []) → (o : Option (K × X)) → YieldsFirst front_held beside o new → new ≡ record beside { index = new.index } → StepsFirst f h old o new
        first-beside some o steps rest = first-after f h same-left o (first-taken f h beside-range new rest o steps (λ none. one beside.is_one refl (subst (λ z. YieldsFirst front_held beside z new) none steps)))
          where
            one : (b : Bool) → beside.is_one ≡ b → YieldsFirst front_held beside None new → b ≡ true
            one true e s = refl
            one false e s = absurd (some e s.0)

        module _ (rest : new ≡ record beside { back_keys = new.back_keys }) (fewer : length new.back_keys.now ≤ length beside.back_keys.now) where
          pub back-beside : (x : K × X) → YieldsLast back_held beside (Some x) new → StepsLast f h old (Some x) new
          back-beside x steps = last-after f h same-left (Some x) (back-taken f h beside-range new rest fewer x steps)

          -- nothing was in the leaf beside, so the front's has all
          pub last-beside : (beside.is_one ≡ false → back_held beside ≢ []) → YieldsLast back_held beside None new → (o : Option (K × X)) {end : Ends K X} → YieldsLast front_held new o end → end ≡ record new { keys = end.keys } → length end.keys.now ≤ length new.keys.now → StepsLast f h old o end
          last-beside some steps o {end} lasts cut less =
              let q = back-passed f h beside-range new rest fewer steps in
              last-after f h (q.left ∙ same-left) o (last-taken f h q.range end cut less o lasts (q.one ∙ one beside.is_one refl))
            where
              one : (b : Bool) → beside.is_one ≡ b → b ≡ true
              one true e = refl
              one false e = absurd (some e steps.0)
