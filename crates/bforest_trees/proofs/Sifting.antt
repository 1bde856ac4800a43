-- What the loop of `retain` keeps.
use Rattle.bforest_trees.proofs.Sifted.{drop_written, length_written, shrink-fewer, take_written}
use Rattle.bforest_trees.proofs.Cutting.{changes-none, gives-none}
use Rattle.bforest_trees.proofs.Following.{chained-no-root, changes-both, ends-both, gives-both}
use Rattle.bforest_trees.proofs.Reading.{left-at}
use Rattle.bforest_trees.proofs.Answered.{Sifts, retains}
use Rattle.bforest_trees.specs.Layout.{entries_from}
use Rattle.bforest_trees.specs.Retain.{MayAskEach, Retained, RetainedNone, Stepped, SteppedLast}
use Rattle.bforest_core.proofs.table.Lists.{drop-read, drop_remove, length_remove, read_none, take_remove}
use Rattle.bforest_core.proofs.table.Tables.{count-append}
use Rattle.bforest_core.proofs.walks.Standing.{at-on, on-at}
use Rattle.bforest_core.specs.Change.{Changes, GivesNodes}
use Rattle.bforest_core.specs.Paths.{StandsAt, StandsOn, list_under, sizes_under}
use Rattle.bforest_core.specs.Place.{count}
use Rattle.bforest_core.specs.Sizes.{shrink}
use Rattle.bforest_core.specs.Table.{Table}
use Rattle.bforest_core.specs.Trees.{IsUnion, is_root}
use Rattle.bforest_core.specs.declared.path.Path.{Path}
use Rattle.bforest_nodes.proofs.Seams.{slice_get-drop}
use Rattle.bforest_nodes.specs.Entries.{with_value}
use Rattle.std.proofs.Common.{Bool, IsTrue, List, None, Option, Some, [], ap, append-nil, arith, drop, false, if◌then◌else◌, inl, inr, length, refl, remove, slice_get, subst, suc, sym, take, true, ◌++◌, ◌-◌, ◌<◌, ◌∙◌, ◌∷◌, ◌≡◌, ◌≢◌, ◌≤◌, ◌↔◌, ℕ}
use Rattle.std.proofs.lemmas.Bool.Decides.{eqb_tells}
use Rattle.std.proofs.lemmas.Bool.{cases_lt}
use Rattle.std.proofs.lemmas.List.{drop_all, length-drop, take_all}
use Rattle.std.proofs.lemmas.Option.{slice_get_within}

module _ {F K X : Type 0} (most : ℕ) (step : F → K → X → Bool → X → F → Type 0) (may : F → K → X → Type 0) (old : Table K X) (first : ℕ) (f₀ : F) where
  -- the entries in front of the path's place are asked, and the rest is as before
  pub record Sifting (now : Table K X) (root : ℕ) (f : F) (path : Path K X most) : Type 0 where
    pub place : ℕ
    pub changes : Changes most old now first root (list_under now root) (sizes_under now root)
    pub at : StandsAt now root path place
    pub ready : MayAskEach step may f (drop place (list_under now root))
    pub rest : (ks : List (K × X)) (us : List (List ℕ)) → Sifts step most f place (drop place (list_under now root)) (sizes_under now root) ks us → Sifts step most f₀ 0 (list_under old first) (sizes_under old first) (take place (list_under now root) ++ ks) us
    pub gives : GivesNodes (sizes_under old first) (sizes_under now root) old now
    pub fewer : length (sizes_under now root) ≤ length (sizes_under old first)
    pub same : root ≡ first → length (sizes_under now root) ≡ length (sizes_under old first)
    pub gone : root ≢ first → (0 < count first now.chain) × (length (sizes_under now root) < length (sizes_under old first))

module _ {F K X : Type 0} {most : ℕ} {step : F → K → X → Bool → X → F → Type 0} {may : F → K → X → Type 0} {old : Table K X} {first : ℕ} {f₀ : F} where
  -- before the first step no entry is asked
  pub sifting-first : {path : Path K X most} → IsUnion most old → StandsOn old first path 0 → MayAskEach step may f₀ (list_under old first) → Sifting most step may old first f₀ old first f₀ path
  sifting-first {path} union s ready = record {
    place = 0;
    changes = changes-none most old first union s.root_is;
    at = on-at old path s;
    ready = ready;
    rest = λ ks us r. r;
    gives = gives-none old (sizes_under old first);
    fewer = omega arith;
    same = λ e. refl;
    gone = λ ne. absurd (ne refl);
  }

  pub sifting-first-read : {path : Path K X most} (union : IsUnion most old) (s : StandsOn old first path 0) (ready : MayAskEach step may f₀ (list_under old first)) {e : K × X}
      → slice_get (list_under old first) 0 ≡ Some e → Some e ≡ slice_get (list_under old first) (sifting-first union s ready).place
  unfolding sifting-first
  sifting-first-read union s ready is = sym is

  module _ {now : Table K X} {root : ℕ} {f : F} {path : Path K X most} (s : Sifting most step may old first f₀ now root f path) where
    -- after the last step all entries are asked
    pub sifting-last : None ≡ slice_get (list_under now root) s.place → Retained most step old now first root f₀
    sifting-last e =
        let past = read_none (list_under now root) s.place e in
        let none : drop s.place (list_under now root) ≡ [] = drop_all s.place (list_under now root) past in
        let all : take s.place (list_under now root) ++ [] ≡ list_under now root = append-nil (take s.place (list_under now root)) ∙ take_all s.place (list_under now root) past in
        record {
          list = list_under now root;
          sizes = sizes_under now root;
          retains = retains step most f₀ (list_under old first) (sizes_under old first) (list_under now root) (sizes_under now root) (subst (λ (l : List (K × X)). Sifts step most f₀ 0 (list_under old first) (sizes_under old first) l (sizes_under now root)) all
              (s.rest [] (sizes_under now root) (subst (λ (l : List (K × X)). Sifts step most f s.place l (sizes_under now root) [] (sizes_under now root)) (sym none) (refl, refl))));
          changes = s.changes;
          gives = s.gives;
          same_root = (s.same, λ e. elim (eqb_tells root first) [ inl w ↦ w.1 | inr w ↦ absurd (let n = s.gone w.1 in omega (arith, n.1, e)) ]);
        }

    -- the number of entries that are left to be asked
    pub sifting-left : length (entries_from now path) ≡ length (list_under now root) - s.place
    sifting-left = ap length (left-at now root path s.place s.changes.union s.at) ∙ length-drop s.place (list_under now root)

    module _ {k : K} {v : X} (here : Some (k, v) ≡ slice_get (list_under now root) s.place) where
      todo : drop s.place (list_under now root) ≡ (k, v) ∷ drop (suc s.place) (list_under now root)
      todo = drop-read (list_under now root) s.place (k, v) (sym here)

      ready : MayAskEach step may f ((k, v) ∷ drop (suc s.place) (list_under now root))
      ready = subst (MayAskEach step may f) todo s.ready

      -- the predicate may be asked of the entry at the path's place
      pub sifting-may : may f k v
      sifting-may = ready.at [] (drop (suc s.place) (list_under now root)) f k v refl refl

      -- the path stands on the entry at its place
      pub sifting-stands : StandsOn now root path s.place
      sifting-stands = at-on now path s.at (slice_get_within (list_under now root) s.place (k, v) (sym here))

      -- the sifting of the rest after one answer is the sifting of the whole list
      asked_on : (stays : Bool) (w : X) (f' : F) → step f k v stays w f' → (xs' : List (K × X)) (sizes' : List (List ℕ)) (place' : ℕ)
          → place' ≡ (if stays then suc s.place else s.place)
          → sizes' ≡ (if stays then sizes_under now root else shrink most s.place (sizes_under now root))
          → drop place' xs' ≡ drop (suc s.place) (list_under now root)
          → ((ks : List (K × X)) → take place' xs' ++ ks ≡ take s.place (list_under now root) ++ (if stays then (k, w) ∷ ks else ks)) →
          (ks : List (K × X)) (us : List (List ℕ)) → Sifts step most f' place' (drop place' xs') sizes' ks us → Sifts step most f₀ 0 (list_under old first) (sizes_under old first) (take place' xs' ++ ks) us
      asked_on stays w f' t xs' sizes' place' place_is sizes_are same front ks us r =
          let on : Sifts step most f' (if stays then suc s.place else s.place) (drop (suc s.place) (list_under now root)) (if stays then sizes_under now root else shrink most s.place (sizes_under now root)) ks us =
          subst (λ (z : List (List ℕ)). Sifts step most f' (if stays then suc s.place else s.place) (drop (suc s.place) (list_under now root)) z ks us) sizes_are
          (subst (λ (z : ℕ). Sifts step most f' z (drop (suc s.place) (list_under now root)) sizes' ks us) place_is
          (subst (λ (l : List (K × X)). Sifts step most f' place' l sizes' ks us) same r)) in
          subst (λ (l : List (K × X)). Sifts step most f₀ 0 (list_under old first) (sizes_under old first) l us) (sym (front ks))
          (s.rest (if stays then (k, w) ∷ ks else ks) us
          (subst (λ (l : List (K × X)). Sifts step most f s.place l (sizes_under now root) (if stays then (k, w) ∷ ks else ks) us) (sym todo) (stays, w, f', ks, t, on, refl)))

      -- the predicate may be asked of the rest after one answer
      ready_on : (stays : Bool) (w : X) (f' : F) → step f k v stays w f' → (xs : List (K × X)) → xs ≡ drop (suc s.place) (list_under now root) → MayAskEach step may f' xs
      ready_on stays w f' t xs same = record { at = λ before after u q x is r. ready.at ((k, v) ∷ before) after u q x (ap (λ m. (k, v) ∷ m) (sym same ∙ is)) (f', (stays, w, t), r) }

      -- a step that removes the only entry ends the loop with no entry kept
      pub sifting-none : {new : Table K X} {f' : F} → SteppedLast most step now new root f f' (list_under now root) (sizes_under now root) s.place k v → RetainedNone most step old new first f₀
      sifting-none {new} {f'} t =
          let low = slice_get_within (list_under now root) s.place (k, v) (sym here) in
          let zero_is : s.place ≡ 0 = omega (arith, low, t.last) in
          let none : drop (suc s.place) (list_under now root) ≡ [] = drop_all (suc s.place) (list_under now root) (omega (arith, t.last)) in
          let last : Sifts step most f s.place ((k, v) ∷ []) (sizes_under now root) [] [] = (false, t.left, f', [], t.stepped, (refl, sym t.none_left), refl) in
          record {
            retains = retains step most f₀ (list_under old first) (sizes_under old first) [] [] (subst (λ (l : List (K × X)). Sifts step most f₀ 0 (list_under old first) (sizes_under old first) l []) (ap (λ z. take z (list_under now root) ++ []) zero_is)
                (s.rest [] [] (subst (λ (l : List (K × X)). Sifts step most f s.place l (sizes_under now root) [] []) (ap (λ z. (k, v) ∷ z) (sym none) ∙ sym todo) last)));
            ended = ends-both most old now new first root (list_under now root) (sizes_under now root) s.changes t.ended;
            gives = gives-both most old now new (sizes_under old first) (sizes_under now root) [] s.gives (subst (λ (z : List (List ℕ)). GivesNodes (sizes_under now root) z now new) t.none_left t.gives);
          }

      -- the next state of the loop, whatever the predicate answers
      module _ {new : Table K X} {root' : ℕ} {f' : F} {path' : Path K X most} where
        next_at : (stays : Bool) (w : X) → step f k v stays w f' → (place' : ℕ) (es : List (K × X)) (us : List (List ℕ))
            → place' ≡ (if stays then suc s.place else s.place)
            → us ≡ (if stays then sizes_under now root else shrink most s.place (sizes_under now root))
            → length us ≤ length (sizes_under now root) →
            drop place' es ≡ drop (suc s.place) (list_under now root) → ((ks : List (K × X)) → take place' es ++ ks ≡ take s.place (list_under now root) ++ (if stays then (k, w) ∷ ks else ks)) →
            Changes most now new root root' es us → GivesNodes (sizes_under now root) us now new → StandsAt new root' path' place'
            → (root' ≡ root) ↔ (length us ≡ length (sizes_under now root)) → (root' ≢ root → 0 < count root new.chain)
            → length es - place' < length (list_under now root) - s.place → (n : Sifting most step may old first f₀ new root' f' path')
            × (length (list_under new root') - n.place < length (list_under now root) - s.place)
        next_at stays w t place' es us place_is us_is few same front ch gv at level freed less =
            let list_is = ch.list_is in
            let sizes_are = ch.sizes_are in
            let n = ap length sizes_are in
            let on = ap (λ z. count first z) gv.chain_is in
            let more = count-append first gv.given now.chain in (
              record {
                place = place';
                changes = changes-both most old now new first root root' (list_under now root) (list_under new root') (sizes_under now root) (sizes_under new root') s.changes (record {
                  union = ch.union;
                  root_is = ch.root_is;
                  list_is = refl;
                  sizes_are = refl;
                  others = ch.others;
                  old_gone = ch.old_gone;
                  new_came = ch.new_came;
                  limit_is = ch.limit_is;
                });
                at = at;
                ready = ready_on stays w f' t (drop place' (list_under new root')) (ap (λ l. drop place' l) list_is ∙ same);
                rest = asked_on stays w f' t (list_under new root') (sizes_under new root') place' place_is (sizes_are ∙ us_is) (ap (λ l. drop place' l) list_is ∙ same) (λ ks. ap (λ l. take place' l ++ ks) list_is ∙ front ks);
                gives = gives-both most old now new (sizes_under old first) (sizes_under now root) (sizes_under new root') s.gives (subst (λ (z : List (List ℕ)). GivesNodes (sizes_under now root) z now new) (sym sizes_are) gv);
                fewer = omega (arith, n, few, s.fewer);
                same = λ e. elim (eqb_tells root first) [
                  | inl i ↦ (let l = level.0 (e ∙ sym i.1) in let m = s.same i.1 in omega (arith, l, m, n))
                  | inr i ↦ absurd (chained-no-root most new first ch.union (let g = s.gone i.1 in omega (arith, g.0, on, more)) (subst (λ (z : ℕ). IsTrue (is_root new.nodes z)) e ch.root_is))
                ];
                gone = λ ne. elim (eqb_tells root first) [
                  | inl i ↦ (
                      let other : root' ≢ root = λ e. ne (e ∙ i.1) in
                      let less : length us < length (sizes_under now root) = elim (cases_lt (length us) (length (sizes_under now root))) [ inl lt ↦ lt | inr ge ↦ absurd (other (level.1 (omega (arith, ge, few)))) ] in
                      (subst (λ (z : ℕ). 0 < count z new.chain) i.1 (freed other), omega (arith, less, n, s.fewer))
                      )
                  | inr i ↦ (let g = s.gone i.1 in (omega (arith, g.0, on, more), omega (arith, g.1, few, n)))
                ];
              },
              omega (arith, less, ap length list_is),
            )

        module _ (t : Stepped most step now new root root' path' f f' (list_under now root) (sizes_under now root) s.place k v) where
          -- the entries that are left after a step are those behind the one here
          pub sifting-rest : entries_from new path' ≡ drop (suc s.place) (list_under now root)
          sifting-rest = go t.stays t.left t.changes.list_is t.at
            where
              go : (b : Bool) (w : X) → list_under new root' ≡ (if b then with_value (list_under now root) s.place w else remove (list_under now root) s.place)
                  → StandsAt new root' path' (if b then suc s.place else s.place) → entries_from new path' ≡ drop (suc s.place) (list_under now root)
              go true w is at = left-at new root' path' (suc s.place) t.changes.union at ∙ ap (drop (suc s.place)) is ∙ drop_written (list_under now root) s.place w
              go false w is at = left-at new root' path' s.place t.changes.union at ∙ ap (drop s.place) is ∙ drop_remove (list_under now root) s.place (slice_get_within (list_under now root) s.place (k, v) (sym here))

        -- a step at the entry here leads to the next state of the loop
        pub sifting-next : Stepped most step now new root root' path' f f' (list_under now root) (sizes_under now root) s.place k v → (n : Sifting most step may old first f₀ new root' f' path') × (length (list_under new root') - n.place < length (list_under now root) - s.place)
        sifting-next t = go t.stays t.left t.stepped t.changes t.gives t.at t.same_root t.freed_root
          where
            low : s.place < length (list_under now root)
            low = slice_get_within (list_under now root) s.place (k, v) (sym here)

            go : (stays : Bool) (w : X) → step f k v stays w f' → Changes most now new root root' (if stays then with_value (list_under now root) s.place w else remove (list_under now root) s.place) (if stays then sizes_under now root else shrink most s.place (sizes_under now root)) →
                GivesNodes (sizes_under now root) (if stays then sizes_under now root else shrink most s.place (sizes_under now root)) now
                new → StandsAt new root' path' (if stays then suc s.place else s.place)
                → (root' ≡ root) ↔ (length (if stays then sizes_under now root else shrink most s.place (sizes_under now root)) ≡ length
                (sizes_under now root)) → (root' ≢ root → 0 < count root new.chain) → (n : Sifting most step may old first f₀ new root' f' path')
                × (length (list_under new root') - n.place < length (list_under now root) - s.place)
            go true w st ch gv at level freed = next_at true w st (suc s.place) (with_value (list_under now root) s.place w)
                (sizes_under now root) refl refl (omega arith) (drop_written (list_under now root) s.place w)
                (λ ks. take_written (list_under now root) s.place w (k, v) here ks) ch gv at level freed
                (omega (arith, low, length_written (list_under now root) s.place w))
            go false w st ch gv at level freed = next_at false w st s.place (remove (list_under now root) s.place)
                (shrink most s.place (sizes_under now root)) refl refl (shrink-fewer most s.place (sizes_under now root))
                (drop_remove (list_under now root) s.place low)
                (λ ks. take_remove (list_under now root) s.place low ks) ch gv at level freed
                (omega (arith, low, length_remove (list_under now root) s.place low))

        -- the entry behind the one here is at the place of the next state of the loop
        pub sifting-read : (t : Stepped most step now new root root' path' f f' (list_under now root) (sizes_under now root) s.place k v) → {read : Option (K × X)}
            → read ≡ slice_get (list_under now root) (suc s.place) → read ≡ slice_get (list_under new root') (sifting-next t).0.place
        sifting-read t is = let n = (sifting-next t).0 in
            is ∙ sym (slice_get-drop (list_under now root) (suc s.place)) ∙ ap (λ l. slice_get l 0) (sym (sifting-rest t) ∙ left-at new root' path' n.place n.changes.union n.at)
            ∙ slice_get-drop (list_under new root') n.place
