-- What the loop of `shift` keeps, and its answer as a change of a forest.
use Rattle.bforest_trees.proofs.Changed.{becomes, list-root, sizes-new, sizes-root}
use Rattle.bforest_trees.proofs.Cutting.{becomes-same, changes-none}
use Rattle.bforest_trees.proofs.Following.{changes-both}
use Rattle.bforest_trees.proofs.Reading.{left-at}
use Rattle.bforest_trees.specs.Calls.{Shifts}
use Rattle.bforest_trees.specs.Forest.{Forest}
use Rattle.bforest_trees.specs.Layout.{entries_from}
use Rattle.bforest_trees.specs.Shift.{MayRekey, Rekeys, ShiftedUnder, StepShifted}
use Rattle.bforest_core.proofs.table.Lists.{drop-read, read_none}
use Rattle.bforest_core.proofs.union.Rekeying.{rekeyed-at}
use Rattle.bforest_core.proofs.walks.Backward.{at_end, at_entry}
use Rattle.bforest_core.proofs.walks.Standing.{at-on, on-within}
use Rattle.bforest_core.specs.Change.{Changes}
use Rattle.bforest_core.specs.Paths.{StandsAt, StandsOn, list_under, sizes_under}
use Rattle.bforest_core.specs.Table.{Table, slot_count}
use Rattle.bforest_core.specs.Trees.{IsUnion, is_root, tree_of}
use Rattle.bforest_core.specs.declared.path.Path.{Path}
use Rattle.bforest_nodes.proofs.Seams.{seam_is}
use Rattle.bforest_nodes.specs.Entries.{rekeyed}
use Rattle.std.proofs.Common.{IsTrue, List, None, Some, [], ap, inl, inr, zero, append-nil, append_assoc, arith, drop, length, refl, slice_get, subst, suc, sym, take, take-append-drop, ◌++◌, ◌<◌, ◌∙◌, ◌∷◌, ◌≡◌, ◌≤◌, ℕ}
use Rattle.std.proofs.Math.Seq.{drop-append_seam, take-append_seam}
use Rattle.std.proofs.lemmas.Bool.Decides.{eqb_tells}
use Rattle.std.proofs.lemmas.List.{length-append, length-take-le, nil_from_length}
use Rattle.std.proofs.lemmas.Option.{slice_get_within}

module _ {K X : Type 0} (calls : K → K → Type 0) where
  -- one entry more
  rekeys-more : (es fs : List (K × X)) (e : K × X) (k : K) → Rekeys calls es fs → calls e.0 k → Rekeys calls (es ++ e ∷ []) (fs ++ (k, e.1) ∷ [])
  rekeys-more [] [] e k r c = (c, refl, refl)
  rekeys-more [] (f ∷ fs) e k r c = absurd cc
  rekeys-more (d ∷ es) [] e k r c = absurd r
  rekeys-more (d ∷ es) (f ∷ fs) e k r c = (r.0, r.1, rekeys-more es fs e k r.2 c)

  rekeys-length : (es fs : List (K × X)) → Rekeys calls es fs → length fs ≡ length es
  rekeys-length [] fs r = ap length r
  rekeys-length (e ∷ es) [] r = absurd r
  rekeys-length (e ∷ es) (f ∷ fs) r = ap suc (rekeys-length es fs r.2)

  -- of the list under a root, the entries in front of `first` stay, those from there up to the path have new keys, and the others are left
  pub record Shifting (most : ℕ) (old now : Table K X) (root first : ℕ) (path : Path K X most) : Type 0 where
    pub front : List (K × X)
    pub done : List (K × X)
    pub moved : List (K × X)
    pub rest : List (K × X)
    pub was : list_under old root ≡ front ++ (done ++ rest)
    pub is : list_under now root ≡ (front ++ moved) ++ rest
    pub first_is : first ≡ length front
    pub rekeys : Rekeys calls done moved
    pub at : StandsAt now root path (length (front ++ moved))
    pub changes : Changes most old now root root (list_under now root) (sizes_under old root)
    pub slots : slot_count now ≡ slot_count old
    pub chain : now.chain ≡ old.chain
    pub memory : now.memory ≡ old.memory

-- the place of a path is at most the length of the list
at_low : {K X : Type 0} {n : ℕ} (t : Table K X) (root : ℕ) (path : Path K X n) (place : ℕ) → StandsAt t root path place → place ≤ length (list_under t root)
at_low t root path place s = elim (eqb_tells path.size 0) [
  | inl w ↦ omega (arith, at_end path.node path.entry (tree_of t.nodes root) place path.size w.1 s.at)
  | inr w ↦ omega (arith, on-within t path (record { root_is = s.root_is; stands = at_entry path.node path.entry (tree_of t.nodes root) place path.size w.1 s.at }))
]

module _ {K X : Type 0} {calls : K → K → Type 0} {most : ℕ} {old : Table K X} {root first : ℕ} where
  -- before the first step no entry has a new key
  pub shifting-first : {path : Path K X most} → IsUnion most old → StandsAt old root path first → Shifting calls most old old root first path
  shifting-first {path} union at = let es = list_under old root in let low = at_low old root path first at in let len : length (take first es ++ []) ≡ first = omega (arith, length-append (take first es) [], length-take-le first es low) in record {
    front = take first es;
    done = [];
    moved = [];
    rest = drop first es;
    was = sym (take-append-drop first es);
    is = sym (take-append-drop first es) ∙ ap (λ z. z ++ drop first es) (sym (append-nil (take first es)));
    first_is = omega (arith, length-take-le first es low);
    rekeys = refl;
    at = subst (StandsAt old root path) (sym len) at;
    changes = changes-none most old root union at.root_is;
    slots = refl;
    chain = refl;
    memory = refl;
  }

  module _ {now : Table K X} {path : Path K X most} (s : Shifting calls most old now root first path) where
    abbrev pub place_of : ℕ
    place_of = length (s.front ++ s.moved)

    -- after the last step the entries from `first` on have new keys
    pub shifting-last : None ≡ slice_get (list_under now root) place_of → ShiftedUnder calls most old now root first
    shifting-last e =
        let past = read_none (list_under now root) place_of e in
        let none : s.rest ≡ [] = nil_from_length s.rest (omega (arith, past, ap length s.is, length-append (s.front ++ s.moved) s.rest)) in
        let was : list_under old root ≡ s.front ++ s.done = s.was ∙ ap (λ z. s.front ++ (s.done ++ z)) none ∙ ap (λ z. s.front ++ z) (append-nil s.done) in
        let is : list_under now root ≡ s.front ++ s.moved = s.is ∙ ap (λ z. (s.front ++ s.moved) ++ z) none ∙ append-nil (s.front ++ s.moved) in
        let taken : take first (list_under old root) ≡ s.front = ap (take first) was ∙ ap (λ z. take z (s.front ++ s.done)) s.first_is ∙ take-append_seam s.front s.done in
        let dropped : drop first (list_under old root) ≡ s.done = ap (drop first) was ∙ ap (λ z. drop z (s.front ++ s.done)) s.first_is ∙ drop-append_seam s.front s.done in
        record {
          moved = s.moved;
          rekeys = subst (λ z. Rekeys calls z s.moved) (sym dropped) s.rekeys;
          changes = subst (λ z. Changes most old now root root z (sizes_under old root)) (is ∙ ap (λ z. z ++ s.moved) (sym taken)) s.changes;
          slots = s.slots;
          chain = s.chain;
          memory = s.memory;
        }

    -- the number of entries that are left
    pub shifting-left : length (entries_from now path) ≡ length s.rest
    shifting-left = ap length (left-at now root path place_of s.changes.union s.at) ∙ ap (λ z. length (drop place_of z)) s.is ∙ ap length (drop-append_seam (s.front ++ s.moved) s.rest)

    module _ {k : K} {v : X} (here : Some (k, v) ≡ slice_get (list_under now root) place_of) where
      -- the path stands on the entry at its place
      pub shifting-stands : StandsOn now root path place_of
      shifting-stands = at-on now path s.at (slice_get_within (list_under now root) place_of (k, v) (sym here))

      left_is : s.rest ≡ (k, v) ∷ drop (suc place_of) (list_under now root)
      left_is = sym (drop-append_seam (s.front ++ s.moved) s.rest) ∙ ap (drop place_of) (sym s.is) ∙ drop-read (list_under now root) place_of (k, v) (sym here)

      -- the entry had its key before the first step
      was-here : slice_get (list_under old root) (length (s.front ++ s.done)) ≡ Some (k, v)
      was-here = let more = drop (suc place_of) (list_under now root) in
          ap (λ z. slice_get z (length (s.front ++ s.done))) (s.was ∙ sym (append_assoc s.front s.done s.rest) ∙ ap (λ z. (s.front ++ s.done) ++ z) left_is) ∙ seam_is (s.front ++ s.done) (k, v) more

      -- a call may be made with its key
      pub shifting-may : (may : K → Type 0) → MayRekey may first (list_under old root) → may k
      shifting-may may asks = asks (length (s.front ++ s.done)) (k, v) (omega (arith, s.first_is, length-append s.front s.done)) was-here

      -- the next entry gets its key
      pub shifting-next : {new : Table K X} {path' : Path K X most} (key : K) → calls k key → StepShifted most now new root path' place_of key →
          (n : Shifting calls most old new root first path') × (length n.rest < length s.rest)
      shifting-next {new} {path'} key called t =
          let more = drop (suc place_of) (list_under now root) in
          let is_now : list_under now root ≡ (s.front ++ s.moved) ++ (k, v) ∷ more = s.is ∙ ap (λ z. (s.front ++ s.moved) ++ z) left_is in
          let list : list_under new root ≡ (s.front ++ (s.moved ++ (key, v) ∷ [])) ++ more =
          t.changes.list_is ∙ ap (λ z. rekeyed z place_of key) is_now ∙ rekeyed-at (s.front ++ s.moved) (k, v) more key
          ∙ sym (append_assoc (s.front ++ s.moved) ((key, v) ∷ []) more) ∙ ap (λ z. z ++ more) (append_assoc s.front s.moved ((key, v) ∷ [])) in
          let far : suc place_of ≡ length (s.front ++ (s.moved ++ (key, v) ∷ [])) =
          omega (arith, length-append s.front s.moved, length-append s.front (s.moved ++ (key, v) ∷ []), length-append s.moved ((key, v) ∷ [])) in (
            record {
              front = s.front;
              done = s.done ++ (k, v) ∷ [];
              moved = s.moved ++ (key, v) ∷ [];
              rest = more;
              was = s.was ∙ ap (λ z. s.front ++ (s.done ++ z)) left_is ∙ ap (λ z. s.front ++ z) (sym (append_assoc s.done ((k, v) ∷ []) more));
              is = list;
              first_is = s.first_is;
              rekeys = rekeys-more calls s.done s.moved (k, v) key s.rekeys called;
              at = subst (StandsAt new root path') far t.at;
              changes = changes-both most old now new root root root (list_under now root) (list_under new root) (sizes_under old root) (sizes_under old root) s.changes
                  (subst (λ z. Changes most now new root root (list_under new root) z) s.changes.sizes_are
                  (subst (λ z. Changes most now new root root z (sizes_under now root)) (sym t.changes.list_is) t.changes));
              slots = t.slots ∙ s.slots;
              chain = t.chain ∙ s.chain;
              memory = t.memory ∙ s.memory;
            },
            omega (arith, ap length left_is),
          )

  -- a shift at a handle, as one record
  pub shifts : {new : Table K X} → IsTrue (is_root old.nodes root) → ShiftedUnder calls most old new root first → Shifts calls first old (Some root) new
  shifts {new} is u = record {
    moved = u.moved;
    rekeys = rw (list-root old root is) u.rekeys;
    shifted = rw (list-root old root is) (becomes most old new root root _ _ u.changes);
    sizes = sizes-new most old new root root _ _ u.changes ∙ sym (sizes-root old root is);
    slots = u.slots;
    free = ap length u.chain;
    memory = u.memory;
  }

-- a shift of the empty list
pub shifts-none : {K X : Type 0} {calls : K → K → Type 0} (f : Forest K X) (place : ℕ) → Shifts calls place f None f
shifts-none f zero = record { moved = []; rekeys = refl; shifted = becomes-same f None tt; sizes = refl; slots = refl; free = refl; memory = refl }
shifts-none f (suc place) = record { moved = []; rekeys = refl; shifted = becomes-same f None tt; sizes = refl; slots = refl; free = refl; memory = refl }
