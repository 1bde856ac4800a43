-- What keeping entries by another list answers and leaves, as one record.
use Rattle.bforest_core.specs.Levels.{sizes_of as tree_sizes}
use Rattle.bforest_core.specs.Paths.{list_under}
use Rattle.bforest_core.specs.Trees.{IsUnion, tree_of, is_root}
use Rattle.bforest_nodes.specs.Entries.{IsIncreasing, is_present, value_for}
use Rattle.bforest_trees.proofs.Changed.{list-root, live-empty, seen-as, seen-asks}
use Rattle.bforest_trees.proofs.Cutting.{becomes-same}
use Rattle.bforest_trees.proofs.Retaining.{IsIncreasing-kept, filters, union-kept}
use Rattle.bforest_trees.proofs.unions.Choosing.{kept-all, kept-by, kept-few, kept-none, kept-same, passing-value, present-like, sizes-all, told-answers, absent-all, apart-by, fits-false, fits-true, same-by}
use Rattle.bforest_trees.proofs.unions.Merging.{among-itself}
use Rattle.bforest_trees.proofs.unions.Uniting.{other-stays}
use Rattle.bforest_trees.specs.Calls.{Clears, Filters, KeepsFrom, SameLevels}
use Rattle.bforest_trees.specs.Forest.{Becomes, Forest, Gives, IsLive, list_at, list_of, sizes_at, sizes_of}
use Rattle.bforest_trees.specs.Keep.{Kept, Tells}
use Rattle.bforest_trees.specs.Retain.{Retained, kept_by, sizes_by}
use Rattle.bforest_trees.specs.Union.{AreSearchable, fits, kept_from, kept_of, keeps_all}
use Rattle.std.proofs.Common.{Bool, IfSome, List, None, Option, Some, [], ap, arith, false, if◌then◌else◌, length, not, refl, subst, sym, true, ◌<◌, ◌∙◌, ◌∷◌, ◌≡◌, ◌≢◌, ℕ, IsTrue, nat_eq}
use Rattle.std.specs.Cmp.{IsTotalOrder}
use Rattle.std.specs.declared.cmp.Ordering.{Ordering}

-- a list that is not empty has an entry
some-long : {X : Type 0} (es : List X) → es ≢ [] → 0 < length es
some-long [] some = absurd (some refl)
some-long (e ∷ es) some = omega arith

-- a tree stays or is freed, which is told
pub record Frees {K X : Type 0} (f : Forest K X) (h : Option ℕ) (keeps result : Bool) (f' : Forest K X) (h' : Option ℕ) : Type 0 where
  pub told : result ≡ not keeps
  pub stays : keeps ≡ true → f' ≡ f
  pub same : keeps ≡ true → h' ≡ h
  pub cleared : keeps ≡ false → Clears f h f' h'

module _ {K X : Type 0} (cmp : K → K → Ordering) (present : Bool) (others : List (K × X)) where
  -- what is kept of an increasing list increases
  pub up-kept : (es : List (K × X)) → IsIncreasing cmp es → IsIncreasing cmp (kept_from cmp present es others)
  up-kept es up = subst (IsIncreasing cmp) (kept-by cmp present others es) (IsIncreasing-kept cmp es (kept_of cmp present es others) up)

  -- a key's value in what is kept
  found-kept : IsTotalOrder cmp → (es : List (K × X)) (q : K) → IsIncreasing cmp es → value_for cmp (kept_from cmp present es others) q ≡ (if fits present (is_present cmp others q) then value_for cmp es q else None)
  found-kept o = passing-value cmp o (λ k. fits present (is_present cmp others k)) (λ k q t. ap (fits present) (present-like cmp o others k q t)) up-kept

module _ {K X : Type 0} {most : ℕ} {cmp : K → K → Ordering} (o : IsTotalOrder cmp) (present : Bool) {f : Forest K X} {h other : Option ℕ} (a : AreSearchable cmp f h other) where
  -- the record of a call, from what it leaves
  made : {f' : Forest K X} {h' : Option ℕ} {result : Bool} → Becomes f h f' h' (list_of f' h') → list_of f' h' ≡ kept_from cmp present (list_of f h) (list_of f other)
      → (list_of f' h' ≢ [] → sizes_of f' h' ≡ sizes_by most 0 (kept_of cmp present (list_of f h) (list_of f other)) (sizes_of f h)) → SameLevels f h f' h' → Gives (sizes_of f h) (sizes_of f' h') f f'
      → (result ≡ false → (f' ≡ f) × (h' ≡ h)) → (result ≡ true → length (list_of f' h') < length (list_of f h)) → KeepsFrom most cmp present f h other result f' h'
  made {f'} {h'} {result} b list sizes levels account same fewer = record {
    kept = subst (Becomes f h f' h') list b;
    changed = told result same fewer;
    found = λ q. ap (λ l. value_for cmp l q) list ∙ found-kept cmp present (list_of f other) o (list_of f h) q a.increasing;
    sizes = sizes;
    same_levels = levels;
    account = account;
    increasing = subst (IsIncreasing cmp) (sym list) (up-kept cmp present (list_of f other) (list_of f h) a.increasing);
    fewer = fewer;
    same_forest = λ e. (same e).0;
    same_handle = λ e. (same e).1;
    itself = λ is e. told result same fewer ∙ ap not (subst (λ p. keeps_all cmp p (list_of f h) (list_of f other) ≡ true) (sym is) (own e));
    itself_gone = λ is e. live-empty f' h' b.live (list ∙ kept-none cmp present (list_of f h) (list_of f other) (subst (λ p. keeps_all cmp (not p) (list_of f h) (list_of f other) ≡ true) (sym is) (own e)));
    other_live = λ apart. (other-stays b other a.other_live apart).0;
    other_list = λ apart. (other-stays b other a.other_live apart).1;
    other_sizes = λ apart. (other-stays b other a.other_live apart).2;
  }
    where
      told : (result : Bool) → (result ≡ false → (f' ≡ f) × (h' ≡ h)) → (result ≡ true → length (list_of f' h') < length (list_of f h)) → result ≡ not (keeps_all cmp present (list_of f h) (list_of f other))
      told true same fewer = ap not (sym (kept-few cmp present (list_of f other) (list_of f h) (omega (arith, fewer refl, ap length list))))
      told false same fewer =
          let stays : length (list_of f' h') ≡ length (list_of f h) = λ i. length (list_of ((same refl).0 i) ((same refl).1 i)) in
          ap not (sym (kept-same cmp present (list_of f other) (list_of f h) (sym (ap length list) ∙ stays)))

      -- each key is among its own
      own : other ≡ h → keeps_all cmp true (list_of f h) (list_of f other) ≡ true
      own e = rw e (among-itself cmp o (list_of f h) a.increasing)

  -- nothing is removed
  pub keeps-all : keeps_all cmp present (list_of f h) (list_of f other) ≡ true → KeepsFrom most cmp present f h other false f h
  keeps-all all = made (becomes-same f h a.live) (sym (kept-all cmp present (list_of f other) (list_of f h) all)) (λ some. sym (sizes-all cmp present (list_of f other) most 0 (list_of f h) (sizes_of f h) all))
      (λ e. refl, λ e. refl) (record { slots = refl; free = refl; memory = refl }) (λ e. (refl, refl)) (λ bad. absurd (cc))

  -- all entries are removed
  keeps-none : list_of f h ≢ [] → keeps_all cmp (not present) (list_of f h) (list_of f other) ≡ true → {f' : Forest K X} {h' : Option ℕ} → Clears f h f' h' → KeepsFrom most cmp present f h other true f' h'
  keeps-none some all {f'} {h'} c =
      let gone : list_of f' h' ≡ [] = c.cleared.list in
      let ended : sizes_of f' h' ≡ [] = ap (sizes_of f') c.handle in
      made (subst (Becomes f h f' h') (sym gone) c.cleared) (gone ∙ sym (kept-none cmp present (list_of f h) (list_of f other) all)) (λ live. absurd (live gone)) c.same_levels
      (subst (λ z. Gives (sizes_of f h) z f f') (sym ended) c.account) (λ bad. absurd (cc)) (λ e. omega (arith, some-long (list_of f h) some, ap length gone))

  -- all entries stay or none, where all keys are present or all are absent
  pub keeps-or-frees : {r : ℕ} → h ≡ Some r → (p : Bool) → keeps_all cmp p (list_of f h) (list_of f other) ≡ true → (stays : Bool) → stays ≡ fits present p
      → {f' : Forest K X} {h' : Option ℕ} {result : Bool} → result ≡ not stays → (stays ≡ true → f' ≡ f) → (stays ≡ true → h' ≡ h) → (stays ≡ false → Clears f h f' h') → KeepsFrom most cmp present f h other result f' h'
  keeps-or-frees root p all stays is {f'} {h'} {result} told same same_handle cleared = go p present refl all stays is told same same_handle cleared
    where
      some : list_of f h ≢ []
      some = subst (λ q. IsLive f q → list_of f q ≢ []) (sym root) (λ live. live) a.live

      go : (p q : Bool) → q ≡ present → keeps_all cmp p (list_of f h) (list_of f other) ≡ true → (stays : Bool) → stays ≡ fits q p → result ≡ not stays → (stays ≡ true → f' ≡ f) → (stays ≡ true → h' ≡ h) → (stays ≡ false → Clears f h f' h')
          → KeepsFrom most cmp present f h other result f' h'
      go true true q all true is told same same_handle cleared = rw (told, same refl, same_handle refl) (keeps-all (subst (λ z. keeps_all cmp z (list_of f h) (list_of f other) ≡ true) q all))
      go false false q all true is told same same_handle cleared = rw (told, same refl, same_handle refl) (keeps-all (subst (λ z. keeps_all cmp z (list_of f h) (list_of f other) ≡ true) q all))
      go true false q all false is told same same_handle cleared = rw told (keeps-none some (subst (λ z. keeps_all cmp (not z) (list_of f h) (list_of f other) ≡ true) q all) (cleared refl))
      go false true q all false is told same same_handle cleared = rw told (keeps-none some (subst (λ z. keeps_all cmp (not z) (list_of f h) (list_of f other) ≡ true) q all) (cleared refl))
      go true true q all false is told same same_handle cleared = absurd (cc)
      go false false q all false is told same same_handle cleared = absurd (cc)
      go true false q all true is told same same_handle cleared = absurd (cc)
      go false true q all true is told same same_handle cleared = absurd (cc)

module _ {K X : Type 0} {most : ℕ} {cmp : K → K → Ordering} (o : IsTotalOrder cmp) (present : Bool) {f f' : Forest K X} {r m : ℕ} (a : AreSearchable cmp f (Some r) (Some m)) (list : list_under f r ≡ list_at f r) (sizes : tree_sizes (tree_of f.nodes r) ≡ sizes_at f r)
    (theirs : list_under f m ≡ list_at f m) {left : Option ℕ} {changed : Bool} (k : Kept most f f' r cmp present m left changed) where
  whole : Filters most (Tells cmp present (list_under f m)) f (Some r) tt f' left
  whole = filters (Tells cmp present (list_under f m)) most f f' r tt left list sizes k.kept k.ended

  answers_are : whole.kept.answers ≡ kept_of cmp present (list_at f r) (list_at f m)
  answers_are = told-answers cmp present (list_under f m) tt (list_at f r) whole.kept.answers whole.kept.asked ∙ ap (kept_of cmp present (list_at f r)) theirs

  -- fewer entries are left under the new root
  left-fewer : (left : Option ℕ) → IfSome left (λ r'. Retained most (Tells cmp present (list_under f m)) f f' r r' tt) → IfSome left (λ r'. length (list_under f' r') < length (list_under f r)) → length (list_of f' left) < length (list_at f r)
  left-fewer None kept few = some-long (list_at f r) a.live
  left-fewer (Some r') kept few = omega (arith, few, ap length list, ap length (list-root f' r' kept.changes.root_is))

  -- two paths walked side by side
  pub keeps-walked : KeepsFrom most cmp present f (Some r) (Some m) changed f' left
  keeps-walked = made o present a whole.changed
      (whole.kept.kept_is ∙ ap (kept_by (list_at f r)) answers_are ∙ kept-by cmp present (list_at f m) (list_at f r))
      (λ some. whole.kept.sizes_are ∙ ap (λ z. sizes_by most 0 z (sizes_at f r)) answers_are)
      whole.same_levels whole.account (λ e. (k.same_pool e, k.same_root e)) (λ e. left-fewer left k.kept (k.fewer e))

module _ {K X : Type 0} {cmp : K → K → Ordering} {f : Forest K X} {h other : Option ℕ} (a : AreSearchable cmp f h other) {root : Option ℕ} (here : root ≡ h) where
  -- an empty handle keeps nothing
  pub keeps-empty : {most : ℕ} → IsTotalOrder cmp → (present : Bool) → root ≡ None → KeepsFrom most cmp present f h other false f h
  keeps-empty o present none = keeps-all o present a (rw (sym here ∙ none) refl)

  module _ {r : ℕ} (is : root ≡ Some r) {theirs : Option ℕ} (there : theirs ≡ other) where
    -- a tree whose entries all stay, or none, where the other one is empty
    pub keeps-apart : {most : ℕ} → IsTotalOrder cmp → (present : Bool) → theirs ≡ None → {f' : Forest K X} {h' : Option ℕ} {result : Bool} → Frees f h (not present) result f' h' → KeepsFrom most cmp present f h other result f' h'
    keeps-apart o present none freed =
        let empty : keeps_all cmp false (list_of f h) (list_of f other) ≡ true = rw (sym there ∙ none) (absent-all cmp (list_of f h)) in
        keeps-or-frees o present a (sym here ∙ is) false empty (not present) (fits-false present) freed.told freed.stays freed.same freed.cleared

    module _ {m : ℕ} (other_is : theirs ≡ Some m) {equal : Bool} (test : equal ≡ nat_eq r m) where
      -- the two are one
      pub keeps-one : {most : ℕ} → IsTotalOrder cmp → (present : Bool) → equal ≡ true → {f' : Forest K X} {h' : Option ℕ} {result : Bool} → Frees f h present result f' h' → KeepsFrom most cmp present f h other result f' h'
      keeps-one o present yes_equal freed =
          let same : h ≡ other = sym here ∙ is ∙ ap Some (same-by r m (sym test ∙ yes_equal)) ∙ sym other_is ∙ there in
          let own : keeps_all cmp true (list_of f h) (list_of f other) ≡ true = rw (← same) (among-itself cmp o (list_of f h) a.increasing) in
          keeps-or-frees o present a (sym here ∙ is) true own present (fits-true present) freed.told freed.stays freed.same freed.cleared

      module _ {p : Forest K X} (view : p ≡ f) where
        -- what two paths side by side ask
        pub walk-asks : equal ≡ false → IsTrue (is_root p.nodes r) × (IsTrue (is_root p.nodes m) × ((r ≢ m) × (IsIncreasing cmp (list_under p r) × IsIncreasing cmp (list_under p m))))
        walk-asks differ =
            let s = seen-asks cmp (seen-as view (sym here ∙ is) a.live) a.increasing in
            let t = seen-asks cmp (seen-as view (sym there ∙ other_is) a.other_live) a.other_increasing in
            (s.0, (t.0, (apart-by r m (sym test ∙ differ), (s.1, t.1))))

        -- two paths walked side by side, from the handles
        pub keeps-beside : {most : ℕ} → IsTotalOrder cmp → (present : Bool) → {f' : Forest K X} {left h' : Option ℕ} {changed : Bool} → h' ≡ left → Kept most p f' r cmp present m left changed → KeepsFrom most cmp present f h other changed f' h'
        keeps-beside {most} o present {f'} {left} {h'} {changed} out k =
            let asked = rw (← view, sym here ∙ is, sym there ∙ other_is) at a in
            let s = seen-as {h = Some r} refl refl asked.live in
            let t = seen-as {h = Some m} refl refl asked.other_live in
            rw (out, sym here ∙ is, sym there ∙ other_is, ← view) (keeps-walked o present asked s.list s.sizes t.list k)

-- the table is a union of trees, whether a root or none is answered
pub walked-union : {K X : Type 0} {most : ℕ} {cmp : K → K → Ordering} {present : Bool} {f f' : Forest K X} {r m : ℕ} {left : Option ℕ} {changed : Bool} → Kept most f f' r cmp present m left changed → IsUnion most f'
walked-union {most = most} {cmp} {present} {f} {f'} {r} {m} {left} k = union-kept (Tells cmp present (list_under f m)) most f f' r tt left k.kept k.ended
