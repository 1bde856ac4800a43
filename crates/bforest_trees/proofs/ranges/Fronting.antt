-- What is left of a tree once the entries in front of a place are removed.
use Rattle.bforest_core.specs.Change.{CutsFront, Ends, GivesNodes}
use Rattle.bforest_core.specs.Paths.{CutsFrontHere, IsAtEnd, OnEntry, list_under, sizes_under}
use Rattle.bforest_core.specs.Sizes.{detached}
use Rattle.bforest_core.specs.Trees.{IsUnion, is_root}
use Rattle.bforest_core.specs.declared.path.Path.{Path}
use Rattle.bforest_trees.proofs.Changed.{becomes, list-root, sizes-new, sizes-root}
use Rattle.bforest_trees.proofs.Cutting.{becomes-ended, becomes-same, gives, ltb-none}
use Rattle.bforest_trees.proofs.ranges.Splitting.{end-sizes, entry, site}
use Rattle.bforest_trees.specs.Calls.{CutsTo}
use Rattle.bforest_trees.specs.Forest.{Becomes, Forest, Gives, IsLive, list_at, sizes_at}
use Rattle.bforest_trees.specs.Place.{AtSpot}
use Rattle.std.proofs.Common.{IsTrue, List, None, Option, Some, [], ap, arith, drop, false, length, ◌∷◌, ◌≢◌, refl, subst, sym, true, ◌<◌, ◌∙◌, ◌≡◌, ℕ}
use Rattle.std.proofs.lemmas.Bool.{lt-ltb}
use Rattle.std.proofs.lemmas.List.{drop_all}

some-entries : {A : Type 0} (es : List A) → es ≢ [] → 0 < length es
some-entries [] some = absurd (some refl)
some-entries (e ∷ es) some = omega arith

module _ {K X : Type 0} {most : ℕ} {f : Forest K X} where
  -- nothing is in front
  pub front-none : (h : Option ℕ) (p : ℕ) → IsLive f h → p ≡ 0 → CutsTo most f h p false f h
  front-none h p live is = rw is (record {
    removed = becomes-same f h live;
    changed = sym (ltb-none 0);
    sizes = refl;
    same_levels = (λ e. refl, λ e. refl);
    account = record { slots = refl; free = refl; memory = refl };
    same_forest = λ e. refl;
    same_handle = λ e. refl;
  })

  module _ (union : IsUnion most f) {n : ℕ} (root : IsTrue (is_root f.nodes n)) where
    -- all entries are in front, and the tree has ended
    pub front-all : {f' : Forest K X} (p : ℕ) → IsLive f (Some n) → p ≡ length (list_at f n) → Ends most f f' n → GivesNodes (sizes_under f n) [] f f' → CutsTo most f (Some n) p true f' None
    front-all {f'} p live is ended given = rw is (record {
      removed = subst (Becomes f (Some n) f' None) (sym (drop_all (length (list_at f n)) (list_at f n) (omega arith))) (becomes-ended most f f' n ended);
      changed = sym (lt-ltb 0 (length (list_at f n)) (some-entries (list_at f n) live));
      sizes = sym (end-sizes f union (Some n) live).1;
      same_levels = (λ e. absurd (cc), λ e. absurd (omega (arith, e, ap length (sizes-root f n root))));
      account = subst (λ (z : List (List ℕ)). Gives z [] f f') (sym (sizes-root f n root)) (gives f f' (sizes_under f n) [] given);
      same_forest = λ bad. absurd (cc);
      same_handle = λ bad. absurd (cc);
    })

    -- the entries behind the place are left
    pub front-cut : {f' : Forest K X} (p : ℕ) {r' : ℕ} → 0 < p → CutsFront most f f' n p r' → CutsTo most f (Some n) p true f' (Some r')
    front-cut {f'} p {r'} some c = let now = sizes-new most f f' n r' (drop p (list_under f n)) (detached most p (sizes_under f n)) c.removed in record {
      removed = subst (λ (l : List (K × X)). Becomes f (Some n) f' (Some r') (drop p l)) (sym (list-root f n root)) (becomes most f f' n r' (drop p (list_under f n)) (detached most p (sizes_under f n)) c.removed);
      changed = sym (lt-ltb 0 p some);
      sizes = now ∙ ap (detached most p) (sym (sizes-root f n root));
      same_levels = (
        λ e. omega (arith, c.same_root.0 (let one : r' ≡ n = cc in one), ap length now, ap length (sizes-root f n root)),
        λ e. ap Some (c.same_root.1 (omega (arith, e, ap length now, ap length (sizes-root f n root)))),
      );
      account = subst (λ (z : List (List ℕ)). Gives z (sizes_at f' r') f f') (sym (sizes-root f n root)) (subst (λ (z : List (List ℕ)). Gives (sizes_under f n) z f f') (sym now) (gives f f' (sizes_under f n) (detached most p (sizes_under f n)) c.account));
      same_forest = λ bad. absurd (cc);
      same_handle = λ bad. absurd (cc);
    }

-- a path that stands on an entry
module _ {K X : Type 0} {most : ℕ} {f : Forest K X} {h : Option ℕ} {path : Path K X most} (union : IsUnion most f) (live : IsLive f h) (at : AtSpot f h path) (on : IsAtEnd path → ⊥) (some : 0 < at.place) where
  pub cut-asks : (e : OnEntry f path) × (0 < e.place)
  cut-asks = (entry union live at on, some)

  module _ {f' : Forest K X} {path' : Path K X most} {r' : ℕ} (c : CutsFrontHere f f' path path' r') where
    pub cut-union : IsUnion most f'
    cut-union = (c.cut (entry union live at on) some).removed.union

    -- the entries in front of it were removed
    pub cut-front-here : CutsTo most f h at.place true f' (Some r')
    cut-front-here = let s = site union live at on in subst (λ z. CutsTo most f z at.place true f' (Some r')) (sym s.1) (front-cut union s.2.root_is at.place some (c.cut (entry union live at on) some))
