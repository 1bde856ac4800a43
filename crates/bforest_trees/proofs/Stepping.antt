-- Steps of a path in the list of a handle.
use Rattle.bforest_trees.proofs.Changed.{list-root}
use Rattle.bforest_trees.specs.Forest.{Forest, list_of}
use Rattle.bforest_trees.specs.Place.{IsSpot}
use Rattle.bforest_core.proofs.walks.Backward.{at_end, at_entry}
use Rattle.bforest_core.proofs.walks.Standing.{on-at, on-within, path-ended}
use Rattle.bforest_core.specs.Paths.{IsAtEnd, OnEntry, Standing, StandingUnder, StandsAt, StandsOn, list_under}
use Rattle.bforest_core.specs.Place.{entry_before}
use Rattle.bforest_core.specs.Trees.{tree_of}
use Rattle.bforest_core.specs.declared.path.Path.{Path}
use Rattle.std.proofs.Common.{None, Option, Some, ap, arith, inl, inr, length, min, slice_get, subst, suc, sym, ◌+◌, ◌-◌, ◌∙◌, ◌≡◌, ◌≤◌, ℕ}
use Rattle.std.proofs.lemmas.Bool.Decides.{eqb_tells}
use Rattle.std.proofs.lemmas.Option.{slice_get_past}

module _ {K X : Type 0} {n : ℕ} (f : Forest K X) (path : Path K X n) where
  -- a path that is not at the end stands on an entry
  pub spot-entry : (h : Option ℕ) (p : ℕ) → IsSpot f h path p → (¬ IsAtEnd path) → OnEntry f path
  spot-entry None p s some = absurd (some s.0)
  spot-entry (Some root) p s some = record { root = root; place = p; on = record { root_is = s.root_is; stands = at_entry path.node path.entry (tree_of f.nodes root) p path.size some s.at } }

  -- the place where a path stands is at most the list's length
  pub spot-within : (h : Option ℕ) (p : ℕ) → IsSpot f h path p → p ≤ length (list_of f h)
  spot-within None p s = omega (arith, s.1)
  spot-within (Some root) p s =
      let list = ap length (list-root f root s.root_is) in
      elim (eqb_tells path.size 0) [
        | inl w ↦ omega (arith, list, at_end path.node path.entry (tree_of f.nodes root) p path.size w.1 s.at)
        | inr w ↦ omega (arith, list, on-within f path (record { root_is = s.root_is; stands = at_entry path.node path.entry (tree_of f.nodes root) p path.size w.1 s.at }))
      ]

  module _ (path' : Path K X n) (o : Option (K × X)) where
    -- the path went to the next entry of a handle's list, which was answered
    pub record IsNext (h : Option ℕ) (p : ℕ) : Type 0 where
      pub value : o ≡ slice_get (list_of f h) (p + 1)
      pub spot : IsSpot f h path' (min (p + 1) (length (list_of f h)))

    pub next-at : (h : Option ℕ) (p : ℕ) → IsSpot f h path p → ((at : OnEntry f path) → o ≡ slice_get (list_under f at.root) (suc at.place)) → ((at : OnEntry f path) → StandsAt f at.root path' (suc at.place)) → (o ≡ None → IsAtEnd path') → (IsAtEnd path → o ≡ None) → IsNext h p
    next-at None p s value stands end stays =
        let none = stays s.0 in
        record { value = none ∙ sym (slice_get_past (list_of f None) (p + 1) (omega arith)); spot = (end none, omega arith) }
    next-at (Some root) p s value stands end stays =
        let tree = tree_of f.nodes root in
        let list = list-root f root s.root_is in
        elim (eqb_tells path.size 0) [
          | inl w ↦ (
              let none = stays w.1 in
              let last = at_end path.node path.entry tree p path.size w.1 s.at in
              let size = ap length list in
              record {
                value = none ∙ sym (slice_get_past (list_of f (Some root)) (p + 1) (omega (arith, last, size)));
                spot = record { root_is = s.root_is; at = path-ended path'.node path'.entry tree (min (p + 1) (length (list_of f (Some root)))) path'.size (end none) (omega (arith, last, size)) };
              }
              )
          | inr w ↦ (
              let on : StandsOn f root path p = record { root_is = s.root_is; stands = at_entry path.node path.entry tree p path.size w.1 s.at } in
              let at : OnEntry f path = record { root = root; place = p; on = on } in
              let one : suc p ≡ p + 1 = omega arith in
              let here : suc p ≡ min (p + 1) (length (list_of f (Some root))) = omega (arith, on-within f path on, ap length list) in
              record {
                value = value at ∙ (λ j. slice_get (sym list j) (one j));
                spot = subst (λ (z : ℕ). StandsAt f root path' z) here (stands at);
              }
              )
        ]

    -- the path went to the previous entry of a handle's list, which was answered
    pub record IsPrev (h : Option ℕ) (p : ℕ) : Type 0 where
      pub value : o ≡ entry_before (list_of f h) p
      pub spot : IsSpot f h path' (p - 1)

    pub prev-at : (h : Option ℕ) (root p : ℕ) → h ≡ Some root → IsSpot f h path p → ((at : StandingUnder f root path) → o ≡ entry_before (list_under f root) at.place) → ((at : StandingUnder f root path) → StandsOn f root path' (at.place - 1)) → IsPrev h p
    prev-at None root p e s value stands = absurd (cc)
    prev-at (Some m) root p e s value stands =
        let same : m ≡ root = cc in
        let there : StandsAt f root path p = subst (λ (z : ℕ). StandsAt f z path p) same s in
        let at : StandingUnder f root path = record { place = p; at = there } in
        subst (λ (o : Option ℕ). IsPrev o p) (sym e) (record { value = value at ∙ ap (λ l. entry_before l p) (sym (list-root f root there.root_is)); spot = on-at f path' (stands at) })

  -- the entry of a handle's list at the place where a path stands
  pub entry-at : (o : Option (K × X)) (h : Option ℕ) (p : ℕ) → IsSpot f h path p → ((at : Standing f path) → o ≡ slice_get (list_under f at.root) at.place) → (IsAtEnd path → o ≡ None) → o ≡ slice_get (list_of f h) p
  entry-at o None p s value end = end s.0 ∙ sym (slice_get_past (list_of f None) p (omega arith))
  entry-at o (Some root) p s value end = value (record { root = root; place = p; at = s }) ∙ ap (λ l. slice_get l p) (sym (list-root f root s.root_is))
