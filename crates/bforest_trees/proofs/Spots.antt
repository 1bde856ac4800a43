-- Where a path stands, from the words of a pool to those of a forest.
use Rattle.bforest_trees.proofs.Changed.{list-root, live-root}
use Rattle.bforest_trees.specs.Forest.{Forest, IsLive, list_of}
use Rattle.bforest_trees.specs.Place.{AtSpot, IsComputed, IsSpot}
use Rattle.bforest_core.proofs.walks.Standing.{at-on, at-spot, on-points, path-ended, placed-points}
use Rattle.bforest_core.specs.Paths.{IsAtEnd, IsPlaced, PointsTo, StandsOn, list_under}
use Rattle.bforest_core.proofs.removal.Removal.{place_low}
use Rattle.bforest_core.specs.Levels.{Tree, flat}
use Rattle.bforest_core.specs.Place.{IsPathAt}
use Rattle.bforest_core.specs.Trees.{IsUnion, tree_of}
use Rattle.bforest_core.specs.declared.path.Path.{Path}
use Rattle.bforest_nodes.specs.Entries.{is_present, place}
use Rattle.std.proofs.Common.{Bool, List, None, Option, zero, suc, ◌∙◌, Some, ap, false, length, refl, subst, sym, true, ◌<◌, ◌≡◌, ℕ, arith}
use Rattle.std.specs.declared.cmp.Ordering.{Ordering}

module _ {K X : Type 0} where
  module _ {m : ℕ} (f : Forest K X) (path : Path K X m) where
    -- a path in the empty list stands at place 0
    pub spot-empty : (h : Option ℕ) (p q : ℕ) → h ≡ None → q ≡ 0 → IsSpot f h path p → IsSpot f h path q
    spot-empty h p q e z s = subst (λ (o : Option ℕ). IsSpot f o path q) (sym e) ((subst (λ (o : Option ℕ). IsSpot f o path p) e s).0, z)

    -- a path with no node stands at the end of any list
    pub spot-end : (h : Option ℕ) → IsLive f h → IsAtEnd path → AtSpot f h path
    spot-end None live end = record { place = 0; spot = (end, refl) }
    spot-end (Some root) live end = record {
      place = length (list_under f root);
      spot = record { root_is = live-root f root live; at = path-ended path.node path.entry (tree_of f.nodes root) (length (list_under f root)) path.size end refl };
    }

    -- a path in front of the end stands on an entry of the handle's tree
    pub spot-on : (h : Option ℕ) (p : ℕ) → IsSpot f h path p → p < length (list_of f h) → (n : ℕ) × (h ≡ Some n) × StandsOn f n path p
    spot-on None p s low = absurd (omega (arith, low))
    spot-on (Some n) p s low =
        let same = ap length (list-root f n s.root_is) in
        (n, refl, at-on f path s (omega (arith, low, same)))

  path-last : (path indices : List ℕ) (tree : Tree K X) (place size : ℕ) → IsPathAt path indices size tree place → size ≡ 0 → place ≡ length (flat tree.leaves)
  path-last path indices tree place zero at none = at
  path-last path indices tree place (suc size) at none = absurd (omega arith)

  path-in : (path indices : List ℕ) (tree : Tree K X) (place size : ℕ) → IsPathAt path indices size tree place → (size ≡ 0 → ⊥) → place < length (flat tree.leaves)
  path-in path indices tree place zero at some = absurd (some refl)
  path-in path indices tree place (suc size) at some = place_low path indices (suc size) tree place at

  module _ {m : ℕ} (f : Forest K X) (path : Path K X m) where
    -- a path with no node is at the end of its list
    pub spot-last : (h : Option ℕ) (p : ℕ) → IsSpot f h path p → IsAtEnd path → p ≡ length (list_of f h)
    spot-last None p s end = s.1
    spot-last (Some n) p s end = path-last path.node path.entry (tree_of f.nodes n) p path.size s.at end ∙ ap length (sym (list-root f n s.root_is))

    -- a path with nodes is in front of it
    pub spot-in : (h : Option ℕ) (p : ℕ) → IsSpot f h path p → (IsAtEnd path → ⊥) → p < length (list_of f h)
    spot-in None p s some = absurd (some s.0)
    spot-in (Some n) p s some = omega (arith, path-in path.node path.entry (tree_of f.nodes n) p path.size s.at some, ap length (list-root f n s.root_is))

  -- a path stands at one place alone, which `spot_of` computes
  pub computed : (most : ℕ) (f : Forest K X) (h : Option ℕ) → IsUnion most f → IsComputed most f h
  computed most f None union path p s = sym s.1
  computed most f (Some root) union path p s = at-spot path union s

  -- a search ends at the entry of its key, or at the place for it
  pub found-points : {m : ℕ} (cmp : K → K → Ordering) (f : Forest K X) (n : ℕ) (path : Path K X m) (k : K) →
      (is_present cmp (list_under f n) k ≡ true → StandsOn f n path (place cmp (list_under f n) k)) → (is_present cmp (list_under f n) k ≡ false → IsPlaced f n path (place cmp (list_under f n) k)) → PointsTo f n path (place cmp (list_under f n) k)
  found-points cmp f n path k here gone = go (is_present cmp (list_under f n) k) refl
    where
      go : (b : Bool) → is_present cmp (list_under f n) k ≡ b → PointsTo f n path (place cmp (list_under f n) k)
      go true e = on-points f path (here e)
      go false e = placed-points f path (gone e)
