-- A tree from which whole leaves behind a path's leaf went, whose entries are all in front of an end bound.
use Rattle.bforest_core.specs.Levels.{LevelNode, node}
use Rattle.bforest_core.specs.Paths.{OnEntry}
use Rattle.bforest_core.specs.declared.path.Path.{Path}
use Rattle.bforest_trees.specs.Bounds.{is_past_end}
use Rattle.bforest_trees.specs.Calls.{Lowers, without_leaves}
use Rattle.bforest_trees.specs.Forest.{Becomes, Forest, Gives, list_of, sizes_of}
use Rattle.bforest_trees.specs.Place.{IsSpot}
use Rattle.std.specs.List.{AllByRecursion, sum_by}
use Rattle.std.specs.Prelude.{List, None, Option, Some, [], false, length, true, ◌+◌, ◌++◌, ◌<◌, ◌≡◌, ◌≤◌, ◌∷◌, ◌⊎◌, ℕ}
use Rattle.std.specs.declared.cmp.Ordering.{Ordering}
use Rattle.std.specs.declared.ops.Bound.{Bound}

module _ {K X : Type 0} where
  -- the leaf behind the path's, where all its entries are in front of an end bound; none where its last entry is past it, or there is no leaf
  abbrev pub NextWithin : {n : ℕ} {table : Forest K X} {path : Path K X n} → (K → K → Ordering) → Bound K → OnEntry table path → Option ℕ → Type 0
  NextWithin cmp hi at (Some next) =
      (front : List (K × X)) × (last : K × X) × (rest : List (LevelNode K X)) × (at.on.stands.leaf.after ≡ node next (front ++ last ∷ []) ∷ rest) × (is_past_end cmp hi last.0 ≡ false)
  NextWithin cmp hi at None =
      (at.on.stands.leaf.after ≡ [])
      ⊎ ((next : ℕ) × (front : List (K × X)) × (last : K × X) × (rest : List (LevelNode K X)) × (at.on.stands.leaf.after ≡ node next (front ++ last ∷ []) ∷ rest) × (is_past_end cmp hi last.0 ≡ true))

  -- The entries `gone` were removed, which were in front of an end bound, by whole leaves behind the leaf of a place; the path stands at the
  -- place. `front` ends with the entries of its leaf, and leaves had these sizes: `dropped` are those of the leaves that went
  pub record Thinned (most : ℕ) (cmp : K → K → Ordering) (hi : Bound K) (f : Forest K X) (h : Option ℕ) (place : ℕ) (f' : Forest K X) (h' : Option ℕ) (path : Path K X most) : Type 0 where
    pub front : List (K × X)
    pub gone : List (K × X)
    pub behind : List (K × X)
    pub list_was : list_of f h ≡ front ++ (gone ++ behind)
    pub becomes : Becomes f h f' h' (front ++ behind)
    pub within : AllByRecursion (λ e. is_past_end cmp hi e.0 ≡ false) gone
    pub before : List ℕ
    pub size : ℕ
    pub dropped : List ℕ
    pub after : List ℕ
    pub levels : List (List ℕ)
    pub levels' : List (List ℕ)
    pub sizes_were : sizes_of f h ≡ (before ++ size ∷ (dropped ++ after)) ∷ levels
    pub sizes_now : sizes_of f' h' ≡ (before ++ size ∷ after) ∷ levels'
    pub from : sum_by (λ size. size) before ≤ place
    pub low : place < sum_by (λ size. size) before + size
    pub front_is : length front ≡ sum_by (λ size. size) before + size
    pub gone_is : length gone ≡ sum_by (λ size. size) dropped
    pub sizes : sizes_of f' h' ≡ without_leaves (length before) (length dropped) (sizes_of f h)
    pub gives : Gives (sizes_of f h) (sizes_of f' h') f f'
    pub lowers : Lowers f h f' h'
    pub spot : IsSpot f' h' path place
    pub same : gone ≡ [] → (f' ≡ f) × (h' ≡ h)

  -- the leaf behind those that went has an entry past the end bound, or there is none
  pub record Stops (cmp : K → K → Ordering) (hi : Bound K) (behind : List (K × X)) (after : List ℕ) : Type 0 where
    pub none : after ≡ [] → behind ≡ []
    pub past : (size : ℕ) (others : List ℕ) → after ≡ size ∷ others → (front : List (K × X)) × (last : K × X) × (rest : List (K × X)) × (behind ≡ front ++ last ∷ rest) × (length front < size) × (is_past_end cmp hi last.0 ≡ true)
