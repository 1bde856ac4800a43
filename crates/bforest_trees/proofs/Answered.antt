-- The answers of a predicate that is asked of one entry after the other.
use Rattle.bforest_trees.specs.Retain.{AsksEach, Retains, kept_by, sizes_by}
use Rattle.bforest_core.specs.Sizes.{shrink}
use Rattle.std.proofs.Common.{Bool, List, [], ap, false, if◌then◌else◌, refl, suc, true, ◌∙◌, ◌∷◌, ◌≡◌, ℕ}

module _ {F K X : Type 0} (step : F → K → X → Bool → X → F → Type 0) (most : ℕ) where
  -- f was asked of each entry in turn, from a place on: these entries are kept, in nodes of these sizes
  abbrev pub Sifts : F → ℕ → List (K × X) → List (List ℕ) → List (K × X) → List (List ℕ) → Type 0
  Sifts f place [] sizes kept after = (kept ≡ []) × (after ≡ sizes)
  Sifts f place (e ∷ es) sizes kept after =
      (b : Bool) × (w : X) × (f' : F) × (rest : List (K × X)) × step f e.0 e.1 b w f' × Sifts f' (if b then suc place else place) es (if b then sizes else shrink most place sizes) rest after × (kept ≡ (if b then (e.0, w) ∷ rest else rest))

  -- the answers of a predicate that sifted a list: the kept entries and sizes are those of the answers
  answered : (f : F) (place : ℕ) (es : List (K × X)) (sizes : List (List ℕ)) (kept : List (K × X)) (after : List (List ℕ)) → Sifts f place es sizes kept after → (answers : List (Bool × X)) × AsksEach step f es answers × (kept ≡ kept_by es answers) × (after ≡ sizes_by most place answers sizes)
  answered f place [] sizes kept after h = ([], refl, h.0, h.1)
  answered f place (e ∷ es) sizes kept after (true, w, f', rest, t, r, is) =
      let a = answered f' (suc place) es sizes rest after r in
      ((true, w) ∷ a.0, (f', t, a.1), is ∙ ap (λ z. (e.0, w) ∷ z) a.2, a.3)
  answered f place (e ∷ es) sizes kept after (false, w, f', rest, t, r, is) =
      let a = answered f' place es (shrink most place sizes) rest after r in
      ((false, w) ∷ a.0, (f', t, a.1), is ∙ a.2, a.3)

  pub retains : (f : F) (es : List (K × X)) (sizes : List (List ℕ)) (kept : List (K × X)) (after : List (List ℕ)) → Sifts f 0 es sizes kept after → Retains step most f es sizes kept after
  retains f es sizes kept after h =
      let a = answered f 0 es sizes kept after h in
      record { answers = a.0; asked = a.1; kept_is = a.2; sizes_are = a.3 }
