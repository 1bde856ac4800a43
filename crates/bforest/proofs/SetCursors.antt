-- A set's cursor that moves, or changes its keys.
use Rattle.bforest.proofs.Cursors.{stands-at}
use Rattle.bforest.specs.Forest.{IsSearchable}
use Rattle.bforest.specs.SetCursor.{Goes, IsCursor, Moves, comparator, forest_loan, forest_now, set_loan, set_now}
use Rattle.bforest.specs.declared.set_cursor.SetCursor.{SetCursor}
use Rattle.bforest_core.specs.Place.{entry_before}
use Rattle.bforest_trees.specs.Place.{IsComputed, IsSpot}
use Rattle.std.proofs.Common.{IfSome, List, None, Option, Some, [], ap, length, option_map, refl, slice_get, subst, suc, sym, zero, ◌∙◌, ◌∷◌, ◌≡◌, ℕ}
use Rattle.std.specs.Map.{keys_of}
use Rattle.std.specs.declared.cmp.Ordering.{Ordering}

module _ {K C : Type 0} {order : C → K → K → Ordering} {c c' : SetCursor K C} {p : ℕ} where
  -- c' stands at p of keys that increase
  pub goes-on : set_loan c' ≡ set_loan c → forest_loan c' ≡ forest_loan c → comparator c' ≡ comparator c
      → IsSearchable (order (comparator c)) (forest_now c') (set_now c')
      → IsSpot (forest_now c') (set_now c') c'.path p × IsComputed 15 (forest_now c') (set_now c') → Goes order c c' p
  goes-on same same' comp ordered at =
      let w = stands-at (subst (λ x. IsSearchable (order x) (forest_now c') (set_now c')) (sym comp) ordered) at in
      record { set_loan = same; forest_loan = same'; comparator = comp; spot = w.1; valid = w.0 }

  -- c' stands at p of the same keys
  pub moves-on : set_loan c' ≡ set_loan c → forest_loan c' ≡ forest_loan c → comparator c' ≡ comparator c → forest_now c' ≡ forest_now c
      → set_now c' ≡ set_now c → IsCursor order c → IsSpot (forest_now c) (set_now c) c'.path p × IsComputed 15 (forest_now c) (set_now c) → Moves order c c' p
  moves-on same same' comp forest set v at =
      let ordered : IsSearchable (order (comparator c)) (forest_now c) (set_now c) = record { live = v.live; increasing = v.increasing } in
      record { goes = goes-on same same' comp (rw (forest, set) ordered) (rw (forest, set) at); forest = forest; set = set }

module _ {K X : Type 0} where
  -- the key at a place of a list
  key-at : (es : List (K × X)) (p : ℕ) → option_map (λ e. e.0) (slice_get es p) ≡ slice_get (keys_of es) p
  key-at [] p = refl
  key-at (e ∷ es) zero = refl
  key-at (e ∷ es) (suc p) = key-at es p

  before-at : (es : List (K × X)) (p : ℕ) → option_map (λ e. e.0) (entry_before es p) ≡ entry_before (keys_of es) p
  before-at es zero = refl
  before-at es (suc p) = key-at es p

  -- the key of an entry that was read
  pub key-read : (es : List (K × X)) (p : ℕ) {o : Option (K × X)} {k : Option K} → k ≡ option_map (λ e. e.0) o → o ≡ slice_get es p
      → k ≡ slice_get (keys_of es) p
  key-read es p is value = is ∙ ap (option_map (λ e. e.0)) value ∙ key-at es p

  pub key-before : (es : List (K × X)) (p : ℕ) {o : Option (K × X)} {k : Option K} → k ≡ option_map (λ e. e.0) o → o ≡ entry_before es p
      → k ≡ entry_before (keys_of es) p
  key-before es p is value = is ∙ ap (option_map (λ e. e.0)) value ∙ before-at es p

  pub keys-count : (es : List (K × X)) → length (keys_of es) ≡ length es
  keys-count [] = refl
  keys-count (e ∷ es) = ap suc (keys-count es)

  -- what holds of the key of an entry, if there is one, holds of the key that was read
  pub key-holds : (P : K → Type 0) (es : List (K × X)) (p : ℕ) {k : Option K} → k ≡ slice_get (keys_of es) p → IfSome (slice_get es p) (λ e. P e.0) → IfSome k P
  key-holds P es p is holds = rw (is ∙ sym (key-at es p)) (go (slice_get es p) holds)
    where
      go : (o : Option (K × X)) → IfSome o (λ e. P e.0) → IfSome (option_map (λ e. e.0) o) P
      go None holds = tt
      go (Some e) holds = holds
