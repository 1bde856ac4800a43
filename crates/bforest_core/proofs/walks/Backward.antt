-- A path at an entry or at the end, by its number of nodes, and the entry before a place.
use Rattle.bforest_core.proofs.Words.{◌≡◌, ◌≢◌, ℕ, zero, suc, ◌-◌, ◌<◌, List, length, slice_get, refl, ap, arith, flat, Tree, Stands, IsPathAt, entry_before}

-- the entry before a place that is not the first
pub before_is : {X : Type 0} (list : List X) (place : ℕ) → 0 < place → slice_get list (place - 1) ≡ entry_before list place
before_is list zero some = absurd (omega arith)
before_is list (suc place) some = let e : suc place - 1 ≡ place = omega arith in ap (slice_get list) e

module _ {K V : Type 0} (path indices : _) (tree : Tree K V) (place : ℕ) where
  -- a path with nodes stands at an entry
  pub at_entry : (size : ℕ) → size ≢ 0 → IsPathAt path indices size tree place → Stands path indices size tree place
  at_entry zero some at = absurd (some refl)
  at_entry (suc size) some at = at

  -- a path without nodes is at the end
  pub at_end : (size : ℕ) → size ≡ 0 → IsPathAt path indices size tree place → place ≡ length (flat tree.leaves)
  at_end zero none at = at
  at_end (suc size) none at = absurd (omega arith)
