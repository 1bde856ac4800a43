-- One step of the loop of `retain`, and the lists and sizes that it leaves.
use Rattle.bforest_trees.specs.Retain.{Stepped}
use Rattle.bforest_core.specs.Change.{Changes, GivesNodes}
use Rattle.bforest_core.specs.Paths.{StandsAt}
use Rattle.bforest_core.specs.Place.{count}
use Rattle.bforest_core.specs.Sizes.{loss, loss_above, shrink, trimmed, without_next}
use Rattle.bforest_core.specs.Table.{Table}
use Rattle.bforest_core.specs.declared.path.Path.{Path}
use Rattle.bforest_core.proofs.table.Lists.{drop_remove}
use Rattle.bforest_nodes.proofs.Seams.{slice_get-drop}
use Rattle.bforest_nodes.specs.Entries.{with_value}
use Rattle.std.proofs.Common.{Bool, IfSome, List, None, Option, Some, [], ap, arith, drop, false, length, refl, remove, slice_get, suc, sym, take, zero, ◌++◌, ◌<◌, ◌∙◌, ◌∷◌, ◌≡◌, ◌≢◌, ◌≤◌, ◌↔◌, ℕ}

module _ {K X : Type 0} where
  pub length_written : (xs : List (K × X)) (p : ℕ) (w : X) → length (with_value xs p w) ≡ length xs
  length_written [] p w = refl
  length_written (e ∷ xs) zero w = refl
  length_written (e ∷ xs) (suc p) w = ap suc (length_written xs p w)

  pub drop_written : (xs : List (K × X)) (p : ℕ) (w : X) → drop (suc p) (with_value xs p w) ≡ drop (suc p) xs
  drop_written [] p w = refl
  drop_written (e ∷ xs) zero w = refl
  drop_written (e ∷ xs) (suc p) w = drop_written xs p w

  pub take_written : (xs : List (K × X)) (p : ℕ) (w : X) (e : K × X) → Some e ≡ slice_get xs p → (ks : List (K × X)) → take (suc p) (with_value xs p w) ++ ks ≡ take p xs ++ (e.0, w) ∷ ks
  take_written [] zero w e here ks = absurd (cc)
  take_written [] (suc p) w e here ks = absurd (cc)
  take_written (x ∷ xs) zero w e here ks = let same : x ≡ e = cc in ap (λ z. (z.0, w) ∷ ks) same
  take_written (x ∷ xs) (suc p) w e here ks = ap (λ l. x ∷ l) (take_written xs p w e here ks)

  -- the entry behind one that is written, or that goes
  pub read-written : (xs : List (K × X)) (p : ℕ) (w : X) → slice_get (with_value xs p w) (suc p) ≡ slice_get xs (suc p)
  read-written xs p w = sym (slice_get-drop (with_value xs p w) (suc p)) ∙ ap (λ l. slice_get l 0) (drop_written xs p w) ∙ slice_get-drop xs (suc p)

  pub read-removed : (xs : List (K × X)) (p : ℕ) → p < length xs → slice_get (remove xs p) p ≡ slice_get xs (suc p)
  read-removed xs p low = sym (slice_get-drop (remove xs p) p) ∙ ap (λ l. slice_get l 0) (drop_remove xs p low) ∙ slice_get-drop xs (suc p)

-- trimming levels adds none
trimmed_fewer : (levels : List (List ℕ)) → length (trimmed levels) ≤ length levels
trimmed_fewer [] = omega arith
trimmed_fewer ([] ∷ levels) = omega arith
trimmed_fewer ((s ∷ []) ∷ levels) = omega arith
trimmed_fewer ((s ∷ (r ∷ after)) ∷ levels) = omega (arith, trimmed_fewer levels)

loss_fewer : (k : Option ℕ) (levels : List (List ℕ)) → length (loss_above k levels) ≤ length levels
loss_fewer None levels = omega arith
loss_fewer (Some p) [] = omega arith
loss_fewer (Some p) (level ∷ levels) = omega (arith, loss_fewer (loss 8 p level).0 levels)

-- a leaf that goes adds no level
pub without_next-fewer : (i : ℕ) (sizes : List (List ℕ)) → length (without_next i sizes) ≤ length sizes
without_next-fewer i [] = omega arith
without_next-fewer i (leaves ∷ levels) = omega (arith, trimmed_fewer (remove leaves (suc i) ∷ loss_above (Some i) levels), loss_fewer (Some i) levels)

-- a removal adds no level
pub shrink-fewer : (n p : ℕ) (sizes : List (List ℕ)) → length (shrink n p sizes) ≤ length sizes
shrink-fewer n p [] = omega arith
shrink-fewer n p (leaves ∷ levels) = omega (arith, trimmed_fewer ((loss n p leaves).1 ∷ loss_above (loss n p leaves).0 levels), loss_fewer (loss n p leaves).0 levels)

-- a step that removed an entry answered false
pub sifted-out : {F K X : Type 0} (most : ℕ) (step : F → K → X → Bool → X → F → Type 0) (old new : Table K X) (root : ℕ)
    (path' : Path K X most) (f f' : F) (list : List (K × X)) (sizes : List (List ℕ)) (place : ℕ) (k : K) (v w : X) → step f k v false w f'
    → (o : Option ℕ) → IfSome o (λ root'. Changes most old new root root' (remove list place) (shrink most place sizes))
    → GivesNodes sizes (shrink most place sizes) old new →
    IfSome o (λ root'. StandsAt new root' path' place) → IfSome o (λ root'. (root' ≡ root) ↔ (length (shrink most place sizes) ≡ length sizes)) → (o ≢ Some root → 0 < count root new.chain) → IfSome o (λ root'. Stepped most step old new root root' path' f f' list sizes place k v)
sifted-out most step old new root path' f f' list sizes place k v w t None ch gv at level freed = tt
sifted-out most step old new root path' f f' list sizes place k v w t (Some root') ch gv at level freed = record {
  stays = false;
  left = w;
  stepped = t;
  changes = ch;
  gives = gv;
  at = at;
  same_root = level;
  freed_root = λ ne. freed (λ e. ne (cc));
}
