-- How long a list of entries is after an insertion and after a removal.
use Rattle.bforest_nodes.proofs.Found.{place-present}
use Rattle.bforest_nodes.specs.Entries.{cut, is_present, place, put, with_value}
use Rattle.std.proofs.Common.{Bool, List, [], ap, arith, cond, false, length, refl, suc, true, zero, ◌+◌, ◌∷◌, ◌≡◌, ℕ}
use Rattle.std.proofs.lemmas.List.Edits.{length-insert, length-remove}
use Rattle.std.proofs.lemmas.List.Sums.{count_by-le-length}
use Rattle.std.specs.Ordering.{is_lt}
use Rattle.std.specs.declared.cmp.Ordering.{Ordering}

-- writing a value keeps the length
pub length-written : {K X : Type 0} (es : List (K × X)) (p : ℕ) (v : X) → length (with_value es p v) ≡ length es
length-written [] p v = refl
length-written (e ∷ es) zero v = refl
length-written (e ∷ es) (suc p) v = ap suc (length-written es p v)

module _ {K X : Type 0} (cmp : K → K → Ordering) (es : List (K × X)) (k : K) where
  -- an insertion makes the list longer by one where the key is absent
  pub length-put : (v : X) → length (put cmp es k v) ≡ length es + cond (is_present cmp es k) 0 1
  length-put v = go (is_present cmp es k) refl
    where
      go : (t : Bool) → is_present cmp es k ≡ t → length (put cmp es k v) ≡ length es + cond (is_present cmp es k) 0 1
      go true t = rw t (omega (arith, length-written es (place cmp es k) v))
      go false t = rw t (omega (arith, length-insert es (place cmp es k) (k, v) (count_by-le-length (λ (x : K × X). is_lt (cmp x.0 k)) es)))

  -- a removal makes the list shorter by one where the key is present
  pub length-cut : length (cut cmp es k) + cond (is_present cmp es k) 1 0 ≡ length es
  length-cut = go (is_present cmp es k) refl
    where
      go : (t : Bool) → is_present cmp es k ≡ t → length (cut cmp es k) + cond (is_present cmp es k) 1 0 ≡ length es
      go true t = rw t (omega (arith, length-remove es (place cmp es k) (place-present cmp es k t)))
      go false t = rw t (omega arith)
