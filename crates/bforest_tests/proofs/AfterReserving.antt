-- What a reservation of nodes keeps: each list, and so what an insertion asks and needs.
use Rattle.bforest.specs.Entries.{is_present, place}
use Rattle.bforest.specs.Forest.{Forest, IsLive, Keeps, list_of, need, need_of, sizes_of}
use Rattle.bforest.specs.Refusal.{OutOfMemory}
use Rattle.bforest.specs.Set.{as_put}
use Rattle.std.proofs.Common.{Bool, Err, List, None, Ok, Option, Result, Some, [], false, if◌then◌else◌, refl, subst, sym, true, ◌≡◌, ◌≢◌, ℕ}
use Rattle.std.specs.Prelude.{IsOk}
use Rattle.std.specs.declared.cmp.Ordering.{Ordering}

module _ {K X : Type 0} (f f' : Forest K X) (kept : Keeps f f') where
  pub same-list : (h : Option ℕ) → list_of f' h ≡ list_of f h
  same-list None = refl
  same-list (Some n) = kept.lists n

  same-sizes : (h : Option ℕ) → sizes_of f' h ≡ sizes_of f h
  same-sizes None = refl
  same-sizes (Some n) = kept.sizes n

  pub still-live : (h : Option ℕ) → IsLive f h → IsLive f' h
  still-live None live = tt
  still-live (Some n) live = subst (λ (es : List (K × X)). es ≢ []) (sym (kept.lists n)) live

  pub same-need : (most : ℕ) (cmp : K → K → Ordering) (h : Option ℕ) (k : K) → need_of most cmp f' h k ≡ need_of most cmp f h k
  same-need most cmp h k = λ i. if is_present cmp (same-list h i) k then 0 else need most (place cmp (same-list h i) k) (same-sizes h i)

-- a set's insertion that is not refused
pub not-refused : (r : Result Bool OutOfMemory) → IsOk (as_put r) → IsOk r
not-refused (Ok true) h = refl
not-refused (Ok false) h = refl
not-refused (Err e) h = absurd (cc)
