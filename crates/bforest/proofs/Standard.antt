-- The words of this library for a list of entries, in the words of the standard library: by these its lemmas on entries serve here.
use Rattle.bforest_nodes.proofs.Ordered.{above, place-here, place-later}
use Rattle.bforest_nodes.specs.Entries.{IsIncreasing, cut, is_present, place, put, value_for, with_value}
use Rattle.std.proofs.Common.{Bool, List, None, Option, Some, [], ap, cond, false, if◌then◌else◌, insert, refl, remove, slice_get, sym, true, ◌∙◌, ◌∷◌, ◌≡◌, ℕ}
use Rattle.std.proofs.lemmas.Map.{NonePasses, lookup-none}
use Rattle.std.specs.BTreeMap.{insert_entry, is_at}
use Rattle.std.specs.Cmp.{IsTotalOrder}
use Rattle.std.specs.List.Sorted.{IsStrictlySortedBy}
use Rattle.std.specs.List.{AllByRecursion}
use Rattle.std.specs.Map.{keys_of, lookup, remove_entry}
use Rattle.std.specs.Option.{is_some, option_and_then, option_map}
use Rattle.std.specs.Ordering.{is_eq, is_lt, match_ordering, ordering_reverse}
use Rattle.std.specs.declared.cmp.Ordering.TheVariants.{Equal, Greater, Less}
use Rattle.std.specs.declared.cmp.Ordering.{Ordering}

module _ {K X : Type 0} (cmp : K → K → Ordering) (o : IsTotalOrder cmp) where
  put_in : List (K × X) → K → X → ℕ → List (K × X)
  put_in es k v p = if is_some (option_and_then (λ x. if is_eq (cmp x.0 k) then Some x else None) (slice_get es p)) then with_value es p v else insert es p (k, v)

  value_in : List (K × X) → K → ℕ → Option X
  value_in es k p = option_map (λ x. x.1) (option_and_then (λ x. if is_eq (cmp x.0 k) then Some x else None) (slice_get es p))

  -- an insertion is that of the standard library's map
  pub put-entry : (es : List (K × X)) (k : K) (v : X) → IsIncreasing cmp es → put cmp es k v ≡ insert_entry cmp es k v
  unfolding IsStrictlySortedBy put_in
  put-entry [] k v h = refl
  put-entry (e ∷ es) k v h = go (cmp e.0 k) refl (put-entry es k v h.1)
    where
      back : (r : Ordering) → cmp e.0 k ≡ r → cmp k e.0 ≡ ordering_reverse r
      back r t = o.antisymm k e.0 ∙ ap ordering_reverse t

      goes : (r : Ordering) → cmp k e.0 ≡ r → match_ordering r ((k, v) ∷ e ∷ es) ((e.0, v) ∷ es) (e ∷ insert_entry cmp es k v) ≡ insert_entry cmp (e ∷ es) k v
      goes r t = sym (ap (λ q. match_ordering q ((k, v) ∷ e ∷ es) ((e.0, v) ∷ es) (e ∷ insert_entry cmp es k v)) t)

      later : (b : Bool) → (if b then e ∷ with_value es (place cmp es k) v else e ∷ insert es (place cmp es k) (k, v)) ≡ e ∷ (if b then with_value es (place cmp es k) v else insert es (place cmp es k) (k, v))
      later true = refl
      later false = refl

      go : (r : Ordering) → cmp e.0 k ≡ r → put cmp es k v ≡ insert_entry cmp es k v → put cmp (e ∷ es) k v ≡ insert_entry cmp (e ∷ es) k v
      go Less t rest = ap (put_in (e ∷ es) k v) (place-later cmp o e es k t) ∙ later (is_present cmp es k) ∙ ap (λ l. e ∷ l) rest ∙ goes Greater (back Less t)
      go Equal t rest = ap (put_in (e ∷ es) k v) (place-here cmp o e es k h (ap is_lt t)) ∙ ap (λ r. if is_some (if is_eq r then Some e else None) then (e.0, v) ∷ es else (k, v) ∷ e ∷ es) t ∙ goes Equal (back Equal t)
      go Greater t rest = ap (put_in (e ∷ es) k v) (place-here cmp o e es k h (ap is_lt t)) ∙ ap (λ r. if is_some (if is_eq r then Some e else None) then (e.0, v) ∷ es else (k, v) ∷ e ∷ es) t ∙ goes Less (back Greater t)

  none-after : (es : List (K × X)) (k : K) → AllByRecursion (λ y. cmp k y ≡ Less) (keys_of es) → NonePasses (is_at (cmp k)) es
  none-after [] k all = tt
  none-after (e ∷ es) k all = (ap is_eq all.0, none-after es k all.1)

  -- a look-up is that of the standard library's map
  pub value-entry : (es : List (K × X)) (k : K) → IsIncreasing cmp es → value_for cmp es k ≡ lookup (is_at (cmp k)) es
  unfolding IsStrictlySortedBy value_in
  value-entry [] k h = refl
  value-entry (e ∷ es) k h = go (cmp e.0 k) refl (value-entry es k h.1)
    where
      back : (r : Ordering) → cmp e.0 k ≡ r → is_eq (cmp k e.0) ≡ is_eq (ordering_reverse r)
      back r t = ap is_eq (o.antisymm k e.0 ∙ ap ordering_reverse t)

      goes : (t : Bool) → is_eq (cmp k e.0) ≡ t → cond t (Some e.1) (lookup (is_at (cmp k)) es) ≡ lookup (is_at (cmp k)) (e ∷ es)
      goes t is = sym (ap (λ b. cond b (Some e.1) (lookup (is_at (cmp k)) es)) is)

      go : (r : Ordering) → cmp e.0 k ≡ r → value_for cmp es k ≡ lookup (is_at (cmp k)) es → value_for cmp (e ∷ es) k ≡ lookup (is_at (cmp k)) (e ∷ es)
      go Less t rest = ap (value_in (e ∷ es) k) (place-later cmp o e es k t) ∙ rest ∙ goes false (back Less t)
      go Equal t rest = ap (value_in (e ∷ es) k) (place-here cmp o e es k h (ap is_lt t)) ∙ ap (λ r. option_map (λ (x : K × X). x.1) (if is_eq r then Some e else None)) t ∙ goes true (back Equal t)
      go Greater t rest = ap (value_in (e ∷ es) k) (place-here cmp o e es k h (ap is_lt t)) ∙ ap (λ r. option_map (λ (x : K × X). x.1) (if is_eq r then Some e else None)) t
          ∙ sym (lookup-none (is_at (cmp k)) es (none-after es k (above cmp o k e.0 (keys_of es) (o.antisymm k e.0 ∙ ap ordering_reverse t) h.0))) ∙ goes false (back Greater t)

  cut_in : List (K × X) → K → ℕ → List (K × X)
  cut_in es k p = if is_some (option_and_then (λ x. if is_eq (cmp x.0 k) then Some x else None) (slice_get es p)) then remove es p else es

  none-removed : (es : List (K × X)) (k : K) → AllByRecursion (λ y. cmp k y ≡ Less) (keys_of es) → remove_entry (is_at (cmp k)) es ≡ es
  none-removed [] k all = refl
  none-removed (e ∷ es) k all = ap (λ b. cond b es (e ∷ remove_entry (is_at (cmp k)) es)) (ap is_eq all.0) ∙ ap (λ l. e ∷ l) (none-removed es k all.1)

  -- a removal is that of the standard library's map
  pub cut-entry : (es : List (K × X)) (k : K) → IsIncreasing cmp es → cut cmp es k ≡ remove_entry (is_at (cmp k)) es
  unfolding IsStrictlySortedBy cut_in
  cut-entry [] k h = refl
  cut-entry (e ∷ es) k h = go (cmp e.0 k) refl (cut-entry es k h.1)
    where
      back : (r : Ordering) → cmp e.0 k ≡ r → is_eq (cmp k e.0) ≡ is_eq (ordering_reverse r)
      back r t = ap is_eq (o.antisymm k e.0 ∙ ap ordering_reverse t)

      goes : (t : Bool) → is_eq (cmp k e.0) ≡ t → cond t es (e ∷ remove_entry (is_at (cmp k)) es) ≡ remove_entry (is_at (cmp k)) (e ∷ es)
      goes t is = sym (ap (λ b. cond b es (e ∷ remove_entry (is_at (cmp k)) es)) is)

      later : (b : Bool) → (if b then e ∷ remove es (place cmp es k) else e ∷ es) ≡ e ∷ (if b then remove es (place cmp es k) else es)
      later true = refl
      later false = refl

      go : (r : Ordering) → cmp e.0 k ≡ r → cut cmp es k ≡ remove_entry (is_at (cmp k)) es → cut cmp (e ∷ es) k ≡ remove_entry (is_at (cmp k)) (e ∷ es)
      go Less t rest = ap (cut_in (e ∷ es) k) (place-later cmp o e es k t) ∙ later (is_present cmp es k) ∙ ap (λ l. e ∷ l) rest ∙ goes false (back Less t)
      go Equal t rest = ap (cut_in (e ∷ es) k) (place-here cmp o e es k h (ap is_lt t)) ∙ ap (λ r. if is_some (if is_eq r then Some e else None) then es else e ∷ es) t ∙ goes true (back Equal t)
      go Greater t rest = ap (cut_in (e ∷ es) k) (place-here cmp o e es k h (ap is_lt t)) ∙ ap (λ r. if is_some (if is_eq r then Some e else None) then es else e ∷ es) t
          ∙ sym (ap (λ l. e ∷ l) (none-removed es k (above cmp o k e.0 (keys_of es) (o.antisymm k e.0 ∙ ap ordering_reverse t) h.0))) ∙ goes false (back Greater t)
