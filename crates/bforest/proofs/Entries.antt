-- What a caller proves of lists of entries: where a key lies, what an insertion and a removal leave, and that a comparator's own search
-- is right.
use Rattle.bforest_nodes.proofs.AfterCut as after_cut
use Rattle.bforest_nodes.proofs.Found as found
use Rattle.bforest_nodes.proofs.Lookups as lookups
use Rattle.bforest_nodes.proofs.Ordered as ordered
use Rattle.bforest_nodes.specs.Entries.{IsIncreasing, cut, is_present, place, put, value_at_place, value_for, with_value}
use Rattle.std.proofs.Common.{List, None, Some, false, insert, length, remove, suc, true, ◌<◌, ◌∷◌, ◌≡◌, ℕ}
use Rattle.std.specs.Cmp.{IsTotalOrder}
use Rattle.std.specs.List.{AllByRecursion}
use Rattle.std.specs.Ordering.{is_eq, is_lt}
use Rattle.std.specs.declared.cmp.Ordering.TheVariants.{Less}
use Rattle.std.specs.declared.cmp.Ordering.{Ordering}
pub use Rattle.bforest_nodes.proofs.Searched.{searched}

-- a key less than q is less than all keys that q is less than
pub above : {K : Type 0} (cmp : K → K → Ordering) (o : IsTotalOrder cmp) (k q : K) (ks : List K) → cmp k q ≡ Less → AllByRecursion (λ y. cmp q y ≡ Less) ks → AllByRecursion (λ y. cmp k y ≡ Less) ks
above cmp o k q ks = ordered.above cmp o k q ks

module _ {K X : Type 0} (cmp : K → K → Ordering) where
  -- removing the entry at a place keeps a list increasing
  pub IsIncreasing-remove : (es : List (K × X)) (p : ℕ) → IsIncreasing cmp es → IsIncreasing cmp (remove es p)
  IsIncreasing-remove es p up = ordered.IsIncreasing-remove cmp es p up

  -- removing a key's entry keeps a list increasing
  pub IsIncreasing-cut : (es : List (K × X)) (k : K) → IsIncreasing cmp es → IsIncreasing cmp (cut cmp es k)
  IsIncreasing-cut es k up = ordered.IsIncreasing-cut cmp es k up

  module _ (es : List (K × X)) (k : K) where
    -- a present key lies before the end
    pub place-present : is_present cmp es k ≡ true → place cmp es k < length es
    place-present here = found.place-present cmp es k here

    -- the value of a present key is the one at its place
    pub value_for-present : is_present cmp es k ≡ true → value_for cmp es k ≡ value_at_place es (place cmp es k)
    value_for-present here = found.value_for-present cmp es k here

    -- an absent key has no value
    pub value_for-absent : is_present cmp es k ≡ false → value_for cmp es k ≡ None
    value_for-absent gone = found.value_for-absent cmp es k gone

    -- an insertion of a present key writes its value
    pub put-present : (v : X) → is_present cmp es k ≡ true → put cmp es k v ≡ with_value es (place cmp es k) v
    put-present v here = found.put-present cmp es k v here

    -- an insertion of an absent key puts an entry in at its place
    pub put-absent : (v : X) → is_present cmp es k ≡ false → put cmp es k v ≡ insert es (place cmp es k) (k, v)
    put-absent v gone = found.put-absent cmp es k v gone

    -- a removal of a present key takes its entry out
    pub cut-present : is_present cmp es k ≡ true → cut cmp es k ≡ remove es (place cmp es k)
    cut-present here = found.cut-present cmp es k here

    -- a removal of an absent key changes nothing
    pub cut-absent : is_present cmp es k ≡ false → cut cmp es k ≡ es
    cut-absent gone = found.cut-absent cmp es k gone

module _ {K X : Type 0} (cmp : K → K → Ordering) (o : IsTotalOrder cmp) where
  -- the place of a key is behind a lesser first entry
  pub place-later : (e : K × X) (es : List (K × X)) (k : K) → cmp e.0 k ≡ Less → place cmp (e ∷ es) k ≡ suc (place cmp es k)
  place-later e es k less = ordered.place-later cmp o e es k less

  -- the place of a key is 0 where the first key is not less
  pub place-here : (e : K × X) (es : List (K × X)) (k : K) → IsIncreasing cmp (e ∷ es) → is_lt (cmp e.0 k) ≡ false → place cmp (e ∷ es) k ≡ 0
  place-here e es k up least = ordered.place-here cmp o e es k up least

  -- an insertion keeps a list increasing
  pub IsIncreasing-put : (es : List (K × X)) (k : K) (v : X) → IsIncreasing cmp es → IsIncreasing cmp (put cmp es k v)
  IsIncreasing-put es k v up = ordered.IsIncreasing-put cmp o es k v up

  -- after an insertion the key has the inserted value
  pub value_for-put : (k : K) (v : X) (es : List (K × X)) → IsIncreasing cmp es → value_for cmp (put cmp es k v) k ≡ Some v
  value_for-put k v es up = lookups.value_for-put cmp o k v es up

  -- after an insertion the key is present
  pub is_present-put : (k : K) (v : X) (es : List (K × X)) → IsIncreasing cmp es → is_present cmp (put cmp es k v) k ≡ true
  is_present-put k v es up = lookups.is_present-put cmp o k v es up

  -- after an insertion every key that compares unequal has the value that it had
  pub value_for-put_other : (k q : K) (v : X) → is_eq (cmp k q) ≡ false → (es : List (K × X)) → IsIncreasing cmp es → value_for cmp (put cmp es k v) q ≡ value_for cmp es q
  value_for-put_other k q v apart es up = lookups.value_for-put_other cmp o k q v apart es up

  -- a removed key has no value
  pub value_for-cut : (es : List (K × X)) (k : K) → IsIncreasing cmp es → value_for cmp (cut cmp es k) k ≡ None
  value_for-cut es k up = after_cut.value_for-cut cmp o es k up

  -- a removed key is absent
  pub is_present-cut : (es : List (K × X)) (k : K) → IsIncreasing cmp es → is_present cmp (cut cmp es k) k ≡ false
  is_present-cut es k up = after_cut.is_present-cut cmp o es k up

  -- every key that compares unequal to a removed key has the value that it had
  pub value_for-cut_other : (k q : K) → is_eq (cmp k q) ≡ false → (es : List (K × X)) → IsIncreasing cmp es → value_for cmp (cut cmp es k) q ≡ value_for cmp es q
  value_for-cut_other k q apart es up = after_cut.value_for-cut_other cmp o k q apart es up
