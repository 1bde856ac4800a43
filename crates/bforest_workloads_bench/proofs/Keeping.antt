-- What a call on one map or set leaves of all maps or sets.
use Rattle.bforest.specs.Forest.{Becomes, Forest, IsLive, list_at, list_of}
use Rattle.bforest_workloads_bench.specs.Kept.{AreOrdered, IsOrdered}
use Rattle.bforest.specs.Entries.{IsIncreasing}
use Rattle.std.proofs.Common.{Err, List, None, Ok, OnErr, OnOk, Option, Result, Some, [], ap, get_or, inl, inr, length, refl, replicate, rules, slice_set, subst, suc, sym, zero, ◌+◌, ◌++◌, ◌<◌, ◌∙◌, ◌≡◌, ◌≢◌, ◌∷◌, ℕ}
use Rattle.std.specs.List.Sorted.{IsStrictlySortedBy}
use Rattle.std.specs.Ordering.{nat_cmp}
use Rattle.std.proofs.lemmas.Bool.Decides.{eqb_tells}
use Rattle.std.proofs.lemmas.List.{get_or-set_other, get_or-set_same, get_or_default, get_or_read, replicate-append-replicate, set-get_or}

-- the number of another tree is not the number of the changed tree
not_new : {X : Type 0} (f f' : Forest ℕ X) (h h' : Option ℕ) (es : List (ℕ × X)) → Becomes f h f' h' es → (n : ℕ) → list_at f n ≢ [] → Some n ≢ h → Some n ≢ h'
not_new f f' h h' es b n live ne = λ e. live (subst (λ (q : Option ℕ). list_of f q ≡ []) (sym e) (b.fresh (λ d. ne (e ∙ d))))

-- a handle of another number stays live with keys that increase
ordered_beside : {X : Type 0} (f f' : Forest ℕ X) (h h' : Option ℕ) (es : List (ℕ × X)) → Becomes f h f' h' es → (q : Option ℕ) → ((n : ℕ) → q ≡ Some n → Some n ≢ h) → IsOrdered f q → IsOrdered f' q
ordered_beside {X = X} f f' h h' es b None ne o = record { live = tt; increasing = o.increasing }
ordered_beside {X = X} f f' h h' es b (Some n) ne o =
    let same : list_at f' n ≡ list_at f n = b.others n (ne n refl) (not_new f f' h h' es b n o.live (ne n refl)) in
    record {
      live = subst (λ (es : List (ℕ × X)). es ≢ []) (sym same) o.live;
      increasing = subst (λ (es : List (ℕ × X)). IsIncreasing nat_cmp es) (sym same) o.increasing;
    }

module _ {X : Type 0} (f f' : Forest ℕ X) (hs : List (Option ℕ)) (i : ℕ) (h' : Option ℕ) (es : List (ℕ × X)) (a : AreOrdered f hs) (b : Becomes f (get_or hs i None) f' h' es) where
  -- another handle's number is not the old number of the changed tree
  apart_at : (j n : ℕ) → j ≢ i → get_or hs j None ≡ Some n → Some n ≢ get_or hs i None
  apart_at j n ne e = λ d. ne (a.apart j i n e (sym d))

  -- another handle's number is not the new number of the changed tree
  apart_new : (j n : ℕ) → j ≢ i → get_or hs j None ≡ Some n → Some n ≢ h'
  apart_new j n ne e = not_new f f' (get_or hs i None) h' es b n (subst (λ (q : Option ℕ). IsLive f q) e (a.each j).live) (apart_at j n ne e)

  -- all maps stay ordered where one changes to keys that increase
  pub ordered-set : i < length hs → IsIncreasing nat_cmp (list_of f' h') → AreOrdered f' (slice_set hs i h')
  ordered-set within increasing = record {
    each = λ j. elim (eqb_tells j i) [
      | inl w ↦ subst (λ (q : Option ℕ). IsOrdered f' q) (sym (ap (λ z. get_or (slice_set hs i h') z None) w.1 ∙ get_or-set_same hs i h' None within)) (record { live = b.live; increasing = increasing })
      | inr w ↦ subst (λ (q : Option ℕ). IsOrdered f' q) (sym (get_or-set_other hs i j h' None w.1)) (ordered_beside f f' (get_or hs i None) h' es b (get_or hs j None) (λ n e. apart_at j n w.1 e) (a.each j))
    ];
    apart = λ j k n d e. elim (eqb_tells j i) [
      | inl w ↦ elim (eqb_tells k i) [
        | inl v ↦ w.1 ∙ sym v.1
        | inr v ↦ absurd (apart_new k n v.1 (sym (get_or-set_other hs i k h' None v.1) ∙ e) (sym d ∙ ap (λ z. get_or (slice_set hs i h') z None) w.1 ∙ get_or-set_same hs i h' None within))
      ]
      | inr w ↦ elim (eqb_tells k i) [
        | inl v ↦ absurd (apart_new j n w.1 (sym (get_or-set_other hs i j h' None w.1) ∙ d) (sym e ∙ ap (λ z. get_or (slice_set hs i h') z None) v.1 ∙ get_or-set_same hs i h' None within))
        | inr v ↦ a.apart j k n (sym (get_or-set_other hs i j h' None w.1) ∙ d) (sym (get_or-set_other hs i k h' None v.1) ∙ e)
      ]
    ];
  }

-- all maps stay ordered after a call on the map that was read at an index
pub ordered-call : {X : Type 0} (f f' : Forest ℕ X) (hs : List (Option ℕ)) (i : ℕ) (h h' : Option ℕ) (es : List (ℕ × X)) → AreOrdered f hs → i < length hs → h ≡ get_or hs i h → Becomes f h f' h' es → IsIncreasing nat_cmp (list_of f' h') → AreOrdered f' (slice_set hs i h')
ordered-call f f' hs i h h' es a within is b increasing =
    ordered-set f f' hs i h' es a (subst (λ (q : Option ℕ). Becomes f q f' h' es) (get_or_read hs i h within is None) b) within increasing

-- all maps stay ordered after a call that may be refused
pub ordered-tried : {X A E : Type 0} (f f' : Forest ℕ X) (hs : List (Option ℕ)) (i : ℕ) (h h' : Option ℕ) (es : List (ℕ × X)) (r : Result A E) → AreOrdered f hs → i < length hs → h ≡ get_or hs i h → OnOk r (Becomes f h f' h' es) → OnErr r (f' ≡ f) → OnErr r (h' ≡ h) → IsIncreasing nat_cmp (list_of f' h') → AreOrdered f' (slice_set hs i h')
ordered-tried f f' hs i h h' es (Ok x) a within is ok same_forest same_handle increasing =
    ordered-call f f' hs i h h' es a within is ok increasing
ordered-tried {X = X} f f' hs i h h' es (Err x) a within is ok same_forest same_handle increasing =
    subst (λ (g : Forest ℕ X). AreOrdered g (slice_set hs i h')) (sym same_forest) (subst (λ (qs : List (Option ℕ)). AreOrdered f qs) (sym (ap (λ q. slice_set hs i q) (same_handle ∙ is) ∙ ap (λ q. slice_set hs i q) (get_or_default hs i h None within) ∙ set-get_or hs i None)) a)

-- the empty map is ordered
pub ordered-none : {X : Type 0} (f : Forest ℕ X) → IsOrdered f None
unfolding IsStrictlySortedBy
ordered-none f = search rules

-- all maps stay ordered after one is cleared
pub ordered-cleared : {X : Type 0} (f f' : Forest ℕ X) (hs : List (Option ℕ)) (i : ℕ) (h h' : Option ℕ) → AreOrdered f hs → i < length hs → h ≡ get_or hs i h → Becomes f h f' h' [] → h' ≡ None → AreOrdered f' (slice_set hs i h')
ordered-cleared f f' hs i h h' a within is b empty =
    ordered-call f f' hs i h h' [] a within is b (subst (λ (q : Option ℕ). IsIncreasing nat_cmp (list_of f' q)) (sym empty) (ordered-none f').increasing)

-- each of `count` empty handles is empty
all_none : (count i : ℕ) → get_or {A = Option ℕ} (replicate count None) i None ≡ None
all_none zero i = refl
all_none (suc count) zero = refl
all_none (suc count) (suc i) = all_none count i

-- `None` is not the number of a tree
none_some : (n : ℕ) → None ≢ Some n
none_some n = λ e. cc

-- new handles are ordered
pub ordered-new : {X : Type 0} (f : Forest ℕ X) (count : ℕ) (hs : List (Option ℕ)) → hs ≡ replicate count None → AreOrdered f hs
ordered-new f count hs is = subst (λ (qs : List (Option ℕ)). AreOrdered f qs) (sym is) (record {
  each = λ i. subst (λ (q : Option ℕ). IsOrdered f q) (sym (all_none count i)) (ordered-none f);
  apart = λ i j n d e. absurd (none_some n (sym (all_none count i) ∙ d));
})

-- one more empty handle
pub none-more : (count : ℕ) (hs : List (Option ℕ)) (h : Option ℕ) → hs ≡ replicate count None → h ≡ None → hs ++ h ∷ [] ≡ replicate (count + 1) None
none-more count hs h is empty = ap (λ (qs : List (Option ℕ)). qs ++ h ∷ []) is ∙ ap (λ (q : Option ℕ). replicate count None ++ q ∷ []) empty ∙ replicate-append-replicate count 1 None
