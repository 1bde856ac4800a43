-- A call leaves what is known of the handles that it spares.
use Rattle.bforest_trees.proofs.ranges.Splitting.{tail-fresh}
use Rattle.bforest.proofs.Becoming.{list-beside}
use Rattle.bforest.specs.Calls.{SplitsAt}
use Rattle.bforest.specs.Forest.{Becomes, Forest, IsLive, list_of}
use Rattle.bforest.specs.Refusal.{OutOfMemory}
use Rattle.bforest_calls.proofs.Adding.{lacks-same}
use Rattle.bforest_calls.proofs.Changes.{compacted, got-inserted, inserted, scripted, shifted, updated, updated-inserted, united-with}
use Rattle.bforest_calls.specs.Machine.{IsKnown, Offered, Orders, Passes, State, Step, number_at, order_at, with_made}
use Rattle.bforest_calls.specs.Spared.{IsSpared, reach_of}
use Rattle.bforest_calls.specs.declared.call.Answer.{Answer}
use Rattle.bforest_calls.specs.declared.call.Call.TheVariants as call
use Rattle.bforest_calls.specs.declared.call.Call.{Call}
use Rattle.bforest_nodes.specs.Entries.{IsIncreasing}
use Rattle.std.proofs.Common.{Bool, Err, List, None, Ok, Option, Result, Some, [], ap, false, get_or, inl, inr, length, refl, subst, sym, true, ◌<◌, ◌∙◌, ◌≡◌, ◌≢◌, ℕ}
use Rattle.std.proofs.lemmas.Bool.{cases_eq}
use Rattle.std.proofs.lemmas.List.{get_or-set_other, get_or-set_same, length-set}
use Rattle.std.specs.List.Sorted.{IsStrictlySortedBy}
use Rattle.std.specs.Prelude.{IfOk, IfSome, OnErr, slice_set}
use Rattle.std.specs.declared.cmp.Ordering.{Ordering}

-- a call that is offered or not, from both cases
offered : {Made Lacking P : Type 0} (reads : Bool) → (Made → P) → (Lacking → P) → Offered reads Made Lacking → P
offered true made lacks o = made o
offered false made lacks o = lacks o

-- a write of one handle leaves the number of handles and each other one
many-written : (handles : List (Option ℕ)) {after : List (Option ℕ)} (h : ℕ) (number : Option ℕ) → after ≡ slice_set handles h number → length after ≡ length handles
many-written handles h number is = ap (λ (hs : List (Option ℕ)). length hs) is ∙ length-set handles h number

other-written : (handles : List (Option ℕ)) {after : List (Option ℕ)} (h g : ℕ) (number : Option ℕ) → g ≢ h → after ≡ slice_set handles h number → get_or after g None ≡ get_or handles g None
other-written handles h g number ne is = ap (λ (hs : List (Option ℕ)). get_or hs g None) is ∙ get_or-set_other handles h g number None ne

-- a list without entries increases
none-increasing : {K : Type 0} (X : Type 0) (order : K → K → Ordering) → IsIncreasing {X = X} order []
unfolding IsStrictlySortedBy
none-increasing X order = tt

module _ {K V : Type 0} where
  -- a handle that keeps its list stays live
  still-live : (f f' : Forest K V) (q : Option ℕ) → list_of f' q ≡ list_of f q → IsLive f q → IsLive f' q
  still-live f f' None same live = tt
  still-live f f' (Some n) same live = λ none. live (sym same ∙ none)

  -- a live handle of another tree keeps its list where one tree changes
  kept-beside : (f f' : Forest K V) (h h' q : Option ℕ) (es : List (K × V)) → Becomes f h f' h' es → IsLive f q → q ≢ h → list_of f' q ≡ list_of f q
  kept-beside f f' h h' q es b live ne = let done : Result (Unit {0}) (Unit {0}) = Ok tt in list-beside f f' h h' q es done b tt live ne

  -- each live handle keeps its list where a tree is added
  kept-added : (f f' : Forest K V) (h' q : Option ℕ) (es : List (K × V)) → Becomes f None f' h' es → IsLive f q → list_of f' q ≡ list_of f q
  kept-added f f' h' None es b live = refl
  kept-added f f' h' (Some n) es b live = kept-beside f f' None h' (Some n) es b live (λ e. absurd (cc))

  -- a live handle of another tree keeps its list where one tree is parted
  kept-parted : (most : ℕ) (f f' : Forest K V) (h h' t q : Option ℕ) (p : ℕ) → SplitsAt most f h p (Ok t) f' h' → IsLive f q → h ≢ q → list_of f' q ≡ list_of f q
  kept-parted most f f' h h' t None p s live apart = refl
  kept-parted most f f' h h' t (Some n) p s live apart = s.others n (λ e. apart (sym e)) (λ e. live (subst (λ (z : Option ℕ). list_of f z ≡ []) (sym e) (s.fresh (λ d. apart (sym d ∙ sym e)))))
      (λ e. live (subst (λ (z : Option ℕ). list_of f z ≡ []) (sym e) (tail-fresh s (λ d. apart (sym d ∙ sym e)))))

  module _ (most : ℕ) (reads : Bool) (orders : Orders K) (old : State K V) (given : Answer K V) (new : State K V) where
    -- the handle was written, and its list increases
    own : {d : ℕ} (h : ℕ) (number : Option ℕ) → Passes orders old h d → new.handles ≡ slice_set old.handles h number → IsLive new.forest number
        → IsIncreasing (order_at orders d) (list_of new.forest number) → Passes orders new h d
    own {d} h number p is live up =
        let named : number_at new h ≡ number = ap (λ (hs : List (Option ℕ)). get_or hs h None) is ∙ get_or-set_same old.handles h number None p.0 in (
          subst (λ n. h < n) (sym (many-written old.handles h number is)) p.0,
          p.1,
          subst (λ q. IsLive new.forest q) (sym named) live,
          subst (λ (q : Option ℕ). IsIncreasing (order_at orders d) (list_of new.forest q)) (sym named) up,
        )

    module _ {g d : ℕ} where
      same : Passes orders old g d → new ≡ old → Passes orders new g d
      same p is = subst (λ s. Passes orders s g d) (sym is) p

      -- the handle has its number and its list
      stays : Passes orders old g d → length new.handles ≡ length old.handles → number_at new g ≡ number_at old g
          → list_of new.forest (number_at old g) ≡ list_of old.forest (number_at old g) → Passes orders new g d
      stays p many number list = (
        subst (λ n. g < n) (sym many) p.0,
        p.1,
        subst (λ q. IsLive new.forest q) (sym number) (still-live old.forest new.forest (number_at old g) list p.2),
        subst (λ es. IsIncreasing (order_at orders d) es) (sym (ap (λ (q : Option ℕ). list_of new.forest q) number ∙ list)) p.3,
      )

      -- a handle was written, and the other one keeps its list
      wrote : (h : ℕ) (number : Option ℕ) → Passes orders old g d → g ≢ h → new.handles ≡ slice_set old.handles h number
          → list_of new.forest (number_at old g) ≡ list_of old.forest (number_at old g) → Passes orders new g d
      wrote h number p ne is list = stays p (many-written old.handles h number is) (other-written old.handles h g number ne is) list

      -- the tree of a handle with another number changed
      beside : (h : ℕ) (number : Option ℕ) (es : List (K × V)) → Passes orders old g d → number_at old h ≢ number_at old g
          → new.handles ≡ slice_set old.handles h number → Becomes old.forest (number_at old h) new.forest number es → Passes orders new g d
      beside h number es p apart is b =
          wrote h number p (λ e. apart (ap (λ (n : ℕ). number_at old n) (sym e))) is (kept-beside old.forest new.forest (number_at old h) number (number_at old g) es b p.2 (λ e. apart (sym e)))

      -- the tree of a handle changed, whose list increases as it did; the handle is the same, or has another number
      thinned : (h : ℕ) (number : Option ℕ) (es : List (K × V)) → Passes orders old g d → (h ≢ g → number_at old h ≢ number_at old g)
          → new.handles ≡ slice_set old.handles h number → Becomes old.forest (number_at old h) new.forest number es
          → (IsIncreasing (order_at orders d) (list_of old.forest (number_at old h)) → IsIncreasing (order_at orders d) (list_of new.forest number))
          → Passes orders new g d
      thinned h number es p apart is b up = elim (cases_eq h g) [
        | inl e ↦
            let here : Passes orders old h d = subst (λ n. Passes orders old n d) (sym e) p in
            subst (λ n. Passes orders new n d) e (own h number here is b.live (up here.3))
        | inr ne ↦ beside h number es p (apart ne) is b
      ]

      -- another handle names another tree, and no tree changed
      renamed : (to : ℕ) (number : Option ℕ) → Passes orders old g d → to ≢ g → new ≡ record old { handles = slice_set old.handles to number } → Passes orders new g d
      renamed to number p ne is =
          wrote to number p (λ e. ne (sym e)) (ap (λ (s : State K V). s.handles) is) (ap (λ (s : State K V). list_of s.forest (number_at old g)) is)

      -- a tree was made for another handle, or not
      made : (to : ℕ) (result : Result (Option ℕ) OutOfMemory) (es : List (K × V)) → Passes orders old g d → to ≢ g → new.handles ≡ with_made to result old.handles
          → IfOk result (λ number. Becomes old.forest None new.forest number es) → OnErr result (new.forest ≡ old.forest) → Passes orders new g d
      made to (Err e) es p ne is b still = same p (λ j. record { forest = still j; handles = is j })
      made to (Ok number) es p ne is b still = wrote to number p (λ e. ne (sym e)) is (kept-added old.forest new.forest number (number_at old g) es b p.2)

      -- a tree was parted for another handle, or not
      parted : (h to place : ℕ) (number : Option ℕ) (result : Result (Option ℕ) OutOfMemory) → Passes orders old g d → (to ≢ g) × (number_at old h ≢ number_at old g)
          → new.handles ≡ with_made to result (slice_set old.handles h number) → SplitsAt most old.forest (number_at old h) place result new.forest number → Passes orders new g d
      parted h to place number (Err e) p ne is s =
          wrote h number p (λ e. ne.1 (ap (λ (n : ℕ). number_at old n) (sym e))) is (ap (λ f. list_of f (number_at old g)) s.refused_forest)
      parted h to place number (Ok tail) p ne is s =
          let first : g ≢ h = λ e. ne.1 (ap (λ (n : ℕ). number_at old n) (sym e)) in
          let next : g ≢ to = λ e. ne.0 (sym e) in
          stays p (many-written (slice_set old.handles h number) to tail is ∙ many-written old.handles {after = slice_set old.handles h number} h number refl)
          (other-written (slice_set old.handles h number) to g tail next is ∙ other-written old.handles {after = slice_set old.handles h number} h g number first refl)
          (kept-parted most old.forest new.forest (number_at old h) number tail (number_at old g) place s p.2 ne.1)

      -- a handle that a call spares still passes the tests that it passed
      spared : (made-call : Call K V) → IsSpared old.handles (reach_of made-call) g → Step most reads orders old made-call given new → Passes orders old g d → Passes orders new g d
      spared (call.Get h c k) apart step p = elim step [ inl r ↦ same p r.1 | inr r ↦ same p r.3.1 ]
      spared (call.GetOrLess h c k) apart step p = elim step [ inl r ↦ same p r.1 | inr r ↦ same p r.3.1 ]
      spared (call.GetOrGreater h c k) apart step p = elim step [ inl r ↦ same p r.1 | inr r ↦ same p r.3.1 ]
      spared (call.First h) apart step p = elim step [ inl r ↦ same p r.1 | inr r ↦ same p r.3.1 ]
      spared (call.Last h) apart step p = elim step [ inl r ↦ same p r.1 | inr r ↦ same p r.3.1 ]
      spared (call.Insert h c k v) apart step p = elim step [
        | inl r ↦ same p r.1
        | inr r ↦ beside h r.3.2.0 _ p apart r.3.2.1 (inserted most (order_at orders c) old.forest (number_at old h) k v r.3.0 new.forest r.3.2.0 r.1 r.3.2.2)
      ]
      spared (call.GetOrInsert h c k v) apart step p = offered reads (λ t. elim t [
        | inl r ↦ same p r.1
        | inr r ↦ beside h r.3.2.0 _ p apart r.3.2.1 (got-inserted most (order_at orders c) _ (record { forest = new.forest; number = r.3.2.0 }) k v r.3.0 r.1 r.3.2.2)
      ]) (λ l. same p (lacks-same _ old given new l)) step
      spared (call.Update h c k v) apart step p = offered reads (λ t. elim t [
        | inl r ↦ same p r.1
        | inr r ↦ beside h r.3.2.0 _ p apart r.3.2.1 (updated (order_at orders c) _ (record { forest = new.forest; number = r.3.2.0 }) k v r.3.0 r.1 r.3.2.2)
      ]) (λ l. same p (lacks-same _ old given new l)) step
      spared (call.UpdateOrInsert h c k v put) apart step p = offered reads (λ t. elim t [
        | inl r ↦ same p r.1
        | inr r ↦ beside h r.3.2.0 _ p apart r.3.2.1 (updated-inserted most (order_at orders c) _ (record { forest = new.forest; number = r.3.2.0 }) k v put r.3.0 r.1 r.3.2.2)
      ]) (λ l. same p (lacks-same _ old given new l)) step
      spared (call.Shift h c from keys) apart step p = elim step [
        | inl r ↦ same p r.1
        | inr r ↦ beside h r.3.1.0 _ p apart r.3.1.1 (shifted (order_at orders c) _ (record { forest = new.forest; number = r.3.1.0 }) from keys.items r.3.1.2)
      ]
      spared (call.Remove h c k) apart step p = elim step [
        | inl r ↦ same p r.1
        | inr r ↦ beside h r.3.2.0 _ p apart r.3.2.1 r.3.2.2.cut
      ]
      spared (call.PopFirst h) apart step p = elim step [
        | inl r ↦ same p r.1
        | inr r ↦ thinned h r.3.2.0 _ p apart r.3.2.1 r.3.2.2.removed.removed (r.3.2.2.increasing (order_at orders d))
      ]
      spared (call.PopLast h) apart step p = elim step [
        | inl r ↦ same p r.1
        | inr r ↦ thinned h r.3.2.0 _ p apart r.3.2.1 r.3.2.2.removed.removed (r.3.2.2.increasing (order_at orders d))
      ]
      spared (call.Len h) apart step p = elim step [ inl r ↦ same p r.1 | inr r ↦ same p r.3.1 ]
      spared (call.Compact h) apart step p = elim step [
        | inl r ↦ same p r.1
        | inr r ↦ thinned h r.3.2.0 _ p apart r.3.2.1 (compacted most old.forest (number_at old h) r.3.0 new.forest r.3.2.0 r.1 r.3.2.2) (r.3.2.2.increasing (order_at orders d))
      ]
      spared (call.RemoveRange h c lo hi) apart step p = elim step [
        | inl r ↦ same p r.1
        | inr r ↦ beside h r.3.2.0 _ p apart r.3.2.1 r.3.2.2.removed
      ]
      spared (call.Unite h o c) apart step p = elim step [
        | inl r ↦ same p r.1
        | inr r ↦ beside h r.3.2.0 _ p apart r.3.2.1
            (united-with most (order_at orders c) old.forest (number_at old h) (number_at old o) r.3.0 new.forest r.3.2.0 r.1.0 r.3.2.2)
      ]
      spared (call.Intersect h o c) apart step p = elim step [
        | inl r ↦ same p r.1
        | inr r ↦ beside h r.3.2.0 _ p apart r.3.2.1 r.3.2.2.kept
      ]
      spared (call.Subtract h o c) apart step p = elim step [
        | inl r ↦ same p r.1
        | inr r ↦ beside h r.3.2.0 _ p apart r.3.2.1 r.3.2.2.kept
      ]
      spared (call.IsSubset h o c) apart step p = elim step [ inl r ↦ same p r.1 | inr r ↦ same p r.3.1 ]
      spared (call.IsDisjoint h o c) apart step p = elim step [ inl r ↦ same p r.1 | inr r ↦ same p r.3.1 ]
      spared (call.Clear h) apart step p = elim step [
        | inl r ↦ same p r.1
        | inr r ↦ thinned h r.3.1.0 _ p apart r.3.1.1 r.3.1.2.cleared (λ up. subst (IsIncreasing (order_at orders d)) (sym r.3.1.2.cleared.list) (none-increasing V (order_at orders d)))
      ]
      spared (call.Iter h) apart step p = elim step [ inl r ↦ same p r.1 | inr r ↦ same p r.3.3 ]
      spared (call.IterBack h) apart step p = elim step [ inl r ↦ same p r.1 | inr r ↦ same p r.3.3 ]
      spared (call.Read h c steps) apart step p =
          offered reads (λ t. elim t [ inl r ↦ same p r.1 | inr r ↦ same p r.3.1 ]) (λ l. same p (lacks-same _ old given new l)) step
      spared (call.Edit h c steps) apart step p = elim step [
        | inl r ↦ same p r.1
        | inr r ↦ beside h r.3.2.0 _ p apart r.3.2.1 (scripted most (order_at orders c) _ _ steps.items r.3.0.items _ r.3.2.2.0 r.1 r.3.2.2.1)
      ]
      spared (call.Range h c lo hi ends) apart step p = elim step [ inl r ↦ same p r.1 | inr r ↦ same p r.3.1 ]
      spared (call.Retain h c keys put) apart step p = elim step [
        | inl r ↦ same p r.1
        | inr r ↦ thinned h r.3.1.0 _ p apart r.3.1.1 r.3.1.2.changed (r.3.1.2.increasing (order_at orders d))
      ]
      spared (call.Alias from to) apart step p = elim step [
        | inl r ↦ same p r.1
        | inr r ↦ renamed to (number_at old from) p apart r.3.1
      ]
      spared (call.DeepClone from to) apart step p = elim step [
        | inl r ↦ same p r.1
        | inr r ↦ made to r.3.0 _ p apart r.3.2 r.3.3.copied r.3.3.refused
      ]
      spared (call.SplitOff h c k to) apart step p = elim step [
        | inl r ↦ same p r.1
        | inr r ↦ parted h to _ r.3.0 r.3.1 p apart r.3.3 r.3.4.parts
      ]
      spared (call.Load h entries) apart step p = elim step [
        | inl r ↦ same p r.1
        | inr r ↦ made h r.3.0 _ p apart r.3.2 r.3.3.loaded r.3.3.refused
      ]
      spared call.ForestClear apart step p = absurd apart

    -- what is known of a handle is known after a call that spares it
    pub spared-slot : (made-call : Call K V) (slot left : Option (ℕ × ℕ)) → IfSome left (λ it. (slot ≡ Some it) × IsSpared old.handles (reach_of made-call) it.0)
        → Step most reads orders old made-call given new → IsKnown orders old slot → IsKnown orders new left
    spared-slot made-call slot None w step known = tt
    spared-slot made-call slot (Some it) w step known = spared made-call w.1 step (subst (IsKnown orders old) w.0 known)
