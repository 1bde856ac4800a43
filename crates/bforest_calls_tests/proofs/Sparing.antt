-- A list of calls keeps each tree that it spares.
use Rattle.bforest_trees.proofs.ranges.Splitting.{tail-fresh}
use Rattle.bforest.specs.Calls.{SplitsAt}
use Rattle.bforest.specs.Forest.{Becomes, list_at, list_of, sizes_at}
use Rattle.bforest_calls.specs.Machine.{Lacks, MayStopAt, Offered, Orders, Run, State, Step, number_at, order_at, with_made}
use Rattle.bforest_calls.specs.declared.call.Answer.TheVariants as answer
use Rattle.bforest_calls.specs.declared.call.Answer.{Answer}
use Rattle.bforest_calls.specs.declared.call.Call.TheVariants as call
use Rattle.bforest_calls.specs.declared.call.Call.{Call}
use Rattle.bforest_calls.proofs.Changes.{compacted, got-inserted, inserted, scripted, shifted, updated, updated-inserted, united-with}
use Rattle.bforest_calls_tests.specs.Sparing.{IsSpared, Spares}
use Rattle.bforest.specs.Refusal.{OutOfMemory}
use Rattle.std.proofs.Common.{Bool, Err, List, None, Ok, Option, Result, Some, [], ap, false, get_or, inl, inr, length, refl, subst, suc, sym, take, true, zero, ◌<◌, ◌∙◌, ◌∷◌, ◌≡◌, ◌≢◌, ℕ}
use Rattle.std.proofs.lemmas.Bool.{cases_eq}
use Rattle.std.proofs.lemmas.List.Elements.{recursion_from_All}
use Rattle.std.proofs.lemmas.List.{get_or-set_other, get_or-set_same, length-set}
use Rattle.std.specs.List.{AllByRecursion}
use Rattle.std.specs.Prelude.{All, IfOk, OnErr, slice_set}

-- a handle with number m had it before a write of another number
written : (m : ℕ) (handles after : List (Option ℕ)) (h : ℕ) (number : Option ℕ) → h < length handles → number ≢ Some m → after ≡ slice_set handles h number
    → (j : ℕ) → get_or after j None ≡ Some m → get_or handles j None ≡ Some m
written m handles after h number within apart writes j has = elim (cases_eq j h) [
  | inl e ↦ absurd (apart (sym (get_or-set_same handles h number None within) ∙ ap (λ xs. get_or xs h None) (sym writes) ∙ ap (λ i. get_or after i None) (sym e) ∙ has))
  | inr d ↦ sym (get_or-set_other handles h j number None d) ∙ ap (λ xs. get_or xs j None) (sym writes) ∙ has
]

-- a call that is offered or not, from both cases
pub offered : {Made Lacking P : Type 0} (reads : Bool) → (Made → P) → (Lacking → P) → Offered reads Made Lacking → P
offered true made lacks o = made o
offered false made lacks o = lacks o

module _ {K V : Type 0} where
  same : (m : ℕ) (old new : State K V) → new ≡ old → IsSpared m old new
  same m old new e = record {
    list = ap (λ (s : State K V). list_at s.forest m) e;
    sizes = ap (λ (s : State K V). sizes_at s.forest m) e;
    handles = λ h has. sym (ap (λ (s : State K V). number_at s h) e) ∙ has;
  }

  both : (m : ℕ) (old mid new : State K V) → IsSpared m old mid → IsSpared m mid new → IsSpared m old new
  both m old mid new a b = record {
    list = b.list ∙ a.list;
    sizes = b.sizes ∙ a.sizes;
    handles = λ h has. a.handles h (b.handles h has);
  }

  -- a change of another tree spares number m
  changed : (m : ℕ) (old new : State K V) (h : ℕ) (number : Option ℕ) (es : List (K × V)) → h < length old.handles → list_at old.forest m ≢ [] → number_at old h ≢ Some m
      → new.handles ≡ slice_set old.handles h number → Becomes old.forest (number_at old h) new.forest number es → IsSpared m old new
  changed m old new h number es within here apart writes b =
      let other : number ≢ Some m = λ e. here (subst (λ (q : Option ℕ). list_of old.forest q ≡ []) e (b.fresh (λ d. apart (sym d ∙ e)))) in
      record {
        list = b.others m (λ e. apart (sym e)) (λ e. other (sym e));
        sizes = b.others_sizes m (λ e. apart (sym e)) (λ e. other (sym e));
        handles = written m old.handles new.handles h number within other writes;
      }

  -- a tree that was made, or not, for a handle spares number m
  made : (m : ℕ) (old new : State K V) (h : ℕ) (result : Result (Option ℕ) OutOfMemory) (es : List (K × V)) → h < length old.handles → list_at old.forest m ≢ []
      → new.handles ≡ with_made h result old.handles → IfOk result (λ number. Becomes old.forest None new.forest number es) → OnErr result (new.forest ≡ old.forest) → IsSpared m old new
  made m old new h (Err e) es within here handles b stays = same m old new (λ z. record { forest = stays z; handles = handles z })
  made m old new h (Ok number) es within here handles b stays =
      let other : number ≢ Some m = λ e. here (subst (λ (q : Option ℕ). list_of old.forest q ≡ []) e (b.fresh (λ d. let no : Some m ≡ None = sym e ∙ d in absurd (cc)))) in
      record {
        list = b.others m (λ e. absurd (cc)) (λ e. other (sym e));
        sizes = b.others_sizes m (λ e. absurd (cc)) (λ e. other (sym e));
        handles = written m old.handles new.handles h number within other handles;
      }

  -- a tree that was parted, or not, spares number m
  parted : (most m : ℕ) (old new : State K V) (h to p : ℕ) (number : Option ℕ) (result : Result (Option ℕ) OutOfMemory) → h < length old.handles → to < length old.handles
      → list_at old.forest m ≢ [] → number_at old h ≢ Some m → new.handles ≡ with_made to result (slice_set old.handles h number)
      → SplitsAt most old.forest (number_at old h) p result new.forest number → IsSpared m old new
  parted most m old new h to p number (Err e) within into here apart handles s = record {
    list = ap (λ f. list_at f m) s.refused_forest;
    sizes = ap (λ f. sizes_at f m) s.refused_forest;
    handles = written m old.handles new.handles h number within (λ e. apart (sym s.refused_handle ∙ e)) handles;
  }
  parted most m old new h to p number (Ok tail) within into here apart handles s =
      let front : number ≢ Some m = λ e. here (subst (λ (q : Option ℕ). list_of old.forest q ≡ []) e (s.fresh (λ d. apart (sym d ∙ e)))) in
      let behind : tail ≢ Some m = λ e. here (subst (λ (q : Option ℕ). list_of old.forest q ≡ []) e (tail-fresh s (λ d. apart (sym d ∙ e)))) in
      let wide : to < length (slice_set old.handles h number) = subst (λ n. to < n) (sym (length-set old.handles h number)) into in
      record {
        list = s.others m (λ e. apart (sym e)) (λ e. front (sym e)) (λ e. behind (sym e));
        sizes = s.others_sizes m (λ e. apart (sym e)) (λ e. front (sym e)) (λ e. behind (sym e));
        handles = λ j has. written m old.handles (slice_set old.handles h number) h number within front refl j (written m (slice_set old.handles h number) new.handles to tail wide behind handles j has);
      }

  -- a call that is not offered changes nothing
  pub lacking : (there : Type 0) (old : State K V) (given : Answer K V) (new : State K V) → Lacks there old given new → new ≡ old
  lacking there old answer.NoIndex new l = l.1
  lacking there old answer.NotOffered new l = l.1
  lacking there old given new l = absurd l

  module _ (most : ℕ) (reads : Bool) (orders : Orders K) where
    spared-step : (m : ℕ) (old : State K V) (call : Call K V) (given : Answer K V) (new : State K V) → list_at old.forest m ≢ [] → Spares m old call → Step most reads orders old call given new → IsSpared m old new
    spared-step m old (call.Get h c k) given new here apart s = elim s [ inl r ↦ same m old new r.1 | inr r ↦ same m old new r.3.1 ]
    spared-step m old (call.GetOrLess h c k) given new here apart s = elim s [ inl r ↦ same m old new r.1 | inr r ↦ same m old new r.3.1 ]
    spared-step m old (call.GetOrGreater h c k) given new here apart s = elim s [ inl r ↦ same m old new r.1 | inr r ↦ same m old new r.3.1 ]
    spared-step m old (call.First h) given new here apart s = elim s [ inl r ↦ same m old new r.1 | inr r ↦ same m old new r.3.1 ]
    spared-step m old (call.Last h) given new here apart s = elim s [ inl r ↦ same m old new r.1 | inr r ↦ same m old new r.3.1 ]
    spared-step m old (call.Insert h c k v) given new here apart s = elim s [
      | inl r ↦ same m old new r.1
      | inr r ↦ changed m old new h r.3.2.0 _ r.0.0 here apart r.3.2.1 (inserted most (order_at orders c) old.forest (number_at old h) k v r.3.0 new.forest r.3.2.0 r.1 r.3.2.2)
    ]
    spared-step m old (call.GetOrInsert h c k v) given new here apart s = offered reads (λ t. elim t [
      | inl r ↦ same m old new r.1
      | inr r ↦ changed m old new h r.3.2.0 _ r.0.0 here apart r.3.2.1 (got-inserted most (order_at orders c) _ (record { forest = new.forest; number = r.3.2.0 }) k v r.3.0 r.1 r.3.2.2)
    ]) (λ l. same m old new (lacking _ old given new l)) s
    spared-step m old (call.Update h c k v) given new here apart s = offered reads (λ t. elim t [
      | inl r ↦ same m old new r.1
      | inr r ↦ changed m old new h r.3.2.0 _ r.0.0 here apart r.3.2.1 (updated (order_at orders c) _ (record { forest = new.forest; number = r.3.2.0 }) k v r.3.0 r.1 r.3.2.2)
    ]) (λ l. same m old new (lacking _ old given new l)) s
    spared-step m old (call.UpdateOrInsert h c k v put) given new here apart s = offered reads (λ t. elim t [
      | inl r ↦ same m old new r.1
      | inr r ↦ changed m old new h r.3.2.0 _ r.0.0 here apart r.3.2.1 (updated-inserted most (order_at orders c) _ (record { forest = new.forest; number = r.3.2.0 }) k v put r.3.0 r.1 r.3.2.2)
    ]) (λ l. same m old new (lacking _ old given new l)) s
    spared-step m old (call.Shift h c from keys) given new here apart s = elim s [
      | inl r ↦ same m old new r.1
      | inr r ↦ changed m old new h r.3.1.0 _ r.0.0 here apart r.3.1.1 (shifted (order_at orders c) _ (record { forest = new.forest; number = r.3.1.0 }) from keys.items r.3.1.2)
    ]
    spared-step m old (call.Remove h c k) given new here apart s = elim s [
      | inl r ↦ same m old new r.1
      | inr r ↦ changed m old new h r.3.2.0 _ r.0.0 here apart r.3.2.1 r.3.2.2.cut
    ]
    spared-step m old (call.PopFirst h) given new here apart s = elim s [
      | inl r ↦ same m old new r.1
      | inr r ↦ changed m old new h r.3.2.0 _ r.0 here apart r.3.2.1 r.3.2.2.removed.removed
    ]
    spared-step m old (call.PopLast h) given new here apart s = elim s [
      | inl r ↦ same m old new r.1
      | inr r ↦ changed m old new h r.3.2.0 _ r.0 here apart r.3.2.1 r.3.2.2.removed.removed
    ]
    spared-step m old (call.Len h) given new here apart s = elim s [ inl r ↦ same m old new r.1 | inr r ↦ same m old new r.3.1 ]
    spared-step m old (call.Compact h) given new here apart s = elim s [
      | inl r ↦ same m old new r.1
      | inr r ↦ changed m old new h r.3.2.0 _ r.0 here apart r.3.2.1 (compacted most old.forest (number_at old h) r.3.0 new.forest r.3.2.0 r.1 r.3.2.2)
    ]
    spared-step m old (call.RemoveRange h c lo hi) given new here apart s = elim s [
      | inl r ↦ same m old new r.1
      | inr r ↦ changed m old new h r.3.2.0 _ r.0.0 here apart r.3.2.1 r.3.2.2.removed
    ]
    spared-step m old (call.Unite h o c) given new here apart s = elim s [
      | inl r ↦ same m old new r.1
      | inr r ↦ changed m old new h r.3.2.0 _ r.0.0 here apart r.3.2.1
          (united-with most (order_at orders c) old.forest (number_at old h) (number_at old o) r.3.0 new.forest r.3.2.0 r.1.0 r.3.2.2)
    ]
    spared-step m old (call.Intersect h o c) given new here apart s = elim s [
      | inl r ↦ same m old new r.1
      | inr r ↦ changed m old new h r.3.2.0 _ r.0.0 here apart r.3.2.1 r.3.2.2.kept
    ]
    spared-step m old (call.Subtract h o c) given new here apart s = elim s [
      | inl r ↦ same m old new r.1
      | inr r ↦ changed m old new h r.3.2.0 _ r.0.0 here apart r.3.2.1 r.3.2.2.kept
    ]
    spared-step m old (call.IsSubset h o c) given new here apart s = elim s [ inl r ↦ same m old new r.1 | inr r ↦ same m old new r.3.1 ]
    spared-step m old (call.IsDisjoint h o c) given new here apart s = elim s [ inl r ↦ same m old new r.1 | inr r ↦ same m old new r.3.1 ]
    spared-step m old (call.Clear h) given new here apart s = elim s [
      | inl r ↦ same m old new r.1
      | inr r ↦ changed m old new h r.3.1.0 _ r.0 here apart r.3.1.1 r.3.1.2.cleared
    ]
    spared-step m old (call.Iter h) given new here apart s = elim s [ inl r ↦ same m old new r.1 | inr r ↦ same m old new r.3.3 ]
    spared-step m old (call.IterBack h) given new here apart s = elim s [ inl r ↦ same m old new r.1 | inr r ↦ same m old new r.3.3 ]
    spared-step m old (call.Read h c steps) given new here apart s =
        offered reads (λ t. elim t [ inl r ↦ same m old new r.1 | inr r ↦ same m old new r.3.1 ]) (λ l. same m old new (lacking _ old given new l)) s
    spared-step m old (call.Edit h c steps) given new here apart s = elim s [
      | inl r ↦ same m old new r.1
      | inr r ↦ changed m old new h r.3.2.0 _ r.0.0 here apart r.3.2.1 (scripted most (order_at orders c) _ _ steps.items r.3.0.items _ r.3.2.2.0 r.1 r.3.2.2.1)
    ]
    spared-step m old (call.Range h c lo hi ends) given new here apart s = elim s [ inl r ↦ same m old new r.1 | inr r ↦ same m old new r.3.1 ]
    spared-step m old (call.Retain h c keys put) given new here apart s = elim s [
      | inl r ↦ same m old new r.1
      | inr r ↦ changed m old new h r.3.1.0 _ r.0.0 here apart r.3.1.1 r.3.1.2.changed
    ]
    spared-step m old (call.Alias from to) given new here apart s = elim s [
      | inl r ↦ same m old new r.1
      | inr r ↦ record {
        list = ap (λ (t : State K V). list_at t.forest m) r.3.1;
        sizes = ap (λ (t : State K V). sizes_at t.forest m) r.3.1;
        handles = written m old.handles new.handles to (number_at old from) r.0.1 apart (ap (λ (t : State K V). t.handles) r.3.1);
      }
    ]
    spared-step m old (call.DeepClone from to) given new here apart s = elim s [
      | inl r ↦ same m old new r.1
      | inr r ↦ made m old new to r.3.0 _ r.0.1 here r.3.2 r.3.3.copied r.3.3.refused
    ]
    spared-step m old (call.SplitOff h c k to) given new here apart s = elim s [
      | inl r ↦ same m old new r.1
      | inr r ↦ parted most m old new h to _ r.3.0 r.3.1 r.0.0 r.0.2 here apart r.3.3 r.3.4.parts
    ]
    spared-step m old (call.Load h entries) given new here apart s = elim s [
      | inl r ↦ same m old new r.1
      | inr r ↦ made m old new h r.3.0 _ r.0 here r.3.2 r.3.3.loaded r.3.3.refused
    ]
    spared-step m old call.ForestClear given new here apart s = absurd apart

    -- a call that spares a tree spares it in a later state too
    later : (m : ℕ) (old mid : State K V) → IsSpared m old mid → (call : Call K V) → Spares m old call → Spares m mid call
    later m old mid a (call.Insert h c k v) apart = λ e. apart (a.handles h e)
    later m old mid a (call.GetOrInsert h c k v) apart = λ e. apart (a.handles h e)
    later m old mid a (call.Update h c k v) apart = λ e. apart (a.handles h e)
    later m old mid a (call.UpdateOrInsert h c k v put) apart = λ e. apart (a.handles h e)
    later m old mid a (call.Shift h c from keys) apart = λ e. apart (a.handles h e)
    later m old mid a (call.Remove h c k) apart = λ e. apart (a.handles h e)
    later m old mid a (call.PopFirst h) apart = λ e. apart (a.handles h e)
    later m old mid a (call.PopLast h) apart = λ e. apart (a.handles h e)
    later m old mid a (call.Compact h) apart = λ e. apart (a.handles h e)
    later m old mid a (call.RemoveRange h c lo hi) apart = λ e. apart (a.handles h e)
    later m old mid a (call.Unite h o c) apart = λ e. apart (a.handles h e)
    later m old mid a (call.Intersect h o c) apart = λ e. apart (a.handles h e)
    later m old mid a (call.Subtract h o c) apart = λ e. apart (a.handles h e)
    later m old mid a (call.Clear h) apart = λ e. apart (a.handles h e)
    later m old mid a (call.Edit h c steps) apart = λ e. apart (a.handles h e)
    later m old mid a (call.Retain h c keys put) apart = λ e. apart (a.handles h e)
    later m old mid a (call.Alias from to) apart = λ e. apart (a.handles from e)
    later m old mid a (call.SplitOff h c k to) apart = λ e. apart (a.handles h e)
    later m old mid a call apart = apart

    all-later : (m : ℕ) (old mid : State K V) → IsSpared m old mid → (calls : List (Call K V)) → AllByRecursion (Spares m old) calls → AllByRecursion (Spares m mid) calls
    all-later m old mid a [] all = tt
    all-later m old mid a (call ∷ calls) all = (later m old mid a call all.0, all-later m old mid a calls all.1)

    spared-run : (m : ℕ) (old : State K V) (calls : List (Call K V)) (answers : List (Answer K V)) (new : State K V)
        → list_at old.forest m ≢ [] → AllByRecursion (Spares m old) calls → Run most reads orders old calls answers new → IsSpared m old new
    spared-run m old [] [] new here all r = same m old new r
    spared-run m old (call ∷ calls) (given ∷ answers) new here all r =
        let first = spared-step m old call given r.0 here all.0 r.1 in
        both m old r.0 new first (spared-run m r.0 calls answers new (λ e. here (sym first.list ∙ e)) (all-later m old r.0 first calls all.1) r.2)
    spared-run m old [] (given ∷ answers) new here all r = absurd r
    spared-run m old (call ∷ calls) [] new here all r = absurd r

    all-taken : (P : Call K V → Type 0) (n : ℕ) (calls : List (Call K V)) → AllByRecursion P calls → AllByRecursion P (take n calls)
    all-taken P zero calls all = tt
    all-taken P (suc n) [] all = tt
    all-taken P (suc n) (call ∷ calls) all = (all.0, all-taken P n calls all.1)

    -- a run spares a tree that all its calls spare, also where it ended early
    pub run-spares : {E : Type 0} (m : ℕ) (old new : State K V) (calls : List (Call K V)) {Answers : Type 0} (items : Answers → List (Answer K V)) (result : Result Answers E)
        → IfOk result (λ answers. Run most reads orders old calls (items answers) new)
        → OnErr result ((n : ℕ) × (answers : List (Answer K V)) × Run most reads orders old (take n calls) answers new × MayStopAt reads orders new calls n)
        → list_at old.forest m ≢ [] → All (Spares m old) calls → IsSpared m old new
    run-spares m old new calls items (Ok answers) run err here all = spared-run m old calls (items answers) new here (recursion_from_All (Spares m old) calls all) run
    run-spares m old new calls items (Err e) run err here all = spared-run m old (take err.0 calls) err.1 new here (all-taken (Spares m old) err.0 calls (recursion_from_All (Spares m old) calls all)) err.2
