-- Two runs of one list of calls that go in step.
use Rattle.bforest.specs.Bounds.{entries_between, entry_at_least, entry_at_most}
use Rattle.bforest.specs.Calls.{Compacts, KeepsFrom, RemovesBetween, SplitsAt, SplitsOff}
use Rattle.bforest.specs.Forest.{Becomes, Forest, IsLive, emptied, list_of, sizes_of}
use Rattle.bforest.specs.Union.{are_among, are_apart}
use Rattle.bforest_trees.specs.Forest.{list_at, sizes_at}
use Rattle.bforest_calls.specs.Looks.{all_taken, sights_of}
use Rattle.bforest_calls.specs.Machine.{Compares, ComparesBoth, ComparesIf, Lacks, MakesFor, Offered, On, Orders, PartsFor, Refuses, Run, State, Step, Tests, as_made, order_at, with_made}
use Rattle.bforest_calls.specs.State.{FirstPopped, GotOrInserted, Held, LastPopped, Updated, UpdatedOrInserted, as_had}
use Rattle.bforest_calls.specs.declared.call.Answer.TheVariants as answer
use Rattle.bforest_calls.specs.declared.call.Answer.{Answer}
use Rattle.bforest_calls.specs.declared.call.Call.TheVariants as call
use Rattle.bforest_calls.specs.declared.call.Call.{Call}
use Rattle.bforest_calls.proofs.Changes.{compacted, got-inserted, inserted, retold, scripted, shifted, updated, updated-inserted, united-with}
use Rattle.bforest_calls_tests.proofs.Resembling.{IsMade, Resembles, between-alike, clears-alike, clones-made, clones-sizes, compacts-alike, gets-or-inserts-alike, inserts-alike, keeps-alike, loads-made, loads-sizes, made-alike, parts-alike, pops-alike, removes-alike, retains-alike, scripts-alike, shifts-alike, unites-alike, updates-alike, updates-or-inserts-alike}
use Rattle.bforest_calls_tests.specs.Determined.{AreAlike, AreDetermined, GoInStep, HadMemory, IsSameAnswer, RunsThrough}
use Rattle.bforest_core.specs.Change.{node_count}
use Rattle.bforest.specs.Refusal.{Memory, OutOfMemory}
use Rattle.bforest.specs.Entries.{IsIncreasing, place, value_for}
use Rattle.std.proofs.Common.{Bool, Err, List, None, Ok, Option, Result, Some, [], ap, false, get_or, inl, inr, length, refl, reverse, slice_get, subst, sym, true, ◌%◌, ◌-◌, ◌<◌, ◌∙◌, ◌∷◌, ◌≡◌, ◌≢◌, ◌⊎◌, ℕ}
use Rattle.std.proofs.lemmas.Bool.Decides.{eqb_tells}
use Rattle.std.proofs.lemmas.List.Elements.{recursion_from_All}
use Rattle.std.proofs.lemmas.List.{get_or-set_other, get_or-set_same, length-set, set-get_or}
use Rattle.std.specs.List.{AllByRecursion, AllZip}
use Rattle.std.specs.Prelude.{slice_set}
use Rattle.std.specs.declared.cmp.Ordering.{Ordering}

some-same : (n q : ℕ) → Some n ≡ Some q → n ≡ q
some-same n q e = cc

same-or-not : (n : ℕ) (h : Option ℕ) → (Some n ≡ h) ⊎ (Some n ≢ h)
same-or-not n None = inr (λ e. cc)
same-or-not n (Some q) = elim (eqb_tells n q) [ inl w ↦ inl (ap Some w.1) | inr w ↦ inr (λ e. w.1 (some-same n q e)) ]

-- lists by number stay alike where one handle changes alike in both
at-alike : {L : Type 0} (one other one' other' : ℕ → L) (none : L) (h k : Option ℕ)
    → ((n : ℕ) → other n ≡ one n)
    → ((n : ℕ) → Some n ≢ h → Some n ≢ k → one' n ≡ one n) → ((n : ℕ) → Some n ≢ h → Some n ≢ k → other' n ≡ other n)
    → ((n : ℕ) → Some n ≡ h → k ≢ h → one' n ≡ none) → ((n : ℕ) → Some n ≡ h → k ≢ h → other' n ≡ none)
    → ((n : ℕ) → Some n ≡ k → other' n ≡ one' n) → (n : ℕ) → other' n ≡ one' n
at-alike one other one' other' none h k alike stays stays' leaves leaves' is n = elim (same-or-not n k) [
  | inl e ↦ is n e
  | inr d ↦ elim (same-or-not n h) [
    | inl e ↦ leaves' n e (λ x. d (e ∙ sym x)) ∙ sym (leaves n e (λ x. d (e ∙ sym x)))
    | inr d' ↦ stays' n d' d ∙ alike n ∙ sym (stays n d' d)
  ]
]

-- the same where a tree was parted alike in both
at-parted : {L : Type 0} (one other one' other' : ℕ → L) (none : L) (h k t : Option ℕ)
    → ((n : ℕ) → other n ≡ one n)
    → ((n : ℕ) → Some n ≢ h → Some n ≢ k → Some n ≢ t → one' n ≡ one n) → ((n : ℕ) → Some n ≢ h → Some n ≢ k → Some n ≢ t → other' n ≡ other n)
    → ((n : ℕ) → Some n ≡ h → h ≢ k → h ≢ t → one' n ≡ none) → ((n : ℕ) → Some n ≡ h → h ≢ k → h ≢ t → other' n ≡ none)
    → ((n : ℕ) → Some n ≡ k → other' n ≡ one' n) → ((n : ℕ) → Some n ≡ t → other' n ≡ one' n) → (n : ℕ) → other' n ≡ one' n
at-parted one other one' other' none h k t alike stays stays' leaves leaves' is is-tail n = elim (same-or-not n k) [
  | inl e ↦ is n e
  | inr d ↦ elim (same-or-not n t) [
    | inl e ↦ is-tail n e
    | inr d2 ↦ elim (same-or-not n h) [
      | inl e ↦ leaves' n e (λ x. d (e ∙ x)) (λ x. d2 (e ∙ x)) ∙ sym (leaves n e (λ x. d (e ∙ x)) (λ x. d2 (e ∙ x)))
      | inr d3 ↦ stays' n d3 d d2 ∙ alike n ∙ sym (stays n d3 d d2)
    ]
  ]
]

-- two calls, both offered or both not
offered-alike : {P : Type 0} (reads : Bool) (Made Lacking Made' Lacking' : Type 0) → (Made → Made' → P) → (Lacking → Lacking' → P) → Offered reads Made Lacking → Offered reads Made' Lacking' → P
offered-alike true Made Lacking Made' Lacking' made lacks o o' = made o o'
offered-alike false Made Lacking Made' Lacking' made lacks o o' = lacks o o'

-- two handle lists that stay equal get the same number at an index
numbers-alike : (handles after after' : List (Option ℕ)) (h : ℕ) (number number' : Option ℕ) → h < length handles → after ≡ slice_set handles h number → after' ≡ slice_set handles h number' → after' ≡ after → number' ≡ number
numbers-alike handles after after' h number number' within e e' same =
    sym (get_or-set_same handles h number' None within) ∙ ap (λ xs. get_or xs h None) (sym e' ∙ same ∙ e) ∙ get_or-set_same handles h number None within

-- two indices that are apart: what a list has there after both are written, and equal lists have the same there
module _ (handles : List (Option ℕ)) {h to : ℕ} (within : h < length handles) (into : to < length handles) (apart : to ≢ h) where
  at-own : (number tail : Option ℕ) → get_or (slice_set (slice_set handles h number) to tail) h None ≡ number
  at-own number tail = get_or-set_other (slice_set handles h number) to h tail None (λ e. apart (sym e)) ∙ get_or-set_same handles h number None within

  at-tail : (number tail : Option ℕ) → get_or (slice_set (slice_set handles h number) to tail) to None ≡ tail
  at-tail number tail = get_or-set_same (slice_set handles h number) to tail None (subst (λ n. to < n) (sym (length-set handles h number)) into)

  parted-numbers : (after after' : List (Option ℕ)) (number number' tail tail' : Option ℕ) → after ≡ slice_set (slice_set handles h number) to tail
      → after' ≡ slice_set (slice_set handles h number') to tail' → after' ≡ after → (number' ≡ number) × (tail' ≡ tail)
  parted-numbers after after' number number' tail tail' e e' same =
      let both = sym e' ∙ same ∙ e in (
        sym (at-own number' tail') ∙ ap (λ xs. get_or xs h None) both ∙ at-own number tail,
        sym (at-tail number' tail') ∙ ap (λ xs. get_or xs to None) both ∙ at-tail number tail,
      )

-- forests without slots have the same lists, and trees of the same sizes
cleared-lists : {K V : Type 0} (f g : Forest K V) (n : ℕ) → list_at (emptied g) n ≡ list_at (emptied f) n
unfolding list_at
cleared-lists f g n = refl

cleared-sizes : {K V : Type 0} (f g : Forest K V) (n : ℕ) → sizes_at (emptied g) n ≡ sizes_at (emptied f) n
unfolding sizes_at
cleared-sizes f g n = refl

-- where memory was had for the answer, it was had for the result that it tells
not-memory : (result : Result (Option ℕ) OutOfMemory) → as_made result ≢ Err Memory → result ≢ Err Memory
not-memory (Ok n) m e = absurd (cc)
not-memory (Err why) m e = m (cc)

put-memory : {V : Type 0} (result : Result V OutOfMemory) → as_had result ≢ Err Memory → result ≢ Err Memory
put-memory (Ok v) m e = absurd (cc)
put-memory (Err why) m e = m (cc)

module _ {K V : Type 0} where
  list-alike : (f g : Forest K V) → ((n : ℕ) → list_at g n ≡ list_at f n) → (h : Option ℕ) → list_of g h ≡ list_of f h
  list-alike f g lists None = refl
  list-alike f g lists (Some n) = lists n

  sizes-alike : (f g : Forest K V) → ((n : ℕ) → sizes_at g n ≡ sizes_at f n) → (h : Option ℕ) → sizes_of g h ≡ sizes_of f h
  sizes-alike f g sizes None = refl
  sizes-alike f g sizes (Some n) = sizes n

  live-alike : (f g : Forest K V) → ((n : ℕ) → list_at g n ≡ list_at f n) → (h : Option ℕ) → IsLive f h → IsLive g h
  live-alike f g lists None live = tt
  live-alike f g lists (Some n) live = λ e. live (sym (lists n) ∙ e)

  abbrev at : Forest K V → List (Option ℕ) → State K V
  at f handles = record { forest = f; handles = handles }

  abbrev held : Forest K V → Option ℕ → Held K V
  held f number = record { forest = f; number = number }

  held-alike : (f g : Forest K V) (handles : List (Option ℕ)) → AreAlike (at f handles) (at g handles) → (h : Option ℕ) → Resembles (held f h) (held g h)
  held-alike f g handles a h = record {
    list = list-alike f g a.lists h;
    sizes = sizes-alike f g a.sizes h;
    slots = a.slots;
    free = a.free;
    limit = a.limit;
  }

  alike-same : (one other one' other' : State K V) → AreAlike one other → one' ≡ one → other' ≡ other → AreAlike one' other'
  alike-same one other one' other' a e e' = subst (λ (s : State K V). AreAlike s other') (sym e) (subst (λ (s : State K V). AreAlike one s) (sym e') a)

  -- alike changes of one handle's tree in two alike states leave them alike
  changed-alike : (f g : Forest K V) (handles : List (Option ℕ)) → AreAlike (at f handles) (at g handles) → (one' other' : State K V) (h k : Option ℕ) (es es' : List (K × V))
      → other'.handles ≡ one'.handles → Becomes f h one'.forest k es → Becomes g h other'.forest k es' → Resembles (held one'.forest k) (held other'.forest k) → AreAlike one' other'
  changed-alike f g handles a one' other' h k es es' same b b' r = record {
    handles = same;
    lists = at-alike (list_at f) (list_at g) (list_at one'.forest) (list_at other'.forest) [] h k a.lists b.others b'.others
        (λ n e ne. subst (λ (q : Option ℕ). list_of one'.forest q ≡ []) (sym e) (b.leaves ne)) (λ n e ne. subst (λ (q : Option ℕ). list_of other'.forest q ≡ []) (sym e) (b'.leaves ne))
        (λ n e. subst (λ (q : Option ℕ). list_of other'.forest q ≡ list_of one'.forest q) (sym e) r.list);
    sizes = at-alike (sizes_at f) (sizes_at g) (sizes_at one'.forest) (sizes_at other'.forest) [] h k a.sizes b.others_sizes b'.others_sizes
        (λ n e ne. subst (λ (q : Option ℕ). sizes_of one'.forest q ≡ []) (sym e) (b.leaves_sizes ne)) (λ n e ne. subst (λ (q : Option ℕ). sizes_of other'.forest q ≡ []) (sym e) (b'.leaves_sizes ne))
        (λ n e. subst (λ (q : Option ℕ). sizes_of other'.forest q ≡ sizes_of one'.forest q) (sym e) r.sizes);
    slots = r.slots;
    free = r.free;
    limit = r.limit;
  }

  -- a tree that is parted alike in two alike states leaves them alike
  parted-alike : (most : ℕ) (f g : Forest K V) (handles : List (Option ℕ)) → AreAlike (at f handles) (at g handles) → (one' other' : State K V) (h k t : Option ℕ) (p p' : ℕ)
      → other'.handles ≡ one'.handles → SplitsAt most f h p (Ok t) one'.forest k → SplitsAt most g h p' (Ok t) other'.forest k
      → Resembles (held one'.forest k) (held other'.forest k) → Resembles (held one'.forest t) (held other'.forest t) → AreAlike one' other'
  parted-alike most f g handles a one' other' h k t p p' same s s' r r' = record {
    handles = same;
    lists = at-parted (list_at f) (list_at g) (list_at one'.forest) (list_at other'.forest) [] h k t a.lists s.others s'.others
        (λ n e ne ne'. subst (λ (q : Option ℕ). list_of one'.forest q ≡ []) (sym e) (s.leaves ne ne')) (λ n e ne ne'. subst (λ (q : Option ℕ). list_of other'.forest q ≡ []) (sym e) (s'.leaves ne ne'))
        (λ n e. subst (λ (q : Option ℕ). list_of other'.forest q ≡ list_of one'.forest q) (sym e) r.list)
        (λ n e. subst (λ (q : Option ℕ). list_of other'.forest q ≡ list_of one'.forest q) (sym e) r'.list);
    sizes = at-parted (sizes_at f) (sizes_at g) (sizes_at one'.forest) (sizes_at other'.forest) [] h k t a.sizes s.others_sizes s'.others_sizes
        (λ n e ne ne'. subst (λ (q : Option ℕ). sizes_of one'.forest q ≡ []) (sym e) (s.leaves_sizes ne ne'))
        (λ n e ne ne'. subst (λ (q : Option ℕ). sizes_of other'.forest q ≡ []) (sym e) (s'.leaves_sizes ne ne'))
        (λ n e. subst (λ (q : Option ℕ). sizes_of other'.forest q ≡ sizes_of one'.forest q) (sym e) r.sizes)
        (λ n e. subst (λ (q : Option ℕ). sizes_of other'.forest q ≡ sizes_of one'.forest q) (sym e) r'.sizes);
    slots = r.slots;
    free = r.free;
    limit = r.limit;
  }

  -- two refusals by equivalent tests are equal
  refusals-alike : (there live live' ordered ordered' : Type 0) (one other : Answer K V) → (live → live') → (live' → live) → (ordered → ordered') → (ordered' → ordered)
      → Refuses there live ordered one → Refuses there live' ordered' other → other ≡ one
  refusals-alike there live live' ordered ordered' answer.NoIndex answer.NoIndex l l' o o' r r' = refl
  refusals-alike there live live' ordered ordered' answer.NoIndex answer.Dead l l' o o' r r' = absurd (r r'.0)
  refusals-alike there live live' ordered ordered' answer.NoIndex answer.Unordered l l' o o' r r' = absurd (r r'.0)
  refusals-alike there live live' ordered ordered' answer.NoIndex other l l' o o' r r' = absurd r'
  refusals-alike there live live' ordered ordered' answer.Dead answer.NoIndex l l' o o' r r' = absurd (r' r.0)
  refusals-alike there live live' ordered ordered' answer.Dead answer.Dead l l' o o' r r' = refl
  refusals-alike there live live' ordered ordered' answer.Dead answer.Unordered l l' o o' r r' = absurd (r.1 (l' r'.1))
  refusals-alike there live live' ordered ordered' answer.Dead other l l' o o' r r' = absurd r'
  refusals-alike there live live' ordered ordered' answer.Unordered answer.NoIndex l l' o o' r r' = absurd (r' r.0)
  refusals-alike there live live' ordered ordered' answer.Unordered answer.Dead l l' o o' r r' = absurd (r'.1 (l r.1))
  refusals-alike there live live' ordered ordered' answer.Unordered answer.Unordered l l' o o' r r' = refl
  refusals-alike there live live' ordered ordered' answer.Unordered other l l' o o' r r' = absurd r'
  refusals-alike there live live' ordered ordered' one other l l' o o' r r' = absurd r

  -- a call that is refused does not pass all tests
  refused-fails : (there live ordered : Type 0) (given : Answer K V) → Refuses there live ordered given → there → live → ordered → ⊥
  refused-fails there live ordered answer.NoIndex r t l o = r t
  refused-fails there live ordered answer.Dead r t l o = r.1 l
  refused-fails there live ordered answer.Unordered r t l o = r.2 o
  refused-fails there live ordered given r t l o = absurd r

  -- two calls under equivalent tests are both refused for one reason, or both made
  tests-alike : {P : Type 0} (there live live' ordered ordered' : Type 0) (old new old' new' : State K V) (given given' : Answer K V) (Made Made' : Type 0)
      → (live → live') → (live' → live) → (ordered → ordered') → (ordered' → ordered)
      → (given' ≡ given → new ≡ old → new' ≡ old' → P) → (there → live → live' → Made → Made' → P)
      → Tests there live ordered old given new Made → Tests there live' ordered' old' given' new' Made' → P
  tests-alike there live live' ordered ordered' old new old' new' given given' Made Made' l l' o o' stays made (inl r) (inl r') = stays (refusals-alike there live live' ordered ordered' given given' l l' o o' r.0 r'.0) r.1 r'.1
  tests-alike there live live' ordered ordered' old new old' new' given given' Made Made' l l' o o' stays made (inl r) (inr m) = absurd (refused-fails there live ordered given r.0 m.0 (l' m.1) (o' m.2))
  tests-alike there live live' ordered ordered' old new old' new' given given' Made Made' l l' o o' stays made (inr m) (inl r) = absurd (refused-fails there live' ordered' given' r.0 m.0 (l m.1) (o m.2))
  tests-alike there live live' ordered ordered' old new old' new' given given' Made Made' l l' o o' stays made (inr m) (inr m') = made m.0 m.1 m'.1 m.3 m'.3

  lacks-alike : (there : Type 0) (old new old' new' : State K V) (given given' : Answer K V) → Lacks there old given new → Lacks there old' given' new' → (given' ≡ given) × (new ≡ old) × (new' ≡ old')
  lacks-alike there old new old' new' answer.NoIndex answer.NoIndex l l' = (refl, l.1, l'.1)
  lacks-alike there old new old' new' answer.NotOffered answer.NotOffered l l' = (refl, l.1, l'.1)
  lacks-alike there old new old' new' answer.NoIndex answer.NotOffered l l' = absurd (l.0 l'.0)
  lacks-alike there old new old' new' answer.NotOffered answer.NoIndex l l' = absurd (l'.0 l.0)
  lacks-alike there old new old' new' answer.NoIndex given' l l' = absurd l'
  lacks-alike there old new old' new' answer.NotOffered given' l l' = absurd l'
  lacks-alike there old new old' new' given given' l l' = absurd l

  -- an answer is the same as itself
  own-answer : (given : Answer K V) → IsSameAnswer given given
  own-answer (answer.Pairs pairs) = refl
  own-answer (answer.Script sights) = refl
  own-answer given = refl

  answers-alike : (given given' told told' : Answer K V) → given ≡ told → given' ≡ told' → IsSameAnswer told told' → IsSameAnswer given given'
  answers-alike given given' told told' e e' s = subst (λ (x : Answer K V). IsSameAnswer x given') (sym e) (subst (λ (x : Answer K V). IsSameAnswer told x) (sym e') s)

  answers-same : (given given' : Answer K V) → given' ≡ given → IsSameAnswer given given'
  answers-same given given' e = answers-alike given given' given given refl e (own-answer given)

  memory-had : (given told : Answer K V) → given ≡ told → HadMemory given → HadMemory told
  memory-had given told e had = subst (λ (x : Answer K V). HadMemory x) e had

  module _ (most : ℕ) (odd : most % 2 ≡ 1) (reads : Bool) (orders : Orders K) where
    module _ (f g : Forest K V) (handles : List (Option ℕ)) (a : AreAlike (at f handles) (at g handles)) where
      abbrev number : ℕ → Option ℕ
      number h = get_or handles h None

      abbrev order : ℕ → K → K → Ordering
      order c = order_at orders c

      lists : (h : ℕ) → list_of g (number h) ≡ list_of f (number h)
      lists h = list-alike f g a.lists (number h)

      module _ (given given' : Answer K V) (new new' : State K V) where
        -- the answers are the same, and the states after them alike
        abbrev Agree : Type 0
        Agree = IsSameAnswer given given' × AreAlike new new'

        stays : given' ≡ given → new ≡ at f handles → new' ≡ at g handles → Agree
        stays e x y = (answers-same given given' e, alike-same (at f handles) (at g handles) new new' a x y)

        looked : (told told' : Answer K V) → given ≡ told → given' ≡ told' → IsSameAnswer told told' → new ≡ at f handles → new' ≡ at g handles → Agree
        looked told told' e e' same x y = (answers-alike given given' told told' e e' same, alike-same (at f handles) (at g handles) new new' a x y)

        compares : (h c : ℕ) (Made Made' : Type 0) → (h < length handles → IsLive f (number h) → IsLive g (number h) → Made → Made' → Agree)
            → Compares orders h c (at f handles) given new Made → Compares orders h c (at g handles) given' new' Made' → Agree
        compares h c Made Made' made s s' =
            tests-alike ((h < length handles) × (c < length orders)) _ _ _ _ (at f handles) new (at g handles) new' given given' Made Made'
            (live-alike f g a.lists (number h)) (live-alike g f (λ n. sym (a.lists n)) (number h))
            (subst (λ es. IsIncreasing (order c) es) (sym (lists h))) (subst (λ es. IsIncreasing (order c) es) (lists h))
            stays (λ t l l' m m'. made t.0 l l' m m') s s'

        compares-both : (h o c : ℕ) (Made Made' : Type 0) → (h < length handles → IsLive f (number h) → IsLive g (number h) → Made → Made' → Agree)
            → ComparesBoth orders h o c (at f handles) given new Made → ComparesBoth orders h o c (at g handles) given' new' Made' → Agree
        compares-both h o c Made Made' made s s' =
            tests-alike ((h < length handles) × (o < length handles) × (c < length orders)) _ _ _ _ (at f handles) new (at g handles) new' given given' Made Made'
            (λ l. (live-alike f g a.lists (number h) l.0, live-alike f g a.lists (number o) l.1))
            (λ l. (live-alike g f (λ n. sym (a.lists n)) (number h) l.0, live-alike g f (λ n. sym (a.lists n)) (number o) l.1))
            (λ i. (subst (λ es. IsIncreasing (order c) es) (sym (lists h)) i.0, subst (λ es. IsIncreasing (order c) es) (sym (lists o)) i.1))
            (λ i. (subst (λ es. IsIncreasing (order c) es) (lists h) i.0, subst (λ es. IsIncreasing (order c) es) (lists o) i.1))
            stays (λ t l l' m m'. made t.0 l.0 l'.0 m m') s s'

        names : (there : Type 0) (h : ℕ) (Made Made' : Type 0) → (there → IsLive f (number h) → IsLive g (number h) → Made → Made' → Agree)
            → Tests there (IsLive f (number h)) (Unit {0}) (at f handles) given new Made → Tests there (IsLive g (number h)) (Unit {0}) (at g handles) given' new' Made' → Agree
        names there h Made Made' made s s' =
            tests-alike there _ _ _ _ (at f handles) new (at g handles) new' given given' Made Made'
            (live-alike f g a.lists (number h)) (live-alike g f (λ n. sym (a.lists n)) (number h)) (λ o. o) (λ o. o)
            stays made s s'

        -- a change of handle h in both states leaves them alike
        changed : (h : ℕ) (k k' : Option ℕ) (es es' : List (K × V)) → h < length handles → new.handles ≡ slice_set handles h k → new'.handles ≡ slice_set handles h k' → new'.handles ≡ new.handles
            → Becomes f (number h) new.forest k es → Becomes g (number h) new'.forest k' es' → Resembles (held new.forest k) (held new'.forest k') → AreAlike new new'
        changed h k k' es es' within e e' same b b' r =
            let one : k' ≡ k = numbers-alike handles new.handles new'.handles h k k' within e e' same in
            changed-alike f g handles a new new' (number h) k es es' same b
            (subst (λ (q : Option ℕ). Becomes g (number h) new'.forest q es') one b') (subst (λ (q : Option ℕ). Resembles (held new.forest k) (held new'.forest q)) one r)

        compares-if : (h c : ℕ) (Made Made' : Type 0) → (h < length handles → IsLive f (number h) → IsLive g (number h) → Made → Made' → Agree)
            → ComparesIf reads orders h c (at f handles) given new Made → ComparesIf reads orders h c (at g handles) given' new' Made' → Agree
        compares-if h c Made Made' made s s' = offered-alike reads _ _ _ _ (compares h c _ _ made)
            (λ l l'. let r = lacks-alike _ (at f handles) new (at g handles) new' given given' l l' in stays r.0 r.1 r.2) s s'

        -- a tree that was made in both states, or in none
        made : (h : ℕ) (d d' : ℕ) (es es' : List (K × V)) → h < length handles → new'.handles ≡ new.handles → HadMemory given → HadMemory given' → d' ≡ d → es' ≡ es
            → (m : MakesFor h (at f handles) given new (IsMade f d es)) → (m' : MakesFor h (at g handles) given' new' (IsMade g d' es'))
            → ((n n' : Option ℕ) → m.0 ≡ Ok n → m'.0 ≡ Ok n' → sizes_of new'.forest n' ≡ sizes_of new.forest n) → Agree
        made h d d' es es' t same had had' nodes list m m' sizes =
            made-alike (held f None) (held g None) m.0 m'.0 new.forest new'.forest (held-alike f g handles a None) nodes list m.3 m'.3
            (not-memory m.0 (memory-had given (answer.Made (as_made m.0)) m.1 had)) (not-memory m'.0 (memory-had given' (answer.Made (as_made m'.0)) m'.1 had')) sizes
            (λ n n' e e' b b' r.
            let handles-are = m.2 ∙ ap (λ x. with_made h x handles) e in let handles-are' = m'.2 ∙ ap (λ x. with_made h x handles) e' in
            let one : n' ≡ n = numbers-alike handles new.handles new'.handles h n n' t handles-are handles-are' same in (
              answers-same given given' (m'.1 ∙ ap (λ x. answer.Made (as_made x)) (e' ∙ (λ z. Ok (one z)) ∙ sym e) ∙ sym m.1),
              changed-alike f g handles a new new' None n es es' same b (subst (λ (q : Option ℕ). Becomes g None new'.forest q es') one b')
                  (subst (λ (q : Option ℕ). Resembles (held new.forest n) (held new'.forest q)) one r),
            ))
            (λ e e' x x'. stays (m'.1 ∙ ap (λ y. answer.Made (as_made y)) (e' ∙ sym e) ∙ sym m.1)
            (λ z. record { forest = x z; handles = (m.2 ∙ ap (λ y. with_made h y handles) e) z }) (λ z. record { forest = x' z; handles = (m'.2 ∙ ap (λ y. with_made h y handles) e') z }))

        -- a tree that was parted in both states, or in neither
        parted : (h to c : ℕ) (k : K) → h < length handles → to < length handles → to ≢ h → new'.handles ≡ new.handles → HadMemory given → HadMemory given'
            → PartsFor h to (at f handles) given new (λ result after. SplitsOff most (order c) f (number h) k result after.forest after.number)
            → PartsFor h to (at g handles) given' new' (λ result after. SplitsOff most (order c) g (number h) k result after.forest after.number) → Agree
        parted h to c k within into apart same had had' m m' =
            parts-alike most (held-alike f g handles a (number h)) (λ z. place (order c) (lists h z) k) m.1 m'.1 (held new.forest m.0) (held new'.forest m'.0) m.4.parts m'.4.parts
            (not-memory m.1 (memory-had given (answer.Made (as_made m.1)) m.2 had)) (not-memory m'.1 (memory-had given' (answer.Made (as_made m'.1)) m'.2 had'))
            (λ n n' e e' r r'.
            let handles-are = m.3 ∙ ap (λ x. with_made to x (slice_set handles h m.0)) e in let handles-are' = m'.3 ∙ ap (λ x. with_made to x (slice_set handles h m'.0)) e' in
            let one = parted-numbers handles within into apart new.handles new'.handles m.0 m'.0 n n' handles-are handles-are' same in
            let s = subst (λ x. SplitsAt most f (number h) at-one x new.forest m.0) e m.4.parts in
            let s' = subst (λ x. SplitsAt most g (number h) at-other x new'.forest m'.0) e' m'.4.parts in (
              answers-same given given' (m'.2 ∙ ap (λ x. answer.Made (as_made x)) (e' ∙ (λ z. Ok (one.1 z)) ∙ sym e) ∙ sym m.2),
              parted-alike most f g handles a new new' (number h) m.0 n at-one at-other same s
                  (subst (λ (q : Option ℕ). SplitsAt most g (number h) at-other (Ok n) new'.forest q) one.0 (subst (λ (q : Option ℕ). SplitsAt most g (number h) at-other (Ok q) new'.forest m'.0) one.1 s'))
                  (subst (λ (q : Option ℕ). Resembles (held new.forest m.0) (held new'.forest q)) one.0 r)
                  (subst (λ (q : Option ℕ). Resembles (held new.forest n) (held new'.forest q)) one.1 r'),
            ))
            (λ e e' x x'. stays (m'.2 ∙ ap (λ y. answer.Made (as_made y)) (e' ∙ sym e) ∙ sym m.2)
            (unparted f new m.0 (m.3 ∙ ap (λ y. with_made to y (slice_set handles h m.0)) e) x) (unparted g new' m'.0 (m'.3 ∙ ap (λ y. with_made to y (slice_set handles h m'.0)) e') x'))
          where
            at-one : ℕ
            at-one = place (order c) (list_of f (number h)) k

            at-other : ℕ
            at-other = place (order c) (list_of g (number h)) k

            unparted : (q : Forest K V) (after : State K V) (own : Option ℕ) → after.handles ≡ slice_set handles h own → held after.forest own ≡ held q (number h) → after ≡ at q handles
            unparted q after own e x = λ z. record { forest = (x z).forest; handles = (e ∙ ap (λ (s : Held K V). slice_set handles h s.number) x ∙ set-get_or handles h None) z }

        -- a change of handle h in both states, that answers alike and leaves alike
        altered : {X : Type 0} (shown : X → Answer K V) (R : X → Held K V → Held K V → Type 0) (h : ℕ) → h < length handles → new'.handles ≡ new.handles
            → ((x : X) (one one' : Held K V) → IsLive one.forest one.number → R x one one' → Becomes one.forest one.number one'.forest one'.number (list_of one'.forest one'.number))
            → ((x x' : X) (one one' other other' : Held K V) → Resembles one other → given ≡ shown x → given' ≡ shown x' → R x one one' → R x' other other' → (x' ≡ x) × Resembles one' other')
            → IsLive f (number h) → IsLive g (number h)
            → (x : X) × (given ≡ shown x) × On h (at f handles) new (R x) → (x : X) × (given' ≡ shown x) × On h (at g handles) new' (R x) → Agree
        altered shown R h t same becomes alike l l' m m' =
            let r = alike m.0 m'.0 (held f (number h)) (held new.forest m.2.0) (held g (number h)) (held new'.forest m'.2.0) (held-alike f g handles a (number h)) m.1 m'.1 m.2.2 m'.2.2 in (
              answers-same given given' (m'.1 ∙ ap shown r.0 ∙ sym m.1),
              changed h m.2.0 m'.2.0 _ _ t m.2.1 m'.2.1 same (becomes m.0 (held f (number h)) (held new.forest m.2.0) l m.2.2) (becomes m'.0 (held g (number h)) (held new'.forest m'.2.0) l' m'.2.2) r.1,
            )

      -- a list keeps what another has, or what it has not
      abbrev Keeps : Bool → Forest K V → (h o c : ℕ) → Answer K V → State K V → Type 0
      Keeps present f h o c given new = ComparesBoth orders h o c (at f handles) given new
          ((changed : Bool) × (given ≡ answer.Changed changed)
          × On h (at f handles) new (λ before after. KeepsFrom most (order c) present before.forest before.number (number o) changed after.forest after.number))

      keeps-both : (present : Bool) (h o c : ℕ) (given given' : Answer K V) (new new' : State K V) → new'.handles ≡ new.handles
          → Keeps present f h o c given new → Keeps present g h o c given' new' → Agree given given' new new'
      keeps-both present h o c given given' new new' same s s' = compares-both given given' new new' h o c _ _
          (λ t l l' m m'.
          let r = keeps-alike most (order c) (held f (number h)) (held g (number h)) (held-alike f g handles a (number h)) (number o) (number o) (lists o) present m.0 m'.0
          (held new.forest m.2.0) (held new'.forest m'.2.0) m.2.2 m'.2.2 in (
            answers-alike given given' (answer.Changed m.0) (answer.Changed m'.0) m.1 m'.1 (ap (λ x. answer.Changed x) r.0),
            changed given given' new new' h m.2.0 m'.2.0 _ _ t m.2.1 m'.2.1 same m.2.2.kept m'.2.2.kept r.1,
          )) s s'

      step-alike : (call : Call K V) (given given' : Answer K V) (new new' : State K V) → Step most reads orders (at f handles) call given new → Step most reads orders (at g handles) call given' new'
          → new'.handles ≡ new.handles → HadMemory given → HadMemory given' → Agree given given' new new'
      step-alike (call.Get h c k) given given' new new' s s' same had had' = compares given given' new new' h c _ _
          (λ t l l' m m'. looked given given' new new' _ _ m.0 m'.0 (λ z. answer.Value (value_for (order c) (lists h z) k)) m.1 m'.1) s s'
      step-alike (call.GetOrLess h c k) given given' new new' s s' same had had' = compares given given' new new' h c _ _
          (λ t l l' m m'. looked given given' new new' _ _ m.0 m'.0 (λ z. answer.Pair (entry_at_most (order c) (lists h z) k)) m.1 m'.1) s s'
      step-alike (call.GetOrGreater h c k) given given' new new' s s' same had had' = compares given given' new new' h c _ _
          (λ t l l' m m'. looked given given' new new' _ _ m.0 m'.0 (λ z. answer.Pair (entry_at_least (order c) (lists h z) k)) m.1 m'.1) s s'
      step-alike (call.First h) given given' new new' s s' same had had' = names given given' new new' (h < length handles) h _ _
          (λ t l l' m m'. looked given given' new new' _ _ m.0 m'.0 (λ z. answer.Pair (slice_get (lists h z) 0)) m.1 m'.1) s s'
      step-alike (call.Last h) given given' new new' s s' same had had' = names given given' new new' (h < length handles) h _ _
          (λ t l l' m m'. looked given given' new new' _ _ m.0 m'.0 (λ z. answer.Pair (slice_get (lists h z) (length (lists h z) - 1))) m.1 m'.1) s s'
      step-alike (call.Insert h c k v) given given' new new' s s' same had had' = compares given given' new new' h c _ _
          (λ t l l' m m'.
          let r = inserts-alike most (order c) (held f (number h)) (held g (number h)) (held-alike f g handles a (number h)) k v m.0 m'.0 (held new.forest m.2.0) (held new'.forest m'.2.0) m.2.2 m'.2.2
          (memory-had given (answer.Put m.0) m.1 had) (memory-had given' (answer.Put m'.0) m'.1 had') in (
            answers-alike given given' (answer.Put m.0) (answer.Put m'.0) m.1 m'.1 (ap (λ x. answer.Put x) r.0),
            changed given given' new new' h m.2.0 m'.2.0 _ _ t m.2.1 m'.2.1 same
                (inserted most (order c) f (number h) k v m.0 new.forest m.2.0 l m.2.2) (inserted most (order c) g (number h) k v m'.0 new'.forest m'.2.0 l' m'.2.2) r.1,
          )) s s'
      step-alike (call.GetOrInsert h c k v) given given' new new' s s' same had had' = compares-if given given' new new' h c _ _
          (λ t l l' m m'. altered given given' new new' (λ x. answer.Put (as_had x)) (GotOrInserted most (order c) k v) h t same (λ x one one' l r. got-inserted most (order c) one one' k v x l r)
          (λ x x' one one' other other' r e e' p p'. gets-or-inserts-alike most (order c) one other r k v x x' one' other' (put-memory x (memory-had given (answer.Put (as_had x)) e had))
          (put-memory x' (memory-had given' (answer.Put (as_had x')) e' had')) p p') l l' m m') s s'
      step-alike (call.Update h c k v) given given' new new' s s' same had had' = compares-if given given' new new' h c _ _
          (λ t l l' m m'. altered given given' new new' (λ x. answer.Value x) (Updated (order c) k v) h t same (λ x one one' l r. updated (order c) one one' k v x l r)
          (λ x x' one one' other other' r e e' p p'. updates-alike most (order c) one other r k v x x' one' other' p p') l l' m m') s s'
      step-alike (call.UpdateOrInsert h c k v w) given given' new new' s s' same had had' = compares-if given given' new new' h c _ _
          (λ t l l' m m'. altered given given' new new' (λ x. answer.Put (as_had x)) (UpdatedOrInserted most (order c) k v w) h t same (λ x one one' l r. updated-inserted most (order c) one one' k v w x l r)
          (λ x x' one one' other other' r e e' p p'. updates-or-inserts-alike most (order c) one other r k v w x x' one' other' (put-memory x (memory-had given (answer.Put (as_had x)) e had))
          (put-memory x' (memory-had given' (answer.Put (as_had x')) e' had')) p p') l l' m m') s s'
      step-alike (call.Shift h c from keys) given given' new new' s s' same had had' = compares given given' new new' h c _ _
          (λ t l l' m m'. (
            answers-alike given given' answer.Done answer.Done m.0 m'.0 refl,
            changed given given' new new' h m.1.0 m'.1.0 _ _ t m.1.1 m'.1.1 same (shifted (order c) (held f (number h)) (held new.forest m.1.0) from keys.items m.1.2)
                (shifted (order c) (held g (number h)) (held new'.forest m'.1.0) from keys.items m'.1.2)
                (shifts-alike most (order c) (held f (number h)) (held g (number h)) (held-alike f g handles a (number h)) from keys.items (held new.forest m.1.0) (held new'.forest m'.1.0) m.1.2 m'.1.2),
          )) s s'
      step-alike (call.Remove h c k) given given' new new' s s' same had had' = compares given given' new new' h c _ _
          (λ t l l' m m'.
          let r = removes-alike most (order c) (held f (number h)) (held g (number h)) (held-alike f g handles a (number h)) k m.0 m'.0 (held new.forest m.2.0) (held new'.forest m'.2.0) m.2.2 m'.2.2 in (
            answers-alike given given' (answer.Value m.0) (answer.Value m'.0) m.1 m'.1 (ap (λ x. answer.Value x) r.0),
            changed given given' new new' h m.2.0 m'.2.0 _ _ t m.2.1 m'.2.1 same m.2.2.cut m'.2.2.cut r.1,
          )) s s'
      step-alike (call.PopFirst h) given given' new new' s s' same had had' = names given given' new new' (h < length handles) h _ _
          (λ t l l' m m'. altered given given' new new' (λ x. answer.Pair x) (FirstPopped most) h t same (λ x one one' l r. retold _ _ _ _ _ r.removed.removed)
          (λ x x' one one' other other' r e e' p p'. pops-alike most (order 0) one other r 0 0 x x' one' other' refl p p') l l' m m') s s'
      step-alike (call.PopLast h) given given' new new' s s' same had had' = names given given' new new' (h < length handles) h _ _
          (λ t l l' m m'. altered given given' new new' (λ x. answer.Pair x) (LastPopped most) h t same (λ x one one' l r. retold _ _ _ _ _ r.removed.removed)
          (λ x x' one one' other other' r e e' p p'. pops-alike most (order 0) one other r _ _ x x' one' other' (λ z. length (r.list z) - 1) p p') l l' m m') s s'
      step-alike (call.Len h) given given' new new' s s' same had had' = names given given' new new' (h < length handles) h _ _
          (λ t l l' m m'. looked given given' new new' _ _ m.0 m'.0 (λ z. answer.Count (length (lists h z))) m.1 m'.1) s s'
      step-alike (call.Compact h) given given' new new' s s' same had had' = names given given' new new' (h < length handles) h _ _
          (λ t l l' m m'. altered given given' new new' (λ x. answer.Made x) (λ x held after. Compacts most held.forest held.number x after.forest after.number) h t same
          (λ x one one' l r. compacted most one.forest one.number x one'.forest one'.number l r)
          (λ x x' one one' other other' r e e' p p'. compacts-alike most odd one other r x x' one' other' p p' (memory-had given (answer.Made x) e had) (memory-had given' (answer.Made x') e' had')) l l' m m') s s'
      step-alike (call.RemoveRange h c lo hi) given given' new new' s s' same had had' = compares given given' new new' h c _ _
          (λ t l l' m m'. altered given given' new new' (λ x. answer.Changed x) (λ x held after. RemovesBetween most (order c) lo hi held.forest held.number x after.forest after.number) h t same
          (λ x one one' l r. retold _ _ _ _ _ r.removed)
          (λ x x' one one' other other' r e e' p p'. between-alike most (order c) one other r lo hi x x' one' other' p p') l l' m m') s s'
      step-alike (call.Unite h o c) given given' new new' s s' same had had' = compares-both given given' new new' h o c _ _
          (λ t l l' m m'.
          let r = unites-alike most (order c) (held f (number h)) (held g (number h)) (held-alike f g handles a (number h)) (number o) (number o) (lists o) odd m.0 m'.0
          (held new.forest m.2.0) (held new'.forest m'.2.0) m.2.2 m'.2.2 (memory-had given (answer.United m.0) m.1 had) (memory-had given' (answer.United m'.0) m'.1 had') in (
            answers-alike given given' (answer.United m.0) (answer.United m'.0) m.1 m'.1 (ap (λ x. answer.United x) r.0),
            changed given given' new new' h m.2.0 m'.2.0 _ _ t m.2.1 m'.2.1 same
                (united-with most (order c) f (number h) (number o) m.0 new.forest m.2.0 l m.2.2) (united-with most (order c) g (number h) (number o) m'.0 new'.forest m'.2.0 l' m'.2.2) r.1,
          )) s s'
      step-alike (call.Intersect h o c) given given' new new' s s' same had had' = keeps-both true h o c given given' new new' same s s'
      step-alike (call.Subtract h o c) given given' new new' s s' same had had' = keeps-both false h o c given given' new new' same s s'
      step-alike (call.IsSubset h o c) given given' new new' s s' same had had' = compares-both given given' new new' h o c _ _
          (λ t l l' m m'. looked given given' new new' _ _ m.0 m'.0 (λ z. answer.Holds (are_among (order c) (lists h z) (lists o z))) m.1 m'.1) s s'
      step-alike (call.IsDisjoint h o c) given given' new new' s s' same had had' = compares-both given given' new new' h o c _ _
          (λ t l l' m m'. looked given given' new new' _ _ m.0 m'.0 (λ z. answer.Holds (are_apart (order c) (lists h z) (lists o z))) m.1 m'.1) s s'
      step-alike (call.Clear h) given given' new new' s s' same had had' = names given given' new new' (h < length handles) h _ _
          (λ t l l' m m'. (
            answers-alike given given' answer.Done answer.Done m.0 m'.0 refl,
            changed given given' new new' h m.1.0 m'.1.0 _ _ t m.1.1 m'.1.1 same m.1.2.cleared m'.1.2.cleared
                (clears-alike most (order 0) (held f (number h)) (held g (number h)) (held-alike f g handles a (number h)) (held new.forest m.1.0) (held new'.forest m'.1.0) m.1.2 m'.1.2),
          )) s s'
      step-alike (call.Iter h) given given' new new' s s' same had had' = names given given' new new' (h < length handles) h _ _
          (λ t l l' m m'. looked given given' new new' (answer.Pairs m.0) (answer.Pairs m'.0) m.1 m'.1 (m'.2 ∙ lists h ∙ sym m.2) m.3 m'.3) s s'
      step-alike (call.IterBack h) given given' new new' s s' same had had' = names given given' new new' (h < length handles) h _ _
          (λ t l l' m m'. looked given given' new new' (answer.Pairs m.0) (answer.Pairs m'.0) m.1 m'.1 (m'.2 ∙ ap (λ es. reverse es) (lists h) ∙ sym m.2) m.3 m'.3) s s'
      step-alike (call.Read h c steps) given given' new new' s s' same had had' = compares-if given given' new new' h c _ _
          (λ t l l' m m'. looked given given' new new' (answer.Script m.0.0) (answer.Script m'.0.0) m.0.1 m'.0.1
          (m'.0.2 ∙ (λ z. sights_of (order c) (lists h z) (length (lists h z)) steps.items) ∙ sym m.0.2) m.1 m'.1) s s'
      step-alike (call.Edit h c steps) given given' new new' s s' same had had' = compares given given' new new' h c _ _
          (λ t l l' m m'.
          let r = scripts-alike most (order c) (held f (number h)) (held g (number h)) (held-alike f g handles a (number h)) _ _ steps.items m.0.items m'.0.items
          (held new.forest m.2.0) (held new'.forest m'.2.0) m.2.2.0 m'.2.2.0 (ap (λ es. length es) (lists h)) m.2.2.1 m'.2.2.1
          (recursion_from_All _ m.0.items (memory-had given (answer.Script m.0) m.1 had)) (recursion_from_All _ m'.0.items (memory-had given' (answer.Script m'.0) m'.1 had')) in (
            answers-alike given given' (answer.Script m.0) (answer.Script m'.0) m.1 m'.1 r.0,
            changed given given' new new' h m.2.0 m'.2.0 _ _ t m.2.1 m'.2.1 same
                (scripted most (order c) (held f (number h)) _ steps.items m.0.items (held new.forest m.2.0) m.2.2.0 l m.2.2.1)
                (scripted most (order c) (held g (number h)) _ steps.items m'.0.items (held new'.forest m'.2.0) m'.2.2.0 l' m'.2.2.1) r.1,
          )) s s'
      step-alike (call.Range h c lo hi ends) given given' new new' s s' same had had' = compares given given' new new' h c _ _
          (λ t l l' m m'. looked given given' new new' (answer.Script m.0.0) (answer.Script m'.0.0) m.0.1 m'.0.1
          (m'.0.2 ∙ (λ z. all_taken (entries_between (order c) lo hi (lists h z)) ends.items) ∙ sym m.0.2) m.1 m'.1) s s'
      step-alike (call.Retain h c keys put) given given' new new' s s' same had had' = names given given' new new' ((h < length handles) × (c < length orders)) h _ _
          (λ t l l' m m'. (
            answers-alike given given' answer.Done answer.Done m.0 m'.0 refl,
            changed given given' new new' h m.1.0 m'.1.0 _ _ t.0 m.1.1 m'.1.1 same m.1.2.changed m'.1.2.changed
                (retains-alike most (order c) (held f (number h)) (held g (number h)) (held-alike f g handles a (number h)) keys.items put (held new.forest m.1.0) (held new'.forest m'.1.0) m.1.2 m'.1.2),
          )) s s'
      step-alike (call.Alias from to) given given' new new' s s' same had had' =
          tests-alike ((from < length handles) × (to < length handles)) (Unit {0}) (Unit {0}) (Unit {0}) (Unit {0}) (at f handles) new (at g handles) new' given given' _ _ (λ x. x) (λ x. x) (λ x. x) (λ x. x) (stays given given' new new')
          (λ t l l' m m'. (
            answers-alike given given' answer.Done answer.Done m.0 m'.0 refl,
            alike-same (at f (slice_set handles to (number from))) (at g (slice_set handles to (number from))) new new'
                (record { handles = refl; lists = a.lists; sizes = a.sizes; slots = a.slots; free = a.free; limit = a.limit }) m.1 m'.1,
          )) s s'
      step-alike (call.DeepClone from to) given given' new new' s s' same had had' = names given given' new new' ((from < length handles) × (to < length handles)) from _ _
          (λ t l l' m m'.
          let r = held-alike f g handles a (number from) in
          made given given' new new' to _ _ (list_of f (number from)) (list_of g (number from)) t.1 same had had' (ap node_count r.sizes) r.list (m.0, m.1, m.2, clones-made m.3)
          (m'.0, m'.1, m'.2, clones-made m'.3) (clones-sizes (held f (number from)) (held g (number from)) r m.3 m'.3)) s s'
      step-alike (call.SplitOff h c k to) given given' new new' s s' same had had' =
          tests-alike ((h < length handles) × (c < length orders) × (to < length handles) × (to ≢ h)) _ _ _ _ (at f handles) new (at g handles) new' given given' _ _
          (live-alike f g a.lists (number h)) (live-alike g f (λ n. sym (a.lists n)) (number h))
          (subst (λ es. IsIncreasing (order c) es) (sym (lists h))) (subst (λ es. IsIncreasing (order c) es) (lists h))
          (stays given given' new new') (λ t l l' m m'. parted given given' new new' h to c k t.0 t.2 t.3 same had had' m m') s s'
      step-alike (call.Load h entries) given given' new new' s s' same had had' =
          tests-alike (h < length handles) (Unit {0}) (Unit {0}) (Unit {0}) (Unit {0}) (at f handles) new (at g handles) new' given given' _ _ (λ x. x) (λ x. x) (λ x. x) (λ x. x) (stays given given' new new')
          (λ t l l' m m'. made given given' new new' h _ _ entries.items entries.items t same had had' refl refl (m.0, m.1, m.2, loads-made m.3) (m'.0, m'.1, m'.2, loads-made m'.3)
          (loads-sizes most odd m.3 m'.3)) s s'
      step-alike call.ForestClear given given' new new' s s' same had had' = (
        answers-alike given given' answer.Done answer.Done s.0 s'.0 refl,
        alike-same (at (emptied f) handles) (at (emptied g) handles) new new'
            (record { handles = refl; lists = cleared-lists f g; sizes = cleared-sizes f g; slots = refl; free = refl; limit = a.limit }) s.1 s'.1,
      )

    -- two equal calls in two alike states answer the same and leave alike states
    step-both : (old old' : State K V) → AreAlike old old' → (call : Call K V) (given given' : Answer K V) (new new' : State K V) → Step most reads orders old call given new → Step most reads orders old' call given' new'
        → new'.handles ≡ new.handles → HadMemory given → HadMemory given' → IsSameAnswer given given' × AreAlike new new'
    step-both old old' a call given given' new new' s s' same had had' =
        let as-one : old' ≡ at old'.forest old.handles = λ z. record { forest = old'.forest; handles = a.handles z } in
        step-alike old.forest old'.forest old.handles (subst (λ (t : State K V). AreAlike old t) as-one a) call given given' new new' s
        (subst (λ (t : State K V). Step most reads orders t call given' new') as-one s') same had had'

    runs-alike : (old old' : State K V) (calls : List (Call K V)) (answers answers' : List (Answer K V)) (states states' : List (State K V)) (new new' : State K V)
        → AreAlike old old' → RunsThrough most reads orders old calls answers states new → RunsThrough most reads orders old' calls answers' states' new'
        → AllByRecursion HadMemory answers → AllByRecursion HadMemory answers' → GoInStep states states' → AllZip IsSameAnswer answers answers' × AreAlike new new'
    runs-alike old old' [] [] [] [] [] new new' a r r' had had' step = (tt, alike-same old old' new new' a r r')
    runs-alike old old' (call ∷ calls) (given ∷ answers) (given' ∷ answers') (state ∷ states) (state' ∷ states') new new' a r r' had had' step =
        let first = step-both old old' a call given given' state state' r.0 r'.0 step.0 had.0 had'.0 in
        let rest = runs-alike state state' calls answers answers' states states' new new' first.1 r.1 r'.1 had.1 had'.1 step.1 in
        ((first.0, rest.0), rest.1)
    runs-alike old old' [] (given ∷ answers) answers' states states' new new' a r r' had had' step = absurd r
    runs-alike old old' [] [] answers' (state ∷ states) states' new new' a r r' had had' step = absurd r
    runs-alike old old' [] [] (given' ∷ answers') [] states' new new' a r r' had had' step = absurd r'
    runs-alike old old' [] [] [] [] (state' ∷ states') new new' a r r' had had' step = absurd r'
    runs-alike old old' (call ∷ calls) [] answers' states states' new new' a r r' had had' step = absurd r
    runs-alike old old' (call ∷ calls) (given ∷ answers) answers' [] states' new new' a r r' had had' step = absurd r
    runs-alike old old' (call ∷ calls) (given ∷ answers) [] (state ∷ states) states' new new' a r r' had had' step = absurd r'
    runs-alike old old' (call ∷ calls) (given ∷ answers) (given' ∷ answers') (state ∷ states) [] new new' a r r' had had' step = absurd r'

    -- a run goes through some states, one after each call
    through : (old : State K V) (calls : List (Call K V)) (answers : List (Answer K V)) (new : State K V) → Run most reads orders old calls answers new
        → (states : List (State K V)) × RunsThrough most reads orders old calls answers states new
    through old [] [] new r = ([], r)
    through old (call ∷ calls) (given ∷ answers) new r = let rest = through r.0 calls answers new r.2 in (r.0 ∷ rest.0, (r.1, rest.1))
    through old [] (given ∷ answers) new r = absurd r
    through old (call ∷ calls) [] new r = absurd r

    pub runs-determined : (calls : List (Call K V)) (old : State K V) (answers : List (Answer K V)) (new old' : State K V) (answers' : List (Answer K V)) (new' : State K V)
        → Run most reads orders old calls answers new → Run most reads orders old' calls answers' new' → AreDetermined most reads orders calls old answers new old' answers' new'
    runs-determined calls old answers new old' answers' new' r r' = record {
      run = through old calls answers new r;
      run' = through old' calls answers' new' r';
      same = λ states states' one other a had had' step. runs-alike old old' calls answers answers' states states' new new' a one other
          (recursion_from_All HadMemory answers had) (recursion_from_All HadMemory answers' had') step;
    }
