-- What a split of the list of one index, whose tail goes to another one, leaves of all indices.
use Rattle.bforest_trees.proofs.ranges.Splitting.{tail-fresh}
use Rattle.bforest.proofs.Balances.{clears-balance}
use Rattle.bforest_core.proofs.table.Allocating.{grows-alike}
use Rattle.bforest.specs.Calls.{Clears, SplitsAt, SplitsOff}
use Rattle.bforest.specs.Entries.{IsIncreasing, place, value_for}
use Rattle.bforest.specs.Forest.{Forest, IsFitFor, IsLive, list_of, memory_of, sizes_of}
use Rattle.bforest.specs.Refusal.{Full, Memory, OutOfMemory}
use Rattle.bforest.specs.Room.{node_count}
use Rattle.bforest_indexed.proofs.Adding.{pushed}
use Rattle.bforest_indexed.proofs.Kept.{changes, here, kept-same, kept-set, kept-swapped, live_beside, none-some, nodes_of, nothing-increases, ok-err, read, unchanged, with_tree}
use Rattle.bforest_indexed.proofs.Rooms.{sum-agree, sum-set}
use Rattle.bforest_indexed.specs.Indexed.{AreKept, ChangesAt, Indexed, SplitsOffAt, count, entries, handle, node_sizes, nodes_in_use, table}
use Rattle.std.proofs.Common.{IsErrAnd, Err, List, None, Ok, Option, Result, Some, [], ap, arith, get_or, inl, inr, length, refl, set, subst, sym, ℕ, ◌++◌, ◌+◌, ◌<◌, ◌∙◌, ◌∷◌, ◌≡◌, ◌≢◌}
use Rattle.std.proofs.lemmas.Bool.Decides.{eqb_tells}
use Rattle.std.proofs.lemmas.List.{get_or-set_other, get_or-set_same, get_or_past, get_or_read, length-append, length-set}
use Rattle.std.proofs.lemmas.List.Edits.{swap_is}
use Rattle.std.proofs.lemmas.Result.{err_from_is_err_and}
use Rattle.std.specs.List.{SwappedAt, swap}
use Rattle.std.specs.declared.cmp.Ordering.{Ordering}

-- two elements changed places
swapped-at : {A : Type 0} (xs : List A) (a b : ℕ) → a < length xs → b < length xs → SwappedAt xs (swap xs a b) a b
swapped-at xs a b low high =
    let is : (d : _) → swap xs a b ≡ set (set xs a (get_or xs b d)) b (get_or xs a d) = λ d. sym (swap_is xs a b d low high) in
    let second : (d : _) → get_or (swap xs a b) b d ≡ get_or xs a d = λ d. ap (λ l. get_or l b d) (is d) ∙ get_or-set_same (set xs a (get_or xs b d)) b (get_or xs a d) d (omega (arith, high, length-set xs a (get_or xs b d))) in (
      λ d. elim (eqb_tells a b) [
        | inl w ↦ ap (λ z. get_or (swap xs a b) z d) w.1 ∙ second d ∙ ap (λ z. get_or xs z d) w.1
        | inr w ↦ ap (λ l. get_or l a d) (is d) ∙ get_or-set_other (set xs a (get_or xs b d)) b a (get_or xs a d) d w.1 ∙ get_or-set_same xs a (get_or xs b d) d low
      ],
      second,
      λ q d ne ne'. ap (λ l. get_or l q d) (is d) ∙ get_or-set_other (set xs a (get_or xs b d)) b q (get_or xs a d) d ne' ∙ get_or-set_other xs a q (get_or xs b d) d ne,
      is,
    )

module _ {K X C : Type 0} {most : ℕ} {cmp : K → K → Ordering} {m : Indexed K X C} (a : AreKept most cmp m) {i j : ℕ} (there : i < count m) (within : j < count m) (k : K) where
  abbrev p : ℕ
  p = place cmp (entries m i) k

  -- the forest after the split, and the handles that it left and returned
  module _ {f1 : Forest K X} {h1 t : Option ℕ} (call : SplitsOff most cmp (table m) (handle m i) k (Ok t) f1 h1) where
    abbrev s : SplitsAt most (table m) (handle m i) p (Ok t) f1 h1
    s = call.parts

    -- an empty handle behind the others, and the tail there
    abbrev more : List (Option ℕ)
    more = m.handles ++ None ∷ []

    more-is : (q : ℕ) → get_or more q None ≡ handle m q
    more-is = pushed m.handles m.handles more None refl refl refl

    abbrev last : ℕ
    last = count m

    abbrev m2 : Indexed K X C
    m2 = record m { forest = f1; handles = set (set more last t) i h1 }

    not-last : (q : ℕ) → q < count m → q ≢ last
    not-last q low e = omega (arith, low, e)

    own : handle m2 i ≡ h1
    own = get_or-set_same (set more last t) i h1 None (omega (arith, there, length-set more last t, length-append m.handles (None ∷ [])))

    tail-own : handle m2 last ≡ t
    tail-own = get_or-set_other (set more last t) i last h1 None (λ e. not-last i there (sym e)) ∙ get_or-set_same more last t None (omega (arith, length-append m.handles (None ∷ [])))

    other : (q : ℕ) → q ≢ i → q ≢ last → handle m2 q ≡ handle m q
    other q ne ne' = get_or-set_other (set more last t) i q h1 None ne ∙ get_or-set_other more last q t None ne' ∙ more-is q

    -- the number of another index is neither that of i nor that of the front or the tail
    apart-own : (q n : ℕ) → q ≢ i → handle m q ≡ Some n → Some n ≢ handle m i
    apart-own q n ne e d = ne (a.apart q i n e (sym d))

    some-list : (q n : ℕ) → handle m q ≡ Some n → list_of (table m) (Some n) ≢ []
    some-list q n e = subst (λ (z : Option ℕ). IsLive (table m) z) e (a.live q)

    apart-front : (q n : ℕ) → q ≢ i → handle m q ≡ Some n → Some n ≢ h1
    apart-front q n ne e d = some-list q n e (ap (list_of (table m)) d ∙ s.fresh (λ z. apart-own q n ne e (d ∙ z)))

    apart-tail : (q n : ℕ) → q ≢ i → handle m q ≡ Some n → Some n ≢ t
    apart-tail q n ne e d = some-list q n e (ap (list_of (table m)) d ∙ tail-fresh s (λ z. apart-own q n ne e (d ∙ z)))

    -- the handle of another index keeps its list and its sizes
    stays : (q : ℕ) → q ≢ i → (h : Option ℕ) → handle m q ≡ h → (list_of f1 h ≡ list_of (table m) h) × (sizes_of f1 h ≡ sizes_of (table m) h)
    stays q ne None e = (refl, refl)
    stays q ne (Some n) e = (s.others n (apart-own q n ne e) (apart-front q n ne e) (apart-tail q n ne e), s.others_sizes n (apart-own q n ne e) (apart-front q n ne e) (apart-tail q n ne e))

    stays-more : (q : ℕ) → q ≢ i → sizes_of f1 (get_or more q None) ≡ sizes_of (table m) (get_or more q None)
    stays-more q ne = (stays q ne (get_or more q None) (sym (more-is q))).1

    beside2 : (q : ℕ) → q ≢ i → q ≢ last → (entries m2 q ≡ entries m q) × (node_sizes m2 q ≡ node_sizes m q)
    beside2 q ne ne' = let z = stays q ne (handle m q) refl in (ap (list_of f1) (other q ne ne') ∙ z.0, ap (sizes_of f1) (other q ne ne') ∙ z.1)

    -- the handle of an index, by which index it is
    each : (P : ℕ → Option ℕ → Type 0) → P i h1 → P last t → ((q : ℕ) → q ≢ i → q ≢ last → P q (handle m q)) → (q : ℕ) → P q (handle m2 q)
    each P first second others q = elim (eqb_tells q i) [
      | inl w ↦ subst (λ z. P z (handle m2 z)) (sym w.1) (subst (P i) (sym own) first)
      | inr w ↦ elim (eqb_tells q last) [
        | inl v ↦ subst (λ z. P z (handle m2 z)) (sym v.1) (subst (P last) (sym tail-own) second)
        | inr v ↦ subst (P q) (sym (other q w.1 v.1)) (others q w.1 v.1)
      ]
    ]

    both : (n : ℕ) → h1 ≡ Some n → t ≡ Some n → ⊥
    both n e e' = none-some n (sym (s.apart (e' ∙ sym e)) ∙ e')

    alone : (q r n : ℕ) → handle m2 q ≡ Some n → handle m2 r ≡ Some n → q ≡ r
    alone q r n = each (λ z h. h ≡ Some n → handle m2 r ≡ Some n → z ≡ r)
        (λ e. each (λ z h. h ≡ Some n → i ≡ z) (λ e'. refl) (λ e'. absurd (both n e e')) (λ z ne ne' e'. absurd (apart-front z n ne e' (sym e))) r)
        (λ e. each (λ z h. h ≡ Some n → last ≡ z) (λ e'. absurd (both n e' e)) (λ e'. refl) (λ z ne ne' e'. absurd (apart-tail z n ne e' (sym e))) r)
        (λ z ne ne' e. each (λ y h. h ≡ Some n → z ≡ y) (λ e'. absurd (apart-front z n ne e (sym e'))) (λ e'. absurd (apart-tail z n ne e (sym e'))) (λ y ne2 ne3 e'. a.apart z y n e e') r) q

    -- the nodes of all indices
    in-use : nodes_in_use m2 + node_count (node_sizes m i) ≡ nodes_in_use m + node_count (sizes_of f1 h1) + node_count (sizes_of f1 t)
    in-use =
        let wide : i < length more = omega (arith, there, length-append m.handles (None ∷ [])) in let wide' : last < length (set more i h1) = omega (arith, length-set more i h1, length-append m.handles (None ∷ [])) in
        let none : get_or (set more i h1) last None ≡ None = get_or-set_other more i last h1 None (λ e. not-last i there (sym e)) ∙ more-is last ∙ get_or_past m.handles last None (omega arith) in
        let two : (q : ℕ) → get_or (set (set more last t) i h1) q None ≡ get_or (set (set more i h1) last t) q None =
        each (λ q h. h ≡ get_or (set (set more i h1) last t) q None)
        (sym (get_or-set_other (set more i h1) last i t None (not-last i there) ∙ get_or-set_same more i h1 None wide))
        (sym (get_or-set_same (set more i h1) last t None wide'))
        (λ q ne ne'. sym (get_or-set_other (set more i h1) last q t None ne' ∙ get_or-set_other more i q h1 None ne ∙ more-is q)) in omega (
          arith,
          sum-agree (nodes_of (table m)) None refl m.handles more more-is,
          sum-set (nodes_of (table m)) (nodes_of f1) None more i h1 wide (λ q ne. ap node_count (stays-more q ne)),
          ap (nodes_of (table m)) (more-is i),
          sum-set (nodes_of f1) (nodes_of f1) None (set more i h1) last t wide' (λ q ne. refl),
          ap (nodes_of f1) none,
          sum-agree (nodes_of f1) None refl (set (set more i h1) last t) (set (set more last t) i h1) two,
        )

    a2 : AreKept most cmp m2
    a2 = record {
      odd = a.odd;
      live = each (λ z h. IsLive f1 h) s.live s.tail_live (λ q ne ne'. live_beside (table m) f1 (handle m q) (stays q ne (handle m q) refl).0 (a.live q));
      increasing = each (λ z h. IsIncreasing cmp (list_of f1 h)) call.increasing call.tail_increasing (λ q ne ne'. subst (IsIncreasing cmp) (sym (stays q ne (handle m q) refl).0) (a.increasing q));
      apart = alone;
      fit = each (λ z h. IsFitFor most (length (list_of f1 h)) (sizes_of f1 h)) s.fit s.tail_fit (λ q ne ne'. (let z = stays q ne (handle m q) refl in
          subst (λ es. IsFitFor most (length es) (sizes_of f1 (handle m q))) (sym z.0) (subst (IsFitFor most (length (entries m q))) (sym z.1) (a.fit q))));
      account = omega (arith, a.account, s.slots, s.free, in-use);
    }

    in2 : j < count m2
    in2 = omega (arith, within, length-set (set more last t) i h1, length-set more last t, length-append m.handles (None ∷ []))

    -- the handle that was freed
    was : (q : ℕ) → q ≢ last → get_or (set m.handles i h1) q None ≡ handle m2 q
    was q ne = elim (eqb_tells q i) [
      | inl w ↦ ap (λ z. get_or (set m.handles i h1) z None) w.1 ∙ get_or-set_same m.handles i h1 None there ∙ sym (ap (handle m2) w.1 ∙ own)
      | inr w ↦ get_or-set_other m.handles i q h1 None w.1 ∙ sym (other q w.1 ne)
    ]

    pub tail-live : IsLive f1 (get_or (set m.handles i h1) j None)
    tail-live = subst (λ (z : Option ℕ). IsLive f1 z) (sym (was j (not-last j within))) (a2.live j)

    module _ {kf : Forest K X} {d : Option ℕ} (gone : Clears f1 (get_or (set m.handles i h1) j None) kf d) where
      gone-here : Clears f1 (handle m2 j) kf d
      gone-here = subst (λ (z : Option ℕ). Clears f1 z kf d) (was j (not-last j within)) gone

      abbrev m3 : Indexed K X C
      m3 = with_tree m2 j kf d

      a3 : AreKept most cmp m3
      a3 = kept-set a2 in2 gone-here.cleared (subst (λ (es : List (K × X)). IsIncreasing cmp es) (sym gone-here.cleared.list) (nothing-increases K X cmp)) (clears-balance most a.odd f1 kf (handle m2 j) d (a2.fit j) gone-here)

      c3 : ChangesAt m2 j m3
      c3 = changes a2 in2 gone-here.cleared

      in3 : j < count m3
      in3 = omega (arith, in2, c3.same_count)

      last3 : last < count m3
      last3 = omega (arith, c3.same_count, length-set (set more last t) i h1, length-set more last t, length-append m.handles (None ∷ []))

      at : SwappedAt m3.handles (swap m3.handles j last) j last
      at = swapped-at m3.handles j last in3 last3

      -- the tail's handle
      tail-at : handle m3 last ≡ t
      tail-at = get_or-set_other m2.handles j last d None (λ e. not-last j within (sym e)) ∙ tail-own

      abbrev m4 : Indexed K X C
      m4 = record m3 { handles = swap m3.handles j last }

      a4 : AreKept most cmp m4
      a4 = kept-swapped m3 j last (swap m3.handles j last) at in3 last3 refl a3

      abbrev end : Indexed K X C
      end = with_tree (with_tree m i f1 h1) j kf t

      same : (q : ℕ) → handle end q ≡ handle m4 q
      same q = elim (eqb_tells q j) [
        | inl w ↦ ap (handle end) w.1 ∙ get_or-set_same (set m.handles i h1) j t None (omega (arith, within, length-set m.handles i h1)) ∙ sym (ap (handle m4) w.1 ∙ at.0 None ∙ tail-at)
        | inr w ↦ elim (eqb_tells q last) [
          | inl v ↦ ap (handle end) v.1 ∙ get_or-set_other (set m.handles i h1) j last t None (λ e. not-last j within (sym e)) ∙ get_or-set_other m.handles i last h1 None (λ e. not-last i there (sym e))
              ∙ get_or_past m.handles last None (omega arith) ∙ sym (ap (handle m4) v.1 ∙ at.1 None ∙ here a2 in2 gone-here.cleared ∙ gone-here.handle)
          | inr v ↦ get_or-set_other (set m.handles i h1) j q t None w.1 ∙ was q v.1 ∙ sym (at.2 q None w.1 v.1 ∙ get_or-set_other m2.handles j q d None w.1)
        ]
      ]

      kept : AreKept most cmp end
      kept = kept-same m4 end.handles same a4

      -- the list and the nodes of an index that is not j
      beside : (q : ℕ) → q ≢ j → q ≢ last → handle end q ≡ handle m3 q
      beside q ne ne' = same q ∙ at.2 q None ne ne'

      tail-is : entries end j ≡ list_of f1 t
      tail-is = ap (list_of kf) (same j ∙ at.0 None) ∙ c3.others last (λ e. not-last j within (sym e)) ∙ ap (list_of f1) tail-own

      tail-sizes : node_sizes end j ≡ sizes_of f1 t
      tail-sizes = ap (sizes_of kf) (same j ∙ at.0 None) ∙ c3.other_sizes last (λ e. not-last j within (sym e)) ∙ ap (sizes_of f1) tail-own

      beyond : (handle end last ≡ None) × (handle m last ≡ None)
      beyond = (same last ∙ at.1 None ∙ here a2 in2 gone-here.cleared ∙ gone-here.handle, get_or_past m.handles last None (omega arith))

      ended : (q : ℕ) → q ≢ i → q ≢ j → q ≢ last → (entries end q ≡ entries m q) × (node_sizes end q ≡ node_sizes m q)
      ended q ne ne' ne3 = (
        ap (list_of kf) (beside q ne' ne3) ∙ c3.others q ne' ∙ (beside2 q ne ne3).0,
        ap (sizes_of kf) (beside q ne' ne3) ∙ c3.other_sizes q ne' ∙ (beside2 q ne ne3).1,
      )

      others : (q : ℕ) → q ≢ i → q ≢ j → (entries end q ≡ entries m q) × (node_sizes end q ≡ node_sizes m q)
      others q ne ne' = elim (eqb_tells q last) [
        | inl v ↦ (
          ap (list_of kf) (ap (handle end) v.1 ∙ beyond.0) ∙ sym (ap (list_of (table m)) (ap (handle m) v.1 ∙ beyond.1)),
          ap (sizes_of kf) (ap (handle end) v.1 ∙ beyond.0) ∙ sym (ap (sizes_of (table m)) (ap (handle m) v.1 ∙ beyond.1)),
        )
        | inr v ↦ ended q ne ne' v.1
      ]

      front-sizes : i ≢ j → node_sizes end i ≡ sizes_of f1 h1
      front-sizes ne = ap (sizes_of kf) (beside i ne (not-last i there)) ∙ c3.other_sizes i ne ∙ ap (sizes_of f1) own

      held : memory_of kf ≡ memory_of f1
      held = gone-here.account.memory

      pub tail-split : AreKept most cmp end × SplitsOffAt most cmp m i k j (Ok tt) end
      tail-split = (
        kept,
        record {
          front = λ ne. ap (list_of kf) (beside i ne (not-last i there)) ∙ c3.others i ne ∙ ap (list_of f1) own ∙ s.front;
          tail = tail-is ∙ s.tail;
          sizes = λ ne. front-sizes ne ∙ s.sizes;
          tail_sizes = tail-sizes ∙ s.tail_sizes;
          found = λ ne q. ap (λ (es : List (K × X)). value_for cmp es q) (ap (list_of kf) (beside i ne (not-last i there)) ∙ c3.others i ne ∙ ap (list_of f1) own) ∙ call.found q;
          tail_found = λ q. ap (λ (es : List (K × X)). value_for cmp es q) tail-is ∙ call.tail_found q;
          others = λ q ne ne'. (others q ne ne').0;
          other_sizes = λ q ne ne'. (others q ne ne').1;
          same_count = length-set (set m.handles i h1) j t ∙ length-set m.handles i h1;
          same_comparator = refl;
          same_limit = c3.same_limit ∙ s.limit;
          same_memory = refl;
          slots = gone-here.account.slots ∙ s.slots;
          free = λ ne. omega (
            arith,
            s.free,
            gone-here.account.free,
            ap node_count tail-sizes,
            ap node_count (front-sizes ne),
            ap node_count (beside2 j (λ e. ne (sym e)) (not-last j within)).1,
          );
          free_one = λ e. omega (arith, s.free, gone-here.account.free, ap node_count tail-sizes, ap (λ z. node_count (sizes_of f1 z)) (ap (handle m2) (sym e) ∙ own));
          growth = grows-alike held s.growth;
          few = s.few;
          full = (λ bad. absurd (ok-err tt Full bad), λ low. absurd (ok-err t Full (s.full.1 low)));
          memory = λ bad. absurd (ok-err tt Memory bad);
          enough = λ many. refl;
          whole = λ first. refl;
          none = λ end. refl;
          refused = tt;
        },
      )

  -- the call was refused
  refused-here : {e : OutOfMemory} {f1 : Forest K X} {h1 : Option ℕ} → SplitsOff most cmp (table m) (handle m i) k (Err e) f1 h1 → SplitsOffAt most cmp m i k j (Err e) (with_tree m i f1 h1)
  refused-here {e} {f1} {h1} call = rw (unchanged m i f1 h1 call.parts.refused_forest call.parts.refused_handle) (record {
    front = tt;
    tail = tt;
    sizes = tt;
    tail_sizes = tt;
    found = tt;
    tail_found = tt;
    others = λ q ne ne'. refl;
    other_sizes = λ q ne ne'. refl;
    same_count = refl;
    same_comparator = refl;
    same_limit = refl;
    same_memory = refl;
    slots = tt;
    free = tt;
    free_one = tt;
    growth = tt;
    few = call.parts.few;
    full = (λ bad. call.parts.full.0 (let same : e ≡ Full = cc in ap Err same), λ low. (let same = call.parts.full.1 low in let is : e ≡ Full = cc in ap Err is));
    memory = λ bad. call.parts.memory (let same : e ≡ Memory = cc in ap Err same);
    enough = λ many. call.parts.enough many;
    whole = λ first. absurd (let bad = (call.parts.whole first).0 in cc);
    none = λ end. absurd (let bad = call.parts.none end in cc);
    refused = refl;
  })

-- `h` was read at i
module _ {K X C : Type 0} {most : ℕ} {cmp : K → K → Ordering} {m : Indexed K X C} (a : AreKept most cmp m) {i j : ℕ} {h : Option ℕ} (there : i < count m) (is : h ≡ get_or m.handles i h) (within : j < count m) {k : K} {f1 : Forest K X} {h1 : Option ℕ} where
  pub split-refused : {e : OutOfMemory} {r : Result (Unit {0}) OutOfMemory} → SplitsOff most cmp (table m) h k (Err e) f1 h1 → IsErrAnd r (λ y. y ≡ e) → AreKept most cmp (with_tree m i f1 h1) × SplitsOffAt most cmp m i k j r (with_tree m i f1 h1)
  split-refused {e} {r} call answered = let w = err_from_is_err_and r answered in
      let own = subst (λ (z : Option ℕ). SplitsOff most cmp (table m) z k (Err e) f1 h1) (read a there is) call in
      (rw (unchanged m i f1 h1 own.parts.refused_forest own.parts.refused_handle) a, rw (w.1 ∙ ap Err w.2) (refused-here a there within k own))

  -- `q` was read at j then
  module _ {t : Option ℕ} (call : SplitsOff most cmp (table m) h k (Ok t) f1 h1) {q : Option ℕ} (was : q ≡ get_or (set m.handles i h1) j q) where
    own-call : SplitsOff most cmp (table m) (handle m i) k (Ok t) f1 h1
    own-call = subst (λ (z : Option ℕ). SplitsOff most cmp (table m) z k (Ok t) f1 h1) (read a there is) call

    q-is : q ≡ get_or (set m.handles i h1) j None
    q-is = get_or_read (set m.handles i h1) j q (omega (arith, within, length-set m.handles i h1)) was None

    -- the handle that was read there is live
    pub split-live : IsLive f1 q
    split-live = subst (λ (z : Option ℕ). IsLive f1 z) (sym q-is) (tail-live a there within k own-call)

    pub split-read : {kf : Forest K X} {d : Option ℕ} → Clears f1 q kf d → AreKept most cmp (with_tree (with_tree m i f1 h1) j kf t) × SplitsOffAt most cmp m i k j (Ok tt) (with_tree (with_tree m i f1 h1) j kf t)
    split-read {kf} {d} gone = tail-split a there within k own-call (subst (λ (z : Option ℕ). Clears f1 z kf d) q-is gone)
