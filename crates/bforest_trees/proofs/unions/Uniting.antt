-- What a union of two trees answers and leaves, as one record.
use Rattle.bforest_core.specs.Change.{node_count}
use Rattle.bforest_core.specs.Packed.{ArePacked, fewest}
use Rattle.bforest_core.specs.Trees.{IsUnion}
use Rattle.bforest_core.specs.declared.pool.OutOfMemory.TheVariants.{Full, Memory}
use Rattle.bforest_core.specs.declared.pool.OutOfMemory.{OutOfMemory}
use Rattle.bforest_core.proofs.union.Needs.{fewest-least, fewest-many}
use Rattle.bforest_nodes.proofs.Found.{value_for-absent}
use Rattle.bforest_nodes.specs.Entries.{IsIncreasing, is_present, put, value_for}
use Rattle.bforest_trees.proofs.Accounts.{accounted}
use Rattle.bforest_trees.proofs.Cutting.{becomes-same}
use Rattle.bforest_trees.proofs.Fits.{below-slots, fit-at}
use Rattle.bforest_trees.proofs.unions.Merging.{among-itself, united-more, united-same, united-up}
use Rattle.bforest_trees.proofs.unions.New.{none-new, some-new, united-one}
use Rattle.bforest_trees.proofs.unions.Valued.{united-value}
use Rattle.bforest_trees.specs.Calls.{Clears, Inserts, Loads, Unites, need_of_new, need_of_union}
use Rattle.bforest_trees.specs.Forest.{Becomes, Forest, IsLive, IsTooMany, NeedsGrowth, list_at, list_of, nodes_at, numbers_below, sizes_at, sizes_of, slots_of}
use Rattle.bforest_trees.specs.Union.{AreSearchable, are_among, new_to, united}
use Rattle.std.proofs.Common.{Err, List, None, Ok, OnOk, Option, Result, Some, [], ap, arith, false, if◌then◌else◌, inl, inr, is_err, is_ok, length, not, refl, subst, suc, sym, true, zero, ◌*◌, ◌<◌, ◌∙◌, ◌∷◌, ◌≡◌, ◌≢◌, ◌≤◌, ℕ}
use Rattle.std.proofs.lemmas.Bool.{cases_lt, false≢true}
use Rattle.std.proofs.lemmas.List.Sums.{sum_by_push}
use Rattle.std.specs.Cmp.{IsTotalOrder}
use Rattle.std.specs.List.{sum_by}
use Rattle.std.specs.declared.cmp.Ordering.{Ordering}

-- a sum over the numbers below a bound is at least what one of them adds
part-of-sum : (g : ℕ → ℕ) (bound n : ℕ) → n < bound → g n ≤ sum_by g (numbers_below bound)
part-of-sum g zero n low = absurd (omega (arith, low))
part-of-sum g (suc bound) n low = elim (cases_lt n bound) [
  | inl less ↦ omega (arith, sum_by_push g (numbers_below bound) bound, part-of-sum g bound n less)
  | inr last ↦ (let same : n ≡ bound = omega (arith, low, last) in omega (arith, sum_by_push g (numbers_below bound) bound, ap g same))
]

module _ {K X : Type 0} (most : ℕ) (f : Forest K X) (union : IsUnion most f) (slots : slots_of f ≤ 4294967295) where
  -- a tree has fewer than 2 ^ 41 entries, since it has at most so many nodes as there are slots
  pub few-entries : (n : ℕ) → length (list_at f n) ≤ 1099511627776
  few-entries n = go (list_at f n) refl
    where
      go : (es : List (K × X)) → list_at f n ≡ es → length (list_at f n) ≤ 1099511627776
      go [] is = omega (arith, ap length is)
      go (e ∷ es) is =
          let capacity = union.1.capacity in
          let some : 0 < most = omega (arith, capacity.least) in
          let low = below-slots most f union n (λ none. absurd (let bad : e ∷ es ≡ [] = sym is ∙ none in cc)) in
          let nodes = fewest-least most (length (list_at f n)) some (sizes_at f n) (fit-at most f union n) in
          let sum = part-of-sum (nodes_at f) (slots_of f) n low in
          let account = accounted f most union in
          elim (cases_lt (4294967295 * most) (length (list_at f n))) [
            | inl many ↦ absurd (let more = fewest-many most (length (list_at f n)) 4294967295 some many in omega (arith, more, nodes, sum, account, slots))
            | inr few ↦ omega (arith, few, capacity.most)
          ]

-- the same of a handle
pub few-of : {K X : Type 0} (f : Forest K X) → ((n : ℕ) → length (list_at f n) ≤ 1099511627776) → (h : Option ℕ) → length (list_of f h) ≤ 1099511627776
few-of f few None = omega arith
few-of f few (Some n) = few n

module _ {K X : Type 0} {f : Forest K X} where
  -- a handle that is not that of the tree which changed keeps its tree
  pub other-stays : {h : Option ℕ} {f' : Forest K X} {h' : Option ℕ} {es : List (K × X)} → Becomes f h f' h' es → (other : Option ℕ) → IsLive f other → other ≢ h → IsLive f' other × (list_of f' other ≡ list_of f other) × (sizes_of f' other ≡ sizes_of f other)
  other-stays b None live apart = (tt, refl, refl)
  other-stays {h' = h'} b (Some m) live apart =
      let fresh : Some m ≢ h' = λ e. live (ap (list_of f) e ∙ b.fresh (λ same. apart (e ∙ same))) in
      let list = b.others m apart fresh in
      (subst (λ l. l ≢ []) (sym list) live, list, b.others_sizes m apart fresh)

  module _ (h : Option ℕ) (live : IsLive f h) {f1 : Forest K X} {h1 : Option ℕ} {es : List (K × X)} (b : Becomes f None f1 h1 es) where
    -- the tree of a handle stays while another one is made
    pub made-beside : IsLive f1 h × (list_of f1 h ≡ list_of f h) × (sizes_of f1 h ≡ sizes_of f h)
    made-beside = go h live
      where
        go : (h : Option ℕ) → IsLive f h → IsLive f1 h × (list_of f1 h ≡ list_of f h) × (sizes_of f1 h ≡ sizes_of f h)
        go None live = (tt, refl, refl)
        go (Some n) live =
            let none : Some n ≢ None = λ e. absurd (cc) in
            let fresh : Some n ≢ h1 = λ e. live (ap (list_of f) e ∙ b.fresh (λ d. absurd (none (e ∙ d)))) in
            let list = b.others n none fresh in
            (subst (λ l. l ≢ []) (sym list) live, list, b.others_sizes n none fresh)

    pub still-live : IsLive f1 h
    still-live = made-beside.0

    -- the tree that is made has another number
    pub made-moves : list_of f h ≢ [] → h1 ≢ h
    made-moves some same = go h same some
      where
        go : (q : Option ℕ) → h1 ≡ q → list_of f q ≢ [] → ⊥
        go None same some = some refl
        go (Some n) same some = some (ap (list_of f) (sym same) ∙ b.fresh (λ none. absurd (let bad : None ≡ Some n = sym none ∙ same in cc)))

    module _ {f2 : Forest K X} (c : Becomes f1 h f2 None []) where
      -- the tree that was made stays while the old one ends
      pub made-stays : IsLive f2 h1 × (list_of f2 h1 ≡ list_of f1 h1) × (sizes_of f2 h1 ≡ sizes_of f1 h1)
      made-stays = go h1 refl
        where
          go : (r : Option ℕ) → h1 ≡ r → IsLive f2 r × (list_of f2 r ≡ list_of f1 r) × (sizes_of f2 r ≡ sizes_of f1 r)
          go None is = (tt, refl, refl)
          go (Some r) is =
              let none : Some r ≢ None = λ e. absurd (cc) in
              let fresh : list_at f r ≡ [] = ap (list_of f) (sym is) ∙ b.fresh (λ d. absurd (none (sym is ∙ d))) in
              let apart : Some r ≢ h = by h live r fresh in
              let list = c.others r apart none in
              let there : list_at f1 r ≢ [] = subst (λ z. IsLive f1 z) is b.live in
              (subst (λ l. l ≢ []) (sym list) there, list, c.others_sizes r apart none)
            where
              by : (h : Option ℕ) → IsLive f h → (r : ℕ) → list_at f r ≡ [] → Some r ≢ h
              by None live r fresh e = absurd (cc)
              by (Some n) live r fresh e = live (ap (list_of f) (sym e) ∙ fresh)

      -- a tree takes the place of another one
      pub becomes-made : Becomes f h f2 h1 es
      becomes-made = record {
        live = made-stays.0;
        list = made-stays.1 ∙ b.list;
        leaves = λ ne. gone h;
        fresh = λ ne. unused h1 refl;
        leaves_sizes = λ ne. gone_sizes h;
        fresh_sizes = λ ne. unused_sizes h1 refl;
        others = λ n ne ne'. c.others n ne (λ e. absurd (cc)) ∙ b.others n (λ e. absurd (cc)) ne';
        others_sizes = λ n ne ne'. c.others_sizes n ne (λ e. absurd (cc)) ∙ b.others_sizes n (λ e. absurd (cc)) ne';
        limit = c.limit ∙ b.limit;
      }
        where
          gone : (q : Option ℕ) → list_of f2 h ≡ []
          gone q = by h refl
            where
              by : (r : Option ℕ) → h ≡ r → list_of f2 r ≡ []
              by None is = refl
              by (Some n) is = ap (list_of f2) (sym is) ∙ c.leaves (λ e. absurd (let bad : None ≡ Some n = e ∙ is in cc))

          gone_sizes : (q : Option ℕ) → sizes_of f2 h ≡ []
          gone_sizes q = by h refl
            where
              by : (r : Option ℕ) → h ≡ r → sizes_of f2 r ≡ []
              by None is = refl
              by (Some n) is = ap (sizes_of f2) (sym is) ∙ c.leaves_sizes (λ e. absurd (let bad : None ≡ Some n = e ∙ is in cc))

          unused : (r : Option ℕ) → h1 ≡ r → list_of f h1 ≡ []
          unused None is = ap (list_of f) is
          unused (Some r) is = b.fresh (λ e. absurd (let bad : Some r ≡ None = sym is ∙ e in cc))

          unused_sizes : (r : Option ℕ) → h1 ≡ r → sizes_of f h1 ≡ []
          unused_sizes None is = ap (sizes_of f) is
          unused_sizes (Some r) is = b.fresh_sizes (λ e. absurd (let bad : Some r ≡ None = sym is ∙ e in cc))

-- what holds of a call that succeeded
pub not-err : {A E P : Type 0} (r : Result A E) → is_err r ≡ false → OnOk r P → P
not-err (Ok x) t holds = holds
not-err (Err e) t holds = absurd (cc)

pub when-ok : {A E P : Type 0} (r : Result A E) → is_ok r ≡ true → OnOk r P → P
when-ok (Ok x) t holds = holds
when-ok (Err e) t holds = absurd (cc)

module _ {K X : Type 0} (most : ℕ) (cmp : K → K → Ordering) (o : IsTotalOrder cmp) (f : Forest K X) (h other : Option ℕ) (s : AreSearchable cmp f h other) where
  abbrev new : List (K × X)
  new = new_to cmp f h other

  need-by : {es : List (K × X)} → new ≡ es → need_of_union most cmp f h other ≡ need_of_new most cmp f h (length (united cmp (list_of f h) (list_of f other))) es
  need-by is = ap (need_of_new most cmp f h (length (united cmp (list_of f h) (list_of f other)))) is

  -- a key's value in the union
  found-in : {es : List (K × X)} → es ≡ united cmp (list_of f h) (list_of f other) → (q : K) → value_for cmp es q ≡ (if is_present cmp (list_of f h) q then value_for cmp (list_of f h) q else value_for cmp (list_of f other) q)
  found-in is q = ap (λ l. value_for cmp l q) is ∙ united-value cmp o (list_of f h) (list_of f other) q s.increasing s.other_increasing

  -- where one of the other tree's keys is new, it is not the first tree, and stays, and the union is longer
  module _ (fresh : are_among cmp (list_of f other) (list_of f h) ≡ false) where
    other-apart : other ≢ h
    other-apart e = absurd (let all : are_among cmp (list_of f other) (list_of f h) ≡ true = subst (λ z. are_among cmp (list_of f z) (list_of f h) ≡ true) (sym e) (among-itself cmp o (list_of f h) s.increasing) in cc)

    other-beside : {es : List (K × X)} {f' : Forest K X} {h' : Option ℕ} → Becomes f h f' h' es → IsLive f' other × (list_of f' other ≡ list_of f other) × (sizes_of f' other ≡ sizes_of f other)
    other-beside b = other-stays b other s.other_live other-apart

    longer : {es : List (K × X)} → es ≡ united cmp (list_of f h) (list_of f other) → length (list_of f h) < length es
    longer is = omega (arith, ap length is, united-more cmp (list_of f h) (list_of f other) fresh)

  -- nothing of the other list is new
  pub unites-none : new ≡ [] → Unites most cmp f h other (Ok false) f h
  unites-none none =
      let all : are_among cmp (list_of f other) (list_of f h) ≡ true = none-new cmp (list_of f h) (list_of f other) none in record {
        united = subst (λ es. Becomes f h f h es) (sym (united-same cmp (list_of f h) (list_of f other) all)) (becomes-same f h s.live);
        changed = sym (ap not all);
        found = found-in (sym (united-same cmp (list_of f h) (list_of f other) all));
        more = λ bad. absurd (cc);
        itself = λ e. refl;
        inserted = λ e is. absurd (let bad : e ∷ [] ≡ [] = sym is ∙ none in cc);
        moved = λ many some. absurd (omega (arith, many, ap length none));
        packed = λ many. absurd (omega (arith, many, ap length none));
        nodes = λ many. absurd (omega (arith, many, ap length none));
        account = λ many. absurd (omega (arith, many, ap length none));
        fit = λ many. absurd (omega (arith, many, ap length none));
        same_forest = λ is. refl;
        same_handle = λ is. refl;
        live = s.live;
        increasing = s.increasing;
        other_live = s.other_live;
        other_list = refl;
        other_sizes = refl;
        full = (λ bad. absurd (cc), λ low. absurd (omega (arith, low, need-by none)));
        memory = λ bad. absurd (cc);
        succeeds = λ enough. refl;
        refused_forest = tt;
        refused_handle = tt;
      }

  -- one entry is new
  module _ (k : K) (x : X) (is : new ≡ (k, x) ∷ []) where
    fresh-one : are_among cmp (list_of f other) (list_of f h) ≡ false
    fresh-one = some-new cmp (list_of f h) (list_of f other) (omega (arith, ap length is))

    told-one : (united cmp (list_of f h) (list_of f other) ≡ put cmp (list_of f h) k x) × (is_present cmp (list_of f h) k ≡ false)
    told-one = united-one cmp o (list_of f h) (list_of f other) s.increasing s.other_increasing (k, x) is

    only-one : (P : K × X → Type 0) → P (k, x) → (e : K × X) → new ≡ e ∷ [] → P e
    only-one P holds e same = subst P (let alike : (k, x) ≡ e = cc in alike) holds

    not-many : {P : Type 0} → 1 < length new → P
    not-many many = absurd (omega (arith, many, ap length is))

    -- the single new entry was inserted
    pub unites-inserted : {old : Option X} {f' : Forest K X} {h' : Option ℕ} → Inserts most cmp f h k x (Ok old) f' h' → Unites most cmp f h other (Ok true) f' h'
    unites-inserted {old} {f'} {h'} i =
        let stays = other-beside fresh-one i.put in
        let absent : old ≡ None = i.ok ∙ value_for-absent cmp (list_of f h) k told-one.1 in record {
          united = subst (λ es. Becomes f h f' h' es) (sym told-one.0) i.put;
          changed = sym (ap not fresh-one);
          found = found-in (i.put.list ∙ sym told-one.0);
          more = λ is. longer fresh-one (i.put.list ∙ sym told-one.0);
          itself = λ e. absurd (other-apart fresh-one e);
          inserted = only-one (λ e. Inserts most cmp f h e.0 e.1 (Ok None) f' h') (subst (λ z. Inserts most cmp f h k x (Ok z) f' h') absent i);
          moved = not-many;
          packed = not-many;
          nodes = not-many;
          account = not-many;
          fit = not-many;
          same_forest = λ bad. absurd (cc);
          same_handle = λ bad. absurd (cc);
          live = i.live;
          increasing = i.increasing;
          other_live = stays.0;
          other_list = stays.1;
          other_sizes = stays.2;
          full = (λ bad. absurd (cc), λ low. absurd (let bad = i.full.1 (subst (λ d. IsTooMany d f) (need-by is) low) in cc));
          memory = λ bad. absurd (cc);
          succeeds = λ enough. refl;
          refused_forest = tt;
          refused_handle = tt;
        }

    -- the insertion was refused
    pub insertion-refused : {refused : OutOfMemory} {f' : Forest K X} {h' : Option ℕ} → Inserts most cmp f h k x (Err refused) f' h' → Unites most cmp f h other (Err refused) f' h'
    insertion-refused {refused} {f'} {h'} i = record {
      united = tt;
      changed = tt;
      found = tt;
      more = λ bad. absurd (cc);
      itself = λ e. absurd (other-apart fresh-one e);
      inserted = only-one (λ e. Inserts most cmp f h e.0 e.1 (Err refused) f' h') i;
      moved = not-many;
      packed = not-many;
      nodes = not-many;
      fit = not-many;
      account = not-many;
      same_forest = λ bad. absurd (cc);
      same_handle = λ bad. absurd (cc);
      live = i.live;
      increasing = i.increasing;
      other_live = subst (λ z. IsLive z other) (sym i.refused_forest) s.other_live;
      other_list = ap (λ z. list_of z other) i.refused_forest;
      other_sizes = ap (λ z. sizes_of z other) i.refused_forest;
      full = (
        λ e. subst (λ d. IsTooMany d f) (sym (need-by is)) (i.full.0 (let alike : refused ≡ Full = cc in ap Err alike)),
        λ low. let full = i.full.1 (subst (λ d. IsTooMany d f) (need-by is) low) in let alike : refused ≡ Full = cc in ap Err alike,
      );
      memory = λ e. subst (λ d. NeedsGrowth d f) (sym (need-by is)) (i.memory (let alike : refused ≡ Memory = cc in ap Err alike));
      succeeds = λ enough. absurd (false≢true (i.succeeds (omega (arith, enough, need-by is))));
      refused_forest = i.refused_forest;
      refused_handle = i.refused_handle;
    }

  -- several entries are new
  module _ (many : 1 < length new) where
    fresh-many : are_among cmp (list_of f other) (list_of f h) ≡ false
    fresh-many = some-new cmp (list_of f h) (list_of f other) (omega (arith, many))

    need-is : need_of_union most cmp f h other ≡ fewest most (length (united cmp (list_of f h) (list_of f other)))
    need-is = go new refl
      where
        go : (es : List (K × X)) → new ≡ es → need_of_union most cmp f h other ≡ fewest most (length (united cmp (list_of f h) (list_of f other)))
        go [] is = absurd (omega (arith, many, ap length is))
        go (e ∷ []) is = absurd (omega (arith, many, ap length is))
        go (e ∷ d ∷ es) is = need-by is

    not-one : (e : K × X) → new ≡ e ∷ [] → ⊥
    not-one e is = omega (arith, many, ap length is)

    pub union-some : 0 < length (united cmp (list_of f h) (list_of f other))
    union-some = omega (arith, united-more cmp (list_of f h) (list_of f other) fresh-many)

    -- the call was refused
    pub unites-refused : (refused : OutOfMemory) {f1 : Forest K X} → Loads most f (united cmp (list_of f h) (list_of f other)) (Err refused) f1 → Unites most cmp f h other (Err refused) f h
    unites-refused refused told = record {
      united = tt;
      changed = tt;
      found = tt;
      more = λ bad. absurd (cc);
      itself = λ e. absurd (other-apart fresh-many e);
      inserted = λ e is. absurd (not-one e is);
      moved = λ many some. tt;
      packed = λ many. tt;
      nodes = λ many. tt;
      fit = λ many. tt;
      account = λ many. tt;
      same_forest = λ bad. absurd (cc);
      same_handle = λ bad. absurd (cc);
      live = s.live;
      increasing = s.increasing;
      other_live = s.other_live;
      other_list = refl;
      other_sizes = refl;
      full = (
        λ e. subst (λ d. IsTooMany d f) (sym need-is) (told.full.0 (let alike : refused ≡ Full = cc in ap Err alike)),
        λ low. let full = told.full.1 (subst (λ d. IsTooMany d f) need-is low) in let alike : refused ≡ Full = cc in ap Err alike,
      );
      memory = λ e. subst (λ d. NeedsGrowth d f) (sym need-is) (told.memory (let alike : refused ≡ Memory = cc in ap Err alike));
      succeeds = λ enough. absurd (false≢true (told.succeeds (omega (arith, enough, need-is))));
      refused_forest = refl;
      refused_handle = refl;
    }

    -- the packed tree took the place of the old one
    pub unites-ok : {f1 f2 : Forest K X} {h1 h2 : Option ℕ} → Loads most f (united cmp (list_of f h) (list_of f other)) (Ok h1) f1 → Clears f1 h f2 h2 → Unites most cmp f h other (Ok true) f2 h1
    unites-ok {f1} {f2} {h1} {h2} l c =
        let ends = subst (λ z. Becomes f1 h f2 z []) c.handle c.cleared in
        let b = becomes-made h s.live l.loaded ends in
        let made = made-stays h s.live l.loaded ends in
        let beside = made-beside h s.live l.loaded in
        let stays = other-beside fresh-many b in
        let g = l.account.memory in
        let gone = c.account in record {
          united = b;
          changed = sym (ap not fresh-many);
          found = found-in b.list;
          more = λ is. longer fresh-many b.list;
          itself = λ e. absurd (other-apart fresh-many e);
          inserted = λ e is. absurd (not-one e is);
          moved = λ many some. made-moves h s.live l.loaded some;
          packed = λ many. subst (ArePacked most) (sym made.2) l.packed;
          nodes = λ many. ap node_count made.2 ∙ l.nodes ∙ sym need-is;
          account = λ many. rw need-is (record {
            slots = gone.slots ∙ l.account.slots;
            free = omega (arith, gone.free, l.account.free, ap node_count beside.2);
            memory = record {
              grows = omega (arith, g.grows, gone.memory);
              stays = λ enough. gone.memory ∙ g.stays enough;
              suffices = λ enough. gone.memory ∙ g.suffices enough;
              bounded = omega (arith, g.bounded, gone.memory);
            };
          });
          fit = λ many. rw (b.list, made.2) l.fit;
          same_forest = λ bad. absurd (cc);
          same_handle = λ bad. absurd (cc);
          live = b.live;
          increasing = subst (IsIncreasing cmp) (sym b.list) (united-up cmp o (list_of f h) (list_of f other) s.increasing);
          other_live = stays.0;
          other_list = stays.1;
          other_sizes = stays.2;
          full = (λ bad. absurd (cc), λ short. absurd (let bad = l.full.1 (subst (λ d. IsTooMany d f) need-is short) in cc));
          memory = λ bad. absurd (cc);
          succeeds = λ enough. refl;
          refused_forest = tt;
          refused_handle = tt;
        }
