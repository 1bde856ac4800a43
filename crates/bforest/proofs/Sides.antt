-- Two sets that are read side by side: what a step takes off, and what is left.
use Rattle.bforest_trees.proofs.unions.Merging.{IsBefore, IsBelow, absent-below, all-below, equal-back, first-below, front-none, goes, present-first, present-later, flip, steps-less}
use Rattle.bforest_trees.proofs.unions.Choosing.{absent-all, kept-none}
use Rattle.bforest_trees.proofs.unions.Restricting.{up-kept}
use Rattle.bforest_trees.specs.Merge.{TakesOff, front_order}
use Rattle.bforest.specs.Set.{with_unit}
use Rattle.bforest.specs.Sides.{Increase, Sides, Steps, Takes, front, in_both, in_first}
use Rattle.bforest.specs.Union.{fits, kept_from, united, unshared}
use Rattle.bforest_nodes.specs.Entries.{IsIncreasing, is_present}
use Rattle.std.proofs.Common.{Bool, List, None, Option, Some, [], ap, arith, cond, false, if◌then◌else◌, length, refl, subst, sym, true, ◌∙◌, ◌∷◌, ◌≡◌, ◌≢◌}
use Rattle.std.proofs.lemmas.List.{length-map}
use Rattle.std.specs.Cmp.{IsTotalOrder}
use Rattle.std.specs.Iterator.{YieldsFirst}
use Rattle.std.specs.Map.{keys_of}
use Rattle.std.specs.Bool.{IsTrue}
use Rattle.std.specs.Ordering.{is_eq, is_lt, ordering_reverse}
use Rattle.std.specs.declared.cmp.Ordering.TheVariants.{Equal, Greater, Less}
use Rattle.std.specs.declared.cmp.Ordering.{Ordering}

module _ {K X : Type 0} (cmp : K → K → Ordering) where
  -- where no entry of the first list comes first, the second one has an entry
  some-second : (found : Ordering) (es others : List (K × X)) → front_order cmp es others ≡ Some found → is_lt found ≡ false → others ≢ []
  some-second found [] [] is low = absurd (cc)
  some-second found (e ∷ es) [] is low = let l : Less ≡ found = cc in absurd (let bad : true ≡ false = ap is_lt l ∙ low in cc)
  some-second found es (x ∷ others) is low = λ n. cc

module _ {K X : Type 0} (cmp : K → K → Ordering) (o : IsTotalOrder cmp) where
  -- what is kept of an entry, by whether its key is present
  first-kept : (present found : Bool) (e : K × X) (es others : List (K × X)) → is_present cmp others e.0 ≡ found → kept_from cmp present (e ∷ es) others ≡ cond (fits present found) (e ∷ kept_from cmp present es others) (kept_from cmp present es others)
  first-kept present found e es others is = ap (λ b. cond (fits present b) (e ∷ kept_from cmp present es others) (kept_from cmp present es others)) is

  -- a key below all entries of a list changes nothing of what the list keeps
  kept-below : (present : Bool) (x : K × X) (es others : List (K × X)) → IsBelow cmp x es → kept_from cmp present es (x ∷ others) ≡ kept_from cmp present es others
  kept-below present x [] others below = refl
  kept-below present x (e ∷ es) others below =
      first-kept present (is_present cmp others e.0) e es (x ∷ others) (present-later cmp o x others e.0 below.0)
      ∙ ap (λ z. cond (fits present (is_present cmp others e.0)) (e ∷ z) z) (kept-below present x es others below.1)

  -- a key below a list is below what is kept of it
  below-kept : (present : Bool) (x : K × X) (es others : List (K × X)) → IsBelow cmp x es → IsBelow cmp x (kept_from cmp present es others)
  below-kept present x [] others below = tt
  below-kept present x (e ∷ es) others below = go (fits present (is_present cmp others e.0)) (below-kept present x es others below.1)
    where
      go : (b : Bool) → IsBelow cmp x (kept_from cmp present es others) → IsBelow cmp x (cond b (e ∷ kept_from cmp present es others) (kept_from cmp present es others))
      go true rest = (below.0, rest)
      go false rest = rest

  -- an entry below all others is the first of the union, on whichever side it is
  union-first : (e : K × X) (es others : List (K × X)) → IsIncreasing cmp (e ∷ es) → IsIncreasing cmp others → IsBelow cmp e others → united cmp (e ∷ es) others ≡ e ∷ united cmp es others
  union-first e es others up others_up below = (goes cmp o Less {first = e} {es' = es} {others' = others} up others_up (front others below) (refl, refl)).unites
    where
      front : (xs : List (K × X)) → IsBelow cmp e xs → front_order cmp (e ∷ es) xs ≡ Some Less
      front [] below = refl
      front (x ∷ xs) below = ap Some below.0

  union-second : (x : K × X) (es others : List (K × X)) → IsIncreasing cmp es → IsIncreasing cmp (x ∷ others) → IsBelow cmp x es → united cmp es (x ∷ others) ≡ x ∷ united cmp es others
  union-second x es others up others_up below = (goes cmp o Greater {first = x} {es' = es} {others' = others} up others_up (front es below) (refl, refl)).unites
    where
      front : (xs : List (K × X)) → IsBelow cmp x xs → front_order cmp xs (x ∷ others) ≡ Some Greater
      front [] below = refl
      front (y ∷ xs) below = ap Some (flip cmp o x.0 y.0 below.0)

  -- what a step tells of what is kept
  record Keeps (found : Ordering) (es others : List (K × X)) (first : K × X) (es' others' : List (K × X)) : Type 0 where
    both : kept_from cmp true es others ≡ (if is_eq found then first ∷ kept_from cmp true es' others' else kept_from cmp true es' others')
    alone : kept_from cmp false es others ≡ (if is_lt found then first ∷ kept_from cmp false es' others' else kept_from cmp false es' others')
    one : unshared cmp es others ≡ (if is_eq found then unshared cmp es' others' else first ∷ unshared cmp es' others')

  before-others : (e : K × X) (es others : List (K × X)) → front_order cmp (e ∷ es) others ≡ Some Less → IsBefore cmp e others
  before-others e es [] is = tt
  before-others e es (x ∷ others) is = cc

  before-first : (x : K × X) (es others : List (K × X)) → front_order cmp es (x ∷ others) ≡ Some Greater → IsBefore cmp x es
  before-first x [] others is = tt
  before-first x (e ∷ es) others is = o.antisymm x.0 e.0 ∙ ap ordering_reverse (let t : cmp e.0 x.0 ≡ Greater = cc in t)

  keeps-less : (e : K × X) (es others : List (K × X)) → IsIncreasing cmp (e ∷ es) → IsIncreasing cmp others → IsBefore cmp e others → Keeps Less (e ∷ es) others e es others
  keeps-less e es others up others_up before =
      let below = all-below cmp o e others others_up before in
      let absent = absent-below cmp o e others others_up below in
      let alone = first-kept false false e es others absent in record {
        both = first-kept true false e es others absent;
        alone = alone;
        one = ap (λ z. united cmp z (kept_from cmp false others (e ∷ es))) alone ∙ ap (λ z. united cmp (e ∷ kept_from cmp false es others) z) (kept-below false e others es below)
            ∙ union-first e (kept_from cmp false es others) (kept_from cmp false others es) (subst (IsIncreasing cmp) alone (up-kept cmp false others (e ∷ es) up)) (up-kept cmp false es others others_up) (below-kept false e others es below);
      }

  keeps-greater : (x : K × X) (es others : List (K × X)) → IsIncreasing cmp es → IsIncreasing cmp (x ∷ others) → IsBefore cmp x es → Keeps Greater es (x ∷ others) x es others
  keeps-greater x es others up others_up before =
      let below = all-below cmp o x es up before in
      let own = first-kept false false x others es (absent-below cmp o x es up below) in record {
        both = kept-below true x es others below;
        alone = kept-below false x es others below;
        one = ap (λ z. united cmp z (kept_from cmp false (x ∷ others) es)) (kept-below false x es others below) ∙ ap (λ z. united cmp (kept_from cmp false es others) z) own
            ∙ union-second x (kept_from cmp false es others) (kept_from cmp false others es) (up-kept cmp false others es up) (subst (IsIncreasing cmp) own (up-kept cmp false es (x ∷ others) others_up)) (below-kept false x es others below);
      }

  keeps-equal : (e x : K × X) (es others : List (K × X)) → IsIncreasing cmp (e ∷ es) → IsIncreasing cmp (x ∷ others) → cmp e.0 x.0 ≡ Equal → Keeps Equal (e ∷ es) (x ∷ others) e es others
  keeps-equal e x es others up others_up same =
      let turned = equal-back cmp o e.0 x.0 same in
      let here = present-first cmp o x others e.0 others_up turned in
      let below = below-too x e es turned (first-below cmp o e es up) in
      let others_below = below-too e x others same (first-below cmp o x others others_up) in record {
        both = first-kept true true e es (x ∷ others) here ∙ ap (λ z. e ∷ z) (kept-below true x es others below);
        alone = first-kept false true e es (x ∷ others) here ∙ kept-below false x es others below;
        one = ap (λ z. united cmp z (kept_from cmp false (x ∷ others) (e ∷ es))) (first-kept false true e es (x ∷ others) here ∙ kept-below false x es others below)
            ∙ ap (λ z. united cmp (kept_from cmp false es others) z) (first-kept false true x others (e ∷ es) (present-first cmp o e es x.0 up same) ∙ kept-below false e others es others_below);
      }
    where
      below-too : (a b : K × X) (xs : List (K × X)) → cmp a.0 b.0 ≡ Equal → IsBelow cmp b xs → IsBelow cmp a xs
      below-too a b [] t below = tt
      below-too a b (y ∷ xs) t below = (o.congr a.0 b.0 y.0 t ∙ below.0, below-too a b xs t below.1)

  keeps : (found : Ordering) {es others : List (K × X)} {first : K × X} {es' others' : List (K × X)} → IsIncreasing cmp es → IsIncreasing cmp others → front_order cmp es others ≡ Some found → TakesOff found es others first es' others' → Keeps found es others first es' others'
  keeps Less {es} {others} {first} {es'} {others'} up others_up is t = rw (t.0, t.1) (keeps-less first es' others (rw t.0 at up) others_up (before-others first es' others (rw t.0 at is)))
  keeps Greater {es} {others} {first} {es'} {others'} up others_up is t = rw (t.0, t.1) (keeps-greater first es others' up (rw t.1 at others_up) (before-first first es others' (rw t.1 at is)))
  keeps Equal {es} {others} {first} {es'} {others'} up others_up is t =
      let seen : Some (cmp first.0 t.1.0) ≡ Some Equal = rw (t.0, t.2) at is in
      rw (t.0, t.2) (keeps-equal first t.1 es' others' (rw t.0 at up) (rw t.2 at others_up) (cc))

unit-length : {K : Type 0} (keys : List K) → length (with_unit keys) ≡ length keys
unit-length keys = length-map keys (λ k. (k, tt))

-- a list without an element after which one stays out
told-if : {K X : Type 0} (e : K × X) (es : List (K × X)) (b : Bool) → keys_of (if b then e ∷ es else es) ≡ (if b then e.0 ∷ keys_of es else keys_of es)
told-if e es true = refl
told-if e es false = refl

told-not : {K X : Type 0} (e : K × X) (es : List (K × X)) (b : Bool) → keys_of (if b then es else e ∷ es) ≡ (if b then keys_of es else e.0 ∷ keys_of es)
told-not e es true = refl
told-not e es false = refl

module _ {K C : Type 0} {order : C → K → K → Ordering} {first second : List K} {c : C} (o : IsTotalOrder (order c)) (i : Increase order (record { first = first; second = second; comparator = c }))
    {old : Sides K C} (old_is : record { first = first; second = second; comparator = c } ≡ old) {told : Option Ordering} (told_is : told ≡ front order old) {found : Ordering} (was : told ≡ Some found) where
  abbrev sides : List K → List K → Sides K C
  sides first' second' = record { first = first'; second = second'; comparator = c }

  -- what is left increases, and what the step took off
  abbrev Took : Ordering → K → Sides K C → Type 0
  Took found key new = Increase order new × Takes order old found key new

  front-is : (r : Ordering) → found ≡ r → front_order (order c) (with_unit first) (with_unit second) ≡ Some r
  front-is r is = ap (front order) old_is ∙ sym told_is ∙ was ∙ ap Some is

  took : (r : Ordering) → found ≡ r → (key : K) (first' second' : List K) → TakesOff r (with_unit first) (with_unit second) (key, tt) (with_unit first') (with_unit second') → Took r key (sides first' second')
  took r is key first' second' t =
      let g = goes (order c) o r i.up i.second_up (front-is r is) t in
      let k = keeps (order c) o r i.up i.second_up (front-is r is) t in
      let takes : Takes order (sides first second) r key (sides first' second') = record {
        either = ap keys_of g.unites;
        both = ap keys_of k.both ∙ told-if (key, tt) _ (is_eq r);
        alone = ap keys_of k.alone ∙ told-if (key, tt) _ (is_lt r);
        one = ap keys_of k.one ∙ told-not (key, tt) _ (is_eq r);
        fewer = omega (arith, steps-less (order c) r (with_unit first) (with_unit second) (key, tt) (with_unit first') (with_unit second') t, unit-length first, unit-length second, unit-length first', unit-length second');
      } in
      (record { up = g.up; second_up = g.others_up }, rw (← old_is) takes)

  pub took-first : found ≡ Less → {key : K} {first' : List K} → first ≡ key ∷ first' → Took Less key (sides first' second)
  took-first is {key} {first'} steps = took Less is key first' second (ap with_unit steps, refl)

  pub took-second : found ≡ Greater → {key : K} {second' : List K} → second ≡ key ∷ second' → Took Greater key (sides first second')
  took-second is {key} {second'} steps = took Greater is key first second' (refl, ap with_unit steps)

  pub took-both : found ≡ Equal → (other : Option K) {second' : List K} → YieldsFirst (λ (keys : List K). keys) second other second' → {key : K} {first' : List K} → first ≡ key ∷ first' → Took Equal key (sides first' second')
  took-both is (Some other) {second'} others {key} {first'} steps = took Equal is key first' second' (ap with_unit steps, (other, tt), ap with_unit others)
  took-both is None others steps = absurd (some-second (order c) Equal (with_unit first) (with_unit second) (front-is Equal is) refl (ap with_unit others.0))

unit-none : {K : Type 0} (keys : List K) → with_unit keys ≡ [] → keys ≡ []
unit-none [] none = refl
unit-none (key ∷ keys) none = absurd (cc)

-- where no key is left to be compared, both sets are over
pub over : {K C : Type 0} (order : C → K → K → Ordering) (old : Sides K C) → front order old ≡ None → Steps order old None old
over order old is =
    let none = front-none (order old.comparator) (with_unit old.first) (with_unit old.second) is in
    (unit-none old.first none.0, unit-none old.second none.1, refl)

module _ {K C : Type 0} (order : C → K → K → Ordering) (s : Sides K C) where
  -- where one set is over, no key is in both
  pub over-both : ((s.first ≢ []) × (s.second ≢ []) → IsTrue false) → in_both order s ≡ []
  over-both ended = go s.first s.second ended
    where
      go : (first second : List K) → ((first ≢ []) × (second ≢ []) → IsTrue false) → in_both order (record { first = first; second = second; comparator = s.comparator }) ≡ []
      go [] second ended = refl
      go (k ∷ first) [] ended = ap keys_of (kept-none (order s.comparator) true (with_unit (k ∷ first)) [] (absent-all (order s.comparator) (with_unit (k ∷ first))))
      go (k ∷ first) (q ∷ second) ended = absurd (let bad : false ≡ true = ended (λ n. cc, λ n. cc) in cc)

  -- where the first set is over, it has no key of its own
  pub over-first : (s.first ≢ [] → IsTrue false) → in_first order s ≡ []
  over-first ended = go s.first ended
    where
      go : (first : List K) → (first ≢ [] → IsTrue false) → in_first order (record { first = first; second = s.second; comparator = s.comparator }) ≡ []
      go [] ended = refl
      go (k ∷ first) ended = absurd (let bad : false ≡ true = ended (λ n. cc) in cc)

-- the entries of a set's keys are its own
whole-unit : {K : Type 0} (es : List (K × Unit {0})) → with_unit (keys_of es) ≡ es
whole-unit [] = refl
whole-unit (e ∷ es) = ap (λ z. e ∷ z) (whole-unit es)

module _ {K C : Type 0} (order : C → K → K → Ordering) (es others : List (K × Unit {0})) {c : C} where
  -- two sets that increase, before a key is taken off
  pub increase : {first second : List K} → first ≡ keys_of es → second ≡ keys_of others → IsIncreasing (order c) es → IsIncreasing (order c) others → Increase order (record { first = first; second = second; comparator = c })
  increase is second_is up others_up = record {
    up = subst (IsIncreasing (order c)) (sym (ap with_unit is ∙ whole-unit es)) up;
    second_up = subst (IsIncreasing (order c)) (sym (ap with_unit second_is ∙ whole-unit others)) others_up;
  }

  -- what is made of all keys of two sets is made of their lists
  pub all-keys : {s : Sides K C} → s ≡ record { first = keys_of es; second = keys_of others; comparator = c } → (f : (K → K → Ordering) → List (K × Unit {0}) → List (K × Unit {0}) → List (K × Unit {0}))
      → keys_of (f (order s.comparator) (with_unit s.first) (with_unit s.second)) ≡ keys_of (f (order c) es others)
  all-keys {s} is f = ap (λ (z : Sides K C). keys_of (f (order z.comparator) (with_unit z.first) (with_unit z.second))) is ∙ ap (λ z. keys_of (f (order c) z (with_unit (keys_of others)))) (whole-unit es) ∙ ap (λ z. keys_of (f (order c) es z)) (whole-unit others)
