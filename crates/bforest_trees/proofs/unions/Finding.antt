-- A key that is looked for in what is left to a reader, and a list of which no key is found so.
use Rattle.bforest_core.specs.Table.{Table}
use Rattle.bforest_nodes.specs.Entries.{IsIncreasing, is_present}
use Rattle.bforest_trees.proofs.unions.Fronts.{Begins, begins, passed}
use Rattle.bforest_trees.proofs.unions.Merging.{Comparing, IsBelow, absent-below, all-below, each_is, equal-back, first-below, present-first, present-later, rest-up}
use Rattle.bforest_trees.specs.Layout.{Entered, left_of}
use Rattle.bforest_trees.specs.Merge.{Finds, HoldsNext, Passes}
use Rattle.bforest_trees.specs.Union.{are_apart}
use Rattle.bforest_trees.specs.declared.reader.Reader.{Reader}
use Rattle.std.proofs.Common.{Bool, List, Some, [], ap, arith, false, length, not, refl, slice_get, subst, sym, true, ◌&&◌, ◌+◌, ◌<◌, ◌∙◌, ◌∷◌, ◌≡◌, ℕ}
use Rattle.std.specs.Cmp.{IsTotalOrder, tied_itself}
use Rattle.std.specs.Ordering.{is_eq, is_gt, is_lt, ordering_reverse}
use Rattle.std.specs.declared.cmp.Ordering.TheVariants.{Equal, Greater, Less}
use Rattle.std.specs.declared.cmp.Ordering.{Ordering}

is-less : (r : Ordering) → is_lt r ≡ true → r ≡ Less
is-less Less t = refl
is-less Equal t = absurd (cc)
is-less Greater t = absurd (cc)

is-equal : (r : Ordering) → is_eq r ≡ true → r ≡ Equal
is-equal Less t = absurd (cc)
is-equal Equal t = refl
is-equal Greater t = absurd (cc)

is-greater : (r : Ordering) → is_eq r ≡ false → is_lt r ≡ false → r ≡ Greater
is-greater Less equal less = absurd (cc)
is-greater Equal equal less = absurd (cc)
is-greater Greater equal less = refl

-- a key that is less than another one is less than each that is not less than that one
ahead : {K : Type 0} {cmp : K → K → Ordering} → IsTotalOrder cmp → (e key k : K) → cmp key e ≡ Greater → is_gt (cmp key k) ≡ false → cmp e k ≡ Less
ahead {cmp = cmp} o e key k t not_less = go (cmp key k) refl not_less
  where
    go : (r : Ordering) → cmp key k ≡ r → is_gt r ≡ false → cmp e k ≡ Less
    go Less is told = o.trans e key k (o.antisymm e key ∙ ap ordering_reverse t) is
    go Equal is told = o.antisymm e k ∙ ap ordering_reverse (sym (o.congr key k e is) ∙ t)
    go Greater is told = absurd (cc)

module _ {K X : Type 0} {n : ℕ} {table : Table K X} {cmp : K → K → Ordering} (o : IsTotalOrder cmp) where
  module _ {key : K} {start reader : Reader K X n} (p : Passes table cmp key start reader) where
    -- whether the key is among all is whether it is among the rest
    among-rest : is_present cmp (left_of table start) key ≡ is_present cmp (left_of table reader) key
    among-rest = p.same key (ap is_gt (tied_itself o key))

    -- nothing is left in which the key could be
    pub finds-end : {reader' : Reader K X n} → left_of table reader ≡ [] → reader' ≡ reader → Finds table cmp key start false reader'
    finds-end none same = subst (λ (r : Reader K X n). Finds table cmp key start false r) (sym same) (record { found_is = sym (among-rest ∙ ap (λ z. is_present cmp z key) none); passes = p })

    module _ {reader' : Reader K X n} (e : Entered table (left_of table reader) reader') {k : K} (read : slice_get reader'.keys.now reader'.index ≡ Some k) {order : Ordering} (told : order ≡ cmp key k) where
      holds : HoldsNext reader'
      holds = record { within = e.within; same = e.same }

      first : Begins table reader' k
      first = begins table reader' k e.reader_is holds read

      left_is : left_of table reader ≡ (k, first.value) ∷ first.rest
      left_is = e.left_is ∙ first.left_is

      up : IsIncreasing cmp ((k, first.value) ∷ first.rest)
      up = subst (IsIncreasing cmp) left_is p.up

      stays : Passes table cmp key start reader'
      stays = record { reader_is = e.reader_is; up = subst (IsIncreasing cmp) e.left_is p.up; same = λ k' not_less. p.same k' not_less ∙ ap (λ z. is_present cmp z k') e.left_is }

      -- an equal key is found
      pub finds-equal : {equal : Bool} → equal ≡ is_eq order → equal ≡ true → Finds table cmp key start true reader'
      finds-equal equal_is told_equal = let t = sym told ∙ is-equal order (sym equal_is ∙ told_equal) in
          record { found_is = sym (among-rest ∙ ap (λ z. is_present cmp z key) left_is ∙ present-first cmp o (k, first.value) first.rest key up (equal-back cmp o key k t)); passes = stays }

      -- behind a greater one the key is not
      pub finds-less : {less : Bool} → less ≡ is_lt order → less ≡ true → Finds table cmp key start false reader'
      finds-less less_is told_less = let t = sym told ∙ is-less order (sym less_is ∙ told_less) in
          let below = all-below cmp o (key, first.value) ((k, first.value) ∷ first.rest) up t in
          record { found_is = sym (among-rest ∙ ap (λ z. is_present cmp z key) left_is ∙ absent-below cmp o (key, first.value) ((k, first.value) ∷ first.rest) up below); passes = stays }

      -- a lesser one is passed
      module _ {next : Reader K X n} (moved : next ≡ record reader' { index = reader'.index + 1 }) where
        pub finds-shorter : length (left_of table next) < length (left_of table reader)
        finds-shorter = let t = passed table reader' next k e.reader_is holds read moved in omega (arith, ap length (e.left_is ∙ t.1.left))

        pub finds-next : {equal less : Bool} → equal ≡ is_eq order → equal ≡ false → less ≡ is_lt order → less ≡ false → Passes table cmp key start next
        finds-next equal_is not_equal less_is not_less =
            let t = passed table reader' next k e.reader_is holds read moved in
            let left = e.left_is ∙ t.1.left in
            let greater = sym told ∙ is-greater order (sym equal_is ∙ not_equal) (sym less_is ∙ not_less) in record {
              reader_is = t.1.reader;
              up = rest-up cmp o (k, t.0) (left_of table next) (subst (IsIncreasing cmp) left p.up);
              same = λ k' ahead_is. p.same k' ahead_is ∙ ap (λ z. is_present cmp z k') left ∙ present-later cmp o (k, t.0) (left_of table next) k' (ahead o k key k' greater ahead_is);
            }

  -- keys that are greater than the one with which others were passed are in what is left of them where they are in all
  each-passed : {second second' : Reader K X n} (e : K × X) → Passes table cmp e.0 second second' → (es : List (K × X)) → IsBelow cmp e es → each_is cmp es (left_of table second) false ≡ each_is cmp es (left_of table second') false
  each-passed e p [] below = refl
  each-passed {second} {second'} e p (x ∷ es) below =
      ap (λ b. not b && each_is cmp es (left_of table second) false) (p.same x.0 (ap is_gt below.0)) ∙ ap (λ z. not (is_present cmp (left_of table second') x.0) && z) (each-passed e p es below.1)

  module _ {rest rest' : List (K × X)} {entry : K × X} (steps : rest ≡ entry ∷ rest') {second second' : Reader K X n} {found : Bool}
      (f : Finds table cmp entry.0 second found second') {es others : List (K × X)} (c : Comparing cmp es others false rest (left_of table second)) where
    told-by : each_is cmp es others false ≡ (not found && each_is cmp rest' (left_of table second) false)
    told-by = c.same ∙ ap (λ z. each_is cmp z (left_of table second) false) steps ∙ ap (λ b. not b && each_is cmp rest' (left_of table second) false) (sym f.found_is)

    -- a key of both
    pub apart-found : found ≡ true → are_apart cmp es others ≡ false
    apart-found is = told-by ∙ ap (λ b. not b && each_is cmp rest' (left_of table second) false) is

    -- a key that the others do not have
    pub apart-next : found ≡ false → Comparing cmp es others false rest' (left_of table second')
    apart-next is =
        let up = subst (IsIncreasing cmp) steps c.up in record {
          up = rest-up cmp o entry rest' up;
          others_up = f.passes.up;
          same = told-by ∙ ap (λ b. not b && each_is cmp rest' (left_of table second) false) is ∙ each-passed entry f.passes rest' (first-below cmp o entry rest' up);
        }
