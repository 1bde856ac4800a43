-- Entries that are taken off one after another, and put into an array.
use Rattle.bforest_trees.proofs.unions.Merging.{front-none, goes, no-union}
use Rattle.bforest_trees.specs.Layout.{left_of}
use Rattle.bforest_trees.specs.Merge.{Gathers, GoesOn, TakesFrom, TakesLeast, TakesOff, front_order}
use Rattle.bforest_trees.specs.Union.{united}
use Rattle.bforest_trees.specs.declared.reader.Reader.{Reader}
use Rattle.bforest_core.specs.Table.{Table}
use Rattle.bforest_nodes.specs.Entries.{IsIncreasing}
use Rattle.bforest_core.specs.Place.{entry_keys, leaf_content}
use Rattle.bforest_nodes.specs.Content.{Content, IsLeaf, Leaf, entry_count, keys_of, vals_of}
use Rattle.std.proofs.Common.{List, None, Option, Some, [], ap, arith, drop, length, length-take-le, refl, slice_get, subst, suc, sym, take, zero, ◌++◌, ◌<◌, ◌∙◌, ◌∷◌, ◌≡◌, ◌≤◌, ℕ}
use Rattle.std.proofs.lemmas.List.{length-drop, length-map, map-append}
use Rattle.std.specs.Cmp.{IsTotalOrder}
use Rattle.std.specs.Iterator.{YieldsFirst}
use Rattle.std.specs.Option.{IsSome}
use Rattle.std.specs.declared.cmp.Ordering.TheVariants.{Equal, Greater, Less}
use Rattle.std.specs.declared.cmp.Ordering.{Ordering}

-- a list up to the next element, and what is behind that
next-of : {E : Type 0} (i : ℕ) (xs : List E) (x : E) (rest : List E) → drop i xs ≡ x ∷ rest → (take (suc i) xs ≡ take i xs ++ x ∷ []) × (drop (suc i) xs ≡ rest)
next-of zero [] x rest is = absurd cc
next-of zero (y ∷ xs) x rest is = let same : y ≡ x = cc in let tail : xs ≡ rest = cc in (ap (λ z. z ∷ []) same, tail)
next-of (suc i) [] x rest is = absurd cc
next-of (suc i) (y ∷ xs) x rest is = let n = next-of i xs x rest is in (ap (λ z. y ∷ z) n.0, n.1)

module _ {K X : Type 0} where
  -- an entry behind those of a leaf
  leaf-pushed : (es : List (K × X)) (e : K × X) → Leaf (keys_of (leaf_content es) ++ e.0 ∷ []) (vals_of (leaf_content es) ++ e.1 ∷ []) ≡ leaf_content (es ++ e ∷ [])
  leaf-pushed es e = cc (map-append (λ (z : K × X). z.0) es (e ∷ []), map-append (λ (z : K × X). z.1) es (e ∷ []))

  -- how many entries the leaf has
  pub gathered-many : {all rest : List (K × X)} {leaf : Content K X} {i : ℕ} → Gathers all rest leaf i → i ≤ length all → entry_count leaf ≡ i
  gathered-many {all} {rest} {leaf} {i} s low = ap entry_count s.leaf_is ∙ length-map (take i all) (λ (z : K × X). z.0) ∙ length-take-le i all low

  pub gathered-leaf : {all rest : List (K × X)} {leaf : Content K X} {i : ℕ} → Gathers all rest leaf i → IsLeaf leaf
  gathered-leaf s = subst IsLeaf (sym s.leaf_is) tt

  -- one more was taken off, and put into the leaf behind those before
  pub gathers-next : {all rest rest' : List (K × X)} {leaf leaf' : Content K X} {i : ℕ} {e : K × X} → Gathers all rest leaf i → rest ≡ e ∷ rest' → leaf' ≡ Leaf (keys_of leaf ++ e.0 ∷ []) (vals_of leaf ++ e.1 ∷ [])
      → Gathers all rest' leaf' (suc i)
  gathers-next {all} {rest} {rest'} {leaf} {leaf'} {i} {e} s is put = let n = next-of i all e rest' (sym s.rest_is ∙ is) in record {
    leaf_is = put ∙ ap (λ z. Leaf (keys_of z ++ e.0 ∷ []) (vals_of z ++ e.1 ∷ [])) s.leaf_is ∙ leaf-pushed (take i all) e ∙ ap leaf_content (sym n.0);
    rest_is = sym n.1;
  }

  -- the first was taken off
  pub gathers-first : {all rest : List (K × X)} {leaf : Content K X} {e : K × X} → all ≡ e ∷ rest → leaf ≡ Leaf (e.0 ∷ []) (e.1 ∷ []) → Gathers all rest leaf 1
  gathers-first {all} {rest} {leaf} {e} is leaf_is = record { leaf_is = leaf_is ∙ ap (λ z. leaf_content (take 1 z)) (sym is); rest_is = sym (ap (drop 1) is) }

  -- the first key
  pub gathered-key : {all rest : List (K × X)} {leaf : Content K X} {i : ℕ} {key : K} → Gathers all rest leaf i → slice_get (keys_of leaf) 0 ≡ Some key → (x : X) × (slice_get all 0 ≡ Some (key, x))
  gathered-key {all} {i = i} s found = go i all (ap (λ z. slice_get (keys_of z) 0) (sym s.leaf_is) ∙ found)
    where
      go : (i : ℕ) (all : List (K × X)) {key : K} → slice_get (entry_keys (take i all)) 0 ≡ Some key → (x : X) × (slice_get all 0 ≡ Some (key, x))
      go zero all found = absurd cc
      go (suc i) [] found = absurd cc
      go (suc i) (e ∷ es) {key} found = let same : e.0 ≡ key = cc in (e.1, ap (λ z. Some (z, e.1)) same)

  -- something is left
  pub gathers-more : {all rest : List (K × X)} {leaf : Content K X} {i : ℕ} → Gathers all rest leaf i → i < length all → 0 < length rest
  gathers-more {all} {rest} {leaf} {i} s low = omega (arith, ap length s.rest_is, length-drop i all, low)

-- a step leaves no more of either list
shorter : {K X : Type 0} (order : Ordering) (es others : List (K × X)) (e : K × X) (es' others' : List (K × X)) → TakesOff order es others e es' others' → (length es' ≤ length es) × (length others' ≤ length others)
shorter Less es others e es' others' t = (omega (arith, ap length t.0), omega (arith, ap length t.1))
shorter Greater es others e es' others' t = (omega (arith, ap length t.0), omega (arith, ap length t.1))
shorter Equal es others e es' others' t = (omega (arith, ap length t.0), omega (arith, ap length t.2))

module _ {K X : Type 0} {n : ℕ} (table : Table K X) (cmp : K → K → Ordering) (o : IsTotalOrder cmp) where
  -- what a step over two readers leaves
  pub record Step (first second : Reader K X n) (e : K × X) (first' second' : Reader K X n) : Type 0 where
    pub unites : united cmp (left_of table first) (left_of table second) ≡ e ∷ united cmp (left_of table first') (left_of table second')
    pub first_on : GoesOn table cmp first first'
    pub second_on : GoesOn table cmp second second'

  pub steps : {order : Ordering} {first second : Reader K X n} {e : K × X} {first' second' : Reader K X n} → IsIncreasing cmp (left_of table first) → IsIncreasing cmp (left_of table second)
      → front_order cmp (left_of table first) (left_of table second) ≡ Some order → TakesFrom table order first second e first' second' → first'.root ≡ first.root → second'.root ≡ second.root → Step first second e first' second'
  steps {order} {first} {second} {e} {first'} {second'} up other_up is t root second_root =
      let g = goes cmp o order up other_up is t.off in let s = shorter order (left_of table first) (left_of table second) e (left_of table first') (left_of table second') t.off in record {
        unites = g.unites;
        first_on = record { reader_is = t.reader; up = g.up; fewer = s.0; root = root };
        second_on = record { reader_is = t.second_reader; up = g.others_up; fewer = s.1; root = second_root };
      }

  pub goes-then : {a b c : Reader K X n} → GoesOn table cmp a b → GoesOn table cmp b c → GoesOn table cmp a c
  goes-then p q = record { reader_is = q.reader_is; up = q.up; fewer = omega (arith, p.fewer, q.fewer); root = q.root ∙ p.root }

-- where something is left to two readers, the least of it is found
pub least-some : {K X : Type 0} {n : ℕ} (table : Table K X) (cmp : K → K → Ordering) {first second : Reader K X n} (found : Option (K × X)) (first' second' : Reader K X n)
    → TakesLeast table cmp first second found first' second' → 0 < length (united cmp (left_of table first) (left_of table second)) → IsSome found
least-some table cmp (Some e) first' second' l some = refl
least-some table cmp {first} {second} None first' second' l some = let none = front-none cmp (left_of table first) (left_of table second) (l.none refl) in absurd (omega (arith, some, ap length (no-union cmp none)))

-- where something is left, a reader yields it
pub some-yields : {R A : Type 0} (left : R → List A) (old new : R) (o : Option A) → YieldsFirst left old o new → 0 < length (left old) → IsSome o
some-yields left old new (Some x) y some = refl
some-yields left old new None y some = absurd (omega (arith, ap length y.0, some))

pub yields : {R A : Type 0} (left : R → List A) (old new : R) {o : Option A} {x : A} → YieldsFirst left old o new → o ≡ Some x → left old ≡ x ∷ left new
yields left old new {o} {x} y is = subst (λ z. YieldsFirst left old z new) is y
