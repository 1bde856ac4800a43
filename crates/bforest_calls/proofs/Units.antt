-- The keys of a set as entries.
use Rattle.bforest.specs.Set.{as_popped, as_removed}
use Rattle.bforest_calls.specs.Looks.{with_each}
use Rattle.bforest_core.specs.Place.{entry_before}
use Rattle.bforest_nodes.specs.Entries.{is_present, value_at_place, value_for, with_value}
use Rattle.std.proofs.Common.{List, None, Option, Some, [], ap, arith, drop, length, refl, reverse, suc, sym, take, zero, ◌++◌, ◌-◌, ◌∙◌, ◌≡◌, ◌∷◌, ℕ}
use Rattle.std.proofs.lemmas.List.{append_assoc, reverse-append}
use Rattle.std.specs.Iterator.{YieldsFirst, YieldsLast}
use Rattle.std.specs.Map.{keys_of}
use Rattle.std.specs.Prelude.{is_some, option_map, slice_get}
use Rattle.std.specs.declared.cmp.Ordering.{Ordering}

module _ {X : Type 0} where
  before-end : (es : List X) (x : X) → entry_before (es ++ x ∷ []) (length (es ++ x ∷ [])) ≡ Some x
  before-end [] x = refl
  before-end (e ∷ []) x = refl
  before-end (e ∷ d ∷ es) x = before-end (d ∷ es) x

  one-more : (es : List X) (x : X) → length (es ++ x ∷ []) ≡ suc (length es)
  one-more [] x = refl
  one-more (e ∷ es) x = ap suc (one-more es x)

  take-front : (es fs : List X) → take (length es) (es ++ fs) ≡ es
  take-front [] fs = refl
  take-front (e ∷ es) fs = ap (λ z. e ∷ z) (take-front es fs)

  without-end : (es : List X) (x : X) → take (length (es ++ x ∷ []) - 1) (es ++ x ∷ []) ≡ es
  without-end es x =
      let more = one-more es x in
      let count : length (es ++ x ∷ []) - 1 ≡ length es = omega (arith, more) in
      ap (λ n. take n (es ++ x ∷ [])) count ∙ take-front es (x ∷ [])

module _ {X : Type 0} where
  -- what a step from either end takes and leaves
  pub taken-first : (old new : List X) (r : Option X) → YieldsFirst (λ (es : List X). es) old r new → r ≡ slice_get old 0
  taken-first old new None h = ap (λ es. slice_get es 0) (sym h.0)
  taken-first old new (Some x) h = ap (λ es. slice_get es 0) (sym h)

  pub left-first : (old new : List X) (r : Option X) → YieldsFirst (λ (es : List X). es) old r new → new ≡ drop 1 old
  left-first old new None h = h.1 ∙ ap (drop 1) (sym h.0)
  left-first old new (Some x) h = ap (drop 1) (sym h)

  pub taken-last : (old new : List X) (r : Option X) → YieldsLast (λ (es : List X). es) old r new → r ≡ entry_before old (length old)
  taken-last old new None h = ap (λ es. entry_before es (length es)) (sym h.0)
  taken-last old new (Some x) h = sym (before-end new x) ∙ ap (λ es. entry_before es (length es)) (sym h)

  pub left-last : (old new : List X) (r : Option X) → YieldsLast (λ (es : List X). es) old r new → new ≡ take (length old - 1) old
  left-last old new None h = h.1 ∙ ap (λ es. take (length es - 1) es) (sym h.0)
  left-last old new (Some x) h = sym (without-end new x) ∙ ap (λ es. take (length es - 1) es) (sym h)

module _ {K : Type 0} where
  removed-some : (o : Option (K × Unit {0})) → as_removed (is_some o) ≡ option_map (λ e. e.1) o
  removed-some None = refl
  removed-some (Some e) = refl

  -- whether a key is present, as its value
  pub removed-value : (order : K → K → Ordering) (es : List (K × Unit {0})) (k : K) → as_removed (is_present order es k) ≡ value_for order es k
  removed-value order es k = removed-some _

  -- the key of an entry, with the unit, is the entry
  pub as-entry : (o : Option (K × Unit {0})) → option_map (λ k. (k, tt)) (option_map (λ e. e.0) o) ≡ o
  as-entry None = refl
  as-entry (Some e) = refl

  pub whole-each : (es : List (K × Unit {0})) → with_each (keys_of es) ≡ es
  whole-each [] = refl
  whole-each (e ∷ es) = ap (λ z. e ∷ z) (whole-each es)

  each-end : (ks : List K) (x : K) → with_each (ks ++ x ∷ []) ≡ with_each ks ++ (x, tt) ∷ []
  each-end [] x = refl
  each-end (k ∷ ks) x = ap (λ z. (k, tt) ∷ z) (each-end ks x)

  each-reversed : (ks : List K) → with_each (reverse ks) ≡ reverse (with_each ks)
  each-reversed [] = refl
  each-reversed (k ∷ ks) =
      ap with_each (reverse-append (k ∷ []) ks) ∙ each-end (reverse ks) k ∙ ap (λ z. z ++ (k, tt) ∷ []) (each-reversed ks)
      ∙ sym (reverse-append ((k, tt) ∷ []) (with_each ks))

  pub back-each : (es : List (K × Unit {0})) → with_each (reverse (keys_of es)) ≡ reverse es
  back-each es = each-reversed (keys_of es) ∙ ap reverse (whole-each es)

  -- a key that is popped, with the unit, is the entry that is popped
  pub popped-entry : (k : Option K) → as_popped k ≡ option_map (λ k. (k, tt)) k
  popped-entry None = refl
  popped-entry (Some k) = refl

  pub key-at : (es : List (K × Unit {0})) (p : ℕ) → slice_get (keys_of es) p ≡ option_map (λ e. e.0) (slice_get es p)
  key-at [] p = refl
  key-at (e ∷ es) zero = refl
  key-at (e ∷ es) (suc p) = key-at es p

  entry-at : (es : List (K × Unit {0})) (p : ℕ) → option_map (λ k. (k, tt)) (slice_get (keys_of es) p) ≡ slice_get es p
  entry-at es p = ap (option_map (λ k. (k, tt))) (key-at es p) ∙ as-entry (slice_get es p)

  before-at : (es : List (K × Unit {0})) (p : ℕ) → option_map (λ k. (k, tt)) (entry_before (keys_of es) p) ≡ entry_before es p
  before-at es zero = refl
  before-at es (suc p) = entry-at es p

  -- the entry of a key that was read
  pub entry-read : (es : List (K × Unit {0})) (p : ℕ) {k : Option K} {e : Option (K × Unit {0})} → e ≡ option_map (λ k. (k, tt)) k
      → k ≡ slice_get (keys_of es) p → e ≡ slice_get es p
  entry-read es p is key = is ∙ ap (option_map (λ k. (k, tt))) key ∙ entry-at es p

  pub entry-before : (es : List (K × Unit {0})) (p : ℕ) {k : Option K} {e : Option (K × Unit {0})} → e ≡ option_map (λ k. (k, tt)) k
      → k ≡ entry_before (keys_of es) p → e ≡ entry_before es p
  entry-before es p is key = is ∙ ap (option_map (λ k. (k, tt))) key ∙ before-at es p

  some-key : (o : Option (K × Unit {0})) → is_some (option_map (λ e. e.0) o) ≡ is_some o
  some-key None = refl
  some-key (Some e) = refl

  -- a place has a key exactly where it has an entry
  pub some-at : (es : List (K × Unit {0})) (p : ℕ) → is_some (slice_get (keys_of es) p) ≡ is_some (slice_get es p)
  some-at es p = ap is_some (key-at es p) ∙ some-key (slice_get es p)

  pub value-at : (es : List (K × Unit {0})) (p : ℕ) → as_removed (is_some (slice_get (keys_of es) p)) ≡ value_at_place es p
  value-at es p = ap as_removed (some-at es p) ∙ removed-some (slice_get es p)

  pub count-keys : (es : List (K × Unit {0})) → length (keys_of es) ≡ length es
  count-keys [] = refl
  count-keys (e ∷ es) = ap suc (count-keys es)

  -- writing the unit changes nothing
  pub same-value : (es : List (K × Unit {0})) (p : ℕ) (v : Unit {0}) → es ≡ with_value es p v
  same-value [] p v = refl
  same-value (e ∷ es) zero v = refl
  same-value (e ∷ es) (suc p) v = ap (λ z. e ∷ z) (same-value es p v)

  -- a step of a range of keys, as one of entries
  pub each-first : (old new : List K) (r : Option K) → YieldsFirst (λ (ks : List K). ks) old r new → option_map (λ k. (k, tt)) r ≡ slice_get (with_each old) 0
  each-first old new None h = ap (λ ks. slice_get (with_each ks) 0) (sym h.0)
  each-first old new (Some x) h = ap (λ ks. slice_get (with_each ks) 0) (sym h)

  pub each-rest : (old new : List K) (r : Option K) → YieldsFirst (λ (ks : List K). ks) old r new → with_each new ≡ drop 1 (with_each old)
  each-rest old new None h = ap with_each h.1 ∙ ap (λ ks. drop 1 (with_each ks)) (sym h.0)
  each-rest old new (Some x) h = ap (λ ks. drop 1 (with_each ks)) (sym h)

  pub each-last : (old new : List K) (r : Option K) → YieldsLast (λ (ks : List K). ks) old r new → option_map (λ k. (k, tt)) r ≡ entry_before (with_each old) (length (with_each old))
  each-last old new None h = ap (λ ks. entry_before (with_each ks) (length (with_each ks))) (sym h.0)
  each-last old new (Some x) h =
      sym (before-end (with_each new) (x, tt)) ∙ ap (λ es. entry_before es (length es)) (sym (each-end new x)) ∙ ap (λ ks. entry_before (with_each ks) (length (with_each ks))) (sym h)

  pub each-init : (old new : List K) (r : Option K) → YieldsLast (λ (ks : List K). ks) old r new → with_each new ≡ take (length (with_each old) - 1) (with_each old)
  each-init old new None h = ap with_each h.1 ∙ ap (λ ks. take (length (with_each ks) - 1) (with_each ks)) (sym h.0)
  each-init old new (Some x) h =
      sym (without-end (with_each new) (x, tt)) ∙ ap (λ es. take (length es - 1) es) (sym (each-end new x)) ∙ ap (λ ks. take (length (with_each ks) - 1) (with_each ks)) (sym h)

  -- one more key of a set that is listed
  pub listed-next : (es es' : List (K × Unit {0})) (ks ks' : List K) (k : K) (all : List (K × Unit {0})) → es' ≡ es ++ (k, tt) ∷ [] → ks ≡ k ∷ ks' → es ++ with_each ks ≡ all → es' ++ with_each ks' ≡ all
  listed-next es es' ks ks' k all pushed steps left =
      ap (λ z. z ++ with_each ks') pushed ∙ append_assoc es ((k, tt) ∷ []) (with_each ks') ∙ ap (λ z. es ++ with_each z) (sym steps) ∙ left
