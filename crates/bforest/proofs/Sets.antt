-- The answers of a set, from those of a map with the unit as value.
use Rattle.bforest.specs.Set.{as_popped, as_removed, the_value}
use Rattle.bforest_nodes.specs.Entries.{is_present, value_for}
use Rattle.std.proofs.Math.Nat.{pow-succ'}
use Rattle.std.proofs.Common.{List, [], ◌∷◌, ◌++◌, ◌∙◌, None, Option, Some, ap, arith, refl, reverse, subst, suc, sym, zero, ◌*◌, ◌-◌, ◌<◌, ◌^◌, ◌≡◌, ◌≤◌, ℕ}
use Rattle.std.proofs.lemmas.List.{reverse-append}
use Rattle.std.specs.Iterator.{YieldsFirst, YieldsLast}
use Rattle.std.specs.Map.{keys_of}
use Rattle.std.specs.Option.{is_some, option_map}
use Rattle.std.specs.declared.cmp.Ordering.{Ordering}

-- a removal answers the unit exactly where the key was present
pub removed-as : (o : Option (Unit {0})) → as_removed (is_some o) ≡ o
removed-as None = refl
removed-as (Some v) = refl

-- the key of an entry that was removed is answered, and the entry is that key's
pub popped-as : {K : Type 0} (o : Option (K × Unit {0})) → as_popped (option_map (λ e. e.0) o) ≡ o
popped-as None = refl
popped-as (Some e) = refl

some-map : {A B : Type 0} (f : A → B) (o : Option A) → is_some (option_map f o) ≡ is_some o
some-map f None = refl
some-map f (Some a) = refl

-- a key with a value is present
pub present-is : {K X : Type 0} (cmp : K → K → Ordering) (es : List (K × X)) (k : K) → is_some (value_for cmp es k) ≡ is_present cmp es k
present-is cmp es k = some-map (λ e. e.1) _

-- the bound on the keys of a tree of at least two levels, as one power of 4
pub depth-eight : (levels n : ℕ) → 2 ≤ levels → 8 * 4 ^ (levels - 2) < n → 2 * 4 ^ (levels - 1) < n
depth-eight zero n two h = absurd (omega (arith, two))
depth-eight (suc zero) n two h = absurd (omega (arith, two))
depth-eight (suc (suc q)) n two h =
    let two_less : suc (suc q) - 2 ≡ q = omega arith in
    let one_less : suc (suc q) - 1 ≡ suc q = omega arith in
    let low : 8 * 4 ^ q < n = subst (λ (z : ℕ). 8 * 4 ^ z < n) two_less h in
    let power : 4 ^ suc q ≡ 4 * 4 ^ q = pow-succ' 4 q in
    subst (λ (z : ℕ). 2 * 4 ^ z < n) (sym one_less) (omega (arith, low, power))

keys-append : {K X : Type 0} (es fs : List (K × X)) → keys_of (es ++ fs) ≡ keys_of es ++ keys_of fs
keys-append [] fs = refl
keys-append (e ∷ es) fs = ap (λ z. e.0 ∷ z) (keys-append es fs)

-- the keys of a list reversed are its keys reversed
pub keys-reverse : {K X : Type 0} (es : List (K × X)) → keys_of (reverse es) ≡ reverse (keys_of es)
keys-reverse [] = refl
keys-reverse (e ∷ es) =
    ap keys_of (reverse-append (e ∷ []) es) ∙ keys-append (reverse es) (e ∷ []) ∙ ap (λ z. z ++ e.0 ∷ []) (keys-reverse es) ∙ sym (reverse-append (e.0 ∷ []) (keys_of es))

-- an iterator that yields the first entry yields the first key
pub yields-key : {K X : Type 0} (old new : List (K × X)) (o : Option (K × X)) → YieldsFirst (λ (entries : List (K × X)). entries) old o new → YieldsFirst (λ (keys : List K). keys) (keys_of old) (option_map (λ e. e.0) o) (keys_of new)
yields-key old new (Some entry) steps = ap keys_of steps
yields-key old new None steps = (ap keys_of steps.0, ap keys_of steps.1)

-- an iterator that yields the last entry yields the last key
pub yields-last-key : {K X : Type 0} (old new : List (K × X)) (o : Option (K × X)) → YieldsLast (λ (entries : List (K × X)). entries) old o new → YieldsLast (λ (keys : List K). keys) (keys_of old) (option_map (λ e. e.0) o) (keys_of new)
yields-last-key old new (Some entry) steps = ap keys_of steps ∙ keys-append new (entry ∷ [])
yields-last-key old new None steps = (ap keys_of steps.0, ap keys_of steps.1)

-- the entries of keys, each with the unit as value
abbrev pub with_each : {K : Type 0} → List K → List (K × Unit {0})
with_each [] = []
with_each (k ∷ ks) = (k, the_value) ∷ with_each ks

pub whole-each : {K : Type 0} (es : List (K × Unit {0})) → with_each (keys_of es) ≡ es
whole-each [] = refl
whole-each (e ∷ es) = ap (λ z. e ∷ z) (whole-each es)
