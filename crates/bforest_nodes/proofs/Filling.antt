-- Filling a leaf with entries in order, and the entries of a set in parts.
use Rattle.std.proofs.Common.{List, Some, [], ap, arith, drop, length, map, refl, slice_get, suc, sym, take, zero, ◌+◌, ◌++◌, ◌-◌, ◌∙◌, ◌∷◌, ◌≡◌, ℕ}
use Rattle.std.proofs.lemmas.List.{length-drop, map-append, take_all}
use Rattle.bforest_nodes.specs.Content.{Leaf, keys_of, vals_of}
use Rattle.bforest_nodes.specs.Entries.{with_unit}
use Rattle.bforest_nodes.specs.Layout.{HasFront}
use Rattle.bforest_nodes.specs.declared.entries.Entries.{Entries as LeafEntries}
use Rattle.bforest_nodes.proofs.Seams.{last_taken}

-- where some of the first elements are a single one, that is the first
alone : {X : Type 0} (size : ℕ) (xs : List X) {x : X} → take size xs ≡ x ∷ [] → take 1 xs ≡ x ∷ []
alone zero xs is = absurd cc
alone (suc size) [] is = absurd cc
alone (suc size) (y ∷ xs) is = ap (λ z. take 1 z) is

module _ {K V : Type 0} {n : ℕ} (es : List (K × V)) where
  -- a leaf of the first entry
  pub front-first : {e : K × V} → slice_get es 0 ≡ Some e → (size : ℕ) (leaf : LeafEntries K V n)
      → Leaf (take size leaf.keys.items) (take size leaf.vals.items) ≡ Leaf (e.0 ∷ []) (e.1 ∷ []) → HasFront 1 es leaf
  front-first {e} first size leaf is = let here = sym (last_taken es 0 e first) in record {
    keys = alone size leaf.keys.items (ap keys_of is) ∙ ap (map (λ (x : K × V). x.0)) here;
    vals = alone size leaf.vals.items (ap vals_of is) ∙ ap (map (λ (x : K × V). x.1)) here;
  }

  -- one entry more
  pub front-next : {old new : LeafEntries K V n} (count : ℕ) {e : K × V} → HasFront count es old → slice_get es count ≡ Some e
      → take (count + 1) new.keys.items ≡ take count old.keys.items ++ e.0 ∷ [] → take (count + 1) new.vals.items ≡ take count old.vals.items ++ e.1 ∷ []
      → HasFront (count + 1) es new
  front-next count {e} held next keys vals =
      let more : take (count + 1) es ≡ take count es ++ e ∷ [] = (let s : count + 1 ≡ suc count = omega arith in ap (λ z. take z es) s ∙ last_taken es count e next) in
      record {
        keys = keys ∙ ap (λ z. z ++ e.0 ∷ []) held.keys ∙ sym (map-append (λ (x : K × V). x.0) (take count es) (e ∷ [])) ∙ sym (ap (map (λ (x : K × V). x.0)) more);
        vals = vals ∙ ap (λ z. z ++ e.1 ∷ []) held.vals ∙ sym (map-append (λ (x : K × V). x.1) (take count es) (e ∷ [])) ∙ sym (ap (map (λ (x : K × V). x.1)) more);
      }

  -- a leaf of all entries
  pub front-all : {leaf : LeafEntries K V n} (size : ℕ) → size ≡ length es → HasFront (length es) es leaf
      → Leaf (take size leaf.keys.items) (take size leaf.vals.items) ≡ Leaf (map (λ (e : K × V). e.0) es) (map (λ (e : K × V). e.1) es)
  front-all {leaf} size is held = let all = take_all (length es) es (omega arith) in
      cc (is, held.keys, held.vals, all)

module _ {K : Type 0} where
  unit-take : (n : ℕ) (xs : List K) → with_unit (take n xs) ≡ take n (with_unit xs)
  unit-take zero xs = refl
  unit-take (suc n) [] = refl
  unit-take (suc n) (x ∷ xs) = ap (λ z. (x, tt) ∷ z) (unit-take n xs)

  unit-drop : (n : ℕ) (xs : List K) → with_unit (drop n xs) ≡ drop n (with_unit xs)
  unit-drop zero xs = refl
  unit-drop (suc n) [] = refl
  unit-drop (suc n) (x ∷ xs) = unit-drop n xs

  -- a part of the entries with these keys
  pub unit-part : (most from : ℕ) (xs : List K) → with_unit (take most (take (length xs - from) (drop from xs))) ≡ take most (drop from (with_unit xs))
  unit-part most from xs =
      let rest : take (length xs - from) (drop from xs) ≡ drop from xs = take_all (length xs - from) (drop from xs) (omega (arith, length-drop from xs)) in
      ap (λ z. with_unit (take most z)) rest ∙ unit-take most (drop from xs) ∙ ap (take most) (unit-drop from xs)
