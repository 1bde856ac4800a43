-- The last entry that is left after the first was taken.
use Rattle.std.proofs.Common.{List, None, Option, Some, [], ap, drop, refl, sym, ◌++◌, ◌∙◌, ◌∷◌, ◌≡◌}
use Rattle.std.specs.Iterator.{YieldsFirst, YieldsLast}
use Rattle.std.specs.List.{last_or}

module _ {A : Type 0} where
  last-behind : (d : Option A) (xs : List A) (x : A) → last_or d (xs ++ x ∷ []) ≡ Some x
  last-behind d [] x = refl
  last-behind d (y ∷ ys) x = last-behind (Some y) ys x

  last-left : (rest left : List A) (last : Option A) → YieldsLast (λ xs. xs) rest last left → last ≡ last_or None rest
  last-left rest left None given = sym (ap (last_or None) given.0)
  last-left rest left (Some x) given = sym (ap (last_or None) given ∙ last-behind None left x)

  -- a call of `next`, and then one of `next_back`
  pub last-other : (all rest left : List A) (first last : Option A) → YieldsFirst (λ xs. xs) all first rest → YieldsLast (λ xs. xs) rest last left → last ≡ last_or None (drop 1 all)
  last-other all rest left None last taken given = last-left rest left last given ∙ ap (last_or None) (taken.1 ∙ sym (ap (drop 1) taken.0))
  last-other all rest left (Some x) last taken given = last-left rest left last given ∙ ap (last_or None) (sym (ap (drop 1) taken))
