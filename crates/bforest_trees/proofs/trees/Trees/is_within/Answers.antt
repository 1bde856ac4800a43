use Rattle.bforest_trees.proofs.trees.Trees.is_within.Goals as goal
use Rattle.bforest_trees.specs.Bounds.{is_past_end}
use Rattle.std.proofs.Common.{Bool, Option, Some, ap, false, not, refl, sym, true, ◌∙◌, ◌≡◌}

unflip : (b : Bool) → not b ≡ true → b ≡ false
unflip true t = absurd (cc)
unflip false t = refl

unflip-no : (b : Bool) → not b ≡ false → b ≡ true
unflip-no true t = refl
unflip-no false t = absurd (cc)

-- a place has one entry
one-read : {E : Type 0} {read : Option E} {a b : E} → read ≡ Some a → read ≡ Some b → a ≡ b
one-read is get = cc

pub returns-in-Some-clause-yes : goal.returns-in-Some-clause-yes
returns-in-Some-clause-yes g c = λ t at. (c.in-Some.entry, sym (c.entry.ensures.value at) ∙ c.in-Some.is, sym c.is_past.ensures ∙ unflip c.is_past.result t)

pub returns-in-Some-clause-no : goal.returns-in-Some-clause-no
returns-in-Some-clause-no g c = λ t at e get.
    let one = one-read c.in-Some.is (c.entry.ensures.value at ∙ get) in
    ap (λ y. is_past_end (g.C.Comparator.order c.args.comp.now) c.args.end y.0) (sym one) ∙ sym c.is_past.ensures ∙ unflip-no c.is_past.result t
