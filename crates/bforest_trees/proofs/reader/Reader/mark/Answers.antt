use Rattle.bforest_trees.proofs.unions.Marks.{mark-left, mark-on}
use Rattle.bforest_trees.proofs.reader.Reader.mark.Goals as goal
use Rattle.bforest_trees.specs.Layout.{IsMarkOn, entries_on, left_of}
use Rattle.std.proofs.Common.{Bool, [], ap, drop, false, if◌then◌else◌, refl, subst, sym, true, ◌∙◌, ◌≡◌}

pub returns-clause-mark : goal.returns-clause-mark
returns-clause-mark g c = λ some. let to = c.goes_on-some.new.self in
    subst (λ (b : Bool). IsMarkOn c.args.pool.now (record { root = to.root; spot = to.spot; index = to.index; some = b })) (sym some)
    (mark-on c.args.pool.now (left_of c.args.pool.now c.args.self.now) to (c.goes_on-some.ensures.entered some))

pub returns-clause-left : goal.returns-clause-left
returns-clause-left g c = let to = c.goes_on-some.new.self in let rest = drop to.index (entries_on c.args.pool.now to.root to.spot) in go c.goes_on-some.result refl
  where
    go : (b : Bool) → c.goes_on-some.result ≡ b → (if c.goes_on-some.result then drop c.goes_on-some.new.self.index (entries_on c.args.pool.now c.goes_on-some.new.self.root c.goes_on-some.new.self.spot) else []) ≡ left_of c.args.pool.now c.args.self.now
    go true is = ap (λ z. if z then drop c.goes_on-some.new.self.index (entries_on c.args.pool.now c.goes_on-some.new.self.root c.goes_on-some.new.self.spot) else []) is
        ∙ mark-left c.args.pool.now (left_of c.args.pool.now c.args.self.now) c.goes_on-some.new.self (c.goes_on-some.ensures.entered is)
    go false is = ap (λ z. if z then drop c.goes_on-some.new.self.index (entries_on c.args.pool.now c.goes_on-some.new.self.root c.goes_on-some.new.self.spot) else []) is ∙ sym (c.goes_on-some.ensures.none is)
