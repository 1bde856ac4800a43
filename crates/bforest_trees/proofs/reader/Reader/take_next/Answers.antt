use Rattle.std.proofs.Common.{ap, rules, ◌∙◌}
use Rattle.bforest_trees.proofs.Readers.{over, taken}
use Rattle.bforest_trees.proofs.reader.Reader.take_next.Goals as goal

pub take_first-requires : goal.take_first-requires
take_first-requires g c = let e = c.goes_on.ensures.entered c.if-goes_on.true in (search rules, (e.within, e.same))

pub returns-then-goes_on : goal.returns-then-goes_on
returns-then-goes_on g c = let e = c.goes_on.ensures.entered c.if-goes_on.true in let f = c.take_first.ensures in
    let t = taken c.args.pool.now c.goes_on.new.self c.take_first.new.self c.take_first.result e.reader_is f.key f.value f.rest in record { steps = e.left_is ∙ t.left; reader = t.reader; root = ap (λ z. z.root) f.rest ∙ c.goes_on.ensures.root }

pub returns-else-goes_on : goal.returns-else-goes_on
returns-else-goes_on g c = let o = over c.args.pool.now c.args.self.now c.goes_on.new.self c.requires.reader (c.goes_on.ensures.none c.if-goes_on.false) (c.goes_on.ensures.same c.if-goes_on.false) in
    record { steps = o.left; reader = o.reader; root = c.goes_on.ensures.root }
