use Rattle.bforest.specs.Forest.{list_of}
use Rattle.bforest_calls.proofs.Units.{back-each, listed-next}
use Rattle.bforest_calls.proofs.sets.SetCollectionUnit.entries_back.Goals as goal
use Rattle.bforest_calls.specs.Looks.{with_each}
use Rattle.std.proofs.Common.{ap, rules, ◌++◌, ◌∙◌}

pub loop-key-init : goal.loop-key-init
loop-key-init g c = record {
  left = ap (λ es. es ++ with_each c.into_iter-key-iterator.result) c.new-entries.ensures.items
      ∙ ap with_each (c.into_iter-key-iterator.ensures.into_iter_gives ∙ c.iter_back-key-items.ensures.keys)
      ∙ back-each (list_of c.args.forest.now c.args.self.now);
  fits = c.iter_back-key-items.ensures.fits;
}

pub loop-key-preserved : goal.loop-key-preserved
loop-key-preserved g c = record {
  left = listed-next c.loop-key.entries.items c.push.new.self.items c.loop-key.key-iterator c.next.new.self c.in-Some.key _ (search rules)
      c.in-Some.ensures.steps c.loop-key.invariant.left;
  fits = c.loop-key.invariant.fits;
}
