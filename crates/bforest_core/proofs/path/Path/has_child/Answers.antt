use Rattle.bforest_core.proofs.{Words.{rules, refl, ◌∙◌, arith, lt-ltb, ltb-true, inner_content}, table.Stored.item_count, walks.Steps.at_index}
use Rattle.bforest_core.proofs.path.Path.has_child.Goals as goal

pub entries-requires : goal.entries-requires
entries-requires g c = (search rules, (inner_content c.requires.inner.0, at_index _ c.args.self.now.node c.index-self-level.result (omega arith) refl c.requires.inner.1, λ free. free))

pub returns : goal.returns
returns g c = record {
  within = λ entries slot.
      let count = c.entries.ensures.value (inner_content entries) (at_index _ c.args.self.now.node c.index-self-level.result (omega arith) refl slot) ∙ item_count entries in
      (λ yes. omega (arith, count, ltb-true c.args.index c.entries.result yes), λ low. lt-ltb c.args.index c.entries.result (omega (arith, count, low)));
  most = λ yes. omega (arith, ltb-true c.args.index c.entries.result yes);
}
