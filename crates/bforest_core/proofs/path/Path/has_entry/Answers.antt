use Rattle.bforest_core.proofs.{Words.{rules, refl, ◌∙◌, arith, lt-ltb, ltb-true, leaf_content}, walks.Entered.key_total, walks.Steps.at_index}
use Rattle.bforest_core.proofs.path.Path.has_entry.Goals as goal

pub entries-requires : goal.entries-requires
entries-requires g c = (search rules, (leaf_content c.requires.0, at_index _ c.args.self.now.node c.index-self-0.result (omega arith) refl c.requires.1, λ free. free))

pub returns : goal.returns
returns g c = record {
  within = λ entries slot.
      let count = c.entries.ensures.value (leaf_content entries) (at_index _ c.args.self.now.node c.index-self-0.result (omega arith) refl slot) ∙ key_total entries in
      (λ yes. omega (arith, count, ltb-true c.args.index c.entries.result yes), λ low. lt-ltb c.args.index c.entries.result (omega (arith, count, low)));
  most = λ yes. omega (arith, ltb-true c.args.index c.entries.result yes);
}
