use Rattle.bforest_core.proofs.{Words.{Standing, rules, refl, sym, arith, slice_get_past, list_under}, walks.Nearby.{here-entry, here-leaf, some-on}}
use Rattle.bforest_core.proofs.walks.Backward.{at_end}
use Rattle.bforest_core.proofs.path.Path.entry.Goals as goal

pub entry_here-requires : goal.entry_here-requires
entry_here-requires g c = (search rules, (search rules, here-leaf c.requires.union (c.requires.stands (λ e. omega (arith, e))).on))

pub returns-else-self-gt0 : goal.returns-else-self-gt0
returns-else-self-gt0 g c = let past = λ (at : Standing c.args.pool.now c.args.self.now). at_end _ _ _ _ _ (omega arith) at.at.at in
    record { value = λ at. sym (slice_get_past (list_under c.args.pool.now at.root) at.place (omega (arith, past at))); end = λ none. refl }

pub returns-then-self-gt0 : goal.returns-then-self-gt0
returns-then-self-gt0 g c = let on = λ (at : Standing c.args.pool.now c.args.self.now). some-on c.args.pool.now c.args.self.now at.at c.if-self-gt0.true in
    record { value = λ at. sym (here-entry c.requires.union (on at) c.entry_here.ensures); end = λ none. absurd (omega arith) }
