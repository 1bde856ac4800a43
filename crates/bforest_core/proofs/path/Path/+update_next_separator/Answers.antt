use Rattle.bforest_core.proofs.{Words.{rules, arith}, removal.{RemovingMerged.{here, same_parent, above_asks, next_parent}, Asked.{fewer, two_low}}}
use Rattle.bforest_core.proofs.path.Path.+update_next_separator.Goals as goal

pub entries-requires : goal.entries-requires
entries-requires g t c = let w = c.requires.pending in (search rules, (here w _ (omega arith) c.requires.height).node_asks)

pub set_separator-requires : goal.set_separator-requires
set_separator-requires g t c = let w = c.requires.pending in let s = here w _ (omega arith) c.requires.height in
    (search rules, (s.used, s.key_asks _ _ c.entries.ensures.value c.if-index-entries.true))

pub update_next_separator-requires : goal.update_next_separator-requires
update_next_separator-requires g t c κs within = let w = c.requires.pending in
    let d = above_asks (here w _ (omega arith) c.requires.height) _ c.entries.ensures.value c.if-index-entries.false in
    search (rules, fewer (two_low w) t c.decreases, within.0, within.1, d)

pub returns-then-index-entries : goal.returns-then-index-entries
returns-then-index-entries g t c = λ w.
    same_parent (here w _ (omega arith) c.requires.height) _ c.entries.ensures.value c.if-index-entries.true
    _ c.args.key c.set_separator.ensures

pub returns-else-index-entries : goal.returns-else-index-entries
returns-else-index-entries g t c = λ w.
    next_parent (here w _ (omega arith) c.requires.height) _ c.entries.ensures.value c.if-index-entries.false _ c.args.key c.update_next_separator.ensures
