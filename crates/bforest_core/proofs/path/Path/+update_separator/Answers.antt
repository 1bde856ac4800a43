use Rattle.bforest_core.proofs.{Words.{rules, ◌∷◌, ◌++◌, drop, arith, add-one, entry_keys, entry_items}, removal.Lifted.{rekey_parent, rekey_first}}
use Rattle.bforest_core.proofs.{removal.{RemovingMerged.rekey_top, Neighbours.up_asks, Asked.{fewer, seen}}, rows.Zipper.spot}
use Rattle.bforest_core.proofs.path.Path.+update_separator.Goals as goal

pub set_separator-requires : goal.set_separator-requires
set_separator-requires g t c =
    let w = c.requires.pending in let s = seen w.before w.x w.after w.above c.if-up-self.false _ (omega arith) c.requires.height in
    (search rules, (s.used, s.low_key_asks _ (omega (arith, c.if-index-gt0.true))))

pub update_separator-requires : goal.update_separator-requires
update_separator-requires g t c κs within =
    let w = c.requires.pending in let low = c.if-up-self.false in
    search (rules, fewer low t c.decreases, within.0, within.1, up_asks (spot w.before w.x w.after w.above low))

pub returns-then-index-gt0 : goal.returns-then-index-gt0
returns-then-index-gt0 g t c = λ w.
    let s = seen w.before w.x w.after w.above c.if-up-self.false _ (omega arith) c.requires.height in let es = s.d.l ++ w.x ∷ s.d.r in
    rekey_parent s.d _ c.args.key c.if-index-gt0.true (rw s.num_is at (c.set_separator.ensures (drop 1 (entry_keys es)) (entry_items es) s.slot_is))

pub returns-else-index-gt0 : goal.returns-else-index-gt0
returns-else-index-gt0 g t c = λ w. let d = spot w.before w.x w.after w.above c.if-up-self.false in
    rekey_first d _ c.args.key c.if-index-gt0.false (rw add-one at (c.update_separator.ensures (up_asks d)))

pub returns-then-up-self : goal.returns-then-up-self
returns-then-up-self g t c = λ w. rekey_top w c.args.key c.if-up-self.true
