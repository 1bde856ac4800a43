use Rattle.bforest_core.proofs.Words.{rules, ◌-◌, ◌<◌, [], ◌∷◌, ◌++◌, arith}
use Rattle.bforest_core.proofs.removal.Collapse.{trim_leaf, counted_asks, trim_stays, child_asks, free_asks, trim_down, trim_then}
use Rattle.bforest_core.proofs.path.Path.+collapse_root.Goals as goal

pub returns-then-self-eq1-clause-trimmed : goal.returns-then-self-eq1-clause-trimmed
returns-then-self-eq1-clause-trimmed g t c = λ rows list u. ([], trim_leaf u c.if-self-eq1.true)

pub entries-count-requires : goal.entries-count-requires
entries-count-requires g t c = (search rules, counted_asks c.requires.rooted.2 c.if-self-eq1.false)

pub returns-then-count-gt1-clause-trimmed : goal.returns-then-count-gt1-clause-trimmed
returns-then-count-gt1-clause-trimmed g t c = λ rows list u. ([], trim_stays u c.if-self-eq1.false _ c.entries-count.ensures.value c.if-count-gt1.true)

pub child-only-requires : goal.child-only-requires
child-only-requires g t c =
    (search rules, child_asks c.requires.rooted.2 c.if-self-eq1.false _ c.entries-count.ensures.value c.if-count-gt1.false)

pub free_node-requires : goal.free_node-requires
free_node-requires g t c =
    (search rules, free_asks c.requires.rooted.2 c.if-self-eq1.false _ c.entries-count.ensures.value c.if-count-gt1.false)

pub collapse_root-requires : goal.collapse_root-requires
collapse_root-requires g t c κs within = let w = c.requires.rooted in
    let next = trim_down w.2 c.if-self-eq1.false _ c.entries-count.ensures.value c.if-count-gt1.false _ c.child-only.ensures _ c.free_node.ensures.freed in
    let less : c.args.self.now.size - 1 < t = omega arith in
    (less, (within.0, (within.1, ((λ a m. search rules), (search rules, (search rules, (omega arith, (_, w.1, next))))))))

pub returns-clause-trimmed : goal.returns-clause-trimmed
returns-clause-trimmed g t c = λ rows list u.
    let next = trim_down u c.if-self-eq1.false _ c.entries-count.ensures.value c.if-count-gt1.false _ c.child-only.ensures _ c.free_node.ensures.freed in
    let r = c.collapse_root.ensures.trimmed _ list next in
    (r.0 ++ c.args.root ∷ [], trim_then u c.if-self-eq1.false _ c.entries-count.ensures.value c.if-count-gt1.false _ c.child-only.ensures _ c.free_node.ensures.freed r.1)
