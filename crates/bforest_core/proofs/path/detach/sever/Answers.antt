use Rattle.bforest_core.proofs.Words.{rules, ◌∙◌, sym, ap, arith}
use Rattle.bforest_core.proofs.table.{Severing.{apart, copy-is, node-is, node-used, severs}, Stored.some_same}
use Rattle.bforest_nodes.specs.Content.{first_part, last_part}
use Rattle.bforest_core.proofs.path.detach.sever.Goals as goal

pub keep_back-requires : goal.keep_back-requires
keep_back-requires g c = let w = c.requires.within in
    let is = copy-is c.requires.used w.1 c.copy_node-behind.ensures.node c.copy_node-behind.ensures.used (c.copy_node-behind.ensures.table _ w.1) c.node_mut.ensures.value in
    (search rules, (rw is w.2, rw is w.3))

pub node_mut-requires-2 : goal.node_mut-requires-2
node_mut-requires-2 g c = let w = c.requires.within in
    (search rules, (search rules, node-used c.requires.used w.1 c.copy_node-behind.ensures.node c.copy_node-behind.ensures.used (c.copy_node-behind.ensures.table _ w.1) c.keep_back.new.self))

pub keep_front-requires : goal.keep_front-requires
keep_front-requires g c = let w = c.requires.within in
    let here = node-is c.requires.used w.1 c.copy_node-behind.ensures.node c.copy_node-behind.ensures.used (c.copy_node-behind.ensures.table _ w.1) c.keep_back.new.self in
    let is = some_same (sym c.node_mut-2.ensures.value ∙ here) in
    (search rules, (rw is w.2, (omega (arith, c.if-count-eq0.false), rw is w.4)))

pub returns-clause-some : goal.returns-clause-some
returns-clause-some g c = λ some content slot.
    let front = c.copy_node-behind.ensures.node in let there = c.copy_node-behind.ensures.used in let copied = c.copy_node-behind.ensures.table content slot in
    let here = node-is c.requires.used slot front there copied c.keep_back.new.self in (
      apart c.requires.used slot front there copied,
      severs c.requires.used slot front there copied c.keep_back.new.self
          (c.keep_back.ensures.node ∙ ap (λ z. last_part c.args.from z) (copy-is c.requires.used slot front there copied c.node_mut.ensures.value))
          (c.keep_front.ensures.node ∙ ap (λ z. first_part c.args.count z) (some_same (sym c.node_mut-2.ensures.value ∙ here))),
    )
