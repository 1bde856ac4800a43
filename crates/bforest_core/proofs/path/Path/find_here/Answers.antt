use Rattle.bforest_core.proofs.walks.Nearby.{before-equal, before-greater, before-key, before-none, behind-low, here-equal, here-greater, here-leaf, none-left}
use Rattle.bforest_core.proofs.{Words.{rules, sym, ◌∙◌, arith}, path.Path.find_here.Goals.{then-self-gt0+in-Less, else-self-gt0}}
use Rattle.bforest_core.proofs.walks.Nearby.{some-on}
use Rattle.bforest_core.proofs.path.Path.find_here.Goals as goal

pub entry_here-here-requires : goal.entry_here-here-requires
entry_here-here-requires g c = let at = c.requires.stands in
    (search rules, (search rules, here-leaf c.requires.union (some-on c.args.pool.now c.args.self.now at.at c.if-self-gt0.true)))

pub returns-in-Equal : goal.returns-in-Equal
returns-in-Equal g c = let at = c.requires.stands in let on = some-on c.args.pool.now c.args.self.now at.at c.if-self-gt0.true in
    here-equal c.requires.union on c.entry_here-here.ensures (g.met.C.Comparator.total c.args.comp.now) c.args.key c.requires.increasing (sym c.cmp.ensures ∙ c.in-Equal.is)

pub find_behind-requires : goal.find_behind-requires
find_behind-requires g c = let r = c.requires in let at = r.stands in let on = some-on c.args.pool.now c.args.self.now at.at c.if-self-gt0.true in
    (search rules, (search rules, (r.union, (r.root, (record { place = at.place; on = on; less = before-key r.union on c.entry_here-here.ensures (g.C.Comparator.order c.args.comp.now) c.args.key (sym c.cmp.ensures ∙ c.in-Greater.is) }, r.increasing)))))

pub returns-in_default : goal.returns-in_default
returns-in_default g c = let order = g.C.Comparator.order c.args.comp.now in let o = g.met.C.Comparator.total c.args.comp.now in let at = c.requires.stands in
    before-none o c.args.pool.now c.args.key c.requires.increasing c.prev.new.self at.place (c.prev.ensures.value at) (c.prev.ensures.stands at) c.requires.union (elim c.if-self-gt0.branch [
      | then-self-gt0+in-Less w ↦ here-greater c.requires.union (some-on c.args.pool.now
          c.args.self.now
          at.at w.if-self-gt0.true) w.entry_here-here.ensures o c.args.key (sym w.cmp.ensures ∙ w.in-Less.is)
      | else-self-gt0 w ↦ none-left c.args.pool.now c.args.self.now at.at order c.args.key (omega arith)
    ]) c.in_default.is

pub set_entry-requires : goal.set_entry-requires
set_entry-requires g c = (search rules, behind-low _ _ _ c.requires.union _ (c.prev.ensures.stands c.requires.stands))

pub returns-in-Equal-cmp : goal.returns-in-Equal-cmp
returns-in-Equal-cmp g c = let at = c.requires.stands in
    before-equal (g.met.C.Comparator.total c.args.comp.now) c.args.pool.now c.args.key c.requires.increasing c.prev.new.self at.place
    (c.prev.ensures.value at) (c.prev.ensures.stands at) c.in-Some.is (sym c.cmp-2.ensures ∙ c.in-Equal-cmp.is)

pub returns-in-Greater-cmp : goal.returns-in-Greater-cmp
returns-in-Greater-cmp g c =
    let order = g.C.Comparator.order c.args.comp.now in let o = g.met.C.Comparator.total c.args.comp.now in let at = c.requires.stands in
    let set = c.set_entry.ensures in before-greater o c.args.pool.now c.args.key c.requires.increasing c.prev.new.self at.place
    (c.prev.ensures.value at) (c.prev.ensures.stands at) c.in-Some.is c.set_entry.new.self c.requires.union set.nodes
    set.here set.above set.size (elim c.if-self-gt0.branch [
      | then-self-gt0+in-Less w ↦ here-greater c.requires.union (some-on c.args.pool.now
          c.args.self.now
          at.at w.if-self-gt0.true) w.entry_here-here.ensures o c.args.key (sym w.cmp.ensures ∙ w.in-Less.is)
      | else-self-gt0 w ↦ none-left c.args.pool.now c.args.self.now at.at order c.args.key (omega arith)
    ]) (sym c.cmp-2.ensures ∙ c.in-Greater-cmp.is)
