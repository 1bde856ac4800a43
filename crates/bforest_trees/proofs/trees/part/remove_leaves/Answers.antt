use Rattle.bforest_trees.proofs.ranges.Thinning.{thin-entry, thin-first, thin-next, thin-shorter, thin-stops}
use Rattle.bforest_trees.proofs.trees.part.remove_leaves.Goals as goal
use Rattle.std.proofs.Common.{rules, [], ap, not, sym, ◌++◌, ◌∙◌, ◌∷◌}
use Rattle.std.proofs.lemmas.Bool.{false≢true}
use Rattle.std.specs.Option.{is_some}

pub loop-next-init : goal.loop-next-init
loop-next-init g c = (c.requires.union, λ at. thin-first _ _ at.place _ c.requires.union c.requires.live at.spot (λ end. false≢true (sym (ap is_some (c.leaf_pos.ensures.end end)) ∙ c.is_none.ensures ∙ ap not c.if-is_none.false)))

pub leaf_within-requires : goal.leaf_within-requires
leaf_within-requires g c = (search rules, (search rules, (c.loop-next.invariant.0, thin-entry (c.loop-next.invariant.1 c.requires.stands))))

pub remove_next_leaf-requires : goal.remove_next_leaf-requires
remove_next_leaf-requires g c = let at = thin-entry (c.loop-next.invariant.1 c.requires.stands) in let r = c.in-Some.ensures.next at in
    (search rules, (search rules, (c.loop-next.invariant.0, (at, r.0 ++ r.1 ∷ [], r.2, r.3))))

pub loop-next-smaller : goal.loop-next-smaller
loop-next-smaller g c = let t = c.loop-next.invariant.1 c.requires.stands in let at = thin-entry t in let r = c.in-Some.ensures.next at in
    rw c.some.ensures.node (thin-shorter (g.met.C.Comparator.total c.args.comp.now) c.requires.increasing t _ r.0 r.1 r.2 r.3 r.4 (c.remove_next_leaf.ensures at (r.0 ++ r.1 ∷ []) r.2 r.3))

pub loop-next-preserved : goal.loop-next-preserved
loop-next-preserved g c = (
  (let at = thin-entry (c.loop-next.invariant.1 c.requires.stands) in let r = c.in-Some.ensures.next at in (c.remove_next_leaf.ensures at (r.0 ++ r.1 ∷ []) r.2 r.3).removed.union),
  λ on. let t = c.loop-next.invariant.1 on in let at = thin-entry t in let r = c.in-Some.ensures.next at in
      rw c.some.ensures.node (thin-next (g.met.C.Comparator.total c.args.comp.now) c.requires.increasing t _ r.0 r.1 r.2 r.3 r.4 (c.remove_next_leaf.ensures at (r.0 ++ r.1 ∷ []) r.2 r.3)),
)

pub returns-clause-union : goal.returns-clause-union
returns-clause-union g c = c.loop-next.invariant.0

pub returns-clause-thinned : goal.returns-clause-thinned
returns-clause-thinned g c = λ some on. let t = c.loop-next.invariant.1 on in
    (t, thin-stops (g.met.C.Comparator.total c.args.comp.now) c.requires.increasing t (rw c.in_default.is at (c.leaf_within.ensures.next (thin-entry t))))
