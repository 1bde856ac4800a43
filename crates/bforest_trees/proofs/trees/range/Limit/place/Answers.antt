use Rattle.std.proofs.Common.{sym, ◌∙◌}
use Rattle.bforest_trees.proofs.ranges.Limits.{limit-at, limit-behind, limit-missed, told-of}
use Rattle.bforest_trees.proofs.trees.range.Limit.place.Goals.{else-self-via-then-self+else-is_some, else-self-via-else-self}
use Rattle.bforest_trees.proofs.trees.range.Limit.place.Goals as goal

pub returns-then-is_some : goal.returns-then-is_some
returns-then-is_some g c =
    let cmp = g.C.Comparator.order c.args.comp.now in
    let total = g.met.C.Comparator.total c.args.comp.now in
    let l = c.look_up-index.ensures in
    record {
      place = λ entries slot.
          let t = told-of cmp total c.requires.leaf.0 c.requires.leaf.1 c.requires.leaf.2 entries slot c.node.ensures.value c.args.self.now.key l.found l.value l.absent in
          limit-behind cmp total entries c.args.self.now t.2 (t.0, t.1) c.if-self.true (sym c.is_some.ensures ∙ c.if-is_some.true);
    }

pub returns-else-self : goal.returns-else-self
returns-else-self g c =
    let cmp = g.C.Comparator.order c.args.comp.now in
    let total = g.met.C.Comparator.total c.args.comp.now in
    let l = c.look_up-index.ensures in
    record {
      place = λ entries slot.
          let t = told-of cmp total c.requires.leaf.0 c.requires.leaf.1 c.requires.leaf.2 entries slot c.node.ensures.value c.args.self.now.key l.found l.value l.absent in
          elim c.else-self.branch [
            | else-self-via-then-self+else-is_some w ↦ limit-missed cmp total entries c.args.self.now t.2 (t.0, t.1) w.if-self.true (sym w.is_some.ensures ∙ w.if-is_some.false)
            | else-self-via-else-self w ↦ limit-at cmp total entries c.args.self.now t.2 (t.0, t.1) w.if-self.false
          ];
    }
