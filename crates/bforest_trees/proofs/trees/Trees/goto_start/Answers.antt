use Rattle.bforest_nodes.specs.Entries.{place}
use Rattle.bforest_trees.proofs.ranges.Between.{behind-found, behind-missed, start-included, start-unbounded}
use Rattle.bforest_trees.proofs.trees.Trees.goto_start.Goals as goal
use Rattle.bforest_trees.specs.Bounds.{start_place}
use Rattle.bforest_trees.specs.Forest.{list_of}
use Rattle.bforest_trees.specs.Place.{IsSpot}
use Rattle.std.proofs.Common.{ap, subst, sym, ◌∙◌}

pub returns-in-Included : goal.returns-in-Included
returns-in-Included g c =
    let cmp = g.C.Comparator.order c.args.comp.now in let list = list_of c.args.self.now c.args.handle in
    record {
      spot = subst (IsSpot c.args.self.now c.args.handle c.goto-value.new.path) (start-included cmp (g.met.C.Comparator.total c.args.comp.now) c.in-Included.key list ∙ ap (λ b. start_place cmp b list) (sym c.in-Included.is)) c.goto-value.ensures.spot;
    }

pub returns-then-is_some : goal.returns-then-is_some
returns-then-is_some g c =
    let cmp = g.C.Comparator.order c.args.comp.now in let list = list_of c.args.self.now c.args.handle in
    record {
      spot = subst (IsSpot c.args.self.now c.args.handle c.next.new.path)
          (behind-found cmp (g.met.C.Comparator.total c.args.comp.now) c.in-Excluded.key list c.requires.increasing c.goto.result c.goto.ensures.value (sym c.is_some.ensures ∙ c.if-is_some.true) ∙ ap (λ b. start_place cmp b list) (sym c.in-Excluded.is))
          (c.next.ensures.spot (record { place = place cmp list c.in-Excluded.key; spot = c.goto.ensures.spot }));
    }

pub returns-else-is_some : goal.returns-else-is_some
returns-else-is_some g c =
    let cmp = g.C.Comparator.order c.args.comp.now in let list = list_of c.args.self.now c.args.handle in
    record {
      spot = subst (IsSpot c.args.self.now c.args.handle c.goto.new.path)
          (behind-missed cmp (g.met.C.Comparator.total c.args.comp.now) c.in-Excluded.key list c.requires.increasing c.goto.result c.goto.ensures.value (sym c.is_some.ensures ∙ c.if-is_some.false) ∙ ap (λ b. start_place cmp b list) (sym c.in-Excluded.is))
          c.goto.ensures.spot;
    }

pub returns-in-Unbounded : goal.returns-in-Unbounded
returns-in-Unbounded g c =
    let cmp = g.C.Comparator.order c.args.comp.now in let list = list_of c.args.self.now c.args.handle in
    record {
      spot = subst (IsSpot c.args.self.now c.args.handle c.first-entry.new.path) (sym (start-unbounded cmp (g.met.C.Comparator.total c.args.comp.now) list) ∙ ap (λ b. start_place cmp b list) (sym c.in-Unbounded.is)) c.first-entry.ensures.spot;
    }
