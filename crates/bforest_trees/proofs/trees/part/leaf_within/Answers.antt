use Rattle.bforest_trees.proofs.trees.part.leaf_within.Goals as goal
use Rattle.bforest_trees.specs.Bounds.{is_past_end}
use Rattle.std.proofs.Common.{ap, inl, inr, sym, ◌∙◌}

pub returns-in-None : goal.returns-in-None
returns-in-None g c = record { next = λ at. inl (c.in-None.ensures.next at) }

pub returns-then-is_past : goal.returns-then-is_past
returns-then-is_past g c = record {
  next = λ at. let r = c.in-Some.ensures.next at in
      inr (c.in-Some.next.0, r.0, r.1, r.2, r.3, ap (is_past_end (g.C.Comparator.order c.args.comp.now) c.args.end) r.4 ∙ sym c.if-is_past.ensures);
}

pub returns-else-is_past : goal.returns-else-is_past
returns-else-is_past g c = record {
  next = λ at. let r = c.in-Some.ensures.next at in
      (r.0, r.1, r.2, r.3, ap (is_past_end (g.C.Comparator.order c.args.comp.now) c.args.end) r.4 ∙ sym c.if-is_past.ensures);
}
