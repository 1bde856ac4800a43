use Rattle.bforest.proofs.Ends.{last-other}
use Rattle.live_ranges_example.proofs.Ranges.begin_in.Goals as goal
use Rattle.std.proofs.Common.{None, ap, drop, ◌∙◌}
use Rattle.std.specs.List.{last_or}

pub returns-clause-last : goal.returns-clause-last
returns-clause-last c =
    rw (← c.self.view_is) (last-other c.range-range.result c.next.new.self c.next_back.new.self c.next.result c.next_back.result c.next.ensures.steps c.next_back.ensures.steps ∙ ap (λ es. last_or None (drop 1 es)) c.range-range.ensures.entries)
