use Rattle.bforest_run.proofs.parse.U32Spelled.reading.Goals as goal
use Rattle.std.proofs.Common.{ap, option_map, refl, sym, ◌∙◌}

pub returns : goal.returns
returns c = (c.in-Some.h, c.in-Some.c, c.in-Some.steps, sym c.in_ok-h.ensures ∙ ap (option_map (λ r. (r.0, r.1, r.2.items))) c.in-Some.is, refl)
