use Rattle.bforest_core.proofs.{Words.{sym, ap, ◌∙◌, children_of}, rows.Counts.found-counts}
use Rattle.bforest_core.proofs.trees.names.Goals as goal

pub returns-then-is_inner : goal.returns-then-is_inner
returns-then-is_inner g c = let k = ap children_of c.unwrap_inner.ensures.value in
    let h = found-counts c.args.child c.unwrap_inner.result.1.now in (
      λ found. rw k (h.0 (sym c.contains.ensures.value ∙ found)),
      λ some. c.contains.ensures.value ∙ h.1 (rw (← k) some),
    )
