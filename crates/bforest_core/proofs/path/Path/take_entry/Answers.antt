use Rattle.bforest_core.proofs.{Words.{rules, arith}, removal.Taking.{has_others, out_asks}}
use Rattle.bforest_core.proofs.path.Path.take_entry.Goals as goal

pub remove_entry-requires : goal.remove_entry-requires
remove_entry-requires g c =
    let s = c.requires.stands in (search rules, out_asks s.2 _ (omega arith))

pub renew_first-requires : goal.renew_first-requires
renew_first-requires g c = let s = c.requires.stands in
    let more = has_others s.2 _ (omega arith) _ c.requires.others c.remove_entry.ensures in
    (search rules, (search rules, (c.args.pool.now, s.0, s.1, s.2, more)))

pub returns : goal.returns
returns g c = λ tree place s.
    let more = has_others s _ (omega arith) _ c.requires.others c.remove_entry.ensures in
    c.renew_first.ensures c.args.pool.now tree place s more
