use Rattle.bforest_core.proofs.{Words.{rules, arith, IsPathAt}, removal.{Removing.{entry_follows, past_removed}, Removing.{removed_at, stands_root}}}
use Rattle.bforest_core.proofs.path.Path.remove_entry.Goals as goal

pub is_past_end-requires : goal.is_past_end-requires
is_past_end-requires g c = let s = c.requires.stands in
    (search rules, (search rules, (omega (arith, s.2.low, s.2.stands.size_is), (c.args.pool.now, s.0, s.1, c.take_entry.ensures s.0 s.1 s.2))))

pub returns-then-is_past_end : goal.returns-then-is_past_end
returns-then-is_past_end g c = λ tree place s. let s1 = c.requires.stands in let l = c.take_entry.ensures tree place s in
    let past = c.is_past_end.ensures.past c.if-is_past_end.true c.args.pool.now tree place l in
    past_removed s l (stands_root c.args.root s s1.2 s1.3) past.0 past.1

pub rebalance_leaf-requires : goal.rebalance_leaf-requires
rebalance_leaf-requires g c = let s = c.requires.stands in let l = c.take_entry.ensures s.0 s.1 s.2 in
    let low = c.is_past_end.ensures.within c.if-is_past_end.false c.args.pool.now s.0 s.1 l in
    (search rules, (search rules, (c.requires.capacity, record { old = c.args.pool.now; tree = s.0; place = s.1; stands = s.2; root_is = s.3; lost = l; at_entry = λ some. low })))

pub returns : goal.returns
returns g c = λ tree place s. let s1 = c.requires.stands in let l = c.take_entry.ensures tree place s in
    let low = c.is_past_end.ensures.within c.if-is_past_end.false c.args.pool.now tree place l in
    removed_at (λ now. IsPathAt _ _ _ now place) (λ z is at. at (entry_follows s l (stands_root c.args.root s s1.2 s1.3) low z is))
    (c.rebalance_leaf.ensures (record { old = c.args.pool.now; tree = tree; place = place; stands = s; root_is = stands_root c.args.root s s1.2 s1.3; lost = l; at_entry = λ some. low }))
