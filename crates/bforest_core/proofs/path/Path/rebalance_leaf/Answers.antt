use Rattle.bforest_core.proofs.Words.{rules, refl, ◌∙◌, arith}
use Rattle.bforest_core.proofs.removal.{Healing.leaf_loses, Merge.merge_asks, Removing.{healed_removed, collapse_asks, joined_removed}}
use Rattle.bforest_core.proofs.path.Path.rebalance_leaf.Goals as goal

pub rebalance-requires : goal.rebalance-requires
rebalance-requires g c =
    let u = c.requires.lost in (search rules, (search rules, (omega (arith, u.stands.low, u.stands.stands.size_is), leaf_loses c.requires.capacity u)))

pub merge_above-requires : goal.merge_above-requires
merge_above-requires g c = let u = c.requires.lost in let j = c.rebalance.ensures.joined c.if-rebalance.true (leaf_loses c.requires.capacity u) in
    (search rules, (search rules, (omega (arith, u.stands.low, u.stands.stands.size_is, c.rebalance.ensures.size), merge_asks u.lost.loss j (refl {a = 1}) c.rebalance.ensures.size)))

pub collapse_root-requires : goal.collapse_root-requires
collapse_root-requires g c = let u = c.requires.lost in let j = c.rebalance.ensures.joined c.if-rebalance.true (leaf_loses c.requires.capacity u) in
    let size_is = c.merge_above.ensures.size ∙ c.rebalance.ensures.size in
    (search rules, (search rules, (omega (arith, u.stands.low, u.stands.stands.size_is, size_is), collapse_asks u.stands u.lost u.root_is j c.rebalance.ensures.size c.merge_above.ensures.merged size_is)))

pub returns-then-rebalance : goal.returns-then-rebalance
returns-then-rebalance g c = λ u. let j = c.rebalance.ensures.joined c.if-rebalance.true (leaf_loses c.requires.capacity u) in
    joined_removed u.stands u.lost u.root_is j c.rebalance.ensures.size c.merge_above.ensures.merged (c.merge_above.ensures.size ∙ c.rebalance.ensures.size)
    c.collapse_root.ensures.trimmed c.collapse_root.ensures.nodes c.collapse_root.ensures.entries

pub returns-else-rebalance : goal.returns-else-rebalance
returns-else-rebalance g c = λ u. healed_removed u.stands u.lost u.root_is (c.rebalance.ensures.healed c.if-rebalance.false (leaf_loses c.requires.capacity u)) c.rebalance.ensures.size
