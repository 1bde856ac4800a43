use Rattle.bforest_core.proofs.{Words.{rules, arith}, removal.OnWay.{kept-on, leaf-asks}}
use Rattle.bforest_core.proofs.pool.NodePool.heal_on.Goals as goal

pub entries-requires : goal.entries-requires
entries-requires g c = (search rules, leaf-asks c.requires.taken.2)

pub heal_short-requires : goal.heal_short-requires
heal_short-requires g c = (search rules, (c.requires.most, (c.requires.taken, λ content is. omega (arith, c.entries.ensures.value content is, c.if-entries.true))))

pub returns-then-entries : goal.returns-then-entries
returns-then-entries g c = record { healed = λ old place t. c.heal_short.ensures.healed old place t }

pub renew_near-requires : goal.renew_near-requires
renew_near-requires g c = let w = c.requires.taken in
    (search rules, ((w.0, c.args.root, w.1, w.2), λ content is. omega (arith, c.entries.ensures.value content is, c.if-entries.false)))

pub returns-then-renew_near : goal.returns-then-renew_near
returns-then-renew_near g c = record { healed = λ old place t. kept-on t (c.renew_near.ensures.renewed c.if-renew_near.true old c.args.root place t) c.entries.ensures.value c.if-entries.false }

pub heal_far-requires : goal.heal_far-requires
heal_far-requires g c = (search rules, (c.requires.most, rw (c.renew_near.ensures.same c.if-renew_near.false) c.requires.taken))

pub returns : goal.returns
returns g c = rw (← c.renew_near.ensures.same c.if-renew_near.false) c.heal_far.ensures
