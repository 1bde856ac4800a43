use Rattle.std.proofs.Common.{refl, rules, subst, sym}
use Rattle.bforest_trees.proofs.Held.{first-within, on-first}
use Rattle.bforest_trees.specs.Looks.{IsLook}
use Rattle.bforest_trees.proofs.look.Look.enter_next.Goals as goal

pub enter-requires : goal.enter-requires
enter-requires g c = (search rules, (c.args.handle, c.requires.behind.0, c.in-Some.ensures.some c.requires.behind.0 c.requires.behind.1))

pub returns-in-Some-clause-look : goal.returns-in-Some-clause-look
returns-in-Some-clause-look g c = λ at b. on-first (c.enter.ensures.holds c.args.handle at (c.in-Some.ensures.some at b)) c.enter.ensures.index

pub returns-in-Some-clause-some : goal.returns-in-Some-clause-some
returns-in-Some-clause-some g c = λ yes. first-within (c.enter.ensures.holds c.args.handle c.requires.behind.0 (c.in-Some.ensures.some c.requires.behind.0 c.requires.behind.1)) c.enter.ensures.index

pub returns-in-None-clause-look : goal.returns-in-None-clause-look
returns-in-None-clause-look g c = λ at b. subst (IsLook c.args.pool.now c.args.handle c.end.result) (sym (c.in-None.ensures.none refl at b)) (c.end.ensures.look c.args.pool.now c.args.handle)

pub returns-in-None-clause-none : goal.returns-in-None-clause-none
returns-in-None-clause-none g c = λ no at b. c.in-None.ensures.none refl at b
