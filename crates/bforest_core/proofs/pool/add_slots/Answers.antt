use Rattle.bforest_core.proofs.{Words.{◌≡◌, ◌+◌, Some, vec_len, arith, ap, ◌∙◌, append_assoc, add-one, rules}, table.Allocating.err_is}
use Rattle.bforest_core.proofs.pool.add_slots.Goals as goal

pub loop-added-preserved : goal.loop-added-preserved
loop-added-preserved g c = let place : c.new-in-loop-added.result ≡ vec_len c.hold.new.slots + c.loop-added._added = omega arith in
    rw add-one (record {
      nodes = rw (c.push_reserved.ensures.items, c.loop-added.invariant.nodes, c.make_free.ensures, c.loop-added.invariant.first, append_assoc);
      first = c.some-first.ensures.node ∙ ap Some place;
      len = omega arith;
      room = omega arith;
      memory = c.push_reserved.ensures.capacity ∙ c.loop-added.invariant.memory;
    })

pub returns-clause-ok : goal.returns-clause-ok
returns-clause-ok g c =
    let all : c.loop-added._added ≡ c.args.count = omega arith in rw (c.loop-added.invariant.nodes, all, c.hold.ensures.items, c.hold.ensures.len)

pub returns-in_err-hold : goal.returns-in_err-hold
returns-in_err-hold g c = let e = err_is _ _ c.from_residual.ensures.1 in record {
  ok = rw e tt;
  first = rw e tt;
  err = rw e c.hold.ensures.items;
  memory = c.hold.ensures.grows;
  suffices = c.hold.ensures.suffices;
  bounded = c.hold.ensures.bounded;
  kept = rw e c.in_err-hold.ensures.kept;
  short = rw e c.in_err-hold.ensures.short;
}

pub returns-clause-first : goal.returns-clause-first
returns-clause-first g c = let all : c.loop-added._added ≡ c.args.count = omega arith in rw (all, c.hold.ensures.len) at c.loop-added.invariant.first

pub new-requires : goal.new-requires
new-requires g c = (search rules, c.requires.capacity)
