use Rattle.bforest_core.proofs.{Words.{◌≡◌, ◌-◌, length, vec_len, arith, ap, refl}, union.Reserved.{reserved-frees, reserved-keeps, same-keeps}}
use Rattle.bforest_core.proofs.{table.Pools.IsPool-grown, table.Chains.front_of-is}
use Rattle.bforest_core.proofs.table.Allocating.{grows-by, grows-not, has_room, lacks_room, finds_room, needs_growth, not_enough, stays_reserved, few_slots}
use Rattle.bforest_core.proofs.pool.NodePool.reserve.Goals as goal

pub invariant_of-self : goal.invariant_of-self
invariant_of-self g c = let size : vec_len c.self.inside.nodes ≡ length c.self.inside.nodes.items = omega arith in
    let grown = IsPool-grown _ _ _ _ (c.args.n - c.self.inside.free) c.args.n (omega arith) (omega arith) c.self.invariant in
    rw (c.in-Ok.ensures.ok, c.in-Ok.ensures.first, size) grown.0

pub returns-in-Ok-clause-ok : goal.returns-in-Ok-clause-ok
returns-in-Ok-clause-ok g c = let size : vec_len c.self.inside.nodes ≡ length c.self.inside.nodes.items = omega arith in
    let grown = IsPool-grown _ _ _ _ (c.args.n - c.self.inside.free) c.args.n (omega arith) (omega arith) c.self.invariant in
    rw (← c.self.view_is, c.in-Ok.ensures.ok, c.in-Ok.ensures.first, size, c.self.invariant.counted, front_of-is _ _ _ c.self.invariant.linked, grown.1)

pub returns-in-Ok-clause-growth : goal.returns-in-Ok-clause-growth
returns-in-Ok-clause-growth g c = grows-by _ c.self.invariant c.self.view_is (omega arith) c.if-n-self.false c.in-Ok.ensures.memory c.in-Ok.ensures.suffices c.in-Ok.ensures.bounded

pub returns-in-Ok-clause-full : goal.returns-in-Ok-clause-full
returns-in-Ok-clause-full g c = (λ is. absurd cc, λ short. absurd (finds_room _ c.self.invariant c.self.view_is (omega arith) c.if-missing-self.false short))

pub returns-in-Ok-clause-memory : goal.returns-in-Ok-clause-memory
returns-in-Ok-clause-memory g c = λ is. absurd cc

pub returns-in-Ok-clause-numbers : goal.returns-in-Ok-clause-numbers
returns-in-Ok-clause-numbers g c = few_slots c.self.invariant c.self.view_is

pub returns-in-Ok-clause-free : goal.returns-in-Ok-clause-free
returns-in-Ok-clause-free g c = reserved-frees c.args.self.now _ (ap (λ z. z.chain) (returns-in-Ok-clause-ok g c))

pub returns-in-Ok-clause-trees : goal.returns-in-Ok-clause-trees
returns-in-Ok-clause-trees g c = λ union. reserved-keeps _ _ _ _ (returns-in-Ok-clause-ok g c) union

pub returns-then-n-self : goal.returns-then-n-self
returns-then-n-self g c = let ok = stays_reserved _ c.self.invariant c.self.view_is refl c.if-n-self.true in
    record {
      ok = ok;
      err = tt;
      growth = grows-not refl;
      full = (λ is. absurd cc, λ short. absurd (has_room _ c.self.invariant c.self.view_is refl c.if-n-self.true short));
      memory = λ is. absurd cc;
      enough = λ enough. refl;
      numbers = few_slots c.self.invariant c.self.view_is;
      free = reserved-frees c.args.self.now _ (ap (λ z. z.chain) ok);
      trees = λ union. same-keeps _ refl union;
    }

pub returns-then-missing-self : goal.returns-then-missing-self
returns-then-missing-self g c = record {
  ok = tt;
  err = refl;
  growth = grows-not refl;
  full = (λ is. lacks_room _ c.self.invariant c.self.view_is (omega arith) c.if-n-self.false c.if-missing-self.true, λ short. refl);
  memory = λ is. absurd cc;
  enough = λ enough. absurd (not_enough _ c.self.invariant c.self.view_is refl c.if-n-self.false enough);
  numbers = few_slots c.self.invariant c.self.view_is;
  free = tt;
  trees = λ union. same-keeps _ refl union;
}

pub returns-in-Err : goal.returns-in-Err
returns-in-Err g c = record {
  ok = tt;
  err = rw (c.in-Err.ensures.err, c.in-Err.ensures.kept) c.self.view_is;
  growth = rw (c.in-Err.ensures.err, c.in-Err.ensures.kept, c.self.view_is) (grows-not refl);
  full = (λ is. absurd cc, λ short. absurd (finds_room _ c.self.invariant c.self.view_is (omega arith) c.if-missing-self.false short));
  memory = λ is. needs_growth _ c.self.invariant c.self.view_is (omega arith) c.if-n-self.false c.if-missing-self.false (let short = c.in-Err.ensures.short in omega arith);
  enough = λ enough. absurd (not_enough _ c.self.invariant c.self.view_is refl c.if-n-self.false enough);
  numbers = few_slots c.self.invariant c.self.view_is;
  free = tt;
  trees = λ union. same-keeps _ (rw (c.in-Err.ensures.err, c.in-Err.ensures.kept) c.self.view_is) union;
}

pub invariant_of-self-in-Err : goal.invariant_of-self-in-Err
invariant_of-self-in-Err g c = rw c.in-Err.ensures.err c.self.invariant
