use Rattle.bforest_trees.proofs.shift.shift_step.Goals as goal
use Rattle.bforest_core.specs.Paths.{OnEntry}
use Rattle.std.proofs.Common.{rules}

pub set_key-requires : goal.set_key-requires
set_key-requires g c = (search rules, (search rules, (c.requires.union, record { root = c.args.root; place = c.requires.stands.0; on = c.requires.stands.1 })))

pub next-requires : goal.next-requires
next-requires g c =
    let w = c.requires.stands in
    let at : OnEntry c.args.pool.now c.args.path.now = record { root = c.args.root; place = w.0; on = w.1 } in
    (search rules, (search rules, ((c.set_key.ensures.written at).union, λ some. record { root = c.args.root; place = w.0; on = c.set_key.ensures.stands at })))

pub returns : goal.returns
returns g c = λ place stands.
    let at : OnEntry c.args.pool.now c.args.path.now = record { root = c.args.root; place = place; on = stands } in
    record {
      changes = c.set_key.ensures.written at;
      at = c.next.ensures.stands (record { root = c.args.root; place = place; on = c.set_key.ensures.stands at });
      slots = c.set_key.ensures.slots;
      chain = c.set_key.ensures.chain;
      memory = c.set_key.ensures.memory;
    }
