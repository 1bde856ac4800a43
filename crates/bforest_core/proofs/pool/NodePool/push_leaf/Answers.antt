use Rattle.bforest_core.proofs.{Words.{arith, vec_len, sym, ◌∙◌}, table.Allocating.{on-failed, on-passed}, union.NewLeaf.{push-refused, pushes}}
use Rattle.bforest_core.proofs.pool.NodePool.push_leaf.Goals as goal

pub returns-then-is_err : goal.returns-then-is_err
returns-then-is_err g c = let h = c.hold.ensures in let failed = sym c.is_err.ensures.value ∙ c.if-is_err.true in
    push-refused c.self.invariant c.self.view_is c.requires.none c.args.key c.args.value {len = vec_len c.self.inside.nodes} (omega arith) (omega (arith, c.if-number-self.false, c.self.invariant.slots_within))
    (rw (h.items, on-failed c.hold.result failed h.kept) c.self.view_is) (on-failed c.hold.result failed h.short)

pub push_reserved-requires : goal.push_reserved-requires
push_reserved-requires g c = let room = on-passed c.hold.result (sym c.is_err.ensures.value ∙ c.if-is_err.false) c.hold.ensures.ok in omega (arith, room, c.hold.ensures.len)

pub returns-else-is_err : goal.returns-else-is_err
returns-else-is_err g c = let h = c.hold.ensures in let p = c.push_reserved.ensures in
    rw (p.items, h.items, c.new_leaf.ensures.node, p.capacity, c.new.ensures.number, c.len-number.ensures) (pushes c.self.invariant c.self.view_is c.requires.none c.args.key c.args.value {len = vec_len c.self.inside.nodes} (omega arith)
    (omega (arith, c.if-number-self.false, c.self.invariant.slots_within)) h.grows h.suffices h.bounded)
