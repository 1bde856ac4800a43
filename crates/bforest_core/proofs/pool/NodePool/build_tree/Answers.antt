use Rattle.bforest_core.proofs.Words.{rules, arith, ap, take, take_all, ◌∙◌, ◌<◌, ◌≤◌, ◌≡◌, ◌+◌, ◌-◌, sym, subst, refl, false≢true, room, NeedsGrowth}
use Rattle.bforest_core.specs.Packed.{Built, need_of}
use Rattle.bforest_core.proofs.union.{Building.{built-plants}, Feeding.{adds-none}, Needs.{fewest-many, plan-few, plan-fewest}}
use Rattle.bforest_core.proofs.table.{Allocating.{err_iff, err_is}}
use Rattle.bforest_core.proofs.pool.NodePool.build_tree.Goals as goal

pub build_below-root-requires : goal.build_below-root-requires
build_below-root-requires g c = let grown = c.in_ok-reserve.ensures.trees c.requires.union in let u = grown.0 in let p = c.plan_for-plan.ensures in
    (search rules, (c.requires.union.1.capacity, (c.requires.some, (p.enough, (p.room_is, (p.small, (p.few, (omega (arith, p.nodes_are, c.in_ok-reserve.ensures.free), (c.args.self.now, record { adds = adds-none grown; reads = c.requires.reads; enough = omega (arith, c.requires.all) })))))))))

pub plan_for-plan-requires : goal.plan_for-plan-requires
plan_for-plan-requires g c = let t = c.slots.ensures.table in
    let low : c.free.result + (c.limit.result - c.slots.result) ≤ 4294967295 = omega (arith, c.free.ensures.value, c.limit.ensures.value, c.slots.ensures.value, t.free_within, t.slots_within, t.limit_within) in
    record { some = c.requires.some; few = plan-few c.requires.union.1.capacity.most low (omega (arith, c.if-entries-room.false)); capacity = c.requires.union.1.capacity }

pub returns-then-entries-room : goal.returns-then-entries-room
returns-then-entries-room g c =
    let room_is : c.free.result + (c.limit.result - c.slots.result) ≡ room c.args.self.now = omega (arith, c.free.ensures.value, c.limit.ensures.value, c.slots.ensures.value) in
    let many = fewest-many g.row.N c.args.entries (c.free.result + (c.limit.result - c.slots.result)) (omega (arith, c.requires.union.1.capacity.least)) c.if-entries-room.true in
    record {
      planted = tt;
      err = refl;
      full = (λ is. omega (arith, room_is, many), λ short. refl);
      memory = λ is. absurd cc;
      enough = λ few. absurd (omega (arith, room_is, few, many));
    }

pub returns-then-plan-room : goal.returns-then-plan-room
returns-then-plan-room g c =
    let room_is : c.free.result + (c.limit.result - c.slots.result) ≡ room c.args.self.now = omega (arith, c.free.ensures.value, c.limit.ensures.value, c.slots.ensures.value) in
    let p = c.plan_for-plan.ensures in
    let same = plan-fewest (omega (arith, c.requires.union.1.capacity.least)) c.requires.some p in
    record {
      planted = tt;
      err = refl;
      full = (λ is. omega (arith, same, room_is, c.if-plan-room.true), λ short. refl);
      memory = λ is. absurd cc;
      enough = λ few. absurd (omega (arith, few, same, room_is, c.if-plan-room.true));
    }

pub returns-in_err-reserve : goal.returns-in_err-reserve
returns-in_err-reserve g c = let e = err_is _ _ c.from_residual.ensures.1 in let said = c.in_err-reserve.ensures in
    let p = c.plan_for-plan.ensures in
    let same = plan-fewest (omega (arith, c.requires.union.1.capacity.least)) c.requires.some p in
    record {
      planted = rw e tt;
      err = rw e said.err;
      full = (λ is. subst (λ z. room c.args.self.now < z) same (said.full.0 ((err_iff _ _ _ e).0 is)), λ short. (err_iff _ _ _ e).1 (said.full.1 (subst (λ z. room c.args.self.now < z) (sym same) short)));
      memory = λ is. subst (λ z. NeedsGrowth z c.args.self.now) same (said.memory ((err_iff _ _ _ e).0 is));
      enough = λ few. absurd (false≢true (said.enough (omega (arith, few, same))));
    }

pub returns : goal.returns
returns g c = let p = c.plan_for-plan.ensures in let list = g.S.LeafSource.left c.args.source.now c.args.self.now in
    let same = plan-fewest (omega (arith, c.requires.union.1.capacity.least)) c.requires.some p in
    let grown = c.in_ok-reserve.ensures.trees c.requires.union in
    let b = c.build_below-root.ensures.builds c.args.self.now (record { adds = adds-none grown; reads = c.requires.reads; enough = omega (arith, c.requires.all) }) in
    let all : take c.args.entries list ≡ list = take_all c.args.entries list (omega (arith, c.requires.all)) in
    let whole = subst (λ z. Built g.row.N c.reserve.new.self c.build_below-root.new.self z c.plan_for-plan.result.level c.build_below-root.result.1) all b.built in
    record {
      planted = built-plants same c.requires.union.1.capacity c.requires.union (omega (arith, c.requires.some, c.requires.all)) c.in_ok-reserve.ensures.ok c.in_ok-reserve.ensures.growth whole
          (p.nodes_are ∙ ap (need_of g.row.N c.plan_for-plan.result.level) c.requires.all) p.few (λ low is. omega (arith, p.wide low is, c.requires.all));
      err = tt;
      full = (λ is. absurd cc, λ short. (let e = c.in_ok-reserve.ensures.full.1 (omega (arith, short, same)) in absurd cc));
      memory = λ is. absurd cc;
      enough = λ few. refl;
    }
