use Rattle.bforest_core.proofs.Words.{rules, ◌≡◌, ℕ, suc, ◌+◌, ◌-◌, ◌/◌, ◌<◌, ◌≤◌, length, sym, ap, subst, ◌∙◌, arith, length-map}
use Rattle.bforest_core.proofs.Words.{IsInner, entry_count, length-take-le, with_child, if◌then◌else◌, true}
use Rattle.bforest_nodes.specs.Content.{keys_of}
use Rattle.bforest_core.proofs.{union.Needs.{need-leaf, width-some}, union.Forests.once}
use Rattle.bforest_core.proofs.union.Building.{above, first-need, index_low, index_more, part-least, taken-front}
use Rattle.bforest_core.proofs.union.Feeding.{count_is, filling-builds, filling-first, filling-gives, filling-next, last-room, leaf-builds, rest-enough, rest-room, Filling}
use Rattle.bforest_core.specs.Packed.{need_of, width}
use Rattle.bforest_core.specs.Sources.{Builds, Feeds, TakesEntries}
use Rattle.std.specs.Prelude.{min}
use Rattle.bforest_core.proofs.pool.NodePool.+build_below.Goals as goal

pub next_leaf-requires : goal.next_leaf-requires
next_leaf-requires g t c = let one : 0 < g.row.N = omega (arith, c.requires.capacity.least) in
    let few : c.args.entries ≤ g.row.N = omega (arith, c.requires.within, c.requires.room, ap (λ z. width g.row.N z) c.if-level-eq0.true) in
    (search rules, (c.requires.some, (few, (omega (arith, c.requires.free, need-leaf g.row.N one c.args.entries c.requires.some few, ap (λ z. need_of g.row.N z c.args.entries) c.if-level-eq0.true), c.requires.feeds))))

pub returns-then-level-eq0-clause-builds : goal.returns-then-level-eq0-clause-builds
returns-then-level-eq0-clause-builds g t c = λ base f.
    let few : c.args.entries ≤ g.row.N = omega (arith, c.requires.within, c.requires.room, ap (λ z. width g.row.N z) c.if-level-eq0.true) in
    let m = c.next_leaf.ensures.leaf base f in let list = g.S.LeafSource.left c.args.source.now base in
    subst (λ z. Builds g.row.N base c.args.self.now c.next_leaf.new.pool list c.args.entries z c.next_leaf.result.1) (sym c.if-level-eq0.true)
    (leaf-builds c.requires.capacity f.adds (omega (arith, c.requires.free, ap (λ z. need_of g.row.N z c.args.entries) c.if-level-eq0.true)) f.enough c.requires.some few (taken-front m.front m.table_is m.used))

pub build_below-first_key-requires : goal.build_below-first_key-requires
build_below-first_key-requires g t c κs within = let one : 0 < g.row.N = omega (arith, c.requires.capacity.least) in
    let w = above g.row.N c.args.level c.args.room c.if-level-eq0.false c.requires.room in
    let f = c.requires.feeds.1 in (
      omega (arith, w.level_is),
      (
        within.0,
        (
          within.1.0,
          (
            (λ a m. search rules),
            (
              within.1.1,
              (
                search rules,
                (
                  c.requires.capacity,
                  (
                    omega (arith, c.min.ensures, part-least g.row.N one w c.args.entries c.requires.some),
                    (
                      omega (arith, c.min.ensures),
                      (
                        w.part_is ∙ ap (width g.row.N) (sym w.low_is),
                        (
                          omega (arith, c.requires.small),
                          (
                            omega (arith, c.requires.low),
                            (
                              omega (arith, first-need g.row.N one w c.args.entries c.requires.some c.requires.within, c.requires.free, ap (λ z. need_of g.row.N z (min (c.args.room / 8) c.args.entries)) w.low_is, ap (λ z. need_of g.row.N (c.args.level - 1) z) c.min.ensures),
                              (c.requires.feeds.0, record { adds = f.adds; reads = f.reads; enough = omega (arith, f.enough, c.min.ensures) }),
                            ),
                          ),
                        ),
                      ),
                    ),
                  ),
                ),
              ),
            ),
          ),
        ),
      ),
    )

pub loop-done-init : goal.loop-done-init
loop-done-init g t c = λ base f. let one : 0 < g.row.N = omega (arith, c.requires.capacity.least) in
    let w = above g.row.N c.args.level c.args.room c.if-level-eq0.false c.requires.room in
    let list = g.S.LeafSource.left c.args.source.now base in let rest = g.S.LeafSource.left c.build_below-first_key.new.source base in
    let Reads = g.S.LeafSource.reads c.build_below-first_key.new.source base in
    let first : Feeds g.row.N (g.S.LeafSource.reads c.args.source.now) (g.S.LeafSource.left c.args.source.now) base c.args.self.now c.min.result = record { adds = f.adds; reads = f.reads; enough = omega (arith, f.enough, c.min.ensures) } in
    filling-first one f.enough (w.part_is ∙ ap (width g.row.N) (sym w.low_is)) c.requires.some (λ m. omega (arith, once f.adds.union.1 m))
    (subst (λ z. TakesEntries list rest z Reads c.build_below-first_key.result.0) c.min.ensures (c.build_below-first_key.ensures.gives base first))
    (subst (λ z. Builds g.row.N base c.args.self.now c.build_below-first_key.new.self list z (c.args.level - 1) c.build_below-first_key.result.1) c.min.ensures (c.build_below-first_key.ensures.builds base first))
    c.over-node.ensures.node

pub build_below-key-requires : goal.build_below-key-requires
build_below-key-requires g t c κs within = let one : 0 < g.row.N = omega (arith, c.requires.capacity.least) in
    let w = above g.row.N c.args.level c.args.room c.if-level-eq0.false c.requires.room in
    let base = c.requires.feeds.0 in let f = c.requires.feeds.1 in
    let s = c.loop-done.invariant base f in let part_is = w.part_is ∙ ap (width g.row.N) (sym w.low_is) in
    let more : c.loop-done.done < c.args.entries = omega (arith, c.loop-done-test.true) in
    let fits : c.args.entries ≤ width g.row.N (suc (c.args.level - 1)) = omega (arith, c.requires.within, w.room_is, ap (λ z. width g.row.N (suc z)) w.low_is) in
    let free : need_of g.row.N (suc (c.args.level - 1)) c.args.entries ≤ length c.args.self.now.chain = omega (arith, c.requires.free, ap (λ z. need_of g.row.N z c.args.entries) w.level_is, ap (λ z. need_of g.row.N (suc z) c.args.entries) w.low_is) in (
      omega (arith, w.level_is),
      (
        within.0,
        (
          within.1.0,
          (
            (λ a m. search rules),
            (
              within.1.1,
              (
                search rules,
                (
                  c.requires.capacity,
                  (
                    omega (arith, c.min-next.ensures, more, w.part_is, width-some g.row.N w.low one),
                    (
                      omega (arith, c.min-next.ensures),
                      (
                        part_is,
                        (
                          omega (arith, c.requires.small),
                          (
                            omega (arith, c.requires.low),
                            (
                              omega (arith, rest-room one f.enough part_is s more fits free, ap (λ z. need_of g.row.N (c.args.level - 1) z) c.min-next.ensures),
                              (base, record { adds = s.adds (omega (arith, more)); reads = s.reads; enough = omega (arith, rest-enough one f.enough part_is s more, c.min-next.ensures) }),
                            ),
                          ),
                        ),
                      ),
                    ),
                  ),
                ),
              ),
            ),
          ),
        ),
      ),
    )

pub try_inner_insert-requires : goal.try_inner_insert-requires
try_inner_insert-requires g t c = let s = c.loop-done.invariant c.requires.feeds.0 c.requires.feeds.1 in let over = s.building in
    (search rules, (subst IsInner (sym over.over_is) tt, omega (arith, over.index_is, ap (λ z. length (keys_of z)) over.over_is, length-map over.more (λ (e : g.row.K.Denot × ℕ). e.0))))

pub overflow_add-index : goal.overflow_add-index
overflow_add-index g t c = let one : 0 < g.row.N = omega (arith, c.requires.capacity.least) in
    let f = c.requires.feeds.1 in let s = c.loop-done.invariant c.requires.feeds.0 f in
    omega (arith, index_low one s.building, length-take-le c.args.entries (g.S.LeafSource.left c.args.source.now c.requires.feeds.0) f.enough, c.requires.within, c.requires.small)

pub loop-done-smaller : goal.loop-done-smaller
loop-done-smaller g t c = let one : 0 < g.row.N = omega (arith, c.requires.capacity.least) in let w = above g.row.N c.args.level c.args.room c.if-level-eq0.false c.requires.room in
    omega (arith, c.loop-done-test.true, w.part_is, width-some g.row.N w.low one)

pub loop-done-preserved : goal.loop-done-preserved
loop-done-preserved g t c = λ base f. let one : 0 < g.row.N = omega (arith, c.requires.capacity.least) in
    let w = above g.row.N c.args.level c.args.room c.if-level-eq0.false c.requires.room in
    let s = c.loop-done.invariant base f in let part_is = w.part_is ∙ ap (width g.row.N) (sym w.low_is) in
    let more : c.loop-done.done < c.args.entries = omega (arith, c.loop-done-test.true) in
    let fits : c.args.entries ≤ width g.row.N (suc (c.args.level - 1)) = omega (arith, c.requires.within, w.room_is, ap (λ z. width g.row.N (suc z)) w.low_is) in
    let list = g.S.LeafSource.left c.args.source.now base in let left = g.S.LeafSource.left c.loop-done.source base in let rest = g.S.LeafSource.left c.build_below-key.new.source base in
    let Reads = g.S.LeafSource.reads c.build_below-key.new.source base in
    let next : Feeds g.row.N (g.S.LeafSource.reads c.loop-done.source) (g.S.LeafSource.left c.loop-done.source) base c.loop-done.self c.min-next.result = record { adds = s.adds (omega (arith, more)); reads = s.reads; enough = omega (arith, rest-enough one f.enough part_is s more, c.min-next.ensures) } in
    let over = s.building in let put = c.try_inner_insert.ensures in
    let eight = index_more one over (omega (arith, more, count_is one f.enough part_is s)) (omega (arith, fits, count_is one f.enough part_is s)) in
    let room : c.try_inner_insert.result ≡ true = put.room.1 (omega (arith, eight, over.index_is, ap entry_count over.over_is, length-map over.more (λ (e : g.row.K.Denot × ℕ). e.1))) in
    let same : c.try_inner_insert.new.self ≡ with_child c.loop-done.node c.loop-done.index c.build_below-key.result.0 c.build_below-key.result.1 = put.node ∙ ap (λ z. if z then with_child c.loop-done.node c.loop-done.index c.build_below-key.result.0 c.build_below-key.result.1 else c.loop-done.node) room in
    subst (λ z. Filling g.row.N base c.args.self.now c.build_below-key.new.self list rest c.args.entries (c.args.level - 1) (c.loop-done.done + c.args.room / 8) z c.try_inner_insert.new.self c.build_below-first_key.result.0 Reads) (omega arith)
    (filling-next one f.enough part_is s more
    (subst (λ z. TakesEntries left rest z Reads c.build_below-key.result.0) c.min-next.ensures (c.build_below-key.ensures.gives base next))
    (subst (λ z. Builds g.row.N base c.loop-done.self c.build_below-key.new.self left z (c.args.level - 1) c.build_below-key.result.1) c.min-next.ensures (c.build_below-key.ensures.builds base next))
    same)

pub add_node-requires : goal.add_node-requires
add_node-requires g t c = let one : 0 < g.row.N = omega (arith, c.requires.capacity.least) in
    let w = above g.row.N c.args.level c.args.room c.if-level-eq0.false c.requires.room in
    let f = c.requires.feeds.1 in let s = c.loop-done.invariant c.requires.feeds.0 f in
    let fits : c.args.entries ≤ width g.row.N (suc (c.args.level - 1)) = omega (arith, c.requires.within, w.room_is, ap (λ z. width g.row.N (suc z)) w.low_is) in
    let free : need_of g.row.N (suc (c.args.level - 1)) c.args.entries ≤ length c.args.self.now.chain = omega (arith, c.requires.free, ap (λ z. need_of g.row.N z c.args.entries) w.level_is, ap (λ z. need_of g.row.N (suc z) c.args.entries) w.low_is) in
    (search rules, (search rules, last-room one f.enough (w.part_is ∙ ap (width g.row.N) (sym w.low_is)) s (omega (arith, c.loop-done-test.false)) fits free))

pub returns-clause-gives : goal.returns-clause-gives
returns-clause-gives g t c = λ base f. let one : 0 < g.row.N = omega (arith, c.requires.capacity.least) in
    let w = above g.row.N c.args.level c.args.room c.if-level-eq0.false c.requires.room in
    filling-gives one f.enough (w.part_is ∙ ap (width g.row.N) (sym w.low_is)) (c.loop-done.invariant base f) (omega (arith, c.loop-done-test.false))

pub returns-clause-builds : goal.returns-clause-builds
returns-clause-builds g t c = λ base f. let one : 0 < g.row.N = omega (arith, c.requires.capacity.least) in
    let w = above g.row.N c.args.level c.args.room c.if-level-eq0.false c.requires.room in let level : suc (c.args.level - 1) ≡ c.args.level = omega (arith, w.level_is) in
    let fits : c.args.entries ≤ width g.row.N (suc (c.args.level - 1)) = omega (arith, c.requires.within, w.room_is, ap (λ z. width g.row.N (suc z)) w.low_is) in
    let free : need_of g.row.N (suc (c.args.level - 1)) c.args.entries ≤ length c.args.self.now.chain = omega (arith, c.requires.free, ap (λ z. need_of g.row.N z c.args.entries) w.level_is, ap (λ z. need_of g.row.N (suc z) c.args.entries) w.low_is) in
    subst (λ z. Builds g.row.N base c.args.self.now c.add_node.new.self (g.S.LeafSource.left c.args.source.now base) c.args.entries z c.add_node.result) level
    (filling-builds one f.enough (w.part_is ∙ ap (width g.row.N) (sym w.low_is)) (c.loop-done.invariant base f) (omega (arith, c.loop-done-test.false)) c.requires.capacity (omega (arith, c.requires.low, level)) f.adds free fits
    (taken-front c.add_node.ensures.node c.add_node.ensures.table c.add_node.ensures.used))
