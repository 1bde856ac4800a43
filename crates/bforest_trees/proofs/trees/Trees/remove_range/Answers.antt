use Rattle.bforest_trees.proofs.ranges.Parting.{parting-at, parting-cut, parting-end, parting-front, parting-live, parting-next, parting-on, parting-shorter}
use Rattle.bforest_trees.proofs.Spots.{spot-end}
use Rattle.bforest_trees.proofs.ranges.Leafwise.{leaves-between, leaves-first}
use Rattle.bforest_trees.proofs.trees.Trees.remove_range.Goals as goal
use Rattle.bforest_trees.specs.Bounds.{start_place}
use Rattle.bforest_trees.specs.Calls.{CutsTo, RemovesBetween}
use Rattle.bforest_nodes.specs.Entries.{IsIncreasing}
use Rattle.bforest_trees.specs.Forest.{Forest, IsLive, list_of}
use Rattle.bforest_trees.specs.Place.{IsSpot}
use Rattle.std.proofs.Common.{rules, subst, sym}

pub is_within-requires : goal.is_within-requires
is_within-requires g c = (search rules, (search rules, (parting-live c.loop-changed.invariant, parting-at c.loop-changed.invariant)))

pub remove_at-requires : goal.remove_at-requires
remove_at-requires g c = (search rules, (search rules, parting-on c.loop-changed.invariant (c.is_within.ensures.yes c.loop-changed-test.true)))

pub loop-changed-smaller : goal.loop-changed-smaller
loop-changed-smaller g c = parting-shorter c.loop-changed.invariant (c.is_within.ensures.yes c.loop-changed-test.true) c.remove_at.ensures.removed

pub loop-changed-preserved : goal.loop-changed-preserved
loop-changed-preserved g c =
    let e = c.remove_at.ensures in
    parting-next c.loop-changed.invariant (c.is_within.ensures.yes c.loop-changed-test.true) e.removed e.sizes e.lowers e.account e.spot

pub goto_start-requires : goal.goto_start-requires
goto_start-requires g c = (search rules, (search rules, (c.requires.live, (c.requires.increasing, spot-end c.args.self.now c.default-path.result c.args.handle.now c.requires.live c.default-path.ensures))))

pub goto_start-requires-in-Unbounded-0₀ : goal.goto_start-requires-in-Unbounded-0₀
goto_start-requires-in-Unbounded-0₀ g c = (search rules, (search rules, (c.requires.live, (c.requires.increasing, spot-end c.args.self.now c.default-path.result c.args.handle.now c.requires.live c.default-path.ensures))))

pub goto_start-requires-2 : goal.goto_start-requires-2
goto_start-requires-2 g c = (search rules, (search rules, (c.requires.live, (c.requires.increasing, spot-end c.args.self.now c.default-path.result c.args.handle.now c.requires.live c.default-path.ensures))))

pub remove_leaves-requires : goal.remove_leaves-requires
remove_leaves-requires g c = let h = c.args.handle.now in let cmp = g.C.Comparator.order c.args.comp.now in
    let all = subst (λ (f : Forest g.row.K.Denot g.row.V.Denot). (IsLive f h × IsIncreasing cmp (list_of f h)) × IsSpot f h c.goto_start-2.new.path (start_place cmp c.args.bounds.0 (list_of f h))) (sym c.self.view_is) ((c.requires.live, c.requires.increasing), c.goto_start-2.ensures.spot) in
    (search rules, (search rules, (c.self.invariant, (all.0.0, (all.0.1, record { place = _; spot = all.1 })))))

pub loop-changed-init : goal.loop-changed-init
loop-changed-init g c = let h = c.args.handle.now in let cmp = g.C.Comparator.order c.args.comp.now in let e = c.remove_leaves.ensures in
    let all = subst (λ (f : Forest g.row.K.Denot g.row.V.Denot). (IsLive f h × IsIncreasing cmp (list_of f h)) × IsSpot f h c.goto_start-2.new.path (start_place cmp c.args.bounds.0 (list_of f h))) (sym c.self.view_is) ((c.requires.live, c.requires.increasing), c.goto_start-2.ensures.spot) in
    leaves-first (g.met.C.Comparator.total c.args.comp.now) all.0.1 all.1 e.pool_at_end e.handle_at_end e.path_at_end e.thinned e.union c.self.invariant all.0.0

pub returns : goal.returns
returns g c = let h = c.args.handle.now in let cmp = g.C.Comparator.order c.args.comp.now in let total = g.met.C.Comparator.total c.args.comp.now in let e = c.remove_leaves.ensures in
    let all = subst (λ (f : Forest g.row.K.Denot g.row.V.Denot). IsIncreasing cmp (list_of f h) × IsSpot f h c.goto_start-2.new.path (start_place cmp c.args.bounds.0 (list_of f h))) (sym c.self.view_is) (c.requires.increasing, c.goto_start-2.ensures.spot) in
    subst (λ (f : Forest g.row.K.Denot g.row.V.Denot). RemovesBetween g.row.N cmp c.args.bounds.0 c.args.bounds.1 f h c.loop-changed.changed c.loop-changed.self c.loop-changed.handle) c.self.view_is
    (leaves-between total all.0 all.1 e.pool_at_end e.handle_at_end e.path_at_end e.thinned c.in_default-0₀.not-Unbounded c.in_default.not-Unbounded
    (λ up. parting-end c.loop-changed.invariant total up (c.is_within.ensures.no c.loop-changed-test.false)))

pub returns-in-Unbounded : goal.returns-in-Unbounded
returns-in-Unbounded g c = parting-cut c.in-Unbounded.is (g.met.C.Comparator.total c.args.comp.now) c.requires.increasing (c.cut_at.ensures (record { place = _; spot = c.goto_start.ensures.spot }))

pub returns-in-Unbounded-0₀ : goal.returns-in-Unbounded-0₀
returns-in-Unbounded-0₀ g c =
    let h = c.args.handle.now in
    let from = λ (f : Forest g.row.K.Denot g.row.V.Denot). start_place (g.C.Comparator.order c.args.comp.now) c.behind.result (list_of f h) in
    let spot = subst (λ f. IsSpot f h c.goto_start-in-Unbounded-0₀.new.path (from f)) (sym c.self.view_is) c.goto_start-in-Unbounded-0₀.ensures.spot in
    let cuts = subst (λ f. CutsTo g.row.N f h (from f) c.cut_front_at.result c.cut_front_at.new.pool c.cut_front_at.new.handle) c.self.view_is (c.cut_front_at.ensures.cuts (record { place = _; spot = spot })) in
    parting-front c.in-Unbounded-0₀.is c.in_default.not-Unbounded (g.met.C.Comparator.total c.args.comp.now) c.requires.increasing
    (subst (λ b. CutsTo g.row.N c.args.self.now h (start_place (g.C.Comparator.order c.args.comp.now) b (list_of c.args.self.now h)) c.cut_front_at.result c.cut_front_at.new.pool c.cut_front_at.new.handle) c.behind.ensures cuts)
