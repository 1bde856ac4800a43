use Rattle.bforest_trees.proofs.Changed.{root-live, seen-as, seen-asks}
use Rattle.bforest_trees.proofs.Entering.{ends-there}
use Rattle.bforest_trees.proofs.values.Lent.{lies-for, lies-nowhere, union-there, used-there, value-there, with-value-there, writes-there}
use Rattle.bforest_trees.proofs.trees.Trees.get_mut.Goals as goal
use Rattle.std.proofs.Common.{inl, inr, rules, sym}

pub find-way-requires : goal.find-way-requires
find-way-requires g c =
    (search rules, (c.self.invariant, seen-asks _ (seen-as c.self.view_is (sym c.in_ok-root.ensures.value) c.requires.live) c.requires.increasing))

pub value_mut-requires : goal.value_mut-requires
value_mut-requires g c =
    let s = seen-as c.self.view_is (sym c.in_ok-root.ensures.value) c.requires.live in
    let looked = c.look_up_in_leaf-place.ensures.found c.in_ok-root.root _ _ _ (ends-there c.find-way.ensures.ends c.leaf-leaf.ensures.leaf) in
    let l = lies-for (g.C.Comparator.order c.args.comp.now) (sym c.in_ok-root.ensures.value) (root-live g.row.N c.self.inside.pool c.in_ok-root.root c.self.invariant s.root) looked c.in-Some.is in
    let used = used-there g.row.N c.self.invariant (rw (← c.self.view_is) at c.requires.live) l in
    (search rules, (used.0, used.1))

pub invariant_of-self-lent : goal.invariant_of-self-lent
invariant_of-self-lent g c w =
    let s = seen-as c.self.view_is (sym c.in_ok-root.ensures.value) c.requires.live in
    let looked = c.look_up_in_leaf-place.ensures.found c.in_ok-root.root _ _ _ (ends-there c.find-way.ensures.ends c.leaf-leaf.ensures.leaf) in
    let l = lies-for (g.C.Comparator.order c.args.comp.now) (sym c.in_ok-root.ensures.value) (root-live g.row.N c.self.inside.pool c.in_ok-root.root c.self.invariant s.root) looked c.in-Some.is in
    union-there g.row.N c.self.invariant (rw (← c.self.view_is) at c.requires.live) l w

pub returns-in-Some : goal.returns-in-Some
returns-in-Some g c =
    let s = seen-as c.self.view_is (sym c.in_ok-root.ensures.value) c.requires.live in
    let looked = c.look_up_in_leaf-place.ensures.found c.in_ok-root.root _ _ _ (ends-there c.find-way.ensures.ends c.leaf-leaf.ensures.leaf) in
    let l = lies-for (g.C.Comparator.order c.args.comp.now) (sym c.in_ok-root.ensures.value) (root-live g.row.N c.self.inside.pool c.in_ok-root.root c.self.invariant s.root) looked c.in-Some.is in
    let live = rw (← c.self.view_is) at c.requires.live in
    rw (← c.self.view_is) (
      λ j. inl (c.value_mut.result.ghost_name, λ w. with-value-there g.row.N c.self.invariant live l w j),
      record {
        writes_back = tt;
        value = value-there g.row.N c.self.invariant live l c.value_mut.ensures.value;
        written = writes-there g.row.N c.self.invariant live l (g.met.C.Comparator.total c.args.comp.now) (rw (← c.self.view_is) at c.requires.increasing);
      },
    )

pub returns-in-None : goal.returns-in-None
returns-in-None g c =
    let s = seen-as c.self.view_is (sym c.in_ok-root.ensures.value) c.requires.live in
    let looked = c.look_up_in_leaf-place.ensures.found c.in_ok-root.root _ _ _ (ends-there c.find-way.ensures.ends c.leaf-leaf.ensures.leaf) in
    let none = lies-nowhere (g.C.Comparator.order c.args.comp.now) (sym c.in_ok-root.ensures.value) (root-live g.row.N c.self.inside.pool c.in_ok-root.root c.self.invariant s.root) looked c.in-None.is in
    rw (← c.self.view_is) (λ j. inr c.self.inside.pool, record { writes_back = tt; value = sym none; written = tt })
