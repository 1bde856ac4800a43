use Rattle.std.proofs.Common.{Option, rules, subst, sym, ℕ}
use Rattle.bforest_nodes.specs.Entries.{place}
use Rattle.bforest_trees.proofs.Looking.{place-behind, place-look}
use Rattle.bforest_trees.specs.Forest.{list_at}
use Rattle.bforest_trees.specs.Looks.{IsBehind, IsLook}
use Rattle.bforest_trees.proofs.look.Look.settle.Goals as goal

pub enter_next-requires : goal.enter_next-requires
enter_next-requires g c =
    let at = place (g.C.Comparator.order c.args.comp.now) (list_at c.args.pool.now c.args.root) c.args.key in (
      search rules,
      (
        c.requires.union,
        (
          at,
          subst (λ (h : Option ℕ). IsBehind c.args.pool.now h c.enter_at-index.new.self at) (sym c.some.ensures.node)
              (place-behind {place = at} c.enter_at-index.ensures.index c.if-index-self.false),
        ),
      ),
    )

pub returns-then-index-self-clause-look : goal.returns-then-index-self-clause-look
returns-then-index-self-clause-look g c = place-look c.enter_at-index.ensures.index c.if-index-self.true

pub returns-else-index-self-clause-look : goal.returns-else-index-self-clause-look
returns-else-index-self-clause-look g c =
    let at = place (g.C.Comparator.order c.args.comp.now) (list_at c.args.pool.now c.args.root) c.args.key in
    let behind = place-behind {place = at} c.enter_at-index.ensures.index c.if-index-self.false in
    subst (λ (h : Option ℕ). IsLook c.args.pool.now h c.enter_next.new.self at) c.some.ensures.node
    (c.enter_next.ensures.look
    at (subst (λ (h : Option ℕ). IsBehind c.args.pool.now h c.enter_at-index.new.self at) (sym c.some.ensures.node) behind))

pub enter_at-index-requires : goal.enter_at-index-requires
enter_at-index-requires g c = (search rules, (c.requires.union, (c.requires.spot, c.requires.leaf)))
