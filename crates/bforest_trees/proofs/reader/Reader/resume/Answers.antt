use Rattle.bforest_trees.proofs.unions.Marks.{behind-none, resumed, resumed-left, resumed-none}
use Rattle.bforest_trees.proofs.Readers.{held-leaf}
use Rattle.bforest_trees.proofs.reader.Reader.resume.Goals as goal
use Rattle.std.proofs.Common.{refl, rules, sym}
use Rattle.std.proofs.lemmas.Option.{slice_get_within}

pub leaf-leaf-requires : goal.leaf-leaf-requires
leaf-leaf-requires g c = let m = c.requires.mark c.if-not-mark.false in (search rules, (c.requires.union, (m.place, m.on)))

pub node-requires : goal.node-requires
node-requires g c = let m = c.requires.mark c.if-not-mark.false in (search rules, (search rules, slice_get_within c.args.pool.now.nodes _ _ (c.leaf-leaf.ensures.leaf m.place m.on).slot_is))

pub unwrap_leaf-requires : goal.unwrap_leaf-requires
unwrap_leaf-requires g c = let m = c.requires.mark c.if-not-mark.false in (search rules, held-leaf c.args.pool.now.nodes _ _ _ c.node.ensures.value (c.leaf-leaf.ensures.leaf m.place m.on).slot_is)

pub returns-then-not-mark-clause-left : goal.returns-then-not-mark-clause-left
returns-then-not-mark-clause-left g c = sym (behind-none c.args.pool.now c.args.mark c.if-not-mark.true)

pub returns-then-not-mark-clause-reader : goal.returns-then-not-mark-clause-reader
returns-then-not-mark-clause-reader g c = resumed-none c.args.pool.now c.requires.union _ refl refl refl c.root.ensures.height

pub returns-clause-left : goal.returns-clause-left
returns-clause-left g c = let some = c.if-not-mark.false in
    resumed-left c.args.pool.now c.requires.union c.args.mark (c.requires.mark some) some c.leaf-leaf.result c.leaf-leaf.ensures.leaf _ c.node.ensures.value (record { keys = c.unwrap_leaf.result.0; vals = c.unwrap_leaf.result.1; index = c.args.mark.index; root = c.args.mark.root; spot = c.args.mark.spot }) c.unwrap_leaf.ensures.value refl refl refl

pub returns-clause-reader : goal.returns-clause-reader
returns-clause-reader g c = let some = c.if-not-mark.false in
    resumed c.args.pool.now c.requires.union c.args.mark (c.requires.mark some) some c.leaf-leaf.result c.leaf-leaf.ensures.leaf _ c.node.ensures.value (record { keys = c.unwrap_leaf.result.0; vals = c.unwrap_leaf.result.1; index = c.args.mark.index; root = c.args.mark.root; spot = c.args.mark.spot }) c.unwrap_leaf.ensures.value refl refl refl
