use Rattle.bforest_core.proofs.{Words.{◌-◌, rules, arith}, walks.Ways.{gone-all, gone-asks, gone-first, gone-on}}
use Rattle.bforest_core.proofs.path.Path.go.Goals as goal

pub loop-level-init : goal.loop-level-init
loop-level-init g c = (omega arith, λ path indices size f u. gone-first f u (omega arith))

pub digit-digit-requires : goal.digit-digit-requires
digit-digit-requires g c = let f = c.requires.up.3 in record { level = omega (arith, f.low, c.loop-level.invariant.0) }

pub set_level-requires : goal.set_level-requires
set_level-requires g c = let f = c.requires.up.3 in (search rules, (omega (arith, f.low, c.loop-level.invariant.0), omega (arith, c.digit-digit.ensures.digit)))

pub child-node-requires : goal.child-node-requires
child-node-requires g c = let w = c.requires.up in
    (search rules, gone-asks w.3 w.4 (c.loop-level.invariant.1 _ _ _ w.3 w.4) {k = c.loop-level.level - 1} (omega arith) c.digit-digit.ensures.digit)

pub loop-level-preserved : goal.loop-level-preserved
loop-level-preserved g c = let set = c.set_level.ensures in (
  omega arith,
  λ path indices size f u. gone-on f u (c.loop-level.invariant.1 path indices size f u) (omega arith) c.digit-digit.ensures.digit set.here set.node set.entry set.size c.child-node.ensures,
)

pub returns : goal.returns
returns g c = let set = c.set_level-2.ensures in record {
  went = λ path indices size f u. gone-all (c.loop-level.invariant.1 path indices size f u) c.loop-level-test.false set.here set.node set.entry set.size;
}
