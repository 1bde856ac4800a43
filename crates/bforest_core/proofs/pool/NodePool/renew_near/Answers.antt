use Rattle.bforest_core.proofs.{Words.{rules, arith}, removal.OnWay.{first-key-asks, key-asks, kept-count, lost-behind, lost-first, lost-key, zero-is}}
use Rattle.bforest_core.proofs.pool.NodePool.renew_near.Goals as goal

pub returns-then-index-gt0-clause-renewed : goal.returns-then-index-gt0-clause-renewed
returns-then-index-gt0-clause-renewed g c = λ true_is old root place t. lost-behind t c.requires.some c.if-index-gt0.true

pub leaf_key-key-requires : goal.leaf_key-key-requires
leaf_key-key-requires g c = (search rules, first-key-asks c.requires.taken.3 c.requires.some c.if-index-gt0.false)

pub set_separator-requires : goal.set_separator-requires
set_separator-requires g c = let k = key-asks c.requires.taken.3 c.requires.some c.if-index-gt0.false c.digit-digit.ensures.digit c.if-digit-gt0.true in
    (search rules, (k.0, (k.1.0, k.1.1, k.1.2, omega (arith, k.1.3))))

pub returns-then-digit-gt0-clause-renewed : goal.returns-then-digit-gt0-clause-renewed
returns-then-digit-gt0-clause-renewed g c = λ true_is old root place t.
    lost-key t c.requires.some c.if-index-gt0.false c.digit-digit.ensures.digit c.if-digit-gt0.true c.leaf_key-key.ensures c.set_separator.ensures

pub returns-then-digit-gt0-clause-children : goal.returns-then-digit-gt0-clause-children
returns-then-digit-gt0-clause-children g c = λ m counts. kept-count c.leaf_key-key.result (key-asks c.requires.taken.3 c.requires.some c.if-index-gt0.false c.digit-digit.ensures.digit c.if-digit-gt0.true) c.set_separator.ensures m counts

pub returns-clause-renewed : goal.returns-clause-renewed
returns-clause-renewed g c = λ true_is old root place t. lost-first t c.requires.some c.if-index-gt0.false (zero-is _ true_is)
