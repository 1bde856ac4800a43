use Rattle.bforest_core.proofs.{Words.{rules, arith}, removal.LeafAt.{left_asks, in_leaf, beside_asks, behind_all, one_follows}}
use Rattle.bforest_core.proofs.path.Path.is_past_end.Goals as goal

pub entries-requires : goal.entries-requires
entries-requires g c = (search rules, left_asks c.requires.lost.3 _ (omega arith))

pub returns-then-self-entries-clause-within : goal.returns-then-self-entries-clause-within
returns-then-self-entries-clause-within g c = λ no old tree place l.
    in_leaf l _ (omega arith) _ c.entries.ensures.value c.if-self-entries.true

pub right_sibling-requires : goal.right_sibling-requires
right_sibling-requires g c = search (rules, beside_asks c.requires.lost.3)

pub returns-clause-past : goal.returns-clause-past
returns-clause-past g c = λ yes old tree place l.
    behind_all l _ (omega arith) _ c.entries.ensures.value _ _ c.if-self-entries.false c.right_sibling.ensures c.is_none.ensures yes

pub returns-clause-within : goal.returns-clause-within
returns-clause-within g c = λ no old tree place l. one_follows l _ _ c.right_sibling.ensures c.is_none.ensures no
