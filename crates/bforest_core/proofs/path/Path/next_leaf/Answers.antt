use Rattle.bforest_core.proofs.{Words.{rules, arith}, removal.{Removal.stands_in, Dropping.{beside_asks, key_asks, next_is, none_next}}}
use Rattle.bforest_core.proofs.path.Path.next_leaf.Goals as goal

pub right_sibling-requires : goal.right_sibling-requires
right_sibling-requires g c = let s = stands_in _ _ c.requires.union c.requires.stands.on in
    (search rules, (search rules, (omega (arith, s.low, s.stands.size_is), beside_asks s)))

pub last_key-requires : goal.last_key-requires
last_key-requires g c = let s = stands_in _ _ c.requires.union c.requires.stands.on in
    (search rules, key_asks s (rw c.in-Some.is at (c.right_sibling.ensures (beside_asks s))))

pub returns-in-None : goal.returns-in-None
returns-in-None g c = record { next = λ at. let s = stands_in _ _ c.requires.union at.on in none_next s (c.in-None.ensures (beside_asks s)) }

pub returns-in-Some : goal.returns-in-Some
returns-in-Some g c = record { next = λ at. let s = stands_in _ _ c.requires.union at.on in next_is s (rw c.in-Some.is at (c.right_sibling.ensures (beside_asks s))) _ c.last_key.ensures.key }
