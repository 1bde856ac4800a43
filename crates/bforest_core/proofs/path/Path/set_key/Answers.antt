use Rattle.bforest_core.proofs.{Words.{OnEntry, rules, arith, get_or_default}, removal.Taking.out_asks, union.Rekeying.{KeyWritten, above_asks, ahead, behind, key-written, leaf_on, leaf_put, size_low, stood}}
use Rattle.bforest_core.proofs.path.Path.set_key.Goals as goal

pub set_leaf_key-requires : goal.set_leaf_key-requires
set_leaf_key-requires g c = (search rules, out_asks (stood c.requires.union c.requires.stands.on) _ (omega arith))

pub update_separator-requires : goal.update_separator-requires
update_separator-requires g c = let d = leaf_on c.requires.union c.requires.stands.on in
    let w = leaf_put d c.args.key _ _ (get_or_default c.args.self.now.node 0 c.index-self-0.result 0 (omega arith)) c.set_leaf_key.ensures in
    search (rules, size_low c.requires.union c.requires.stands.on, above_asks d c.args.key w)

pub returns-then-self-gt0 : goal.returns-then-self-gt0
returns-then-self-gt0 g c =
    let written : (at : OnEntry c.args.pool.now c.args.self.now) → KeyWritten _ _ _ at.root _ _ _ at.place c.args.key = λ at. (let d = leaf_on c.requires.union at.on in
    let w = leaf_put d c.args.key _ _ (get_or_default c.args.self.now.node 0 c.index-self-0.result 0 (omega arith)) c.set_leaf_key.ensures in
    key-written c.requires.union at.on c.args.key w (behind d c.args.key w c.if-self-gt0.true)) in
    let here = written c.requires.stands in
    record { written = λ at. (written at).changes; stands = λ at. (written at).stands; slots = here.slots; chain = here.chain; memory = here.memory }

pub returns : goal.returns
returns g c =
    let written : (at : OnEntry c.args.pool.now c.args.self.now) → KeyWritten _ _ _ at.root _ _ _ at.place c.args.key = λ at. (let d = leaf_on c.requires.union at.on in
    let w = leaf_put d c.args.key _ _ (get_or_default c.args.self.now.node 0 c.index-self-0.result 0 (omega arith)) c.set_leaf_key.ensures in
    key-written c.requires.union at.on c.args.key w (ahead d c.args.key w c.if-self-gt0.false _ c.update_separator.ensures)) in
    let here = written c.requires.stands in
    record { written = λ at. (written at).changes; stands = λ at. (written at).stands; slots = here.slots; chain = here.chain; memory = here.memory }
