use Rattle.std.proofs.lemmas.Bool.{false≢true}
use Rattle.std.proofs.Common.{refl, rules, sym}
use Rattle.bforest_trees.specs.Layout.{left_of}
use Rattle.bforest_trees.proofs.Readers.{none-left, opens-next, stands}
use Rattle.bforest_trees.proofs.reader.Reader.enter_next.Goals as goal

pub next-requires : goal.next-requires
next-requires g c = (search rules, (search rules, stands c.args.pool.now c.args.self.now c.requires.reader))

pub at-requires : goal.at-requires
at-requires g c =
    let self = c.args.self.now in
    let opens = opens-next c.args.pool.now self c.requires.reader c.requires.read c.in-Some.spot c.in-Some.leaf (λ none. absurd (let bad = c.in-Some.ensures.alone none in cc)) c.in-Some.ensures.some in
    (search rules, (search rules, (left_of c.args.pool.now self, opens)))

pub returns-in-Some-clause-entered : goal.returns-in-Some-clause-entered
returns-in-Some-clause-entered g c = λ is.
    let self = c.args.self.now in
    let opens = opens-next c.args.pool.now self c.requires.reader c.requires.read c.in-Some.spot c.in-Some.leaf (λ none. absurd (let bad = c.in-Some.ensures.alone none in cc)) c.in-Some.ensures.some in
    c.at.ensures.entered (left_of c.args.pool.now self) opens

pub returns-in-None-clause-none : goal.returns-in-None-clause-none
returns-in-None-clause-none g c = λ no. none-left c.args.pool.now c.args.self.now c.requires.reader c.requires.read (c.in-None.ensures.none refl)

pub returns-in-Some-clause-none : goal.returns-in-Some-clause-none
returns-in-Some-clause-none g c = λ no. absurd (false≢true (sym no))

pub returns-in-Some-clause-same : goal.returns-in-Some-clause-same
returns-in-Some-clause-same g c = λ no. absurd (false≢true (sym no))
