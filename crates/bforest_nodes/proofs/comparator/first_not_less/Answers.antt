use Rattle.std.proofs.Common.{◌/◌, ◌<◌, false, true, length, sym, ◌∙◌, arith, refl}
use Rattle.std.proofs.lemmas.Bool.{false≢true}
use Rattle.std.specs.Ordering.{is_lt}
use Rattle.bforest_nodes.proofs.Bounds.{told-lt}
use Rattle.bforest_nodes.proofs.Halves.{Starts, ends-within, half-here, half-starts, whole-here}
use Rattle.bforest_nodes.proofs.comparator.first_not_less.Given.{Over}
use Rattle.bforest_nodes.proofs.comparator.first_not_less.Goals as goal

-- the start of the half that was chosen
starts : (g : Over) (c : goal.After-first_not_less_behind g) → Starts (λ x. is_lt (g.K.Ord.cmp x c.args.k)) true false (λ e. false≢true (sym e)) c.args.row.now c.args.len c.requires.most c.requires.some c.requires.first c.requires.last (length c.args.row.now / 2) c.middle_if-start.result
starts g c =
    let long : length c.args.row.now / 2 < length c.args.row.now = omega (arith, c.if-row-gt-LONG.true) in
    let told = told-lt g.K.Ord.cmp g.K.PartialOrd.partial_cmp g.met.K.Ord.matches_partial_cmp c.args.row.now (length c.args.row.now / 2) c.index-row-middle.result c.args.k long c.index-row-middle.is c.lt.result c.lt.ensures in
    half-starts (λ x. is_lt (g.K.Ord.cmp x c.args.k)) true false
    (λ e. false≢true (sym e)) c.args.row.now c.args.len c.requires.most c.requires.some c.requires.first c.requires.last
    (length c.args.row.now / 2) c.lt.result (λ e d. told d ∙ e) (λ e d. told d ∙ e) c.middle_if-start.result c.middle_if-start.ensures

within : (g : Over) (c : goal.After-first_not_less_behind g) → c.first_not_less_behind.result < c.args.len
within g c =
    let s = starts g c in
    ends-within (λ x. is_lt (g.K.Ord.cmp x c.args.k)) true false
    (λ e. false≢true (sym e)) c.args.row.now c.args.len c.requires.most c.requires.some c.requires.first c.requires.last c.args.k
    c.middle_if-start.result c.first_not_less_behind.result s.among s.at_start c.first_not_less_behind.ensures.before

pub returns-then-row-eq1-clause-within : goal.returns-then-row-eq1-clause-within
returns-then-row-eq1-clause-within g c = within g c

pub returns-then-row-eq1-clause-here : goal.returns-then-row-eq1-clause-here
returns-then-row-eq1-clause-here g c = half-here (λ x. is_lt (g.K.Ord.cmp x c.args.k)) true false
    (λ e. false≢true (sym e)) c.args.row.now c.args.len c.requires.most c.requires.some c.requires.first c.requires.last _ _ _ (starts g c)
    refl c.if-row-eq1.true c.first_not_less_behind.ensures.behind c.first_not_less_behind.ensures.within
    (within g c) c.first_not_less_behind.ensures.here

pub returns-clause-within : goal.returns-clause-within
returns-clause-within g c =
    let i = c.loop-back.invariant in
    ends-within (λ x. is_lt (g.K.Ord.cmp x c.args.k)) true false
    (λ e. false≢true (sym e)) c.args.row.now c.args.len c.requires.most c.requires.some c.requires.first c.requires.last c.args.k 0
    c.loop-back.at c.requires.some c.requires.first (λ j d some less. i.before j d (omega (arith, some, c.loop-back-test.false)) less)

pub returns-clause-here : goal.returns-clause-here
returns-clause-here g c =
    let i = c.loop-back.invariant in
    whole-here (λ x. is_lt (g.K.Ord.cmp x c.args.k)) true false (λ e. false≢true (sym e)) c.args.row.now c.args.len c.requires.most c.requires.some c.requires.first c.requires.last c.loop-back.at
    (ends-within (λ x. is_lt (g.K.Ord.cmp x c.args.k)) true false
    (λ e. false≢true (sym e)) c.args.row.now c.args.len c.requires.most c.requires.some c.requires.first c.requires.last c.args.k 0
    c.loop-back.at c.requires.some c.requires.first (λ j d some less. i.before j d (omega (arith, some, c.loop-back-test.false)) less))
    i.here
