use Rattle.std.proofs.Common.{◌/◌, ◌<◌, false, true, length, not, ap, ◌∙◌, arith, refl}
use Rattle.std.proofs.lemmas.Bool.{false≢true}
use Rattle.std.specs.Ordering.{is_gt}
use Rattle.bforest_nodes.proofs.Bounds.{told-le}
use Rattle.bforest_nodes.proofs.Halves.{Starts, ends-within, half-here, half-starts, whole-here}
use Rattle.bforest_nodes.proofs.comparator.first_greater.Given.{Over}
use Rattle.bforest_nodes.proofs.comparator.first_greater.Goals as goal

-- the start of the half that was chosen
starts : (g : Over) (c : goal.After-first_greater_behind g) → Starts (λ x. is_gt (g.K.Ord.cmp x c.args.k)) false true false≢true c.args.row.now c.args.len c.requires.most c.requires.some c.requires.first c.requires.last (length c.args.row.now / 2) c.middle_if-start.result
starts g c =
    let long : length c.args.row.now / 2 < length c.args.row.now = omega (arith, c.if-row-gt-LONG.true) in
    let told = told-le g.K.Ord.cmp g.K.PartialOrd.partial_cmp g.met.K.Ord.matches_partial_cmp c.args.row.now (length c.args.row.now / 2) c.index-row-middle.result c.args.k long c.index-row-middle.is c.le.result c.le.ensures in
    half-starts (λ x. is_gt (g.K.Ord.cmp x c.args.k)) false true false≢true c.args.row.now c.args.len c.requires.most c.requires.some
    c.requires.first c.requires.last (length c.args.row.now / 2) c.le.result (λ e d. told d ∙ ap not e)
    (λ e d. told d ∙ ap not e) c.middle_if-start.result c.middle_if-start.ensures

within : (g : Over) (c : goal.After-first_greater_behind g) → c.first_greater_behind.result < c.args.len
within g c =
    let s = starts g c in
    ends-within (λ x. is_gt (g.K.Ord.cmp x c.args.k)) false true false≢true c.args.row.now c.args.len c.requires.most c.requires.some c.requires.first c.requires.last c.args.k c.middle_if-start.result c.first_greater_behind.result s.among s.at_start c.first_greater_behind.ensures.before

pub returns-then-row-eq1-clause-within : goal.returns-then-row-eq1-clause-within
returns-then-row-eq1-clause-within g c = within g c

pub returns-then-row-eq1-clause-here : goal.returns-then-row-eq1-clause-here
returns-then-row-eq1-clause-here g c = half-here (λ x. is_gt (g.K.Ord.cmp x c.args.k)) false true false≢true c.args.row.now c.args.len
    c.requires.most c.requires.some c.requires.first c.requires.last _ _ _ (starts g c) refl c.if-row-eq1.true
    c.first_greater_behind.ensures.behind c.first_greater_behind.ensures.within (within g c) c.first_greater_behind.ensures.here

pub returns-clause-within : goal.returns-clause-within
returns-clause-within g c =
    let i = c.loop-back.invariant in
    ends-within (λ x. is_gt (g.K.Ord.cmp x c.args.k)) false true false≢true c.args.row.now c.args.len c.requires.most c.requires.some
    c.requires.first c.requires.last c.args.k 0 c.loop-back.at c.requires.some c.requires.first
    (λ j d some less. i.before j d (omega (arith, some, c.loop-back-test.false)) less)

pub returns-clause-here : goal.returns-clause-here
returns-clause-here g c =
    let i = c.loop-back.invariant in
    whole-here (λ x. is_gt (g.K.Ord.cmp x c.args.k)) false true false≢true c.args.row.now c.args.len c.requires.most c.requires.some c.requires.first c.requires.last c.loop-back.at
    (ends-within (λ x. is_gt (g.K.Ord.cmp x c.args.k)) false true false≢true c.args.row.now c.args.len c.requires.most c.requires.some
    c.requires.first c.requires.last c.args.k 0 c.loop-back.at c.requires.some c.requires.first
    (λ j d some less. i.before j d (omega (arith, some, c.loop-back-test.false)) less))
    i.here
