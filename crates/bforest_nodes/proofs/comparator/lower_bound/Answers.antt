use Rattle.std.proofs.Common.{◌-◌, ◌<◌, true, false, get_or, ap, sym, ◌∙◌, inl, inr, arith}
use Rattle.std.proofs.lemmas.Bool.Decides.{eqb_tells}
use Rattle.std.specs.Ordering.{is_lt}
use Rattle.bforest_nodes.proofs.Bounds.{less-at, less-before, told-ge, told-lt}
use Rattle.bforest_nodes.proofs.comparator.lower_bound.Goals.{then-len-eq0-via-then-len-eq0, then-len-eq0-via-else-len-eq0+then-ge}
use Rattle.bforest_nodes.proofs.comparator.lower_bound.Goals as goal

pub returns-then-len-eq0-clause-count : goal.returns-then-len-eq0-clause-count
returns-then-len-eq0-clause-count g c = λ sorted.
    let cmp = g.K.Ord.cmp in
    less-at cmp g.met.K.Ord.total c.args.row.now c.args.len c.args.k c.requires sorted 0 (omega arith) (λ j d low. absurd (omega (arith, low)))
    (λ d some. elim c.then-len-eq0.branch [
      | then-len-eq0-via-then-len-eq0 w ↦ (let none = w.if-len-eq0.true in absurd (omega (arith, some, none)))
      | then-len-eq0-via-else-len-eq0+then-ge w ↦ told-ge cmp g.K.PartialOrd.partial_cmp g.met.K.Ord.matches_partial_cmp c.args.row.now 0 w.index-row-0.result c.args.k (omega (arith, some, c.requires)) w.index-row-0.is true (sym w.if-ge.true ∙ w.ge.ensures) d
    ])

pub returns-then-lt-clause-count : goal.returns-then-lt-clause-count
returns-then-lt-clause-count g c = λ sorted.
    let cmp = g.K.Ord.cmp in
    let row = c.args.row.now in
    let len = c.args.len in
    let some : 0 < len = let ne = c.if-len-eq0.false in omega (arith, ne) in
    let last = told-lt cmp g.K.PartialOrd.partial_cmp g.met.K.Ord.matches_partial_cmp row (len - 1) c.index-row-len.result c.args.k (omega (arith, some, c.requires)) c.index-row-len.is true (sym c.if-lt.true ∙ c.lt.ensures) in
    less-at cmp g.met.K.Ord.total row len c.args.k c.requires sorted len (omega arith)
    (λ j d low. elim (eqb_tells j (len - 1)) [
      | inl w ↦ ap (λ z. is_lt (cmp (get_or row z d) c.args.k)) w.1 ∙ last d
      | inr w ↦ less-before cmp g.met.K.Ord.total row len c.args.k c.requires sorted (len - 1) j d (let ne = w.1 in omega (arith, ne, low)) (omega (arith, some)) (last d)
    ])
    (λ d bad. absurd (omega (arith, bad)))

pub first_not_less-requires : goal.first_not_less-requires
first_not_less-requires g c =
    let cmp = g.K.Ord.cmp in
    let partial = g.K.PartialOrd.partial_cmp in
    let matches = g.met.K.Ord.matches_partial_cmp in
    let row = c.args.row.now in
    let len = c.args.len in
    let some : 0 < len = let ne = c.if-len-eq0.false in omega (arith, ne) in
    record {
      some = some;
      most = c.requires;
      first = told-ge cmp partial matches row 0 c.index-row-0.result c.args.k (omega (arith, some, c.requires)) c.index-row-0.is false (sym c.if-ge.false ∙ c.ge.ensures);
      last = told-lt cmp partial matches row (len - 1) c.index-row-len.result c.args.k (omega (arith, some, c.requires)) c.index-row-len.is false (sym c.if-lt.false ∙ c.lt.ensures);
    }

pub returns-clause-count : goal.returns-clause-count
returns-clause-count g c = λ sorted.
    let r = c.first_not_less.ensures in
    less-at g.K.Ord.cmp g.met.K.Ord.total c.args.row.now c.args.len c.args.k c.requires sorted c.first_not_less.result (omega (arith, r.within))
    (λ j d low. elim (eqb_tells j (c.first_not_less.result - 1)) [
      | inl w ↦ ap (λ z. is_lt (g.K.Ord.cmp (get_or c.args.row.now z d) c.args.k)) w.1 ∙ r.before d
      | inr w ↦ less-before g.K.Ord.cmp g.met.K.Ord.total c.args.row.now c.args.len c.args.k c.requires sorted (c.first_not_less.result - 1) j d (let ne = w.1 in omega (arith, ne, low)) (omega (arith, r.within)) (r.before d)
    ])
    (λ d _. r.here d)
