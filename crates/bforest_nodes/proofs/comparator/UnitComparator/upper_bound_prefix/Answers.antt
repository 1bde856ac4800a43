use Rattle.std.proofs.Common.{◌-◌, ◌<◌, true, false, get_or, not, take, ap, sym, ◌∙◌, inl, inr, arith}
use Rattle.std.proofs.lemmas.List.{length-take-le}
use Rattle.std.proofs.lemmas.List.Sums.{count_by-le-length}
use Rattle.std.proofs.lemmas.Bool.Decides.{eqb_tells}
use Rattle.std.specs.Ordering.{is_gt}
use Rattle.bforest_nodes.proofs.Bounds.{told-gt, told-le, up_to-at, up_to-before}
use Rattle.bforest_nodes.proofs.comparator.UnitComparator.upper_bound_prefix.Goals.{then-len-eq0-via-then-len-eq0, then-len-eq0-via-else-len-eq0+then-gt}
use Rattle.bforest_nodes.proofs.Searched.{up_to-absent, up_to-found}
use Rattle.bforest_nodes.proofs.comparator.UnitComparator.upper_bound_prefix.Goals as goal

pub returns-in-Ok : goal.returns-in-Ok
returns-in-Ok g c = λ sorted.
    let cmp = g.K.Ord.cmp in
    let keys = take c.args.len c.args.row.now in
    let found = up_to-found cmp c.args.k g.met.K.Ord.total keys c.in-Ok.at sorted (sym (c.scan.ensures sorted) ∙ c.in-Ok.is) in
    let least = count_by-le-length (λ x. not (is_gt (cmp x c.args.k))) keys in
    let len = length-take-le c.args.len c.args.row.now c.requires in
    let fits = c.ranges.len.fits in
    omega (arith, found, least, len, fits, c.saturating_add.ensures)

pub returns-in-Err : goal.returns-in-Err
returns-in-Err g c = λ sorted.
    sym (up_to-absent g.K.Ord.cmp c.args.k g.met.K.Ord.total (take c.args.len c.args.row.now) c.in-Err.at sorted (sym (c.scan.ensures sorted) ∙ c.in-Err.is))

pub returns-then-len-eq0 : goal.returns-then-len-eq0
returns-then-len-eq0 g c = λ sorted.
    let cmp = g.K.Ord.cmp in
    up_to-at cmp g.met.K.Ord.total c.args.row.now c.args.len c.args.k c.requires sorted 0 (omega arith) (λ j d low. absurd (omega (arith, low)))
    (λ d some. elim c.then-len-eq0.branch [
      | then-len-eq0-via-then-len-eq0 w ↦ (let none = w.if-len-eq0.true in absurd (omega (arith, some, none)))
      | then-len-eq0-via-else-len-eq0+then-gt w ↦ told-gt cmp g.K.PartialOrd.partial_cmp g.met.K.Ord.matches_partial_cmp c.args.row.now 0 w.index-row-0.result c.args.k (omega (arith, some, c.requires)) w.index-row-0.is true (sym w.if-gt.true ∙ w.gt.ensures) d
    ])

pub returns-then-le : goal.returns-then-le
returns-then-le g c = λ sorted.
    let cmp = g.K.Ord.cmp in
    let row = c.args.row.now in
    let len = c.args.len in
    let some : 0 < len = let ne = c.if-len-eq0.false in omega (arith, ne) in
    let last = told-le cmp g.K.PartialOrd.partial_cmp g.met.K.Ord.matches_partial_cmp row (len - 1) c.index-row-len.result c.args.k (omega (arith, some, c.requires)) c.index-row-len.is true (sym c.if-le.true ∙ c.le.ensures) in
    up_to-at cmp g.met.K.Ord.total row len c.args.k c.requires sorted len (omega arith)
    (λ j d low. elim (eqb_tells j (len - 1)) [
      | inl w ↦ ap (λ z. is_gt (cmp (get_or row z d) c.args.k)) w.1 ∙ last d
      | inr w ↦ up_to-before cmp g.met.K.Ord.total row len c.args.k c.requires sorted (len - 1) j d (let ne = w.1 in omega (arith, ne, low)) (omega (arith, some)) (last d)
    ])
    (λ d bad. absurd (omega (arith, bad)))

pub first_greater-requires : goal.first_greater-requires
first_greater-requires g c =
    let cmp = g.K.Ord.cmp in
    let partial = g.K.PartialOrd.partial_cmp in
    let matches = g.met.K.Ord.matches_partial_cmp in
    let row = c.args.row.now in
    let len = c.args.len in
    let some : 0 < len = let ne = c.if-len-eq0.false in omega (arith, ne) in
    record {
      some = some;
      most = c.requires;
      first = told-gt cmp partial matches row 0 c.index-row-0.result c.args.k (omega (arith, some, c.requires)) c.index-row-0.is false (sym c.if-gt.false ∙ c.gt.ensures);
      last = told-le cmp partial matches row (len - 1) c.index-row-len.result c.args.k (omega (arith, some, c.requires)) c.index-row-len.is false (sym c.if-le.false ∙ c.le.ensures);
    }

pub returns : goal.returns
returns g c = λ sorted.
    let r = c.first_greater.ensures in
    up_to-at g.K.Ord.cmp g.met.K.Ord.total c.args.row.now c.args.len c.args.k c.requires sorted c.first_greater.result (omega (arith, r.within))
    (λ j d low. elim (eqb_tells j (c.first_greater.result - 1)) [
      | inl w ↦ ap (λ z. is_gt (g.K.Ord.cmp (get_or c.args.row.now z d) c.args.k)) w.1 ∙ r.before d
      | inr w ↦ up_to-before g.K.Ord.cmp g.met.K.Ord.total c.args.row.now c.args.len c.args.k c.requires sorted (c.first_greater.result - 1) j d (let ne = w.1 in omega (arith, ne, low)) (omega (arith, r.within)) (r.before d)
    ])
    (λ d _. r.here d)
