use Rattle.bforest_core.proofs.Words.{rules, ◌≡◌, ℕ, ◌<◌, arith, refl, ◌∙◌, cases_lt, inl, inr}
use Rattle.bforest_core.proofs.union.CutTree.{branch, cut-none, cut-left, cut-up, cuts-here, height-low, path-top}
use Rattle.bforest_core.proofs.path.Path.cut.Goals as goal

-- something is left in front of another place than the first
more : {place kept : ℕ} → (place ≡ 0 → kept ≡ 0) → (kept ≡ 0 → ⊥) → 0 < place
more {place} none not = elim (cases_lt 0 place) [ inl some ↦ some | inr zero ↦ absurd (not (none (omega arith))) ]

pub root-root-requires : goal.root-root-requires
root-root-requires g c = let h = height-low c.requires.union c.requires.stands.on in (search rules, (omega (arith, h.0), omega (arith, h.1)))

pub cut_below-requires : goal.cut_below-requires
cut_below-requires g c = let w = c.requires.stands in let h = height-low c.requires.union w.on in
    (search rules, (search rules, (c.requires.union.1.capacity, (omega (arith, h.1), (_, _, _, branch c.requires.union w.on (c.root-root.ensures ∙ path-top c.requires.union w.on))))))

pub returns-then-cut_below-eq0 : goal.returns-then-cut_below-eq0
returns-then-cut_below-eq0 g c = cuts-here (λ at. let b = branch c.requires.union at.on (c.root-root.ensures ∙ path-top c.requires.union at.on) in
    cut-none c.requires.union at.on (c.cut_below.ensures.left _ _ _ b) ((c.cut_below.ensures.none _ _ _ b).0 c.if-cut_below-eq0.true)) refl

pub collapse_root-top-requires : goal.collapse_root-top-requires
collapse_root-top-requires g c = let w = c.requires.stands in let h = height-low c.requires.union w.on in
    let is = c.root-root.ensures ∙ path-top c.requires.union w.on in let b = branch c.requires.union w.on is in
    (search rules, (search rules, (omega (arith, h.1), (_, _, cut-up c.requires.union w.on (more (c.cut_below.ensures.none _ _ _ b).1 c.if-cut_below-eq0.false) (c.cut_below.ensures.left _ _ _ b) is))))

pub returns : goal.returns
returns g c = cuts-here (λ at. let is = c.root-root.ensures ∙ path-top c.requires.union at.on in let b = branch c.requires.union at.on is in
    let cuts = c.cut_below.ensures.left _ _ _ b in let some = more (c.cut_below.ensures.none _ _ _ b).1 c.if-cut_below-eq0.false in
    cut-left c.requires.union at.on some cuts is (c.collapse_root-top.ensures.trimmed _ _ (cut-up c.requires.union at.on some cuts is)).1) refl
