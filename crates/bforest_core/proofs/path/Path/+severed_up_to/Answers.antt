use Rattle.bforest_core.proofs.Words.{rules, arith, inl, inr, refl}
use Rattle.bforest_core.proofs.union.Detaching.{child-branch, severed-none, severed-some}
use Rattle.bforest_core.proofs.path.Path.+severed_up_to.Goals as goal

pub severed_up_to-below-requires : goal.severed_up_to-below-requires
severed_up_to-below-requires g t c κs within = let b = c.requires.branch.5 in let one = c.requires.capacity in let high = c.if-level-eq0.false in
    (omega arith, (within.0, (within.1, ((λ a m. search rules), (search rules, (one, (omega (arith, c.requires.low), (_, _, _, _, _, child-branch one b high refl))))))))

pub returns-then-at_first-2-clause-count : goal.returns-then-at_first-2-clause-count
returns-then-at_first-2-clause-count g t c = λ table node leaves lower place b. let one = c.requires.capacity in let high = c.if-level-eq0.false in let e = c.severed_up_to-below.ensures in
    let asks = child-branch one b high refl in
    (severed-none one b high (e.count _ _ _ _ _ asks) (e.first _ _ _ _ _ asks) c.if-below-eq0.true c.if-at_first-2.true).0

pub returns-then-at_first-2-clause-first : goal.returns-then-at_first-2-clause-first
returns-then-at_first-2-clause-first g t c = λ table node leaves lower place b. let one = c.requires.capacity in let high = c.if-level-eq0.false in let e = c.severed_up_to-below.ensures in
    let asks = child-branch one b high refl in
    (λ z. (severed-none one b high (e.count _ _ _ _ _ asks) (e.first _ _ _ _ _ asks) c.if-below-eq0.true c.if-at_first-2.true).1, λ z. refl)

pub returns-else-below-eq0-clause-count : goal.returns-else-below-eq0-clause-count
returns-else-below-eq0-clause-count g t c = λ table node leaves lower place b. let one = c.requires.capacity in let high = c.if-level-eq0.false in let e = c.severed_up_to-below.ensures in
    let asks = child-branch one b high refl in
    (severed-some one b high (e.count _ _ _ _ _ asks) (e.first _ _ _ _ _ asks) (λ bare z. elim c.else-below-eq0.either [ inl w ↦ w.1 z | inr w ↦ w bare ])).0

pub returns-else-below-eq0-clause-first : goal.returns-else-below-eq0-clause-first
returns-else-below-eq0-clause-first g t c = λ table node leaves lower place b. let one = c.requires.capacity in let high = c.if-level-eq0.false in let e = c.severed_up_to-below.ensures in
    let asks = child-branch one b high refl in
    (λ z. absurd (omega (arith, z)), λ z. absurd ((severed-some one b high (e.count _ _ _ _ _ asks) (e.first _ _ _ _ _ asks) (λ bare z. elim c.else-below-eq0.either [ inl w ↦ w.1 z | inr w ↦ w bare ])).1 z))
