use Rattle.bforest_core.proofs.{Words.{rules, refl, arith}, walks.Cousins.first-low}
use Rattle.bforest_core.proofs.spot.Spot.prev_other.Goals as goal

pub returns-then-self-lt2 : goal.returns-then-self-lt2
returns-then-self-lt2 g c = record {
  some = tt;
  none = λ none place s. first-low c.requires.union s c.requires.first c.if-self-lt2.true;
  alone = λ alone. refl;
}

pub prev_cousin-requires : goal.prev_cousin-requires
prev_cousin-requires g c = (search rules, (search rules, (c.requires.spot (λ none. omega arith), (omega arith, c.requires.first))))

pub returns : goal.returns
returns g c = record { some = c.prev_cousin.ensures.some; none = c.prev_cousin.ensures.none; alone = λ alone. absurd (omega arith) }
