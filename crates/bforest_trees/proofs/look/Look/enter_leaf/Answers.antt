use Rattle.bforest_trees.proofs.Held.{first-within, on-first}
use Rattle.bforest_trees.proofs.Looking.{entry-there, paired}
use Rattle.bforest_trees.proofs.look.Look.enter_leaf.Goals as goal

pub here-requires : goal.here-requires
here-requires g c =
    let h = c.enter.ensures.holds c.requires.leaf.0 c.requires.leaf.1 c.requires.leaf.2 in
    record { within = first-within h c.enter.ensures.index; paired = paired (on-first h c.enter.ensures.index) }

pub returns : goal.returns
returns g c = record {
  value = λ handle start from. entry-there (on-first (c.enter.ensures.holds handle start from) c.enter.ensures.index) c.here.result c.here.ensures.key c.here.ensures.value;
  look = λ handle start from. on-first (c.enter.ensures.holds handle start from) c.enter.ensures.index;
}
