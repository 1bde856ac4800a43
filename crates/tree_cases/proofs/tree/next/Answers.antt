use Rattle.tree_cases.proofs.Walks.{go-on}
use Rattle.tree_cases.proofs.tree.next.Goals as goal

pub returns : goal.returns
returns g c = go-on _ _ _ c.next.result c.requires.stands c.next.ensures.stands c.next.ensures.end c.next.ensures.stays
