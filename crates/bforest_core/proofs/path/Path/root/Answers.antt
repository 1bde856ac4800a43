use Rattle.bforest_core.proofs.Words.{◌-◌, arith, get_or_default}
use Rattle.bforest_core.proofs.path.Path.root.Goals as goal

pub returns : goal.returns
returns g c = get_or_default c.args.self.now.node (c.args.self.now.size - 1) c.index-self-self.result 0 (omega arith)
