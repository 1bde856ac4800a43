use Rattle.control_flow_example.proofs.Edges.{led}
use Rattle.control_flow_example.proofs.cfg.Cfg.leads.Goals as goal
use Rattle.std.proofs.Common.{◌∙◌}

pub returns : goal.returns
returns c = c.contains.ensures.present ∙ led c.self.invariant c.self.view_is c.args.from c.args.to
