use Rattle.control_flow_example.proofs.cfg.Cfg.split.Given as goal
use Rattle.control_flow_example.specs.Graphs.{blocks, led_over}
use Rattle.std.proofs.Common.{◌≡◌}

abbrev pub invariant-loop-to : goal.invariant-loop-to
invariant-loop-to l = (blocks l.self ≡ blocks l.fn.self) × (l.self ≡ led_over l.fn.self l.block l.tail l.to)
