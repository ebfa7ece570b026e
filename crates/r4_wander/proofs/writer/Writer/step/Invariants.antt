use Rattle.r4_wander.proofs.Stepping.{Ran}
use Rattle.r4_wander.proofs.writer.Writer.step.Given as goal

abbrev pub invariant-loop-made : goal.invariant-loop-made
invariant-loop-made g l = Ran l.fn.self (g.D.Device.state l.fn.dev) l._made l.self (g.D.Device.state l.dev)
