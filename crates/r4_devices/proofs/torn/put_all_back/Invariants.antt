use Rattle.std.proofs.Common.{drop}
use Rattle.r4_devices.specs.Stop.{Keeps}
use Rattle.r4_devices.proofs.Changing.{IsPutBack}
use Rattle.r4_devices.proofs.torn.put_all_back.Given as goal

abbrev pub invariant-loop-block : goal.invariant-loop-block
invariant-loop-block g l = record {
  keeps : Keeps (g.D.Calls.state l.fn.dev) (g.D.Calls.state l.dev);
  back : IsPutBack l.at.0 l.tear l.pick l.number l.held (drop l.block-index l.held) (g.D.Calls.state l.fn.dev) (g.D.Calls.state l.dev);
}
