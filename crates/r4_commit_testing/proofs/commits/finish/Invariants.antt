use Rattle.std.proofs.Common.{◌<◌}
use Rattle.r4_outside.specs.Device.{Goes}
use Rattle.r4_outside.specs.Memory.{memory_state}
use Rattle.r4_wander.specs.Progress.{FitOn}
use Rattle.r4_commit_testing.proofs.commits.finish.Given as goal

abbrev pub invariant-loop-step : goal.invariant-loop-step
invariant-loop-step l = record {
  at : l.commit.work.part < 4;
  fits : FitOn (memory_state l.dev).blocks l.commit.work.plan;
  goes : Goes (memory_state l.fn.dev) (memory_state l.dev);
}
