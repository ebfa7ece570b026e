use Rattle.r4_outside.specs.Device.{Goes}
use Rattle.r4_outside.specs.Memory.{memory_state}
use Rattle.r4_stop_tests.proofs.images.write_all.Given as goal

abbrev pub invariant-loop-at : goal.invariant-loop-at
invariant-loop-at l = Goes (memory_state l.fn.dev) (memory_state l.dev)
