use Rattle.std.proofs.Common.{None, Some}
use Rattle.r4_outside.specs.Memory.{memory_state}
use Rattle.r4_named_tests.proofs.named.run_named.Given as goal

-- the image of the device, and its clock
abbrev pub ghosts-run_scripts : goal.ghosts-run_scripts
ghosts-run_scripts g a = record {
  start = Some (memory_state a.dev.now).seen;
  clock = Some (memory_state a.dev.now).clock;
  scripts = None;
  lender = None;
}
