use Rattle.std.proofs.Common.{◌≡◌, length}
use Rattle.r4_command_tests.specs.Rising.{is_rising}
use Rattle.r4_command_tests.proofs.contents.is_rising.Given as goal

abbrev pub decreases-loop-rest : goal.decreases-loop-rest
decreases-loop-rest l = length l.rest

abbrev pub invariant-loop-rest : goal.invariant-loop-rest
invariant-loop-rest l = is_rising l.rest ≡ is_rising l.parts
