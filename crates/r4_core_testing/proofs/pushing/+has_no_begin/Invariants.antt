use Rattle.std.proofs.Common.{length}
use Rattle.r4_core_testing.proofs.pushing.+has_no_begin.Given as goal

abbrev pub decreases-has_no_begin : goal.decreases-has_no_begin
decreases-has_no_begin l = length l.commands.now
