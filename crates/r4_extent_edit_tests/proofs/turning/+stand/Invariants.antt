use Rattle.std.proofs.Common.{length}
use Rattle.r4_extent_edit_tests.proofs.turning.+stand.Given as goal

abbrev pub decreases-stand : goal.decreases-stand
decreases-stand l = length l.leaves.now
