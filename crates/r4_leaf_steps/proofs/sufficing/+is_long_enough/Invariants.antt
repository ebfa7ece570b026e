use Rattle.std.proofs.Common.{length}
use Rattle.r4_leaf_steps.proofs.sufficing.+is_long_enough.Given as goal

abbrev pub decreases-is_long_enough : goal.decreases-is_long_enough
decreases-is_long_enough l = length l.ups.now
