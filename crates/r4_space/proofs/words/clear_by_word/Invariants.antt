use Rattle.std.proofs.Common.{◌*◌}
use Rattle.r4_space.specs.Words.{is_set, IsFull}
use Rattle.r4_space.proofs.words.clear_by_word.Given as goal

abbrev pub invariant-loop-w : goal.invariant-loop-w
invariant-loop-w l = IsFull (is_set l.words) (64 * l.w) l.from
