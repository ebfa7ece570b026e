use Rattle.r4_space.proofs.HalfLaws.{AreRead}
use Rattle.r4_space.proofs.check.read_marks.Given as goal

abbrev pub invariant-loop-w : goal.invariant-loop-w
invariant-loop-w l = AreRead l.bitmaps l.words.items l.w
