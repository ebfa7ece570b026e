use Rattle.std.proofs.Common.{◌≡◌, drop}
use Rattle.r4_space.specs.Bitmaps.{first_unheld_of}
use Rattle.r4_space.proofs.check.find_unheld.Given as goal

abbrev pub invariant-loop-n : goal.invariant-loop-n
invariant-loop-n l = first_unheld_of l.blocks 0 l.bitmaps ≡ first_unheld_of l.blocks l.n (drop l.n l.bitmaps)
