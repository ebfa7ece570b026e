use Rattle.std.proofs.Common.{◌*◌}
use Rattle.r4_space.specs.Bitmaps.{IsHeldIn}
use Rattle.r4_space.proofs.check.is_half_held.Given as goal

abbrev pub invariant-loop-i : goal.invariant-loop-i
invariant-loop-i l = IsHeldIn l.blocks (l.n * 32736) (32 * l.j) l.i l.block
