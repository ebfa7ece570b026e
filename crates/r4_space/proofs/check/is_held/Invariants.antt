use Rattle.std.proofs.Common.{◌*◌}
use Rattle.r4_space.specs.Bitmaps.{IsHeldIn}
use Rattle.r4_space.proofs.check.is_held.Given as goal

abbrev pub invariant-loop-j : goal.invariant-loop-j
invariant-loop-j l = IsHeldIn l.blocks (l.n * 32736) 0 (32 * l.j) l.block
