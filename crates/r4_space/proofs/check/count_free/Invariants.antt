use Rattle.std.proofs.Common.{◌≡◌, ◌*◌, ◌≤◌, take, not}
use Rattle.std.specs.Prelude.{count_by}
use Rattle.r4_base.specs.Bitmap.{bits_of}
use Rattle.r4_space.proofs.check.count_free.Given as goal

abbrev pub invariant-loop-j : goal.invariant-loop-j
invariant-loop-j l = record {
  count : l.count ≡ count_by not (take (32 * l.j) (bits_of l.block));
  most : l.count ≤ 32 * l.j;
}
