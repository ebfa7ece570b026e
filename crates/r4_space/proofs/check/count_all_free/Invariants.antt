use Rattle.std.proofs.Common.{◌≡◌, ◌≤◌, ◌*◌, take}
use Rattle.r4_space.specs.Bitmaps.{free_bits}
use Rattle.r4_space.proofs.check.count_all_free.Given as goal

abbrev pub invariant-loop-bitmap : goal.invariant-loop-bitmap
invariant-loop-bitmap l = record {
  count : l.count ≡ free_bits (take l.bitmap-index l.bitmaps);
  most : l.count ≤ 32736 * l.bitmap-index;
}
