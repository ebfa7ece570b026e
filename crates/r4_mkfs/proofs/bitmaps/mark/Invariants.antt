use Rattle.std.proofs.Common.{◌≡◌, take}
use Rattle.r4_mkfs.proofs.Marks.{IsMarked}
use Rattle.r4_mkfs.proofs.bitmaps.mark.Given as goal

abbrev pub invariant-loop-i : goal.invariant-loop-i
invariant-loop-i l = record {
  marked : IsMarked l.from l.i l.fn.bytes l.bytes;
  front : take 4 l.bytes ≡ take 4 l.fn.bytes;
}
