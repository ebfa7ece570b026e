use Rattle.std.proofs.Common.{◌≡◌, ◌++◌, length}
use Rattle.r4_commit.specs.Planned.{bitmap_writes}
use Rattle.r4_commit.proofs.homes.add_bitmaps.Given as goal

abbrev pub invariant-loop-block : goal.invariant-loop-block
invariant-loop-block l = record {
  homes : l.homes.items ≡ l.fn.homes.items ++ bitmap_writes 0 l.yielded;
  counted : l.n ≡ length l.yielded;
}
