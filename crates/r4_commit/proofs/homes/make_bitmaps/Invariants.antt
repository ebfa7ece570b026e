use Rattle.std.proofs.Common.{◌≡◌, ℕ, ◌<◌, [], length}
use Rattle.std.specs.Prelude.{slice_index_or}
use Rattle.r4_commit.specs.Planned.{IsNewBitmap}
use Rattle.r4_commit.proofs.homes.make_bitmaps.Given as goal

abbrev pub invariant-loop-n : goal.invariant-loop-n
invariant-loop-n l = record {
  counted : length l.bitmaps.items ≡ l.n;
  each : (k : ℕ) → k < l.n → IsNewBitmap l.space l.atom k (slice_index_or l.bitmaps.items k []);
}
