use Rattle.std.proofs.Common.{◌≡◌, ℕ, ◌<◌, [], length}
use Rattle.std.specs.Prelude.{replicate, slice_index_or}
use Rattle.r4_check.proofs.blocks.no_blocks.Given as goal

abbrev pub invariant-loop-n : goal.invariant-loop-n
invariant-loop-n l = (length l.bitmaps.items ≡ l.n) × ((i : ℕ) → i < l.n → slice_index_or l.bitmaps.items i [] ≡ replicate 4096 0)
