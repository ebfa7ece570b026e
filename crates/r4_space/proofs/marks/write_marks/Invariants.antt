use Rattle.std.proofs.Common.{◌≡◌, ℕ, ◌+◌, ◌*◌, ◌<◌, length, take, get_or, false, ◌||◌}
use Rattle.std.specs.Prelude.{nat_le, replicate}
use Rattle.r4_base.specs.Bitmap.{is_used}
use Rattle.r4_space.proofs.marks.write_marks.Given as goal

abbrev pub invariant-loop-j : goal.invariant-loop-j
invariant-loop-j l = record {
  front : take 4 l.block ≡ replicate 4 0;
  done : (i : ℕ) → i < 32 * l.j → is_used l.block i ≡ (nat_le (length l.marked) (l.n * 32736 + i) || (get_or l.marked (l.n * 32736 + i) false || get_or l.placed (l.n * 32736 + i) false));
}
