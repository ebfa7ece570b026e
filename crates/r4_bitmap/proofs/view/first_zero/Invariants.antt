use Rattle.std.proofs.Common.{◌≡◌, ℕ, ◌+◌, ◌*◌, ◌<◌, ◌≤◌, true}
use Rattle.r4_base.specs.Bitmap.{is_used}
use Rattle.r4_bitmap.proofs.view.first_zero.Given as goal

abbrev pub invariant-loop-w : goal.invariant-loop-w
invariant-loop-w l = (k : ℕ) → l.from ≤ k → k + 32 < 64 * l.w → is_used l.b k ≡ true
