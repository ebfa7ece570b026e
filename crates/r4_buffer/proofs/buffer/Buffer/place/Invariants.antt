use Rattle.std.proofs.Common.{◌≡◌, ℕ, ◌+◌, length, map}
use Rattle.std.specs.Arc.{arc_value}
use Rattle.r4_buffer.specs.Seen.{buffered}
use Rattle.r4_buffer.specs.Changed.{in_turn, placed}
use Rattle.r4_buffer.proofs.buffer.Buffer.place.Given as goal

abbrev pub invariant-loop-cell : goal.invariant-loop-cell
invariant-loop-cell l = record {
  buffered : (i : ℕ) → buffered l.self i ≡ in_turn placed (map (λ c. arc_value c) l.yielded) i (buffered l.initial.self i);
  spare : l.self.spare + length l.yielded ≡ l.initial.self.spare;
}
