use Rattle.std.proofs.Common.{◌≡◌, ℕ, map, take}
use Rattle.std.specs.Arc.{arc_value}
use Rattle.r4_buffer.specs.Seen.{buffered}
use Rattle.r4_buffer.specs.Changed.{in_turn, laid_aside}
use Rattle.r4_buffer.proofs.buffer.Buffer.lay_aside.Given as goal

abbrev pub invariant-loop-cell : goal.invariant-loop-cell
invariant-loop-cell l = record {
  buffered : (i : ℕ) → buffered l.self i ≡ in_turn laid_aside (map (λ c. arc_value c) (take l.cell-index l.old)) i (buffered l.initial.self i);
  spare : l.self.spare ≡ l.initial.self.spare;
}
