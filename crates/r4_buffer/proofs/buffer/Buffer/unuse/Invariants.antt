use Rattle.std.proofs.Common.{◌≡◌, ℕ, take}
use Rattle.r4_buffer.specs.Seen.{buffered}
use Rattle.r4_buffer.specs.Changed.{in_turn, unused}
use Rattle.r4_buffer.proofs.buffer.Buffer.unuse.Given as goal

abbrev pub invariant-loop-id : goal.invariant-loop-id
invariant-loop-id l = record {
  buffered : (i : ℕ) → buffered l.self i ≡ in_turn unused (take l.id-index l.ids) i (buffered l.initial.self i);
  spare : l.self.spare ≡ l.initial.self.spare;
}
