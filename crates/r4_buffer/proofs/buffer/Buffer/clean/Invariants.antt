use Rattle.std.proofs.Common.{◌≡◌, ℕ, take}
use Rattle.r4_buffer.specs.Seen.{buffered}
use Rattle.r4_buffer.specs.Changed.{in_turn, cleaned}
use Rattle.r4_buffer.proofs.buffer.Buffer.clean.Given as goal

abbrev pub invariant-loop-id : goal.invariant-loop-id
invariant-loop-id l = record {
  buffered : (i : ℕ) → buffered l.self i ≡ in_turn cleaned (take l.id-index l.ids) i (buffered l.initial.self i);
  spare : l.self.spare ≡ l.initial.self.spare;
}
