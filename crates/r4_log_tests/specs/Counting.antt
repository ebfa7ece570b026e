-- What a device without blocks to read tells: its number of blocks and its counts.
use Rattle.std.specs.Prelude.{ℕ, [], None}
use Rattle.r4_outside.specs.Device.{State}

abbrev pub counting_state : (blocks clock faults : ℕ) → State
counting_state blocks clock faults = record {
  blocks = blocks;
  seen = [];
  may_hold = λ m b s x. ⊥;
  clock = clock;
  faults = faults;
  lender = [];
  stop = None;
}
