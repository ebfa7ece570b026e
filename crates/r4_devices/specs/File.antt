-- What a file tells as a device.
use Rattle.std.specs.Prelude.{◌≡◌, ℕ, [], Option, None, Some}
use Rattle.r4_outside.specs.Device.{State}
use Rattle.r4_devices.specs.declared.trouble.FileCall.{FileCall}
use Rattle.r4_devices.specs.declared.trouble.Trouble.{Trouble}

-- A file tells its number of blocks and its counts, and nothing of its content.
abbrev pub file_state : (blocks clock faults : ℕ) → State
file_state blocks clock faults = record {
  blocks = blocks;
  seen = [];
  may_hold = λ m b s x. ⊥;
  clock = clock;
  faults = faults;
  lender = [];
  stop = None;
}

-- What a contract sees of a file as a device: besides that the first call that failed.
pub record FileView : Type 0 where
  pub blocks : ℕ
  pub clock : ℕ
  pub faults : ℕ
  pub trouble : Option Trouble

abbrev pub file_told : FileView → State
file_told d = file_state d.blocks d.clock d.faults

-- A call failed: the first one that did is kept, with its cause.
abbrev pub IsNoted : FileCall → Option Trouble → Option Trouble → Type 0
IsNoted call None new = (t : Trouble) × (new ≡ Some t) × (t.call ≡ call)
IsNoted call (Some first) new = new ≡ Some first
