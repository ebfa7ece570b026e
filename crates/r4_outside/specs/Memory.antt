-- What a device in memory tells.
use Rattle.std.specs.Prelude.{ℕ, ◌≡◌, ◌↔◌, ◌⊎◌, ◌-◌, ◌^◌, [], IsTrue, Bool, Contains, List, reverse, length, slice_set, None}
use Rattle.r4_base.specs.Image.{Image, sector}
use Rattle.r4_outside.specs.Device.{Sectors, State, next}
use Rattle.r4_outside.specs.Crash.{picked}
use Rattle.r4_outside.specs.Record.{may}
use Rattle.r4_outside.specs.declared.memory.Call.{Call}
use Rattle.r4_outside.specs.declared.memory.MemoryDevice.{MemoryDevice}

-- what the device holds
abbrev pub memory_image : MemoryDevice → Image
memory_image d = d.blocks.items

-- The state of a device with this image, record (the newest call first) and counts. Without a record it does not tell what a crash leaves.
abbrev pub state_of : Image → Bool → Image → List Call → ℕ → ℕ → State
state_of image keeps start calls clock faults = record {
  blocks = length image;
  seen = image;
  may_hold = λ m b s x. IsTrue keeps × may start calls m b s x;
  clock = clock;
  faults = faults;
  lender = [];
  stop = None;
}

-- what the device tells
abbrev pub memory_state : MemoryDevice → State
memory_state d = state_of (memory_image d) d.keeps d.start.items (reverse d.calls.items) d.clock d.faults

-- what a sector holds in the image that is picked, after a crash at moment m
abbrev pub memory_picked : MemoryDevice → (m pick : ℕ) → Sectors
memory_picked d m pick b s x = x ≡ picked d.start.items (reverse d.calls.items) m pick b s

-- whether the device keeps a record of its writes and good syncs
abbrev pub memory_keeps : MemoryDevice → Bool
memory_keeps d = d.keeps

-- the calls that are to fail
abbrev pub memory_fails : MemoryDevice → List ℕ
memory_fails d = d.fails.items

-- how many reads, writes and syncs were made
abbrev pub memory_calls : MemoryDevice → ℕ
memory_calls d = d.made

-- No call was made yet, and none is to fail.
pub record IsFresh (d : MemoryDevice) : Type 0 where
  pub clock : (memory_state d).clock ≡ 0
  pub faults : (memory_state d).faults ≡ 0
  pub fails : memory_fails d ≡ []
  pub calls : memory_calls d ≡ 0

-- The call that comes next is to fail.
abbrev pub IsPlanned : MemoryDevice → Type 0
IsPlanned d = Contains (memory_fails d) (next (memory_calls d))

-- What else lets a write or a sync fail: the clock is at its end, or no memory is found for the record, where one is kept.
abbrev pub IsStarved : MemoryDevice → Type 0
IsStarved d = ((memory_state d).clock ≡ 2 ^ 64 - 1) ⊎ IsTrue (memory_keeps d)

-- The plan is as it was, and so is whether a record is kept.
pub record KeepsPlan (old new : MemoryDevice) : Type 0 where
  pub fails : memory_fails new ≡ memory_fails old
  pub keeps : memory_keeps new ≡ memory_keeps old

-- A write is made: the device reads so, and where a record is kept a crash may leave each sector of it.
pub record MakesWrite (at : ℕ) (block : List ℕ) (old new : MemoryDevice) : Type 0 where
  pub image : memory_image new ≡ slice_set (memory_image old) at block
  pub sectors : IsTrue (memory_keeps old) → (s : ℕ) → (memory_state new).may_hold (memory_state new).clock at s (sector block s)

-- No sector was written, not even as far as a crash may leave it.
pub record IsIdle (old new : State) : Type 0 where
  pub seen : new.seen ≡ old.seen
  pub may_hold : (m b s : ℕ) (x : List ℕ) → new.may_hold m b s x ↔ old.may_hold m b s x
