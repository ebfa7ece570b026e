-- What `open` answers: a core at the start of its job, on the device with its log in place; or why
-- there is none (docs/core.md, "Opening").
use Rattle.std.specs.Prelude.{◌≡◌, ◌⊎◌, ℕ, ◌^◌, ◌<◌, ◌≤◌, []}
use Rattle.r4_base.specs.Image.{IsLawful as IsSize}
use Rattle.r4_base.specs.Layout.{IsLawfulSuper}
use Rattle.r4_base.specs.Refusal.{IsRefused}
use Rattle.r4_base.specs.Volume.{root_of}
use Rattle.r4_base.specs.declared.limits.TheConstants.{LEAST_BLOCKS, MOST_BLOCKS}
use Rattle.r4_rooms.specs.r4_durable.Kept.{space_of}
use Rattle.r4_open.specs.Opening.{AreAccepted, IsOpening, layout_misfit, misfit}
use Rattle.r4_open.specs.declared.opened.Opened.{Opened}
use Rattle.r4_open.specs.declared.opened.Unopened.{Unopened}
use Rattle.r4_open.specs.declared.opened.Unopened.TheVariants as unopened
use Rattle.r4_outside.specs.Device.{Rose, State, TellsReads, Untouched}
use Rattle.r4_replay.specs.Replay.{PutInPlace}
use Rattle.r4_replay.specs.declared.fault.ReplayFault.{ReplayFault}
use Rattle.r4_replay.specs.declared.fault.ReplayFault.TheVariants as replays
use Rattle.r4_script.specs.declared.job.Job.{Job}
use Rattle.r4_space.specs.Lawful.{IsLawful}
use Rattle.r4_rooms.specs.r4_turns.Turns.{started}
use Rattle.r4_rooms.specs.r4_kept.History.{owed}
use Rattle.r4_rooms.specs.r4_kept.View.{root_seen}
use Rattle.r4_start.specs.declared.fault.OpenWhy.{OpenWhy}
use Rattle.r4_start.specs.declared.fault.OpenWhy.TheVariants.{Device, Image, Log, Memory, Size}
use Rattle.r4_rooms.specs.r4_kept.declared.parts.Numbers.{Numbers}
use Rattle.r4_rooms.specs.r4_kept.declared.parts.Volume.{Volume}
use Rattle.r4_start.specs.declared.starting.Start.{Start}

-- ---- what is found

-- all transactions of the log, however many, were put in place
abbrev pub IsReplayed : (old new : State) → Type 0
IsReplayed old new = (count : ℕ) × PutInPlace old count new

-- The log was put in place, and the image that is there then was opened.
pub record IsFound (old new : State) (o : Opened) : Type 0 where
  pub size : IsSize old.blocks
  pub super40 : IsLawfulSuper new.blocks o.super40
  pub accepted : AreAccepted o.super40 o.bitmaps.items
  pub replayed : TellsReads old → IsReplayed old new
  pub opening : TellsReads new → IsOpening new.blocks new.seen o

-- new objects get ids from the superblock's next one on, and new cells names from 2^63 on
abbrev pub first_numbers : Opened → Numbers
first_numbers o = record { next_oid = o.super40.oid; next_name = 2 ^ 63 }

abbrev pub first_volume : Opened → Volume
first_volume o = record { super40 = o.super40; prev = o.head }

-- ---- why there is none

-- The log is refused, and nothing was written; or it was put in place, and this is the first fault
-- of the superblocks and the bitmaps that are there then. The number of blocks is looked at first.
abbrev pub IsOpenFault : (old : State) → OpenWhy → (new : State) → Type 0
IsOpenFault old (Log block fault) new =
    IsSize old.blocks × Untouched old new
    × (TellsReads old
    → IsRefused old.blocks old.seen (record { block = block.0; fault = fault }))
IsOpenFault old (Image block fault) new =
    IsSize old.blocks
    × (TellsReads old
    → IsReplayed old new × (layout_misfit new.blocks new.seen ≡ misfit block.0 fault))
IsOpenFault old (Device clock faults) new =
    Rose old.faults new.faults × (clock ≡ new.clock) × (faults ≡ new.faults)
IsOpenFault old (Size blocks) new =
    (blocks ≡ old.blocks)
    × ((old.blocks < LEAST_BLOCKS) ⊎ (MOST_BLOCKS < old.blocks))
    × Untouched old new
IsOpenFault old Memory new =
    IsSize old.blocks × (Untouched old new ⊎ (TellsReads old → IsReplayed old new))

-- ---- the parts of an opening

-- what the volume, the turns and the trace begin with
pub record HasStarted (old new : State) (job : Job) (s : Start) : Type 0 where
  pub found : Opened
  pub is_found : IsFound old new found
  pub space : s.space ≡ space_of found
  pub lawful : IsLawful s.space
  pub tree : root_seen s.tree ≡ root_of found.super40
  pub numbers : s.numbers ≡ first_numbers found
  pub volume : s.volume ≡ first_volume found
  pub turns : s.turns ≡ started job
  pub trace : s.trace.entries ≡ []
  pub room : owed (started job) ≤ s.trace.spare

-- why the log was not put in place
abbrev pub fault_of_log : ReplayFault → OpenWhy
fault_of_log (replays.Log block fault) = Log block fault
fault_of_log (replays.Device clock faults) = Device clock faults
fault_of_log (replays.Size blocks) = Size blocks
fault_of_log replays.Memory = Memory

-- and why the image was not opened, on a device of this clock and this count
abbrev pub fault_of_image : (clock faults : ℕ) → Unopened → OpenWhy
fault_of_image clock faults unopened.Failed = Device clock faults
fault_of_image clock faults (unopened.Layout block fault) = Image block fault
fault_of_image clock faults unopened.Memory = Memory
