-- What replay answers and leaves (docs/layout.md, "Replay").
use Rattle.std.specs.Prelude.{◌≡◌, ◌⊎◌, ℕ, ◌<◌, List, [], ◌∷◌, length, Result, Ok, Err}
use Rattle.r4_base.specs.Bytes.{put_all}
use Rattle.r4_base.specs.Image.{Image, IsLawful, block_at, put_pairs, AgreesOutside}
use Rattle.r4_base.specs.Log.{footer_fields}
use Rattle.r4_base.specs.Chain.{Txn, HasLog, Settles, SettlesTo, is_footer, chain_pairs, committed, flushed}
use Rattle.r4_base.specs.Refusal.{Refusal, IsRefused}
use Rattle.r4_base.specs.declared.journal.Footer.{Footer}
use Rattle.r4_outside.specs.Device.{State, TellsReads, Rose, LeavesOnly, Untouched}
use Rattle.r4_replay.specs.declared.fault.Stop.{Stop}
use Rattle.r4_replay.specs.declared.fault.Stop.TheVariants.{Failed, Memory as NoMemory, Log as Fault}
use Rattle.r4_replay.specs.declared.fault.ReplayFault.{ReplayFault}
use Rattle.r4_replay.specs.declared.fault.ReplayFault.TheVariants.{Log, Device, Size, Memory}
use Rattle.r4_replay.specs.declared.replaying.PlacedLog.{PlacedLog}

-- the footer that names a transaction's head, with the head's three numbers
abbrev pub footer_naming : Txn → Footer
footer_naming t = record { last = t.head; free_blocks = t.says.free_blocks; nr_files = t.says.nr_files; next_oid = t.says.next_oid }

-- The footer's block after the replay of a chain: it names the newest transaction, and what follows its numbers stays.
abbrev pub footer_after : List Txn → List ℕ → List ℕ
footer_after [] block = block
footer_after (newest ∷ older) block = put_all (footer_fields (footer_naming newest)) 0 block

-- The transactions of the log were put in place: the device reads as the settled image of what it was, but for the footer's block, and
-- header and footer are equal.
pub record PutInPlace (old : State) (transactions : ℕ) (new : State) : Type 0 where
  pub chain : List Txn
  pub log : HasLog old.blocks old.seen chain
  pub count : transactions ≡ length chain
  pub settled : AgreesOutside is_footer (put_pairs (chain_pairs chain) old.seen) new.seen
  pub footer : block_at new.seen 20 ≡ footer_after chain (block_at old.seen 20)
  pub equal : committed new.seen ≡ flushed new.seen

-- the journal header names this head, where the device tells what reading gives
abbrev pub IsNamed : State → (head : ℕ) → Type 0
IsNamed d head = TellsReads d → head ≡ committed d.seen

-- The log of an image of n blocks is refused so.
abbrev pub RefusedAs : ℕ → Image → Refusal → Type 0
RefusedAs n image r = IsRefused n image r

-- The log of a device of a lawful size, read and put in place.
abbrev pub Works : State → Result PlacedLog Stop → State → Type 0
Works old (Ok log) new = (log.count ≡ 0 → Untouched old new) × (TellsReads old → PutInPlace old log.count new) × IsNamed new log.head.0
Works old (Err (Fault block fault)) new = Untouched old new × (TellsReads old → RefusedAs old.blocks old.seen (record { block = block; fault = fault }))
Works old (Err Failed) new = Rose old.faults new.faults
Works old (Err NoMemory) new = Untouched old new

-- Why nothing was done, or not everything.
abbrev pub Faulted : State → ReplayFault → State → Type 0
Faulted old (Log block fault) new = IsLawful old.blocks × Untouched old new × (TellsReads old → RefusedAs old.blocks old.seen (record { block = block.0; fault = fault }))
Faulted old (Device clock faults) new = Rose old.faults new.faults × (clock ≡ new.clock) × (faults ≡ new.faults)
Faulted old (Size blocks) new = (blocks ≡ old.blocks) × ((blocks < 64) ⊎ (1048576 < blocks)) × Untouched old new
Faulted old Memory new = IsLawful old.blocks × Untouched old new

-- The number of blocks, where a volume may have as many.
abbrev pub CountsBlocks : State → Result ℕ ReplayFault → State → Type 0
CountsBlocks old (Ok n) new = (n ≡ old.blocks) × IsLawful old.blocks
CountsBlocks old (Err fault) new = Faulted old fault new

abbrev pub Replayed : State → Result PlacedLog ReplayFault → State → Type 0
Replayed old (Ok log) new = IsLawful old.blocks × (log.count ≡ 0 → Untouched old new) × (TellsReads old → PutInPlace old log.count new) × IsNamed new log.head.0
Replayed old (Err fault) new = Faulted old fault new

abbrev pub IsDeviceFault : State → ReplayFault → Type 0
IsDeviceFault d fault = fault ≡ Device d.clock d.faults

-- What an image settles to, another one settles to as well, but for the footer's block; and where the one's log is refused, so is the other's.
pub record SettlesAlike (n : ℕ) (base image : Image) : Type 0 where
  pub settled : (s : Image) → Settles n base s → SettlesTo n is_footer s image
  pub refused : (r : Refusal) → IsRefused n base r → IsRefused n image r

-- At each moment from one state to the other a crash leaves only what settles as the first image does.
abbrev pub SettlesAlways : State → State → Type 0
SettlesAlways old new = LeavesOnly old new (SettlesAlike old.blocks old.seen)
