-- What a device tells, and what its calls do to that.
use Rattle.std.specs.Prelude.{◌≡◌, ◌≢◌, ◌↔◌, ◌⊎◌, ℕ, ◌+◌, ◌-◌, ◌^◌, ◌<◌, ◌≤◌, min, List, ◌∷◌, length, slice_set, Option, Some, Result, IfOk, OnOk, OnErr, IsErr}
use Rattle.std.specs.Borrow.{GName}
use Rattle.r4_base.specs.Image.{Image, IsBlock, IsImage, block_at, sector}

-- At a block and a sector: the contents that are possible there.
abbrev pub Sectors : Type 1
Sectors = ℕ → ℕ → List ℕ → Type 0

-- What a device tells of itself.
pub record State : Type 1 where
  -- the number of blocks
  pub blocks : ℕ
  -- what reading gives now, block by block; a device that does not tell it has the empty list here
  pub seen : Image
  -- at a moment of the clock: what a crash then may leave; a device that does not tell it allows nothing here
  pub may_hold : ℕ → Sectors
  -- the number of writes and syncs so far, and that of failed calls
  pub clock : ℕ
  pub faults : ℕ
  -- to whom the device goes back, where it is borrowed: the latest borrow first
  pub lender : List GName
  -- the moment from which on its calls may fail by its own will, where there is one
  pub stop : Option ℕ

-- what a borrow of a device tells
abbrev pub lent_to : GName → State → State
lent_to name d = record d { lender = name ∷ d.lender }

-- The device tells what reading gives.
abbrev pub TellsReads : State → Type 0
TellsReads d = IsImage d.blocks d.seen

-- An image of n blocks whose sectors are possible, each one for itself.
pub record HasSectors (n : ℕ) (possible : Sectors) (image : Image) : Type 0 where
  pub blocks : length image ≡ n
  pub whole : (b : ℕ) → b < n → IsBlock (block_at image b)
  pub sectors : (b s : ℕ) → b < n → s < 8 → possible b s (sector (block_at image b) s)

-- An image that a crash at moment m may leave.
abbrev pub Leaves : State → ℕ → Image → Type 0
Leaves d m image = HasSectors d.blocks (d.may_hold m) image

-- The device as it reads is one of its images. So a device where this holds tells what reading gives and what a crash leaves.
abbrev pub TellsCrashes : State → Type 0
TellsCrashes d = Leaves d d.clock d.seen

-- Each sector's content that is possible by P is possible by Q.
pub record AllWithin (n : ℕ) (P Q : Sectors) : Type 0 where
  pub each : (b s : ℕ) (x : List ℕ) → b < n → s < 8 → P b s x → Q b s x

-- What a crash now may leave in a sector is possible by Q.
abbrev pub Within : State → Sectors → Type 0
Within d possible = AllWithin d.blocks (d.may_hold d.clock) possible

-- the sectors of one image
abbrev pub only : Image → Sectors
only image b s x = x ≡ sector (block_at image b) s

-- A crash now leaves what reading gives, and nothing else.
pub record IsQuiet (d : State) : Type 0 where
  pub tells : TellsCrashes d
  pub within : Within d (only d.seen)

-- a count after one more, which stands still at its type's end
abbrev pub next : ℕ → ℕ
next count = min (count + 1) (2 ^ 64 - 1)

-- A count is higher by one or more, or stands at its end.
abbrev pub Rose : ℕ → ℕ → Type 0
Rose before now = next before ≤ now

-- `Failed` comes only where the count of faults rose.
abbrev pub HasCause : {T E : Type 0} → State → Result T E → State → Type 0
HasCause old result new = OnErr result (Rose old.faults new.faults)

-- What every call keeps: the number of blocks, what is told, and what a crash at an earlier moment may leave. No count falls.
pub record Goes (old new : State) : Type 0 where
  pub blocks : new.blocks ≡ old.blocks
  pub lender : new.lender ≡ old.lender
  pub stop : new.stop ≡ old.stop
  pub reads : TellsReads new ↔ TellsReads old
  pub crashes : TellsCrashes new ↔ TellsCrashes old
  pub time : old.clock ≤ new.clock
  pub faults : old.faults ≤ new.faults
  pub earlier : (m b s : ℕ) (x : List ℕ) → m ≤ old.clock → new.may_hold m b s x ↔ old.may_hold m b s x

-- Nothing was written.
pub record Untouched (old new : State) : Type 0 where
  pub seen : new.seen ≡ old.seen
  pub clock : new.clock ≡ old.clock

-- `blocks`
pub record Counts {E : Type 0} (old : State) (result : Result ℕ E) (new : State) : Type 0 where
  pub goes : Goes old new
  pub count : IfOk result (λ n. n ≡ old.blocks)
  pub seen : new.seen ≡ old.seen
  pub clock : new.clock ≡ old.clock
  pub cause : HasCause old result new

-- `read`
pub record Reads {T E : Type 0} (at : ℕ) (got : List ℕ) (old : State) (result : Result T E) (new : State) : Type 0 where
  pub goes : Goes old new
  pub content : TellsReads old → OnOk result (got ≡ block_at old.seen at)
  pub seen : new.seen ≡ old.seen
  pub clock : new.clock ≡ old.clock
  pub cause : HasCause old result new

-- `write`
pub record Writes {T E : Type 0} (at : ℕ) (block : List ℕ) (old : State) (result : Result T E) (new : State) : Type 0 where
  pub goes : Goes old new
  pub seen : OnOk result (new.seen ≡ slice_set old.seen at block)
  pub clock : new.clock ≡ next old.clock
  pub cause : HasCause old result new
  -- a crash may now leave what it might leave before, and in each sector of the block what was written, if the write failed too
  pub no_more : (b s : ℕ) (x : List ℕ) → s < 8 → new.may_hold new.clock b s x → old.may_hold old.clock b s x ⊎ ((b ≡ at) × (x ≡ sector block s))
  pub no_less : (b s : ℕ) (x : List ℕ) → old.may_hold old.clock b s x → new.may_hold new.clock b s x
  -- at the clock's end nothing is touched
  pub over : old.clock ≡ 2 ^ 64 - 1 → IsErr result × (new.seen ≡ old.seen)

-- `sync`
pub record Syncs {T E : Type 0} (old : State) (result : Result T E) (new : State) : Type 0 where
  pub goes : Goes old new
  pub seen : new.seen ≡ old.seen
  pub clock : new.clock ≡ next old.clock
  pub cause : HasCause old result new
  -- a good sync leaves what reading gives, and a failed one is no sync
  pub durable : OnOk result (Within new (only old.seen))
  pub no_more : (b s : ℕ) (x : List ℕ) → new.may_hold new.clock b s x → old.may_hold old.clock b s x
  pub no_less : OnErr result ((b s : ℕ) (x : List ℕ) → old.may_hold old.clock b s x → new.may_hold new.clock b s x)
  pub over : old.clock ≡ 2 ^ 64 - 1 → IsErr result

-- A crash at any moment from one state to the other leaves an image that has P.
pub record LeavesOnly (old new : State) (P : Image → Type 0) : Type 0 where
  pub each : (m : ℕ) (image : Image) → old.clock ≤ m → m ≤ new.clock → Leaves new m image → P image

-- This image with a write that may be torn: each sector of that block for itself is the old or the new one.
pub record IsTorn (at : ℕ) (block : List ℕ) (old new : Image) : Type 0 where
  pub blocks : length new ≡ length old
  pub others : (b : ℕ) → b < length old → b ≢ at → block_at new b ≡ block_at old b
  pub sectors : (s : ℕ) → s < 8 → (sector (block_at new at) s ≡ sector (block_at old at) s) ⊎ (sector (block_at new at) s ≡ sector block s)

-- From one state to the other, blocks outside W are spared: whenever a crash comes, it leaves there what it might have left at the start.
pub record Spares (W : ℕ → Type 0) (old new : State) : Type 0 where
  pub each : (m b s : ℕ) (x : List ℕ) → old.clock ≤ m → m ≤ new.clock → s < 8 → (W b → ⊥) → new.may_hold m b s x → old.may_hold old.clock b s x

-- Two states that tell the same. (An equation of states would lie in Type 1.)
pub record IsAs (old new : State) : Type 0 where
  pub blocks : new.blocks ≡ old.blocks
  pub seen : new.seen ≡ old.seen
  pub clock : new.clock ≡ old.clock
  pub faults : new.faults ≡ old.faults
  pub lender : new.lender ≡ old.lender
  pub stop : new.stop ≡ old.stop
  pub may_hold : (m b s : ℕ) (x : List ℕ) → new.may_hold m b s x ↔ old.may_hold m b s x
