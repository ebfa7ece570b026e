-- What `mkfs` answers and leaves (docs/volume.md, "A fresh volume").
use Rattle.std.specs.Prelude.{◌≡◌, ◌≢◌, ◌⊎◌, ℕ, ◌+◌, ◌-◌, ◌*◌, ◌^◌, ◌<◌, ◌≤◌, List, ◌++◌, length, replicate, slice_set, take, All, Result, Ok, Err}
use Rattle.r4_base.specs.Image.{Image, IsLawful, block_at}
use Rattle.r4_base.specs.Bitmap.{bitmap_block, bitmap_count, is_used}
use Rattle.r4_base.specs.Volume.{HasVolume, IsLost, empty_volume}
use Rattle.r4_base.specs.Fresh.{IsFreshBut16, IsFreshImage, fresh_free, fresh_super, is_taken}
use Rattle.r4_outside.specs.Device.{State, TellsReads, Rose, LeavesOnly, Untouched}
use Rattle.r4_mkfs.specs.declared.fault.MkfsFault.{MkfsFault}
use Rattle.r4_mkfs.specs.declared.fault.MkfsFault.TheVariants.{Small, Large, Device, Memory}
use Rattle.r4_mkfs.specs.declared.making.Made.{Made}
use Rattle.r4_base.specs.declared.limits.TheConstants.{BITMAP_BITS, FOOTER_BLOCK, FRESH_LEAF, HEADER_BLOCK, LEAST_BLOCKS, MASTER_BLOCK, MOST_BLOCKS, STATUS_BLOCK}

-- a label: at most 16 bytes, none of them zero
abbrev pub IsLabel : List ℕ → Type 0
IsLabel label = (length label ≤ 16) × All (λ x. x ≢ 0) label

-- the 16 bytes of a label on a volume: zeros follow it
abbrev pub full_label : List ℕ → List ℕ
full_label label = label ++ replicate (16 - length label) 0

-- The image has the empty volume, with the superblock of a fresh one and no lost block.
pub record IsEmptyVolume (n : ℕ) (image : Image) : Type 0 where
  pub volume : HasVolume n image empty_volume
  pub super : volume.content.super ≡ fresh_super n
  pub none_lost : (b : ℕ) → IsLost volume.content b → ⊥

-- The device reads as a fresh volume of this label.
pub record IsMade (label : List ℕ) (d : State) : Type 0 where
  pub fresh : IsFreshImage d.blocks (full_label label) d.seen
  pub empty : IsEmptyVolume d.blocks d.seen

abbrev pub Answers : (label : List ℕ) → State → Result Made MkfsFault → State → Type 0
Answers label old (Ok made) new = IsLawful old.blocks × (made.blocks ≡ old.blocks) × (made.free ≡ fresh_free old.blocks) × (TellsReads old → IsMade label new)
Answers label old (Err (Small blocks)) new = (blocks ≡ old.blocks) × (blocks < LEAST_BLOCKS) × Untouched old new
Answers label old (Err (Large blocks)) new = (blocks ≡ old.blocks) × (MOST_BLOCKS < blocks) × Untouched old new
Answers label old (Err (Device clock faults)) new = Rose old.faults new.faults × (clock ≡ new.clock) × (faults ≡ new.faults)
Answers label old (Err Memory) new = IsLawful old.blocks × Untouched old new

-- Whenever a crash comes, the master superblock's block is what it was, or all the rest of a fresh volume is there.
abbrev pub MakesInOrder : State → State → Type 0
MakesInOrder old new = LeavesOnly old new (λ image. (block_at image MASTER_BLOCK.0 ≡ block_at old.seen MASTER_BLOCK.0) ⊎ IsFreshBut16 old.blocks image)

-- ---- which blocks are written

-- a block that mkfs writes on a device of n blocks: 16 to 23, and each bitmap
abbrev pub IsWritten : (n b : ℕ) → Type 0
IsWritten n b = ((MASTER_BLOCK.0 ≤ b) × (b ≤ FRESH_LEAF.0)) ⊎ ((k : ℕ) × (k < bitmap_count n) × (b ≡ bitmap_block k))

-- how many calls that takes: those blocks, each written once, and two syncs
abbrev pub calls_of : (n : ℕ) → ℕ
calls_of n = bitmap_count n + 9

-- So many calls were made, where the clock does not come to its end.
abbrev pub TakesCalls : (calls : ℕ) (old new : State) → Type 0
TakesCalls calls old new = old.clock + calls < 2 ^ 64 → new.clock ≡ old.clock + calls

-- ---- the parts

-- a block that is written before the master superblock's
abbrev pub IsRest : (n b : ℕ) → Type 0
IsRest n b = IsWritten n b × (b ≢ MASTER_BLOCK.0)

-- zeros as the journal header, the journal footer and the status block
abbrev pub with_zeros : Image → Image
with_zeros image = slice_set (slice_set (slice_set image HEADER_BLOCK.0 (replicate 4096 0)) FOOTER_BLOCK.0 (replicate 4096 0)) STATUS_BLOCK.0 (replicate 4096 0)

-- The first bitmaps of an image are those of a fresh volume of n blocks.
pub record HasBitmaps (n count : ℕ) (image : Image) : Type 0 where
  pub bits : (k i : ℕ) → k < count → i < BITMAP_BITS → is_used (block_at image (bitmap_block k)) i ≡ is_taken n (k * BITMAP_BITS + i)
  pub fronts : (k : ℕ) → k < count → take 4 (block_at image (bitmap_block k)) ≡ replicate 4 0

abbrev pub IsDeviceFault : State → MkfsFault → Type 0
IsDeviceFault d fault = fault ≡ Device d.clock d.faults

-- The number of blocks, where a volume may have as many.
abbrev pub CountsBlocks : State → Result ℕ MkfsFault → State → Type 0
CountsBlocks old (Ok n) new = (n ≡ old.blocks) × IsLawful old.blocks
CountsBlocks old (Err (Small blocks)) new = (blocks ≡ old.blocks) × (blocks < LEAST_BLOCKS)
CountsBlocks old (Err (Large blocks)) new = (blocks ≡ old.blocks) × (MOST_BLOCKS < blocks)
CountsBlocks old (Err (Device clock faults)) new = Rose old.faults new.faults × (clock ≡ new.clock) × (faults ≡ new.faults)
CountsBlocks old (Err Memory) new = ⊥
