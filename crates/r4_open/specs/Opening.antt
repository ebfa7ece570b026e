-- The superblocks and the bitmaps of a settled image: what is wrong with them, and where; and what
-- an opening answers (docs/layout.md, "Superblocks" and "Bitmaps").
use Rattle.std.specs.Prelude.{◌≡◌, ℕ, ◌<◌, List, [], length, slice_index_or, Option, Some, None, Result, Ok, Err}
use Rattle.std.specs.BTreeMap.{BTreeMap}
use Rattle.r4_base.specs.Bitmap.{bitmap_block, bitmap_count, bitmap_fault}
use Rattle.r4_base.specs.Chain.{committed}
use Rattle.r4_base.specs.Image.{Image, block_at}
use Rattle.r4_base.specs.Layout.{master_of, super_of}
use Rattle.r4_base.specs.declared.superblock.LayoutFault.{LayoutFault}
use Rattle.r4_base.specs.declared.superblock.LayoutFault.TheVariants.{Bitmap}
use Rattle.r4_base.specs.declared.superblock.Master.{Master}
use Rattle.r4_base.specs.declared.superblock.Super40.{Super40}
use Rattle.r4_outside.specs.Device.{State, TellsReads, Rose}
use Rattle.r4_replay.specs.Homes.{home_in}
use Rattle.r4_space.specs.Bitmaps.{AreBitmapsOf, bitmaps_fault}
use Rattle.r4_open.specs.declared.opened.Opened.{Opened}
use Rattle.r4_open.specs.declared.opened.Unopened.{Unopened}
use Rattle.r4_open.specs.declared.opened.Unopened.TheVariants.{Failed, Layout, Memory}

-- a fault, and the block that it names
pub record Misfit : Type 0 where
  pub block : ℕ
  pub fault : LayoutFault

abbrev pub misfit : ℕ → LayoutFault → Option Misfit
misfit b f = Some (record { block = b; fault = f })

abbrev pub bitmaps_misfit : Option ℕ → Option Misfit
bitmaps_misfit None = None
bitmaps_misfit (Some b) = misfit b Bitmap

abbrev pub format_misfit : Image → Result Super40 LayoutFault → Option Misfit
format_misfit image (Err f) = misfit 17 f
format_misfit image (Ok s) = bitmaps_misfit (bitmap_fault s.block_count s.free_blocks image)

abbrev pub master_misfit : (n : ℕ) → Image → Result Master LayoutFault → Option Misfit
master_misfit n image (Err f) = misfit 16 f
master_misfit n image (Ok m) = format_misfit image (super_of n (block_at image 17))

-- The first fault of a settled image on a device of n blocks: of the master superblock, of the
-- format superblock, of the bitmaps, rising.
abbrev pub layout_misfit : (n : ℕ) → Image → Option Misfit
layout_misfit n image = master_misfit n image (master_of (block_at image 16))

-- the image has each block from where it stands; behind the last block neither has any
abbrev pub IsSettledFrom : State → (home : ℕ → ℕ) → Image → Type 0
IsSettledFrom d home image = (b : ℕ) → block_at image b ≡ block_at d.seen (home b)

abbrev pub IsSettledBy : State → BTreeMap ℕ ℕ → Image → Type 0
IsSettledBy d homes image = IsSettledFrom d (home_in homes) image

-- a block below n stands in one below n
abbrev pub Keeps : (n : ℕ) → (home : ℕ → ℕ) → Type 0
Keeps n home = (b : ℕ) → b < n → home b < n

-- the journal header of the image whose blocks stand in these names this head
abbrev pub NamesHead : State → (home : ℕ → ℕ) → (head : ℕ) → Type 0
NamesHead d home head =
    TellsReads d → (image : Image) → IsSettledFrom d home image → head ≡ committed image

-- The superblock and the bitmaps are those of the image, and have no fault; the head is the one
-- that its journal header names.
pub record IsOpening (n : ℕ) (image : Image) (o : Opened) : Type 0 where
  pub fits : layout_misfit n image ≡ None
  pub super : super_of n (block_at image 17) ≡ Ok o.super40
  pub bitmaps : AreBitmapsOf o.super40.block_count image o.bitmaps.items
  pub head : o.head.0 ≡ committed image

-- What opening answers of the image whose blocks stand in these.
abbrev pub Opens : State → (home : ℕ → ℕ) → Result Opened Unopened → State → Type 0
Opens old home (Ok o) new =
    TellsReads old → (image : Image) → IsSettledFrom old home image → IsOpening old.blocks image o
Opens old home (Err (Layout b f)) new =
    TellsReads old → (image : Image) → IsSettledFrom old home image
    → layout_misfit old.blocks image ≡ misfit b.0 f
Opens old home (Err Failed) new = Rose old.faults new.faults
Opens old home (Err Memory) new = Unit {0}

-- The bitmaps are as many as the superblock's blocks need, and have no fault, whatever the device
-- tells.
pub record AreAccepted (s : Super40) (bitmaps : List (List ℕ)) : Type 0 where
  pub count : length bitmaps ≡ bitmap_count s.block_count
  pub sound : bitmaps_fault s.block_count s.free_blocks bitmaps ≡ None

-- ---- the parts of an opening

-- neither superblock has a fault
pub record HasSupers (n : ℕ) (image : Image) (s : Super40) : Type 0 where
  pub master : (m : Master) × (master_of (block_at image 16) ≡ Ok m)
  pub format : super_of n (block_at image 17) ≡ Ok s

-- what reading the superblocks answers
abbrev pub ReadsSupers : State → (home : ℕ → ℕ) → Result Super40 Unopened → State → Type 0
ReadsSupers old home (Ok s) new =
    TellsReads old → (image : Image) → IsSettledFrom old home image → HasSupers old.blocks image s
ReadsSupers old home (Err (Layout b f)) new =
    TellsReads old → (image : Image) → IsSettledFrom old home image
    → layout_misfit old.blocks image ≡ misfit b.0 f
ReadsSupers old home (Err Failed) new = Rose old.faults new.faults
ReadsSupers old home (Err Memory) new = ⊥

-- the bitmaps of a volume of so many blocks, as far as they were read
pub record AreRead (old : State) (home : ℕ → ℕ) (count : ℕ) (bitmaps : List (List ℕ)) : Type 0 where
  pub count_is : length bitmaps ≡ count
  pub each : TellsReads old → (n : ℕ) → n < count
      → slice_index_or bitmaps n [] ≡ block_at old.seen (home (bitmap_block n))

-- why they were not read
abbrev pub IsReadCause : State → Unopened → State → Type 0
IsReadCause old (Layout b f) new = ⊥
IsReadCause old Failed new = Rose old.faults new.faults
IsReadCause old Memory new = Unit {0}
