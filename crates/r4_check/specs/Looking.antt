-- How the calls of a walk go: what each of them reads, prints and counts (docs/check.md).
use Rattle.std.specs.Prelude.{◌≡◌, ℕ, ◌+◌, ◌-◌, ◌<◌, List, ◌++◌, drop, length, slice_get, false, Some}
use Rattle.std.specs.Prelude.{None, Result, IfOk, IfErr, OnOk, OnErr}
use Rattle.std.specs.Arc.{arc_value}
use Rattle.r4_base.specs.Bitmap.{bitmap_count}
use Rattle.r4_base.specs.Cell.{cell_fault, item_names, next_key}
use Rattle.r4_base.specs.Image.{Image}
use Rattle.r4_base.specs.Key.{rank}
use Rattle.r4_base.specs.Node.{Item, items_of}
use Rattle.r4_base.specs.Tree.{Name, Node}
use Rattle.r4_base.specs.Value.{Value}
use Rattle.r4_outside.specs.Device.{State, TellsReads, Rose, next}
use Rattle.r4_outside.specs.Sink.{SinkState, AppendsPart}
use Rattle.r4_open.specs.Opening.{IsSettledBy}
use Rattle.r4_space.specs.Bitmaps.{AreBitmapsOf, marks}
use Rattle.r4_cell.specs.Seen.{CellSeen, node_of}
use Rattle.r4_list.specs.r4_search.Pool.{LeavesDevice}
use Rattle.r4_list.specs.Printing.{Prints}
use Rattle.std.specs.Option.{option_or}
use Rattle.r4_check_objects.specs.Faults.{fault_lines}
use Rattle.r4_check_objects.specs.Held.{counted, held_in}
use Rattle.r4_check.specs.Walk.{Walk, cell_at, found_in, is_reached, leaf_at, leaf_in, look_at, meet, names_below, refusal_at, stats_in, stats_met}
use Rattle.r4_check.specs.declared.settled.Settled.{Settled}
use Rattle.r4_check.specs.declared.tally.Gathered.{Gathered}
use Rattle.r4_check.specs.declared.tally.Tally.{Tally}
use Rattle.r4_check.specs.declared.reading.Named.{Named}
use Rattle.r4_check.specs.declared.reading.Met.{Met}
use Rattle.r4_check.specs.declared.reading.Met.TheVariants.{Cell, Refused}
use Rattle.r4_check.specs.declared.stop.Stop.{Stop}
use Rattle.r4_check.specs.declared.stop.Stop.TheVariants.{Device, Sink, Memory}

-- how many blocks the volume has
abbrev pub blocks_of : Settled → ℕ
blocks_of s = s.found.super40.block_count

-- the bitmaps are the image's
abbrev pub HasMarks : Settled → Image → Type 0
HasMarks s image = AreBitmapsOf (blocks_of s) image s.found.bitmaps.items

-- The image is the one that the device settles to, and these are its bitmaps.
pub record IsGround (s : Settled) (d : State) (image : Image) : Type 0 where
  pub told : TellsReads d
  pub settled : IsSettledBy d s.log.homes image
  pub bitmaps : HasMarks s image

-- a name, as it is asked for
abbrev pub name_of : Named → Name
name_of n = record { id = n.id; level = n.level; lo = rank n.lo; hi = rank n.hi }

-- the cell may stand where it does, on a volume of so many blocks
abbrev pub MayStand : (blocks : ℕ) → CellSeen → Type 0
MayStand blocks c = cell_fault false blocks c.level (rank c.lo) (rank c.hi) c.block ≡ None

-- The cell has the level of the name, and may stand there.
pub record IsAccepted (blocks : ℕ) (n : Named) (c : CellSeen) : Type 0 where
  pub level : c.level ≡ n.level
  pub sound : MayStand blocks c

abbrev pub StandsAs : (blocks : ℕ) → Named → Met → Type 0
StandsAs blocks n (Cell c) = IsAccepted blocks n (arc_value c)
StandsAs blocks n (Refused f) = Unit {0}

-- The block has no fault there and is the cell, or has the fault.
abbrev pub IsReadAs : (blocks : ℕ) → Image → Name → Met → Type 0
IsReadAs blocks image n (Cell c) = (refusal_at blocks image n ≡ None) × (node_of (arc_value c) ≡ cell_at image n)
IsReadAs blocks image n (Refused f) = refusal_at blocks image n ≡ Some f

-- why a block was not read
abbrev pub IsReadCause : State → Stop → State → Type 0
IsReadCause d Device d' = Rose d.faults d'.faults
IsReadCause d Sink d' = ⊥
IsReadCause d Memory d' = Unit {0}

-- What was gathered of cells.
pub record IsGathered (cells : List (ℕ × Node Value)) (g : Gathered) : Type 0 where
  pub objects : g.objects ≡ counted (stats_met cells)
  pub found : g.found.items ≡ found_in cells
  pub leaf : g.leaf ≡ leaf_in cells

-- One cell more is gathered.
pub record Gathers (block : ℕ) (c : Node Value) (old new : Gathered) : Type 0 where
  pub objects : (n : ℕ) → old.objects ≡ counted n → new.objects ≡ counted (n + stats_in c)
  pub found : new.found.items ≡ old.found.items ++ held_in block c
  pub leaf : new.leaf ≡ option_or old.leaf (leaf_at block c)

-- What is counted of a walk, on a volume of so many blocks.
pub record IsTally (blocks : ℕ) (w : Walk) (t : Tally) : Type 0 where
  pub reached : (b : ℕ) → b < blocks → marks t.reached.items b ≡ is_reached w b
  pub gathered : IsGathered w.cells t.gathered
  pub faults : t.faults ≡ counted (length w.faults)
  pub whole : t.whole ≡ w.whole

-- One fault more is counted.
pub record TellsOne (old new : Tally) : Type 0 where
  pub reached : new.reached ≡ old.reached
  pub gathered : new.gathered ≡ old.gathered
  pub faults : new.faults ≡ next old.faults
  pub whole : new.whole ≡ old.whole

-- the tally has a bit for each block of the volume
abbrev pub HasBits : Settled → Tally → Type 0
HasBits s t = length t.reached.items ≡ bitmap_count (blocks_of s)

-- why a walk stopped
abbrev pub IsStopCause : State → SinkState → Stop → State → SinkState → Type 0
IsStopCause d k Device d' k' = Rose d.faults d'.faults
IsStopCause d k Sink d' k' = Rose k.faults k'.faults
IsStopCause d k Memory d' k' = Unit {0}

-- why telling stopped
abbrev pub IsTellCause : SinkState → Stop → SinkState → Type 0
IsTellCause k Device k' = ⊥
IsTellCause k Sink k' = Rose k.faults k'.faults
IsTellCause k Memory k' = ⊥

-- why telling the faults of objects stopped
abbrev pub IsObjectsCause : SinkState → Stop → SinkState → Type 0
IsObjectsCause k Device k' = ⊥
IsObjectsCause k Sink k' = Rose k.faults k'.faults
IsObjectsCause k Memory k' = Unit {0}

-- A call that prints.
pub record Tells {T : Type 0} (k : SinkState) (t : Tally) (result : Result T Stop) (k' : SinkState)
    (t' : Tally) : Type 0 where
  pub prints : Prints k k'
  pub size : length t'.reached.items ≡ length t.reached.items
  pub cause : IfErr result (λ e. IsTellCause k e k')

-- A call that reads and prints.
pub record Goes {T : Type 0} (d : State) (k : SinkState) (t : Tally) (result : Result T Stop) (d' : State)
    (k' : SinkState) (t' : Tally) : Type 0 where
  pub device : LeavesDevice d d'
  pub prints : Prints k k'
  pub size : length t'.reached.items ≡ length t.reached.items
  pub cause : IfErr result (λ e. IsStopCause d k e d' k')

-- A call takes a walk on by this step: it counts what is met, and prints the lines of the faults that are met, or
-- stops within them.
pub record Steps {T : Type 0} (blocks : ℕ) (k : SinkState) (t : Tally) (result : Result T Stop) (k' : SinkState)
    (t' : Tally) (step : Walk → Walk) : Type 0 where
  pub tally : (w : Walk) → IsTally blocks w t → IfOk result (λ _. IsTally blocks (step w) t')
  pub whole : (w : Walk) (base : List ℕ) → IsTally blocks w t → k.written ≡ Some (base ++ fault_lines w.faults)
      → OnOk result (k'.written ≡ Some (base ++ fault_lines (step w).faults))
  pub part : (w : Walk) (base : List ℕ) → IsTally blocks w t → k.written ≡ Some (base ++ fault_lines w.faults)
      → OnErr result (AppendsPart (fault_lines (step w).faults) base k'.written)

-- ---- what the calls do to a walk: over an image that has the bitmaps, and over the one that the device settles to

-- the call meets a data block
abbrev pub MeetsBlock : {T : Type 0} → Settled → (b : ℕ) → SinkState → Tally → Result T Stop → SinkState → Tally
    → Type 0
MeetsBlock {T} s b k t r k' t' = (image : Image) (n : Name) → HasMarks s image → n.id ≡ b → n.level ≡ 0
    → Steps (blocks_of s) k t r k' t' (λ w. meet (blocks_of s) image w n)

-- the call looks at data blocks, which are these names where the first has the key
abbrev pub LooksAtBlocks : {T : Type 0} → Settled → (names : ℕ → List Name) → SinkState → Tally → Result T Stop
    → SinkState → Tally → Type 0
LooksAtBlocks {T} s names k t r k' t' = (image : Image) (levels key : ℕ) → HasMarks s image
    → Steps (blocks_of s) k t r k' t' (λ w. look_at levels (blocks_of s) image w (names key))

-- the call takes the walk on by a step
abbrev pub Walks : {T : Type 0} → Settled → State → (step : ℕ → Image → Walk → Walk) → SinkState → Tally
    → Result T Stop → SinkState → Tally → Type 0
Walks {T} s d step k t r k' t' = (image : Image) → IsGround s d image
    → Steps (blocks_of s) k t r k' t' (step (blocks_of s) image)

-- these are the names that are looked at below a name
abbrev pub IsBelow : Settled → State → Tally → Name → List Name → Type 0
IsBelow s d t n names = (image : Image) (w : Walk) → IsGround s d image → IsTally (blocks_of s) w t
    → names ≡ names_below (blocks_of s) image w n

-- what item i of a cell names, of which this is the item
abbrev pub names_at : CellSeen → (i : ℕ) → Item → List Name
names_at c i it = item_names c.level (next_key (rank c.hi) (drop (i + 1) (items_of c.block))) it

-- the call looks at all that an item of a cell names
abbrev pub LooksAtItem : {T : Type 0} → Settled → State → CellSeen → (i : ℕ) → SinkState → Tally → Result T Stop
    → SinkState → Tally → Type 0
LooksAtItem {T} s d c i k t r k' t' = (image : Image) (it : Item) → IsGround s d image
    → slice_get (items_of c.block) i ≡ Some it
    → Steps (blocks_of s) k t r k' t' (λ w. look_at (c.level - 1) (blocks_of s) image w (names_at c i it))
