-- What a listing answers (docs/program.md, "Listing").
use Rattle.std.specs.Prelude.{◌≡◌, ◌⊎◌, ℕ, ◌<◌, List, ◌++◌, false, Some, None, Result, Ok, IfOk, IfErr, OnOk, OnErr}
use Rattle.std.specs.BTreeMap.{BTreeMap}
use Rattle.r4_base.specs.Cell.{cell_fault}
use Rattle.r4_base.specs.Chain.{Settles}
use Rattle.r4_base.specs.Image.{Image, IsLawful, block_at}
use Rattle.r4_base.specs.Key.{least, top}
use Rattle.r4_base.specs.Layout.{super_of}
use Rattle.r4_base.specs.Refusal.{IsRefused}
use Rattle.r4_base.specs.Tree.{Name}
use Rattle.r4_base.specs.Value.{Content}
use Rattle.r4_base.specs.Volume.{HasVolume}
use Rattle.r4_base.specs.declared.items.CellFault.{CellFault}
use Rattle.r4_base.specs.declared.superblock.Super40.{Super40}
use Rattle.r4_outside.specs.Device.{State, TellsReads, Rose}
use Rattle.r4_outside.specs.Sink.{SinkState, AppendsPart}
use Rattle.r4_cell.specs.Seen.{CellSeen, IsReadFrom}
use Rattle.r4_cell.specs.declared.refused.ImageFault.TheVariants.{Layout, Cell}
use Rattle.r4_search.specs.Pool.{IsNamed, IsNamedFrom, place_fault}
use Rattle.r4_base.specs.declared.limits.TheConstants.{LEAST_BLOCKS, MOST_BLOCKS, SUPER_BLOCK}
use Rattle.r4_search.specs.declared.pool.FetchFault.TheVariants.{Read, Damaged, Memory as NoRoom}
use Rattle.r4_list.specs.Listing.{IsListing}
use Rattle.r4_open.specs.Opening.{IsSettledBy, layout_misfit, misfit}
use Rattle.r4_list.specs.Printing.{Prints}
use Rattle.r4_replay.specs.declared.fault.ReplayFault.{ReplayFault}
use Rattle.r4_replay.specs.declared.fault.ReplayFault.TheVariants.{Log as LogRefused, Device as DeviceFailed, Size as BadSize, Memory as NoRoomForLog}
use Rattle.r4_list.specs.declared.fault.ListFault.{ListFault}
use Rattle.r4_list.specs.declared.fault.ListFault.TheVariants.{Log, Image as Refused, Device, Size, Sink, Memory}
use Rattle.r4_open.specs.declared.opened.Unopened.{Unopened}
use Rattle.r4_open.specs.declared.opened.Unopened.TheVariants.{Failed, Layout as Misfit, Memory as NoBuffer}
use Rattle.r4_list.specs.declared.fault.Stop.{Stop}
use Rattle.r4_list.specs.declared.fault.Stop.TheVariants.{Fetch, Sink as SinkFailed, Memory as NoMemory}

-- why the log was not read
abbrev pub log_fault_of : ReplayFault → ListFault
log_fault_of (LogRefused block fault) = Log block fault
log_fault_of (DeviceFailed clock faults) = Device clock faults
log_fault_of (BadSize blocks) = Size blocks
log_fault_of NoRoomForLog = Memory

-- what is answered where printing stopped, with the device's and the sink's counts then
abbrev pub stop_fault_of : Stop → (clock faults : ℕ) → (sink : ℕ) → ListFault
stop_fault_of (Fetch (Read at f)) clock faults sink = Device clock faults
stop_fault_of (Fetch (Damaged at f)) clock faults sink = Refused at (Cell f)
stop_fault_of (Fetch NoRoom) clock faults sink = Memory
stop_fault_of SinkFailed clock faults sink = Sink sink
stop_fault_of NoMemory clock faults sink = Memory

-- why the image was not opened
abbrev pub open_fault_of : Unopened → (clock faults : ℕ) → ListFault
open_fault_of Failed clock faults = Device clock faults
open_fault_of (Misfit block fault) clock faults = Refused block (Layout fault)
open_fault_of NoBuffer clock faults = Memory

-- Where the device tells what reading gives, its image settles to one of which this holds.
abbrev pub OfSettled : State → (Image → Type 0) → Type 0
OfSettled d P = TellsReads d → (image : Image) × Settles d.blocks d.seen image × P image

-- The log is not refused, and neither the superblocks nor the bitmaps of the image that it settles to are.
pub record IsOpened (d : State) : Type 0 where
  pub lawful : IsLawful d.blocks
  pub opened : OfSettled d (λ image. layout_misfit d.blocks image ≡ None)

-- the root as the superblock names it
abbrev pub root_name_of : Super40 → Name
root_name_of s = record { id = s.root_block; level = s.tree_height; lo = least; hi = top }

-- Nodes of the image lead to this name from the root, each accepted at the level and range at which the one above names it.
abbrev pub IsReached : Super40 → Image → Name → Type 0
IsReached s image n = IsNamedFrom (root_name_of s) (IsReadFrom s.block_count image) n

-- A block that is reached at a level and range is refused: it has the fault there; or it is reached at another level or range too, is accepted
-- there, and this tells the two apart.
pub record IsNodeRefused (s : Super40) (image : Image) (at : ℕ) (fault : CellFault) : Type 0 where
  pub name : Name
  pub block : at ≡ name.id
  pub reached : IsReached s image name
  pub why : (cell_fault false s.block_count name.level name.lo name.hi (block_at image at) ≡ Some fault)
      ⊎ ((c : CellSeen) × (other : Name) × (c.id ≡ at) × IsReadFrom s.block_count image c × IsNamed other c × IsReached s image other × (place_fault name c ≡ Some fault))

-- A node of the tree that the image's superblock names is refused.
abbrev pub HasRefusedNode : (blocks : ℕ) → Image → (at : ℕ) → CellFault → Type 0
HasRefusedNode blocks image at fault = (s : Super40) × (super_of blocks (block_at image SUPER_BLOCK.0) ≡ Ok s) × IsNodeRefused s image at fault

-- why printing stopped on a device of these homes and this superblock
abbrev pub IsPrintCause : BTreeMap ℕ ℕ → Super40 → State → SinkState → Stop → State → SinkState → Type 0
IsPrintCause homes s d k (Fetch (Read at faults)) d' k' = Rose d.faults d'.faults
IsPrintCause homes s d k (Fetch (Damaged at fault)) d' k' = TellsReads d → (image : Image) → IsSettledBy d homes image → IsNodeRefused s image at.0 fault
IsPrintCause homes s d k (Fetch NoRoom) d' k' = Unit {0}
IsPrintCause homes s d k SinkFailed d' k' = Rose k.faults k'.faults
IsPrintCause homes s d k NoMemory d' k' = Unit {0}

-- what is answered where printing stopped on a device
abbrev pub IsStopFault : BTreeMap ℕ ℕ → Super40 → State → SinkState → ListFault → State → SinkState → Type 0
IsStopFault homes s d k e d' k' = (stop : Stop) × IsPrintCause homes s d k stop d' k' × (e ≡ stop_fault_of stop d'.clock d'.faults k'.faults)

-- The log is refused so, or the superblocks and the bitmaps of the image that it settles to, and then nothing is printed; or a node there is;
-- or the device or the sink failed.
abbrev pub IsListFault : State → SinkState → ListFault → State → SinkState → Type 0
IsListFault d k (Log block fault) d' k' = IsLawful d.blocks × (TellsReads d → IsRefused d.blocks d.seen (record { block = block.0; fault = fault })) × (k' ≡ k)
IsListFault d k (Refused block (Layout f)) d' k' = IsLawful d.blocks × OfSettled d (λ image. layout_misfit d.blocks image ≡ misfit block.0 f) × (k' ≡ k)
IsListFault d k (Refused block (Cell f)) d' k' = IsOpened d × OfSettled d (λ image. HasRefusedNode d.blocks image block.0 f)
IsListFault d k (Device clock faults) d' k' = Rose d.faults d'.faults × (clock ≡ d'.clock) × (faults ≡ d'.faults)
IsListFault d k (Size blocks) d' k' = (blocks ≡ d.blocks) × ((d.blocks < LEAST_BLOCKS) ⊎ (MOST_BLOCKS < d.blocks)) × (k' ≡ k)
IsListFault d k (Sink faults) d' k' = IsOpened d × Rose k.faults k'.faults × (faults ≡ k'.faults)
IsListFault d k Memory d' k' = IsLawful d.blocks

-- neither the log nor the image is refused
abbrev pub IsUnrefused : ListFault → Type 0
IsUnrefused (Log block fault) = ⊥
IsUnrefused (Refused block fault) = ⊥
IsUnrefused (Device clock faults) = Unit {0}
IsUnrefused (Size blocks) = Unit {0}
IsUnrefused (Sink faults) = Unit {0}
IsUnrefused Memory = Unit {0}

-- All of a text was appended, or a prefix of it where it stops, whatever it stops at; and nothing is refused.
pub record PrintsText {T : Type 0} (text : List ℕ) (k : SinkState) (result : Result T ListFault) (k' : SinkState) : Type 0 where
  pub whole : (before : List ℕ) → k.written ≡ Some before → OnOk result (k'.written ≡ Some (before ++ text))
  pub part : (before : List ℕ) → k.written ≡ Some before → OnErr result (AppendsPart text before k'.written)
  pub unrefused : IfErr result IsUnrefused

-- `list`
pub record Answers {T : Type 0} (path : List ℕ) (d : State) (k : SinkState) (result : Result T ListFault) (d' : State) (k' : SinkState) : Type 0 where
  pub printed : Prints k k'
  -- where the image has a volume, the text is that of the path
  pub text : (m : Content) (text : List ℕ) → TellsReads d → HasVolume d.blocks d.seen m → IsListing m path text → PrintsText text k result k'
  pub ok : IfOk result (λ v. IsOpened d)
  pub err : IfErr result (λ e. IsListFault d k e d' k')
