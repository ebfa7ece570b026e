-- What a check answers (docs/check.md).
use Rattle.std.specs.Prelude.{◌≡◌, ℕ, List, ◌++◌, length, Some, Result, IfOk, IfErr, OnOk, OnErr}
use Rattle.r4_base.specs.Chain.{Settles}
use Rattle.r4_base.specs.Image.{Image}
use Rattle.r4_base.specs.Volume.{HasLayout}
use Rattle.r4_base.specs.declared.superblock.Super40.{Super40}
use Rattle.r4_outside.specs.Device.{State, TellsReads}
use Rattle.r4_outside.specs.Sink.{SinkState, AppendsPart}
use Rattle.r4_cell.specs.declared.refused.ImageFault.TheVariants.{Layout, Cell}
use Rattle.r4_list.specs.Lists.{IsListFault, IsOpened, IsUnrefused}
use Rattle.r4_list.specs.Printing.{Prints}
use Rattle.r4_list.specs.declared.fault.ListFault.{ListFault}
use Rattle.r4_list.specs.declared.fault.ListFault.TheVariants.{Log, Image as Refused, Device, Size, Sink, Memory}
use Rattle.r4_check_objects.specs.Faults.{fault_lines}
use Rattle.r4_check_objects.specs.Held.{counted}
use Rattle.r4_check.specs.Walk.{Walk, check_of, objects_met}
use Rattle.r4_check.specs.declared.stop.Stop.{Stop}
use Rattle.r4_check.specs.declared.stop.Stop.TheVariants.{Device as NoDevice, Sink as NoSink, Memory as NoMemory}
use Rattle.r4_check.specs.declared.tree.Verdict.{Verdict}

-- what is answered where a walk stopped, with the device's and the sink's counts then
abbrev pub fault_of_stop : Stop → (clock faults : ℕ) → (sink : ℕ) → ListFault
fault_of_stop NoDevice clock faults sink = Device clock faults
fault_of_stop NoSink clock faults sink = Sink sink
fault_of_stop NoMemory clock faults sink = Memory

-- What is counted of a walk.
pub record IsVerdict (w : Walk) (v : Verdict) : Type 0 where
  pub objects : v.objects ≡ counted (objects_met w)
  pub faults : v.faults ≡ counted (length w.faults)

-- All of a text was appended, or a prefix of it where printing stops.
pub record PrintsLines {T E : Type 0} (text : List ℕ) (k : SinkState) (result : Result T E)
    (k' : SinkState) : Type 0 where
  pub whole : (before : List ℕ) → k.written ≡ Some before → OnOk result (k'.written ≡ Some (before ++ text))
  pub part : (before : List ℕ) → k.written ≡ Some before → OnErr result (AppendsPart text before k'.written)

-- The lines of a walk's faults are printed, or a prefix of them where printing stops; and at the end they are counted.
pub record PrintsWalk {E : Type 0} (w : Walk) (k : SinkState) (result : Result Verdict E)
    (k' : SinkState) : Type 0 where
  pub verdict : IfOk result (λ v. IsVerdict w v)
  pub text : PrintsLines (fault_lines w.faults) k result k'

-- no node is refused: a check prints that
abbrev pub IsNoNode : ListFault → Type 0
IsNoNode (Log block fault) = Unit {0}
IsNoNode (Refused block (Layout f)) = Unit {0}
IsNoNode (Refused block (Cell f)) = ⊥
IsNoNode (Device clock faults) = Unit {0}
IsNoNode (Size blocks) = Unit {0}
IsNoNode (Sink faults) = Unit {0}
IsNoNode Memory = Unit {0}

-- `check`
pub record Checks (d : State) (k : SinkState) (result : Result Verdict ListFault) (d' : State)
    (k' : SinkState) : Type 0 where
  pub printed : Prints k k'
  -- where neither the log nor the superblocks nor the bitmaps are refused, the faults are those of the tree and its objects
  pub tree : (image : Image) (s : Super40) → TellsReads d → Settles d.blocks d.seen image → HasLayout d.blocks image s
      → PrintsWalk (check_of s image) k result k' × IfErr result IsUnrefused
  pub ok : IfOk result (λ v. IsOpened d)
  pub err : IfErr result (λ e. IsListFault d k e d' k' × IsNoNode e)
