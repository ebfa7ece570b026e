-- What the command `check` answers and prints (docs/program.md, "Lines and statuses").
use Rattle.std.specs.Prelude.{◌≡◌, ◌≢◌, ◌⊎◌, ℕ, List, [], ◌++◌, codes, decimal, length, Some}
use Rattle.r4_base.specs.Chain.{Settles}
use Rattle.r4_base.specs.Image.{Image, IsLawful}
use Rattle.r4_base.specs.Value.{Content}
use Rattle.r4_base.specs.Volume.{HasLayout, HasVolume}
use Rattle.r4_base.specs.declared.superblock.Super40.{Super40}
use Rattle.r4_outside.specs.Device.{State, TellsReads, Rose, Untouched}
use Rattle.r4_outside.specs.Sink.{SinkState, AppendsPart}
use Rattle.r4_check_laws.specs.r4_list.Lists.{IsOpened}
use Rattle.r4_check_laws.specs.r4_list.Printing.{Prints as PrintsSome}
use Rattle.r4_lines.specs.Lines.{device_line, image_line, memory_line, size_line}
use Rattle.r4_lines.specs.Printed.{Gets, GetsPart, Prints}
use Rattle.r4_offline.specs.Refused.{IsUnlawful, IsUnopened}
use Rattle.r4_check_laws.specs.r4_check.Walk.{faults_of, objects_met, walk_of}
use Rattle.r4_check_laws.specs.r4_check.declared.tree.Verdict.{Verdict}
use Rattle.r4_check_objects.specs.Faults.{fault_lines}
use Rattle.r4_check_objects.specs.Held.{counted}

-- the line that ends a check
abbrev pub count_line : (objects faults : ℕ) → List ℕ
count_line objects faults = codes "objects " ++ decimal objects ++ codes " faults " ++ (decimal faults ++ codes "\n")

-- all that a check prints: the lines of the faults, and the two numbers, each of which stands still at 2^64 - 1
abbrev pub check_text : Super40 → Image → List ℕ
check_text s image = fault_lines (faults_of s image) ++ count_line (counted (objects_met (walk_of s image))) (counted (length (faults_of s image)))

-- Where the device tells what reading gives, and neither the log nor the superblocks nor the bitmaps are refused, this
-- holds of the settled image and its superblock.
abbrev pub OfChecked : State → (Super40 → Image → Type 0) → Type 0
OfChecked d P = (image : Image) (s : Super40) → TellsReads d → Settles d.blocks d.seen image → HasLayout d.blocks image s → P s image

-- The lines of faults were printed as far as the check went, and then a line, as far as the sink takes it.
pub record FaultsThen (d : State) (line : List ℕ) (old new : SinkState) : Type 0 where
  pub checked : SinkState
  pub some : PrintsSome old checked
  pub part : OfChecked d (λ s image. (before : List ℕ) → old.written ≡ Some before → AppendsPart (fault_lines (faults_of s image)) before checked.written)
  pub then_line : Prints line checked new

-- What the command `check` answers with a code. Nothing is written to the device.
pub record ChecksImage (d : State) (k : SinkState) (code : ℕ) (d' : State) (k' : SinkState) : Type 0 where
  pub codes : (code ≡ 0) ⊎ ((code ≡ 1) ⊎ ((code ≡ 5) ⊎ ((code ≡ 6) ⊎ ((code ≡ 7) ⊎ ((code ≡ 8) ⊎ (code ≡ 9))))))
  pub idle : Untouched d d'
  -- all was printed: there is no fault, or there is one
  pub done : code ≡ 0 → IsOpened d × OfChecked d (λ s image. (faults_of s image ≡ []) × Gets (check_text s image) k k')
  -- where there is none, the image has a volume; where there is one, it has none
  pub volume : code ≡ 0 → TellsReads d → (m : Content) × HasVolume d.blocks d.seen m
  pub no_volume : code ≡ 1 → TellsReads d → (m : Content) → HasVolume d.blocks d.seen m → ⊥
  pub found : code ≡ 1 → IsOpened d × OfChecked d (λ s image. (faults_of s image ≢ []) × Gets (check_text s image) k k')
  pub sink : code ≡ 5 → IsOpened d × Rose k.faults k'.faults × OfChecked d (λ s image. GetsPart (check_text s image) k k')
  pub device : code ≡ 6 → Rose d.faults d'.faults × FaultsThen d (device_line d'.clock d'.faults) k k'
  -- no node is refused: that is a fault
  pub image : code ≡ 7 → IsLawful d.blocks × ((block : ℕ) × (what : List ℕ) × IsUnopened d block what × Prints (image_line block what) k k')
  pub size : code ≡ 8 → IsUnlawful d.blocks × Prints (size_line d.blocks) k k'
  -- an unlawful number of blocks is not passed over
  pub size_only : IsUnlawful d.blocks → (code ≡ 8) ⊎ (code ≡ 6)
  pub memory : code ≡ 9 → FaultsThen d memory_line k k'
  -- where nothing stands against it, the image is checked
  pub complete : IsLawful d.blocks → OfChecked d (λ s image. (Rose d.faults d'.faults → ⊥) → (Rose k.faults k'.faults → ⊥)
      → (code ≡ 0) ⊎ ((code ≡ 1) ⊎ (code ≡ 9)))
  -- and where it has a volume, no fault is found
  pub whole : IsLawful d.blocks → TellsReads d → (m : Content) → HasVolume d.blocks d.seen m
      → (Rose d.faults d'.faults → ⊥) → (Rose k.faults k'.faults → ⊥) → (code ≡ 0) ⊎ (code ≡ 9)

-- The code and the line of a verdict: at a fault of the sink, a prefix of the line.
abbrev pub TellsVerdict : Verdict → ℕ → SinkState → SinkState → Type 0
TellsVerdict v code k k' =
    ((code ≡ 5) × GetsPart (count_line v.objects v.faults) k k')
    ⊎ (((code ≡ 0) × (v.faults ≡ 0) × Gets (count_line v.objects v.faults) k k')
    ⊎ ((code ≡ 1) × (v.faults ≢ 0) × Gets (count_line v.objects v.faults) k k'))
