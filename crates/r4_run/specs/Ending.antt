-- How far a run came, and what is printed of that (docs/program.md, "Running").
use Rattle.std.specs.Prelude.{◌≡◌, ◌⊎◌, ℕ, None, Result, Ok, Err, IsSome}
use Rattle.r4_base.specs.Words.{layout_word_of, log_word_of}
use Rattle.r4_shared.specs.r4_history.Tables.{asked}
use Rattle.r4_shared.specs.r4_kept.View.{CoreSeen}
use Rattle.r4_lines.specs.Lines.{device_line, image_line, memory_line, size_line}
use Rattle.r4_lines.specs.Printed.{Prints}
use Rattle.r4_outside.specs.Device.{Rose, State}
use Rattle.r4_outside.specs.Sink.{SinkState}
use Rattle.r4_print.specs.declared.printing.PrintFault.{PrintFault}
use Rattle.r4_print.specs.declared.printing.PrintFault.TheVariants.{Sink}
use Rattle.r4_shared.specs.r4_start.declared.fault.OpenWhy.{OpenWhy}
use Rattle.r4_shared.specs.r4_start.declared.fault.OpenWhy.TheVariants.{Device, Image as OfImage, Log, Memory, Size}
use Rattle.r4_trace.specs.Legal.{IsWhole}
use Rattle.r4_run.specs.declared.ending.End.{End}
use Rattle.r4_run.specs.declared.ending.End.TheVariants.{Opened, Unopened}
use Rattle.r4_run.specs.declared.ending.Standing.{Standing}
use Rattle.r4_run.specs.declared.ending.Standing.TheVariants.{Broken, Unfinished, Whole}

-- The run of a core is whole, and no commit is under way.
pub record IsAtEnd {D : Type 0} (c : CoreSeen D) : Type 0 where
  pub sound : c.broken ≡ None
  pub rests : c.commit ≡ None
  pub whole : IsWhole (asked c.turns.job) c.trace.entries

abbrev pub StandsSo : {D : Type 0} → CoreSeen D → Standing → Type 0
StandsSo c Whole = IsAtEnd c
StandsSo c Broken = IsSome c.broken
StandsSo c Unfinished = Unit {0}

-- the device's line, unless the sink failed before
abbrev pub PrintsDevice : State → Result (Unit {0}) PrintFault → (old new : SinkState) → Type 0
PrintsDevice e (Ok x) old new = Prints (device_line e.clock e.faults) old new
PrintsDevice e (Err fault) old new = (fault ≡ Sink) × (new ≡ old)

-- The status by how far the run came and how much of its trace is printed, and what follows that.
pub record TellsServed
    (before : ℕ) (e : State) (s : Standing) (printed : Result (Unit {0}) PrintFault) (code : ℕ)
    (old new : SinkState) : Type 0
  where
    pub codes : (code ≡ 0) ⊎ ((code ≡ 5) ⊎ ((code ≡ 6) ⊎ (code ≡ 9)))
    pub done : code ≡ 0 → (s ≡ Whole) × (printed ≡ Ok tt) × (new ≡ old)
    pub sink : code ≡ 5 → (s ≡ Whole) × (printed ≡ Err Sink) × (new ≡ old)
    pub device : code ≡ 6 → (s ≡ Broken) × Rose before e.faults × PrintsDevice e printed old new
    pub memory : code ≡ 9 → Prints memory_line old new

-- the status and the line of a volume that was not opened
abbrev pub TellsWhy : OpenWhy → (code : ℕ) → (old new : SinkState) → Type 0
TellsWhy (Log block fault) code old new =
    (code ≡ 7) × Prints (image_line block.0 (log_word_of fault)) old new
TellsWhy (OfImage block fault) code old new =
    (code ≡ 7) × Prints (image_line block.0 (layout_word_of fault)) old new
TellsWhy (Device clock faults) code old new =
    (code ≡ 6) × Prints (device_line clock faults) old new
TellsWhy (Size blocks) code old new = (code ≡ 8) × Prints (size_line blocks) old new
TellsWhy Memory code old new = (code ≡ 9) × Prints memory_line old new

-- the status and the last line of a run, by how it ended
abbrev pub TellsEnd : (before : ℕ) → State → End → (code : ℕ) → (old new : SinkState) → Type 0
TellsEnd before e (Unopened why) code old new = TellsWhy why code old new
TellsEnd before e (Opened standing printed) code old new = TellsServed before e standing printed code old new
