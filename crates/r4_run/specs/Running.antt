-- What a run leaves (docs/program.md, "Running"), of whose trace the sink gets what is shown of it.
--     Ran    one trace, which the device, the status and the sink agree with
use Rattle.std.specs.Prelude.{◌≡◌, ◌⊎◌, ◌++◌, ℕ, ◌≤◌, List, [], Option, Some, IsSome, Result}
use Rattle.std.specs.Option.{option_map}
use Rattle.r4_base.specs.Image.{Image, IsLawful as IsSize}
use Rattle.r4_base.specs.Volume.{HasVolume}
use Rattle.r4_content.specs.Locality.{commands}
use Rattle.r4_content.specs.Meaning.{greatest_size}
use Rattle.r4_shared.specs.r4_durable.Meaning.{Beginning, BeginsWith, IsNamed, IsSafeTrace, Names, start_of}
use Rattle.r4_shared.specs.r4_kept.Naming.{job_named, names_of}
use Rattle.r4_lines.specs.Lines.{device_line, memory_line}
use Rattle.r4_lines.specs.Printed.{Gets, GetsPart, Prints}
use Rattle.r4_outside.specs.Device.{Rose, State}
use Rattle.r4_outside.specs.Sink.{SinkState}
use Rattle.r4_print.specs.Printing.{Prints as PrintsSome}
use Rattle.r4_print.specs.declared.printing.PrintFault.{PrintFault}
use Rattle.r4_shared.specs.r4_start.Starting.{IsOpenFault}
use Rattle.r4_shared.specs.r4_start.declared.fault.OpenWhy.{OpenWhy}
use Rattle.r4_trace.specs.Folds.{after_first}
use Rattle.r4_trace.specs.Job.{Asked}
use Rattle.r4_trace.specs.Legal.{IsLegal, IsWhole}
use Rattle.r4_trace.specs.Traced.{broken_at, committed_in, latest}
use Rattle.r4_trace.specs.declared.entry.Entry.{Entry}
use Rattle.r4_run.specs.Ending.{TellsWhy}
use Rattle.r4_run.specs.Naming.{named}
use Rattle.r4_run.specs.declared.ending.End.{End}
use Rattle.r4_run.specs.declared.ending.End.TheVariants.{Opened, Unopened}
use Rattle.r4_run.specs.declared.ending.Standing.{Standing}
use Rattle.r4_run.specs.declared.ending.Standing.TheVariants.{Broken, Unfinished, Whole}

-- ---- the trace

-- It is legal, whatever volume the run began with; no clock in it is above the device's; and it is
-- crash-safe on the device, at each moment of its clock.
pub record IsTraceOf (r : Names) (e : State) (trace : List Entry) : Type 0 where
  pub legal : (o : Option Beginning) → BeginsWith r e.blocks o
      → IsLegal (commands greatest_size) (option_map start_of o) r.job trace
  pub time : latest trace ≤ e.clock
  pub safe : IsSafeTrace greatest_size r trace e

-- Each command of the job is answered, each transaction has ended and is in a committed atom, no call
-- of the device failed; and the device has the volume that all atoms made.
pub record IsWholeRun (r : Names) (job : Asked) (trace : List Entry) (e : State) : Type 0 where
  pub whole : IsWhole job trace
  pub volume : (b : Beginning) → IsNamed r e.blocks b → HasVolume e.blocks e.seen
      (after_first (commands greatest_size) b.content trace (committed_in trace))

-- ---- the status and what is printed

-- A text is printed as far as the sink takes it and there is memory for it.
pub record IsPrinted (text : List ℕ) (old new : SinkState) : Type 0 where
  pub result : Result (Unit {0}) PrintFault
  pub prints : PrintsSome text old result new

-- of a run that was opened
pub record Ends
    (shown : List Entry → List ℕ) (r : Names) (job : Asked) (trace : List Entry) (before : ℕ)
    (old : SinkState) (code : ℕ) (e : State) (new : SinkState) : Type 0
  where
    pub codes : (code ≡ 0) ⊎ ((code ≡ 5) ⊎ ((code ≡ 6) ⊎ (code ≡ 9)))
    pub done : code ≡ 0 → IsWholeRun r job trace e × Gets (shown trace) old new
    pub sink : code ≡ 5 → IsWholeRun r job trace e × GetsPart (shown trace) old new
    -- a call of the device failed: its count rose, and its line stands behind what is shown
    pub device : code ≡ 6 → IsSome (broken_at trace) × Rose before e.faults
        × Prints (shown trace ++ device_line e.clock e.faults) old new
    pub memory : code ≡ 9 → (mid : SinkState)
        × IsPrinted (shown trace) old mid × Prints memory_line mid new

-- and of one that was not opened
pub record IsUnopened
    (d : State) (trace : List Entry) (old : SinkState) (code : ℕ) (e : State) (new : SinkState)
    : Type 0
  where
    pub why : OpenWhy
    pub is : IsOpenFault d why e
    pub tells : TellsWhy why code old new
    pub empty : trace ≡ []

abbrev pub EndsSo : (shown : List Entry → List ℕ) (start : Option Image) (clock : Option ℕ) → Asked
    → (trace : List Entry) → (d : State) (old : SinkState) (code : ℕ) (e : State) (new : SinkState)
    → Type 0
-- an unlawful number of blocks is not passed over
EndsSo shown start clock job trace d old code e new = IsUnopened d trace old code e new
    ⊎ (IsSize d.blocks × Ends shown (named start clock job) job trace d.faults old code e new)

-- ---- the run

-- A run of this job that began with this image and this clock, on a device from d to e, with this
-- status and on a sink from old to new.
pub record Ran
    (shown : List Entry → List ℕ) (start : Option Image) (clock : Option ℕ) (job : Asked) (d : State)
    (old : SinkState) (code : ℕ) (e : State) (new : SinkState) : Type 0
  where
    pub trace : List Entry
    pub is : IsTraceOf (named start clock job) e trace
    pub ends : EndsSo shown start clock job trace d old code e new

-- ---- the run before its last line

-- what is known of a run that came so far
abbrev pub StandsFor : Names → Asked → List Entry → State → Standing → Type 0
StandsFor r job trace e Whole = IsWholeRun r job trace e
StandsFor r job trace e Broken = IsSome (broken_at trace)
StandsFor r job trace e Unfinished = Unit {0}

-- how it ended: it was not opened, or it came so far and so much of what is shown is printed
abbrev pub CameTo : (shown : List Entry → List ℕ) (start : Option Image) (clock : Option ℕ) → Asked
    → (trace : List Entry) → (d : State) (old : SinkState) → End → (e : State) (new : SinkState) → Type 0
CameTo shown start clock job trace d old (Unopened why) e new =
    IsOpenFault d why e × (trace ≡ []) × (new ≡ old)
CameTo shown start clock job trace d old (Opened standing printed) e new =
    IsSize d.blocks × StandsFor (named start clock job) job trace e standing
    × PrintsSome (shown trace) old printed new

pub record Served
    (shown : List Entry → List ℕ) (start : Option Image) (clock : Option ℕ) (job : Asked) (d : State)
    (old : SinkState) (end : End) (e : State) (new : SinkState) : Type 0
  where
    pub trace : List Entry
    pub is : IsTraceOf (named start clock job) e trace
    pub came_to : CameTo shown start clock job trace d old end e new

-- A run of the scripts that are named, which was opened, as its core tells it.
pub record Closed
    (shown : List Entry → List ℕ) (start : Option Image) (clock : Option ℕ)
    (scripts : Option (List ℕ)) (old : SinkState) (standing : Standing)
    (printed : Result (Unit {0}) PrintFault) (e : State) (new : SinkState) : Type 0
  where
    pub job : Asked
    pub trace : List Entry
    pub named_job : (text : List ℕ) → scripts ≡ Some text → job_named scripts ≡ Some job
    pub is : (text : List ℕ) → scripts ≡ Some text
        → IsTraceOf (names_of start clock scripts) e trace
    pub stands : StandsFor (names_of start clock scripts) job trace e standing
    pub prints : PrintsSome (shown trace) old printed new
