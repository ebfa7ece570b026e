-- What a run leaves on a device that stops where that is asked for (docs/program.md, "Running"), of whose trace the
-- sink gets what is shown of it.
--     RunsBy      a run on a device, or on one over it that stops
--     RanStopped  the second, said of the device that was handed in
use Rattle.std.specs.Prelude.{◌≡◌, ◌⊎◌, ℕ, ◌+◌, ◌-◌, ◌^◌, ◌≤◌, min, Bool, true, false, List, Option, Some, None}
use Rattle.r4_base.specs.Image.{Image}
use Rattle.r4_content.specs.Meaning.{greatest_size}
use Rattle.r4_devices.specs.Stop.{IsCovered, stop_state}
use Rattle.r4_devices.specs.declared.torn.Stop.{Stop}
use Rattle.r4_shared.specs.r4_durable.Meaning.{IsSafeTrace}
use Rattle.r4_lines.specs.Lines.{memory_line}
use Rattle.r4_lines.specs.Printed.{Prints}
use Rattle.r4_outside.specs.Device.{Rose, State, Untouched}
use Rattle.r4_outside.specs.Sink.{SinkState}
use Rattle.r4_trace.specs.Job.{Asked}
use Rattle.r4_trace.specs.declared.entry.Entry.{Entry}
use Rattle.r4_words.specs.Options.{StopAsked}
use Rattle.r4_run.specs.Naming.{named}
use Rattle.r4_run.specs.Running.{EndsSo, IsPrinted, IsTraceOf, Ran}

-- ---- the device that stops

-- the first moment at which it may stop, over a device that was handed in like this
abbrev pub first_stop : StopAsked → State → ℕ
first_stop stop d = min (d.clock + stop.writes) (2 ^ 64 - 1)

-- What it tells over the device e, where d was handed in. `halt` is what it counts since it stopped, where it did.
abbrev pub stopping : StopAsked → (d e : State) → (halt : Option Stop) → State
stopping stop d e halt = stop_state (first_stop stop d) halt e

-- The device's own count rose, or the stop's moment was reached.
abbrev pub MayFail : StopAsked → (d e : State) → Type 0
MayFail stop d e = Rose d.faults e.faults ⊎ (first_stop stop d ≤ e.clock)

-- ---- a run on it

-- It stopped for want of memory: 9, and the line of memory behind as much as is printed of what is shown.
pub record EndsStarved
    (shown : List Entry → List ℕ) (trace : List Entry) (old : SinkState) (code : ℕ) (new : SinkState) : Type 0
  where
    pub nine : code ≡ 9
    pub mid : SinkState
    pub printed : IsPrinted (shown trace) old mid
    pub line : Prints memory_line mid new

abbrev pub EndsOver : (starved : Bool) (shown : List Entry → List ℕ) (start : Option Image) (clock : Option ℕ)
    → Asked → (trace : List Entry) → (d : State) (old : SinkState) (code : ℕ) (e : State) (new : SinkState)
    → Type 0
EndsOver true shown start clock job trace d old code e new = EndsStarved shown trace old code new
EndsOver false shown start clock job trace d old code e new = EndsSo shown start clock job trace d old code e new

-- The run as the device that stops tells it.
pub record RanOver
    (shown : List Entry → List ℕ) (start : Option Image) (clock : Option ℕ) (job : Asked) (d : State)
    (old : SinkState) (starved : Bool) (code : ℕ) (e : State) (new : SinkState) : Type 0
  where
    pub trace : List Entry
    pub is : IsTraceOf (named start clock job) e trace
    pub ends : EndsOver starved shown start clock job trace d old code e new

-- ---- and of the device below

-- A run on a device that stops over one that was handed in, from d to e. It is legal and ends as on any device. What a
-- crash leaves is among what one of the device that stops leaves, and the trace is crash-safe on the device below.
pub record RanStopped
    (shown : List Entry → List ℕ) (stop : StopAsked) (start : Option Image) (clock : Option ℕ) (job : Asked)
    (d : State) (old : SinkState) (code : ℕ) (e : State) (new : SinkState) : Type 0
  where
    pub halt : Option Stop
    pub covered : IsCovered e (stopping stop d e halt)
    pub trace : List Entry
    pub is : IsTraceOf (named start clock job) (stopping stop d e halt) trace
    pub safe : IsSafeTrace greatest_size (named start clock job) trace e
    pub ends : EndsStarved shown trace old code new
        ⊎ EndsSo shown start clock job trace (stopping stop d d None) old code (stopping stop d e halt) new
    pub cause : code ≡ 6 → MayFail stop d e

-- There was no memory to make the device that stops, or the job: nothing was called.
pub record IsUnmade (d : State) (old : SinkState) (code : ℕ) (e : State) (new : SinkState) : Type 0 where
  pub nine : code ≡ 9
  pub idle : Untouched d e
  pub line : Prints memory_line old new

-- A run on a device, or on one over it that stops, where that is asked for.
abbrev pub RunsBy : (shown : List Entry → List ℕ) → Option StopAsked → (start : Option Image) (clock : Option ℕ)
    → Asked → (d : State) (old : SinkState) (code : ℕ) (e : State) (new : SinkState) → Type 0
RunsBy shown None start clock job d old code e new = Ran shown start clock job d old code e new
RunsBy shown (Some stop) start clock job d old code e new =
    IsUnmade d old code e new ⊎ RanStopped shown stop start clock job d old code e new
