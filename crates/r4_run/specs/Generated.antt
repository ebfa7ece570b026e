-- What the command `run` answers of a generated workload (docs/program.md, "Running").
use Rattle.std.specs.Prelude.{◌⊎◌, ℕ, Option}
use Rattle.r4_base.specs.Image.{Image}
use Rattle.r4_gen.specs.Workload.{workload_of}
use Rattle.r4_outside.specs.Device.{State}
use Rattle.r4_outside.specs.Sink.{SinkState}
use Rattle.r4_shared.specs.r4_history.Tables.{asked}
use Rattle.r4_summary.specs.Totals.{summary_text}
use Rattle.r4_words.specs.Options.{StopAsked}
use Rattle.r4_run.specs.Stopping.{IsUnmade, RunsBy}

-- The workload of this seed was run, and the summary of its trace is what is shown; or there was no memory for it.
abbrev pub RunsWorkload : (seed : ℕ) (stop : Option StopAsked) (start : Option Image) (clock : Option ℕ) (d : State)
    (k : SinkState) (code : ℕ) (d' : State) (k' : SinkState) → Type 0
RunsWorkload seed stop start clock d k code d' k' = IsUnmade d k code d' k'
    ⊎ RunsBy (summary_text seed) stop start clock (asked (workload_of seed)) d k code d' k'
