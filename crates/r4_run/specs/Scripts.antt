-- What the command `run` answers of scripts (docs/program.md, "Running" and "Lines and statuses").
use Rattle.std.specs.Prelude.{◌≡◌, ◌⊎◌, ◌↔◌, ℕ, ◌≤◌, List, codes, Option, Some, IsSome, Ok, Err}
use Rattle.r4_base.specs.Image.{Image}
use Rattle.r4_shared.specs.r4_history.Tables.{asked}
use Rattle.r4_lines.specs.Lines.{memory_line, script_line, source_line}
use Rattle.r4_lines.specs.Printed.{Prints}
use Rattle.r4_outside.specs.Device.{Rose, State, Untouched}
use Rattle.r4_outside.specs.Sink.{SinkState}
use Rattle.r4_outside.specs.Source.{SourceState}
use Rattle.r4_script.specs.Text.{job_of}
use Rattle.r4_script.specs.declared.fault.ParseFault.{ParseFault}
use Rattle.r4_script.specs.declared.fault.ParseFault.TheVariants as faults
use Rattle.r4_script.specs.declared.fault.ScriptFault.{ScriptFault}
use Rattle.r4_script.specs.declared.fault.What.{What}
use Rattle.r4_script.specs.declared.fault.What.TheVariants as whats
use Rattle.r4_script.specs.declared.job.Job.{Job}
use Rattle.r4_source.specs.declared.reading.ReadFault.{ReadFault}
use Rattle.r4_source.specs.declared.reading.ReadFault.TheVariants as reads
use Rattle.r4_trace.specs.Text.{trace_text}
use Rattle.r4_words.specs.Options.{StopAsked}
use Rattle.r4_run.specs.Stopping.{RunsBy}

-- ---- what is printed of a text

-- what is wrong with it
abbrev pub script_word : What → List ℕ
script_word whats.Command = codes "command"
script_word whats.Field = codes "field"
script_word whats.Number = codes "number"
script_word whats.Path = codes "path"
script_word whats.Text = codes "text"
script_word whats.Nested = codes "nested"
script_word whats.Unopened = codes "unopened"
script_word whats.Open = codes "open"
script_word whats.Scripts = codes "scripts"
script_word whats.Long = codes "long"

-- The code and the line of a text that is no job, and of one that could not be read.
abbrev pub TellsFault : ParseFault → (code : ℕ) → (old new : SinkState) → Type 0
TellsFault (faults.Script f) code old new =
    (code ≡ 3) × Prints (script_line f.line f.column (script_word f.what)) old new
TellsFault faults.Memory code old new = (code ≡ 9) × Prints memory_line old new

abbrev pub TellsUnread : ReadFault → (code : ℕ) → (old new : SinkState) → Type 0
TellsUnread (reads.Source n) code old new = (code ≡ 4) × Prints (source_line n) old new
TellsUnread reads.Memory code old new = (code ≡ 9) × Prints memory_line old new

-- ---- what becomes of a source's text

-- It is not there: the source failed, and counts that, or there was no memory for it.
pub record IsUnread
    (s s' : SourceState) (d : State) (k : SinkState) (code : ℕ) (d' : State) (k' : SinkState)
    : Type 0
  where
    pub idle : Untouched d d'
    pub told : ((code ≡ 4) × Rose s.faults s'.faults × Prints (source_line s'.faults) k k')
        ⊎ ((code ≡ 9) × Prints memory_line k k')

-- It is no job, by this fault.
pub record IsNoJob
    (rest : Option (List ℕ)) (d : State) (k : SinkState) (code : ℕ) (d' : State) (k' : SinkState)
    : Type 0
  where
    pub idle : Untouched d d'
    pub fault : ScriptFault
    pub is : (text : List ℕ) → rest ≡ Some text → job_of text ≡ Err fault
    pub told : TellsFault (faults.Script fault) code k k'

-- It is a job, which was run, and the text of its trace is what is shown.
pub record IsRun
    (stop : Option StopAsked) (start : Option Image) (clock : Option ℕ) (rest : Option (List ℕ))
    (d : State) (k : SinkState) (code : ℕ) (d' : State) (k' : SinkState) : Type 0
  where
    pub job : Job
    pub is : (text : List ℕ) → rest ≡ Some text → job_of text ≡ Ok job
    pub ran : RunsBy trace_text stop start clock (asked job) d k code d' k'

-- The source was read, and its text was run, on a device that stops where that is asked for; or why it was not.
pub record Runs
    (stop : Option StopAsked) (start : Option Image) (clock : Option ℕ) (s s' : SourceState)
    (d : State) (k : SinkState) (code : ℕ) (d' : State) (k' : SinkState) : Type 0
  where
    pub told : IsSome s'.rest ↔ IsSome s.rest
    pub faults : s.faults ≤ s'.faults
    pub came_to : IsUnread s s' d k code d' k'
        ⊎ (IsNoJob s.rest d k code d' k' ⊎ IsRun stop start clock s.rest d k code d' k')
