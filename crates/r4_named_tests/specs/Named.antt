-- What a whole run leaves, where its beginning is named.
use Rattle.std.specs.Prelude.{◌≡◌, ◌++◌, ℕ, List, Some, Ok}
use Rattle.r4_base.specs.Volume.{HasVolume}
use Rattle.r4_content.specs.Locality.{commands}
use Rattle.r4_content.specs.Meaning.{greatest_size}
use Rattle.r4_run.specs.r4_durable.Meaning.{Beginning, IsNamed}
use Rattle.r4_history.specs.Tables.{asked}
use Rattle.r4_outside.specs.Device.{State}
use Rattle.r4_outside.specs.Sink.{SinkState}
use Rattle.r4_run.specs.Naming.{named}
use Rattle.r4_script.specs.Text.{job_of}
use Rattle.r4_script.specs.declared.job.Job.{Job}
use Rattle.r4_trace.specs.Folds.{after_first}
use Rattle.r4_trace.specs.Job.{Asked}
use Rattle.r4_trace.specs.Legal.{IsWhole}
use Rattle.r4_trace.specs.Text.{trace_text}
use Rattle.r4_trace.specs.Traced.{committed_in}
use Rattle.r4_trace.specs.declared.entry.Entry.{Entry}

-- A trace that is whole for the job; the volume that its atoms made of the one before; its text.
pub record IsWholeOf
    (job : Asked) (b : Beginning) (e : State) (old new : SinkState) : Type 0
  where
    pub trace : List Entry
    pub whole : IsWhole job trace
    pub volume : HasVolume e.blocks e.seen
        (after_first (commands greatest_size) b.content trace (committed_in trace))
    pub printed : (before : List ℕ) → old.written ≡ Some before
        → new.written ≡ Some (before ++ trace_text trace)

-- At status 0, for each volume that the image had.
abbrev pub LeavesWhole : (text : List ℕ) → (d e : State) → (old new : SinkState) → (code : ℕ) → Type 0
LeavesWhole text d e old new code = code ≡ 0 → (job : Job) → job_of text ≡ Ok job → (b : Beginning)
    → IsNamed (named (Some d.seen) (Some d.clock) (asked job)) e.blocks b
    → IsWholeOf (asked job) b e old new
