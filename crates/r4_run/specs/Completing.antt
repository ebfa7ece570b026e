-- When a run comes to its end (docs/program.md, "Running").
use Rattle.std.specs.Prelude.{◌≡◌, List, ℕ, Some, Ok}
use Rattle.r4_base.specs.Image.{IsLawful as IsSize}
use Rattle.r4_base.specs.Value.{Content}
use Rattle.r4_base.specs.Volume.{HasVolume}
use Rattle.r4_outside.specs.Device.{Rose, State, TellsReads}
use Rattle.r4_outside.specs.Sink.{SinkState}
use Rattle.r4_outside.specs.Source.{SourceState}
use Rattle.r4_script.specs.Text.{job_of}
use Rattle.r4_script.specs.declared.job.Job.{Job}

-- Nothing stands against a run of a job: the device tells what reading gives, has a lawful number of
-- blocks and an image with a volume; and no count of failed calls rises, of the device or the sink.
pub record IsClear (d d' : State) (k k' : SinkState) : Type 0 where
  pub size : IsSize d.blocks
  pub reads : TellsReads d
  pub content : Content
  pub volume : HasVolume d.blocks d.seen content
  pub device : Rose d.faults d'.faults → ⊥
  pub sink : Rose k.faults k'.faults → ⊥

-- Nothing stands against a run of scripts: the source tells the text of a job, its count of failed
-- calls does not rise, and nothing stands against a run of the job.
pub record IsUnhindered
    (s s' : SourceState) (d d' : State) (k k' : SinkState) : Type 0
  where
    pub text : List ℕ
    pub told : s.rest ≡ Some text
    pub job : Job
    pub spelled : job_of text ≡ Ok job
    pub source : Rose s.faults s'.faults → ⊥
    pub clear : IsClear d d' k k'
