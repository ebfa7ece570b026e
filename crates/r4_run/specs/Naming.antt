-- With what a run begins, as far as it is named.
use Rattle.std.specs.Prelude.{◌≡◌, ℕ, List, Option, Some, None, IsSome, Ok}
use Rattle.std.specs.Borrow.{GName}
use Rattle.r4_base.specs.Image.{Image}
use Rattle.r4_shared.specs.r4_durable.Meaning.{Names}
use Rattle.r4_outside.specs.Device.{IsQuiet, State, TellsCrashes, TellsReads}
use Rattle.r4_script.specs.Text.{job_of}
use Rattle.r4_script.specs.declared.job.Job.{Job}
use Rattle.r4_trace.specs.Job.{Asked}

-- What is named is so: the image is what the device reads, where it tells that, and the clock is its
-- own. Where both are named and it tells what crashes leave, no write is under way.
pub record Begins (start : Option Image) (clock : Option ℕ) (d : State) : Type 0 where
  pub start_is : (i : Image) → start ≡ Some i → TellsReads d × (i ≡ d.seen)
  pub clock_is : (t : ℕ) → clock ≡ Some t → t ≡ d.clock
  pub quiet : IsSome start → IsSome clock → TellsCrashes d → IsQuiet d

-- A text is named that spells this job, and nobody to whom the device goes back.
pub record IsNamedSo (scripts : Option (List ℕ)) (lender : Option (List GName)) (job : Job)
    : Type 0 where
  pub text : List ℕ
  pub scripts_are : scripts ≡ Some text
  pub spells : job_of text ≡ Ok job
  pub no_lender : lender ≡ None

-- a run of this job that began so
abbrev pub named : Option Image → Option ℕ → Asked → Names
named start clock job = record { start = start; clock = clock; job = Some job }
