-- With what a run began, as far as its call names it.
use Rattle.std.specs.Prelude.{ℕ, List, Option, Some, None, Result, Ok, Err}
use Rattle.std.specs.Borrow.{GName}
use Rattle.r4_base.specs.Image.{Image}
use Rattle.r4_durable.specs.Meaning.{Names}
use Rattle.r4_history.specs.Tables.{asked}
use Rattle.r4_history.specs.r4_script.Text.{job_of}
use Rattle.r4_history.specs.r4_script.declared.fault.ScriptFault.{ScriptFault}
use Rattle.r4_history.specs.r4_script.declared.job.Job.{Job}
use Rattle.r4_history.specs.r4_trace.Job.{Asked}

-- the image, the clock of the device, the text of the scripts, and to whom the device goes back
pub record Naming : Type 0 where
  pub start : Option Image
  pub clock : Option ℕ
  pub scripts : Option (List ℕ)
  pub lender : Option (List GName)

abbrev pub job_read : Result Job ScriptFault → Option Asked
job_read (Ok job) = Some (asked job)
job_read (Err fault) = None

abbrev pub job_named : Option (List ℕ) → Option Asked
job_named None = None
job_named (Some text) = job_read (job_of text)

abbrev pub names_of : Option Image → Option ℕ → Option (List ℕ) → Names
names_of start clock scripts = record { start = start; clock = clock; job = job_named scripts }

abbrev pub names_in : Naming → Names
names_in r = names_of r.start r.clock r.scripts
