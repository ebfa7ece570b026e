-- What is said of a run that names the image with which it began, beside the values of its parts:
-- its session, and the flush of the atom whose commit is under way (docs/durable.md).
use Rattle.std.specs.Prelude.{ℕ, List, Option}
use Rattle.r4_durable.specs.Sealing.{Sealing}
use Rattle.r4_durable.specs.Kept.{sealing_of}
use Rattle.r4_durable.specs.r4_placed.Flushing.{Flushing}
use Rattle.r4_durable.specs.r4_sets.Session.{Session}
use Rattle.r4_durable.specs.r4_space.Space.{Space}
use Rattle.r4_history.specs.r4_trace.declared.entry.Entry.{Entry}
use Rattle.r4_durable.specs.r4_wander.declared.plan.LogPlan.{LogPlan}

-- the session before the atom was sealed, what was flushed, and the plan
pub record Flush : Type 0 where
  pub before : Session
  pub work : Flushing
  pub plan : LogPlan

pub record Story : Type 0 where
  pub session : Session
  pub flush : Option Flush

abbrev pub sealing_in : Flush → Sealing
sealing_in f = sealing_of f.before f.work f.plan

-- the session and the space as the Committed entry came, with its clock; and the entries since then
pub record Headed : Type 0 where
  pub session : Session
  pub space : Space
  pub clock : ℕ
  pub later : List Entry
