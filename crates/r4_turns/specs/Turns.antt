-- A job, and how far each of its scripts is.
use Rattle.std.specs.Prelude.{◌≡◌, ◌≢◌, ℕ, ◌+◌, ◌-◌, ◌<◌, ◌≤◌, List, [], ◌∷◌, ◌++◌, length, replicate, slice_index_or, slice_set, Option, Some, None, Bool, false, ◌==◌, ◌⊎◌, if◌then◌else◌}
use Rattle.std.specs.List.{position}
use Rattle.std.specs.Option.{option_map}
use Rattle.r4_base.specs.declared.things.ScriptNo.{ScriptNo}
use Rattle.r4_base.specs.declared.things.TaskId.{TaskId}
use Rattle.r4_content.specs.declared.command.Command.{Command}
use Rattle.r4_script.specs.declared.job.Job.{Job}
use Rattle.r4_script.specs.declared.job.Script.{Script}
use Rattle.r4_turns.specs.declared.out.Numbers.{Numbers}
use Rattle.r4_turns.specs.declared.out.Out.{Out}
use Rattle.r4_turns.specs.declared.turn.Open.{Open}
use Rattle.r4_turns.specs.declared.turn.Turn.{Turn}
use Rattle.r4_turns.specs.declared.turn.Pending.{Pending}
use Rattle.r4_turns.specs.declared.turn.Pending.TheVariants.{Nothing, Next, Out as Waiting}

-- the job, and in the order of its scripts how far each is
pub record TurnsSeen : Type 0 where
  pub job : Job
  pub turns : List Turn

-- a script before its first command
abbrev pub start : Turn
start = record { answered = 0; transaction = None; out = None; numbers = None }

abbrev pub no_script : Script
no_script = record { commands = [] }

abbrev pub started : Job → TurnsSeen
started job = record { job = job; turns = replicate (length job.scripts) start }

-- Scripts are counted from 1.
abbrev pub IsScript : TurnsSeen → (script : ℕ) → Type 0
IsScript t script = (0 < script) × (script ≤ length t.turns)

abbrev pub turn_at : TurnsSeen → (script : ℕ) → Turn
turn_at t script = slice_index_or t.turns (script - 1) start

abbrev pub commands_at : TurnsSeen → (script : ℕ) → List Command
commands_at t script = (slice_index_or t.job.scripts (script - 1) no_script).commands

abbrev pub answered_at : TurnsSeen → (script : ℕ) → ℕ
answered_at t script = (turn_at t script).answered

-- One script is this far now, and all else is as before.
abbrev pub with_turn : TurnsSeen → (script : ℕ) → Turn → TurnsSeen
with_turn t script turn = record t { turns = slice_set t.turns (script - 1) turn }

abbrev pub entered : TurnsSeen → (script : ℕ) → Open → TurnsSeen
entered t script transaction = with_turn t script (record (turn_at t script) { transaction = Some transaction })

abbrev pub left : TurnsSeen → (script : ℕ) → TurnsSeen
left t script = with_turn t script (record (turn_at t script) { transaction = None })

-- The next command is answered; the numbers kept for it are kept no more.
abbrev pub answered_one : TurnsSeen → (script : ℕ) → TurnsSeen
answered_one t script = with_turn t script (record (turn_at t script) { answered = answered_at t script + 1; numbers = None })

abbrev pub gone_out : TurnsSeen → (script : ℕ) → Out → TurnsSeen
gone_out t script out = with_turn t script (record (turn_at t script) { out = Some out })

abbrev pub dropped : TurnsSeen → (script : ℕ) → TurnsSeen
dropped t script = with_turn t script (record (turn_at t script) { out = None })

-- No task is out any more; these numbers are kept for the next command.
abbrev pub given_back : TurnsSeen → (script : ℕ) → Numbers → TurnsSeen
given_back t script numbers = with_turn t script (record (turn_at t script) { out = None; numbers = Some numbers })

-- One script has a command more, its last.
abbrev pub with_command : TurnsSeen → (script : ℕ) → Command → TurnsSeen
with_command t script command =
    record t { job = record { scripts = slice_set t.job.scripts (script - 1) (record { commands = commands_at t script ++ command ∷ [] }) } }

-- Some command of a script is left.
abbrev pub HasNext : TurnsSeen → (script : ℕ) → Type 0
HasNext t script = answered_at t script < length (commands_at t script)

abbrev pub task_pending : Option Out → Pending
task_pending None = Next
task_pending (Some out) = Waiting out.task

-- how the next of so many commands stands
abbrev pub pending_in : Turn → (commands : ℕ) → Pending
pending_in turn commands = if turn.answered == commands then Nothing else task_pending turn.out

abbrev pub with_last : List Script → (i : ℕ) → Command → List Script
with_last scripts i command = slice_set scripts i (record { commands = (slice_index_or scripts i no_script).commands ++ command ∷ [] })

-- ---- the order in which scripts are served

-- The one with fewer answered commands stands before the other, and of two with as many the one with the smaller number.
abbrev pub IsBefore : TurnsSeen → (a b : ℕ) → Type 0
IsBefore t a b = (answered_at t a < answered_at t b) ⊎ ((answered_at t a ≡ answered_at t b) × (a < b))

-- A script stands behind the last one that was looked at, if there was one.
abbrev pub IsBehind : TurnsSeen → Option ScriptNo → (script : ℕ) → Type 0
IsBehind t None script = IsScript t script
IsBehind t (Some last) script = IsScript t script × IsBefore t last.0 script

-- It is the first one that stands behind the last one.
pub record IsNext (t : TurnsSeen) (last : Option ScriptNo) (script : ℕ) : Type 0 where
  pub behind : IsBehind t last script
  pub first : (other : ℕ) → IsBehind t last other → other ≢ script → IsBefore t script other

-- ---- tasks

abbrev pub is_task : TaskId → Option Out → Bool
is_task task None = false
is_task task (Some out) = out.task.0 == task.0

-- the script that has this task out
abbrev pub script_of : TurnsSeen → TaskId → Option ScriptNo
script_of t task = option_map (λ i. record { 0 = i + 1 }) (position (λ (turn : Turn). is_task task turn.out) t.turns)
