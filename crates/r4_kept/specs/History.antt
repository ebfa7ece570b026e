-- Group A, the history: the trace, and what the tables tell of it (docs/histories.md).
use Rattle.std.specs.Prelude.{◌≡◌, ℕ, ◌+◌, ◌≤◌, Bool, true, false, List, [], ◌∷◌, drop, count_by}
use Rattle.std.specs.Prelude.{Option, Some, None, Ok, nat_le, nat_lt, if◌then◌else◌}
use Rattle.r4_history.specs.r4_atoms.Atoms.{is_committed}
use Rattle.r4_durable.specs.r4_commit.Planned.{CommitSeen}
use Rattle.std.specs.Option.{option_map}
use Rattle.r4_content.specs.Locality.{commands}
use Rattle.r4_content.specs.Meaning.{greatest_size}
use Rattle.r4_content.specs.declared.command.Command.{Command}
use Rattle.r4_content.specs.declared.command.Command.TheVariants as asks
use Rattle.r4_durable.specs.Meaning.{Beginning, BeginsWith, IsNamed, first_id, start_of}
use Rattle.r4_history.specs.Drawn.{AreDrawn}
use Rattle.r4_history.specs.Told.{IsTold}
use Rattle.r4_outside.specs.Device.{State}
use Rattle.r4_history.specs.r4_script.Text.{job_of}
use Rattle.r4_history.specs.r4_script.declared.job.Script.{Script}
use Rattle.r4_history.specs.r4_turns.Turns.{TurnsSeen}
use Rattle.r4_history.specs.r4_turns.declared.out.Out.{Out}
use Rattle.r4_history.specs.r4_turns.declared.turn.Turn.{Turn}
use Rattle.r4_kept.specs.Naming.{Naming, names_in}
use Rattle.r4_kept.specs.View.{CoreSeen, tables_of}
use Rattle.r4_kept.specs.declared.parts.Commit.{Commit}

-- ---- entries for which room is kept

abbrev pub is_commit : Command → Bool
is_commit asks.Commit = true
is_commit c = false

-- a task that is out may need two: its answer, and the end of its transaction
abbrev pub owed_for_task : Option Out → ℕ
owed_for_task None = 0
owed_for_task (Some out) = 2

-- and each `commit` that is not answered yet needs one
abbrev pub owed_by : Turn → Script → ℕ
owed_by turn script =
    count_by is_commit (drop turn.answered script.commands) + owed_for_task turn.out

abbrev pub owed_in : List Turn → List Script → ℕ
owed_in [] scripts = 0
owed_in (turn ∷ turns) [] = 0
owed_in (turn ∷ turns) (script ∷ scripts) = owed_by turn script + owed_in turns scripts

abbrev pub owed : TurnsSeen → ℕ
owed t = owed_in t.turns t.job.scripts

-- A commit that is under way needs one when it is durable, and one where a call fails; it is
-- durable from its third part on. An atom without cells is durable at once, and calls nothing.
abbrev pub owed_for_work : Option CommitSeen → ℕ
owed_for_work None = 1
owed_for_work (Some w) = if nat_lt w.work.part 2 then 2 else 1

abbrev pub owed_for_commit : Option Commit → ℕ
owed_for_commit None = 0
owed_for_commit (Some k) = owed_for_work k.work

-- ---- the entry of a commit

-- whether the journal header of a commit is written, with which its entry comes
abbrev pub is_headed : Option CommitSeen → Bool
is_headed None = false
is_headed (Some w) = nat_le 2 w.work.part

-- ---- the group

pub record IsHistory {D : Type 0} (r : Naming) (d : State) (c : CoreSeen D) : Type 0 where
  -- the trace is legal for the job as it stands now, whatever volume the run names, and tells what
  -- the tables say; no clock in it is above the device's
  pub told : (o : Option Beginning) → BeginsWith (names_in r) d.blocks o
      → IsTold (commands greatest_size) (option_map start_of o) d.clock (tables_of c)
      c.trace.entries
  -- the job is that of the text, where the run names one
  pub job : (text : List ℕ) → r.scripts ≡ Some text → job_of text ≡ Ok c.turns.job
  -- each id is drawn once, from the first one on, which is that of the image that the run names
  pub first : ℕ
  pub drawn : AreDrawn first c.turns c.numbers.next_oid c.trace.entries
  pub begins : (b : Beginning) → IsNamed (names_in r) d.blocks b → first ≡ first_id b
  -- the atom of a commit is committed once its journal header is written
  pub committed : (k : Commit) → c.commit ≡ Some k
      → is_committed c.atoms k.atom.0 ≡ is_headed k.work
  -- there is room for each entry that may not want memory
  pub room : owed c.turns + owed_for_commit c.commit ≤ c.trace.spare
