-- Tasks that come back without a change (docs/core.md, "Coming back").
use Rattle.std.specs.Prelude.{◌≡◌, ◌⊎◌, ◌+◌, ℕ, Bool, true, false, zero, suc, Option, None, Some}
use Rattle.std.specs.Prelude.{Result, Ok, Err}
use Rattle.r4_base.specs.declared.things.ScriptNo.{ScriptNo}
use Rattle.r4_base.specs.declared.things.TxnNo.{TxnNo}
use Rattle.r4_matching.specs.r4_build.declared.task.Task.{Task}
use Rattle.r4_content.specs.declared.command.Command.{Command}
use Rattle.r4_content.specs.declared.reply.Reply.{Reply}
use Rattle.r4_content.specs.declared.reply.Reply.TheVariants.{Memory, Reopen}
use Rattle.r4_next.specs.r4_core.RefusingOut.{IsRefusedOut}
use Rattle.r4_next.specs.r4_history.Held.{IsOut}
use Rattle.r4_next.specs.r4_history.Tables.{next_at}
use Rattle.r4_next.specs.r4_kept.Steps.{IsTakenBack, answered}
use Rattle.r4_next.specs.r4_kept.View.{CoreSeen}
use Rattle.r4_matching.specs.Matching.{IsMismatch, IsSameTask}
use Rattle.r4_matching.specs.declared.matching.Mismatch.{Mismatch}
use Rattle.r4_matching.specs.declared.matching.Mismatch.TheVariants.{Gone}
use Rattle.r4_next.specs.r4_trace.declared.entry.Entry.TheVariants.{Refused}
use Rattle.r4_turns.specs.Turns.{answered_at, turn_at}
use Rattle.r4_turns.specs.declared.out.Out.{Out}
use Rattle.r4_turns.specs.declared.turn.Open.{Open}

-- ---- which task it is

-- The task of this script that is out, of its next command.
pub record IsOutOf {D : Type 0} (c : CoreSeen D) (s : ScriptNo) (out : Out) (command : Command)
    : Type 0
  where
    pub is : IsOut c.turns s.0 out
    pub next : next_at c.turns s.0 ≡ Some command

abbrev pub IsAnswer :
    Out → ScriptNo → (index : ℕ) → Command → Task → Result (Unit {0}) Mismatch → Type 0
IsAnswer out s index command task (Ok u) = IsSameTask out s index command task
IsAnswer out s index command task (Err e) = IsMismatch out s index command task e

-- How a task stands to that of its script that is out.
pub record IsCompared {D : Type 0} (c : CoreSeen D) (task : Task) (r : Result (Unit {0}) Mismatch)
    : Type 0
  where
    pub out : Out
    pub command : Command
    pub out_is : IsOutOf c task.script out command
    pub answer : IsAnswer out task.script (answered_at c.turns task.script.0) command task r

-- none is out
pub record IsNone {D : Type 0} (c : CoreSeen D) (task : Task) (r : Result (Unit {0}) Mismatch)
    : Type 0
  where
    pub none : (out : Out) → IsOut c.turns task.script.0 out → ⊥
    pub gone : r ≡ Err Gone

abbrev pub IsMatched :
    {D : Type 0} → CoreSeen D → Task → Result (Unit {0}) Mismatch → Type 0
IsMatched c task r = IsCompared c task r ⊎ IsNone c task r

-- It is no task that is out.
abbrev pub IsGone : {D : Type 0} → CoreSeen D → Task → Type 0
IsGone c task = IsMatched c task (Err Gone)

-- It is the task of its script that is out, with the cells that it was given, or with others.
abbrev pub IsThere : {D : Type 0} → CoreSeen D → Task → Out → Type 0
IsThere c task out = (r : Result (Unit {0}) Mismatch) × (m : IsCompared c task r)
    × (m.out ≡ out) × (r ≡ Err Gone → ⊥)

-- ---- what becomes of it

-- It is given back, or was none that is out.
abbrev pub GivesBack : {D : Type 0} → (old new : CoreSeen D) → Task → Type 0
GivesBack old new task =
    (IsGone old task × (new ≡ old))
    ⊎ ((out : Out) × IsThere old task out × IsTakenBack old new task.script.0 out)

-- The task of a script is given back, and its command is refused: as a single one, whose
-- transaction ends, or inside of one that `begin` began.
abbrev pub IsRefusedIn :
    {D : Type 0} → (old new : CoreSeen D) → ScriptNo → Out → (single : Bool) → TxnNo → Reply
    → Type 0
IsRefusedIn old new s out true txn reply = IsRefusedOut old new s txn reply out
IsRefusedIn {D} old new s out false txn reply = (back : CoreSeen D) × IsTakenBack old back s.0 out
    × (new ≡ answered back s.0 (Refused txn s (answered_at back.turns s.0 + 1) reply))

-- By the open transaction of the script; after a call of the device failed, in none.
abbrev pub IsRefusedBack :
    {D : Type 0} → (old new : CoreSeen D) → ScriptNo → Out → (broken : Option ℕ) → Reply → Type 0
IsRefusedBack {D} old new s out (Some clock) reply =
    (back : CoreSeen D) × IsTakenBack old back s.0 out
    × (new ≡ answered back s.0 (Refused (record { 0 = 0 }) s (answered_at back.turns s.0 + 1)
    (Reopen clock)))
IsRefusedBack old new s out None reply = (o : Open)
    × ((turn_at old.turns s.0).transaction ≡ Some o) × IsRefusedIn old new s out o.single o.txn reply

-- It is refused, or was none that is out.
abbrev pub RefusesMemory : {D : Type 0} → (old new : CoreSeen D) → Task → Type 0
RefusesMemory old new task =
    (IsGone old task × (new ≡ old))
    ⊎ ((out : Out) × IsThere old task out
    × IsRefusedBack old new task.script out old.broken Memory)

-- ---- all of them

-- the task of a script, if one is out
abbrev pub RecallsOf :
    {D : Type 0} → (old new : CoreSeen D) → (s : ℕ) → Option Out → Type 0
RecallsOf old new s None = new ≡ old
RecallsOf old new s (Some out) = IsTakenBack old new s out

-- the tasks of the first n scripts, one after another
abbrev pub Recalls : {D : Type 0} → (old : CoreSeen D) → (n : ℕ) → (new : CoreSeen D) → Type 0
Recalls old zero new = new ≡ old
Recalls {D} old (suc n) new = (mid : CoreSeen D) × Recalls old n mid
    × RecallsOf mid new (n + 1) (turn_at mid.turns (n + 1)).out
