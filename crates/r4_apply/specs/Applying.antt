-- A task that comes back built (docs/core.md, "Applying").
use Rattle.std.specs.Prelude.{◌≡◌, ◌⊎◌, ◌+◌, ◌^◌, ◌≤◌, ℕ, Bool, true, false, length, Option, None, Some}
use Rattle.std.specs.Prelude.{Result, Ok, Err}
use Rattle.r4_atoms.specs.Atoms.{atom_of}
use Rattle.r4_back.specs.Backing.{IsCompared, IsGone, IsMatched, IsRefusedBack, IsRefusedIn}
use Rattle.r4_base.specs.declared.things.AtomNo.{AtomNo}
use Rattle.r4_base.specs.declared.things.ScriptNo.{ScriptNo}
use Rattle.r4_base.specs.declared.things.TxnNo.{TxnNo}
use Rattle.r4_back.specs.r4_buffer.Seen.{cells_of}
use Rattle.r4_back.specs.r4_build.Built.{BuiltSeen}
use Rattle.r4_content.specs.declared.reply.Reply.TheVariants.{Memory, Space}
use Rattle.r4_back.specs.r4_core.Doing.{IsDone, IsDoneSingle, IsRightDone, IsRightSingle, IsShort}
use Rattle.r4_back.specs.r4_core.declared.doing.Made.{Made}
use Rattle.r4_right.specs.r4_kept.Naming.{Naming}
use Rattle.r4_right.specs.r4_kept.View.{CoreSeen}
use Rattle.r4_back.specs.r4_matching.declared.matching.Mismatch.{Mismatch}
use Rattle.r4_back.specs.r4_matching.declared.matching.Mismatch.TheVariants.{Gone, Stale}
use Rattle.r4_outside.specs.Device.{State}
use Rattle.r4_space.specs.declared.things.Short.{Short}
use Rattle.r4_turns.specs.Turns.{turn_at}
use Rattle.r4_turns.specs.declared.out.Out.{Out}
use Rattle.r4_turns.specs.declared.turn.Open.{Open}
use Rattle.r4_apply.specs.declared.applying.Applied.{Applied}
use Rattle.r4_apply.specs.declared.applying.Applied.TheVariants as applied

-- ---- what was made

-- It is what was built, as the core takes it.
pub record IsMadeOf (y : BuiltSeen) (made : Made) : Type 0 where
  pub command : made.command ≡ y.task.command
  pub reply : made.reply ≡ y.reply
  pub old : made.old ≡ y.change.old
  pub new : cells_of made.new.items ≡ y.change.new
  pub root : made.root ≡ y.change.root
  pub objects : made.objects ≡ y.objects

-- A trace of so many entries may have two more, as a list that stands in memory. So it always is: no
-- list in memory is longer.
abbrev pub IsCountable : (entries : ℕ) → Type 0
IsCountable entries = entries + 2 ≤ 2 ^ 63

-- ---- what becomes of it

-- the command is done as a single one, whose transaction ends, or inside of one
abbrev pub IsDoneIn :
    {D : Type 0} → (old new : CoreSeen D) → ScriptNo → (single : Bool) → TxnNo → Made → AtomNo
    → Out → Type 0
IsDoneIn old new s true txn made a out = IsDoneSingle old new s txn made a out
IsDoneIn old new s false txn made a out = IsDone old new s txn made a out

-- and right for the volume that the run names
abbrev pub IsRightIn :
    {D : Type 0} → Naming → State → CoreSeen D → ScriptNo → (single : Bool) → TxnNo → Made
    → AtomNo → Type 0
IsRightIn r d c s true txn made a = IsRightSingle r d c s txn made a
IsRightIn r d c s false txn made a = IsRightDone r d c s txn made a

-- Less is free than it takes: it is refused.
pub record IsRefusedShort
    {D : Type 0} (old new : CoreSeen D) (s : ScriptNo) (o : Open) (made : Made) (a : AtomNo)
    (out : Out) : Type 0
  where
    pub short : Short
    pub is : IsShort old made a short
    pub refused : IsRefusedIn old new s out o.single o.txn (Space short.need short.free)

-- What was made of it is done, or less is free than it takes, and it is refused.
abbrev pub IsMade :
    {D : Type 0} → (old new : CoreSeen D) → ScriptNo → Open → Made → AtomNo → Out → Type 0
IsMade old new s o made a out =
    IsDoneIn old new s o.single o.txn made a out ⊎ IsRefusedShort old new s o made a out

-- In the open transaction of its script, and its atom. One that could not be counted is refused for
-- memory.
pub record IsWorked
    {D : Type 0} (old new : CoreSeen D) (s : ScriptNo) (out : Out) (y : BuiltSeen) : Type 0
  where
    pub within : Open
    pub transaction : (turn_at old.turns s.0).transaction ≡ Some within
    pub atom : AtomNo
    pub own : atom.0 ≡ atom_of old.atoms within.txn.0
    pub done : (IsCountable (length old.trace.entries)
        × (made : Made) × IsMadeOf y made × IsMade old new s within made atom out)
        ⊎ ((IsCountable (length old.trace.entries) → ⊥)
        × IsRefusedIn old new s out within.single within.txn Memory)

abbrev pub IsAppliedBy :
    {D : Type 0} → (old new : CoreSeen D) → ScriptNo → Out → BuiltSeen → (broken : Option ℕ)
    → Type 0
IsAppliedBy old new s out y (Some clock) = IsRefusedBack old new s out (Some clock) Memory
IsAppliedBy old new s out y None = IsWorked old new s out y

-- ---- the answer

-- It was the task that is out, with the cells that it was given, or any after a call of the device
-- failed; and its command is answered.
pub record IsApplied {D : Type 0} (old new : CoreSeen D) (y : BuiltSeen) : Type 0 where
  pub answer : Result (Unit {0}) Mismatch
  pub there : answer ≡ Err Gone → ⊥
  pub same : old.broken ≡ None → answer ≡ Ok (tt)
  pub compared : IsCompared old y.task answer
  pub done : IsAppliedBy old new y.task.script compared.out y old.broken

abbrev pub Applies : {D : Type 0} → (old new : CoreSeen D) → BuiltSeen → Applied → Type 0
Applies old new y applied.Done = IsApplied old new y
Applies old new y (applied.Gone task) = (task ≡ y.task) × IsGone old y.task × (new ≡ old)
Applies old new y (applied.Stale task node differs) =
    (task ≡ y.task) × (old.broken ≡ None) × IsMatched old y.task (Err (Stale node differs))
    × (new ≡ old)
