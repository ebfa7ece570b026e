-- What the little steps of a core change.
use Rattle.std.specs.Prelude.{◌≡◌, ◌⊎◌, ℕ, ◌+◌, ◌-◌, [], ◌∷◌, ◌≤◌, length, Option, Some, None}
use Rattle.r4_history.specs.r4_atoms.Atoms.{owner_of}
use Rattle.r4_base.specs.declared.things.AtomNo.{AtomNo}
use Rattle.r4_base.specs.declared.things.ScriptNo.{ScriptNo}
use Rattle.r4_base.specs.declared.things.TxnNo.{TxnNo}
use Rattle.r4_buffer.specs.Changed.{cleaned, in_turn, unused}
use Rattle.r4_buffer.specs.Seen.{buffered}
use Rattle.r4_durable.specs.r4_commit.Planned.{CommitSeen}
use Rattle.r4_content.specs.declared.command.Command.{Command}
use Rattle.r4_content.specs.declared.command.Command.TheVariants as asks
use Rattle.r4_history.specs.Tables.{Begins, Stands, inside, single, with_cleaned}
use Rattle.r4_history.specs.Tables.{with_committed, with_ended, with_sealed}
use Rattle.r4_history.specs.r4_locks.Locks.{OthersAsBefore, task_at}
use Rattle.r4_durable.specs.r4_space.Space.{settled}
use Rattle.r4_history.specs.r4_trace.Job.{IsWork}
use Rattle.r4_history.specs.r4_trace.Kept.{Told}
use Rattle.r4_history.specs.r4_trace.declared.entry.Entry.{Entry}
use Rattle.r4_history.specs.r4_trace.declared.entry.Entry.TheVariants.{Begin, Broken as TellsBroken}
use Rattle.r4_history.specs.r4_trace.declared.entry.Entry.TheVariants.{Committed as TellsCommitted, Ended}
use Rattle.r4_history.specs.r4_trace.declared.entry.Entry.TheVariants.{Sealed as TellsSealed}
use Rattle.r4_history.specs.r4_turns.Turns.{TurnsSeen, answered_one, entered, given_back, left, turn_at}
use Rattle.r4_history.specs.r4_turns.Turns.{with_command}
use Rattle.r4_history.specs.r4_turns.declared.out.Out.{Out}
use Rattle.r4_history.specs.r4_turns.declared.turn.Open.{Open}
use Rattle.r4_outside.specs.Device.{Rose, State}
use Rattle.r4_durable.specs.r4_wander.Progress.{IsNext, calls_left}
use Rattle.r4_kept.specs.View.{CoreSeen}
use Rattle.r4_kept.specs.declared.parts.Commit.{Commit}
use Rattle.r4_kept.specs.declared.parts.Step.{Step}
use Rattle.r4_kept.specs.declared.parts.Step.TheVariants.{Broken, Committed, Idle, More}

-- one entry more, in the room that was kept
abbrev pub with_entry : Told → Entry → Told
with_entry told e = record { entries = e ∷ told.entries; spare = told.spare - 1 }

-- the transaction ends, by the `end` that is the script's next command
abbrev pub ended : {D : Type 0} → CoreSeen D → (script : ℕ) → TxnNo → CoreSeen D
ended c s txn = record c {
  turns = answered_one (left c.turns s) s;
  atoms = with_ended c.atoms txn.0;
  trace = with_entry c.trace (Ended txn);
}

-- it ends because nothing else follows in its script
abbrev pub ended_last : {D : Type 0} → CoreSeen D → (script : ℕ) → TxnNo → CoreSeen D
ended_last c s txn = record c {
  turns = left c.turns s;
  atoms = with_ended c.atoms txn.0;
  trace = with_entry c.trace (Ended txn);
}

-- A transaction begins, alone in its atom, with the next number, and the turns are these then; all
-- else is as it was.
pub record HasBegunWith
    {D : Type 0} (old new : CoreSeen D) (script : ScriptNo) (txn : TxnNo) (turns : TurnsSeen)
    : Type 0
  where
    pub number : txn.0 ≡ length old.atoms.txns + 1
    pub begins : Begins old.atoms new.atoms script.0
    pub owners : (n : ℕ) → owner_of new.atoms n ≡ owner_of old.atoms n
    pub room : new.atoms.spare ≡ old.atoms.spare
    pub same : new ≡ record old {
      turns = turns;
      atoms = new.atoms;
      trace = with_entry old.trace (Begin txn script);
    }

-- It begins by the `begin` that is its script's next command, which is answered so.
abbrev pub HasBegun : {D : Type 0} → (old new : CoreSeen D) → ScriptNo → TxnNo → Type 0
HasBegun old new script txn =
    HasBegunWith old new script txn
    (answered_one (entered old.turns script.0 (inside txn)) script.0)

-- It begins for the single command that is its script's next one, and is not answered yet.
abbrev pub HasBegunSingle : {D : Type 0} → (old new : CoreSeen D) → ScriptNo → TxnNo → Type 0
HasBegunSingle old new script txn =
    HasBegunWith old new script txn (entered old.turns script.0 (single txn))

-- The next command of a script is a single one: work, outside of transactions.
pub record StandsAlone (t : TurnsSeen) (script : ℕ) : Type 0 where
  pub command : Command
  pub stands : Stands t script None (Some command)
  pub work : IsWork command

-- The next command of a script is answered by this entry.
abbrev pub answered : {D : Type 0} → CoreSeen D → (script : ℕ) → Entry → CoreSeen D
answered c s e = record c {
  turns = answered_one c.turns s;
  trace = with_entry c.trace e;
}

-- the transaction that a refusal names: none, or one that `begin` began
abbrev pub NamesTxn : Option Open → TxnNo → Type 0
NamesTxn None txn = txn.0 ≡ 0
NamesTxn (Some o) txn = o ≡ inside txn

-- what is refused: work, and outside of transactions `commit`
abbrev pub MayBeRefused : Option Open → Command → Type 0
MayBeRefused None asks.Commit = Unit {0}
MayBeRefused within c = IsWork c

-- The next command of a script may be refused so, by itself.
pub record IsRefusable (t : TurnsSeen) (script : ℕ) (txn : TxnNo) : Type 0 where
  pub within : Option Open
  pub command : Command
  pub stands : Stands t script within (Some command)
  pub names : NamesTxn within txn
  pub may : MayBeRefused within command
  pub free : (turn_at t script).out ≡ None

-- There is room for so many entries.
abbrev pub with_room : {D : Type 0} → CoreSeen D → (spare : ℕ) → CoreSeen D
with_room c spare = record c { trace = record c.trace { spare = spare } }

-- There is more room for entries, or as much; all else is as it was.
pub record IsRoomier {D : Type 0} (old new : CoreSeen D) : Type 0 where
  pub spare : ℕ
  pub more : old.trace.spare ≤ spare
  pub same : new ≡ with_room old spare

-- A command comes to the end of a script, with room for one entry more.
abbrev pub pushed : {D : Type 0} → CoreSeen D → (script : ℕ) → Command → CoreSeen D
pushed c s command = record c {
  turns = with_command c.turns s command;
  trace = record c.trace { spare = c.trace.spare + 1 };
}

-- A task is given back: its command is the next one again, with its numbers; it holds nothing, and
-- keeps no cell in memory. All else is as it was.
pub record IsTakenBack {D : Type 0} (old new : CoreSeen D) (s : ℕ) (out : Out) : Type 0 where
  pub same : new ≡ record old {
    turns = given_back old.turns s out.numbers;
    locks = new.locks;
    buffer = new.buffer;
  }
  pub gone : task_at new.locks out.task.0 ≡ None
  pub others : OthersAsBefore old.locks new.locks out.task.0
  pub holders : old.locks.spare ≤ new.locks.spare
  pub cells : (i : ℕ) → buffered new.buffer i ≡ in_turn unused out.pins i (buffered old.buffer i)
  pub room : new.buffer.spare ≡ old.buffer.spare

-- a commit that writes by this plan
abbrev pub writing : Commit → CommitSeen → Commit
writing k w = record k { work = Some w }

-- The commit has written more of its plan; all else is as it was.
abbrev pub written : {D : Type 0} → CoreSeen D → (dev : D) → Commit → CommitSeen → CoreSeen D
written c dev k w = record c { dev = dev; commit = Some (writing k w) }

-- Its journal header is written, and the Committed entry tells it with this clock; all else is as
-- it was.
abbrev pub headed : {D : Type 0} → CoreSeen D → (dev : D) → Commit → CommitSeen → (clock : ℕ)
    → CoreSeen D
headed c dev k w clock = record c {
  dev = dev;
  atoms = with_committed c.atoms k.atom.0;
  commit = Some (writing k w);
  trace = with_entry c.trace (TellsCommitted k.atom clock);
}

-- A call of the device failed, with this clock and this count: the commit is over, and the trace
-- tells it.
abbrev pub failed : {D : Type 0} → CoreSeen D → (dev : D) → (clock faults : ℕ) → CoreSeen D
failed c dev clock faults = record c {
  dev = dev;
  commit = None;
  broken = Some clock;
  trace = with_entry c.trace (TellsBroken clock faults);
}

-- An atom is sealed that owns no cell, and the trace tells it: its commit is under way, which
-- writes nothing.
abbrev pub sealed_empty : {D : Type 0} → CoreSeen D → AtomNo → CoreSeen D
sealed_empty c atom = record c {
  atoms = with_sealed c.atoms atom.0;
  commit = Some (record { atom = atom; nodes = []; work = None });
  trace = with_entry c.trace (TellsSealed atom);
}

-- ---- a step of a commit

-- the part is the first one or the homes, at whose end no entry comes
abbrev pub IsQuietPart : ℕ → Type 0
IsQuietPart part = (part ≡ 0) ⊎ (part ≡ 2)

-- a commit that writes by this plan
pub record Writes {D : Type 0} (c : CoreSeen D) (k : Commit) (w : CommitSeen) : Type 0 where
  pub sound : c.broken ≡ None
  pub commit : c.commit ≡ Some k
  pub work : k.work ≡ Some w

-- In a part at whose end no entry comes, the step made the next writes of the plan, which is the
-- same, each by one call.
pub record IsWritten
    {D : Type 0} (d e : State) (old new : CoreSeen D) (k : Commit) (w : CommitSeen) : Type 0
  where
    pub part : IsQuietPart w.work.part
    pub now : CommitSeen
    pub same : new ≡ written old new.dev k now
    pub told : (now.head ≡ w.head) × (now.super40 ≡ w.super40)
    pub plan : now.work.plan ≡ w.work.plan
    pub next : IsNext w.work now.work
    pub calls : e.clock + calls_left now.work ≡ d.clock + calls_left w.work

-- In the part of the journal header, it wrote that, and this atom is committed.
pub record IsHeaded
    {D : Type 0} (d e : State) (old new : CoreSeen D) (k : Commit) (w : CommitSeen) (atom : AtomNo)
    : Type 0
  where
    pub part : w.work.part ≡ 1
    pub now : CommitSeen
    pub same : new ≡ headed old new.dev k now e.clock
    pub told : (now.head ≡ w.head) × (now.super40 ≡ w.super40)
    pub plan : now.work.plan ≡ w.work.plan
    pub next : (now.work.part ≡ 2) × (now.work.done ≡ 0)
    pub calls : e.clock + calls_left now.work ≡ d.clock + calls_left w.work
    pub answer : atom ≡ k.atom

-- In the part of the journal footer, it wrote that, with all calls that were left: the atom has
-- settled, its cells are dirty no more, and the volume has the superblock and the head that the
-- plan told. No commit is under way; all else is as it was.
pub record IsFooted
    {D : Type 0} (d e : State) (old new : CoreSeen D) (k : Commit) (w : CommitSeen) : Type 0
  where
    pub part : w.work.part ≡ 3
    pub same : new ≡ record old {
      dev = new.dev;
      atoms = with_cleaned old.atoms k.atom.0;
      buffer = new.buffer;
      space = settled old.space k.atom;
      volume = record { super40 = w.super40; prev = w.head };
      commit = None;
    }
    pub cells : (i : ℕ) → buffered new.buffer i ≡ in_turn cleaned k.nodes i (buffered old.buffer i)
    pub room : new.buffer.spare ≡ old.buffer.spare
    pub calls : e.clock ≡ d.clock + calls_left w.work

-- A call of the device failed: its clock and its count of faults then.
pub record IsBroken
    {D : Type 0} (d e : State) (old new : CoreSeen D) (clock faults : ℕ) : Type 0
  where
    pub rose : Rose d.faults e.faults
    pub same : new ≡ failed old new.dev clock faults
    pub now : (clock ≡ e.clock) × (faults ≡ e.faults)

-- what a step of a plan leaves, by what it answers
abbrev pub IsAdvanced :
    {D : Type 0} → (d e : State) → (old new : CoreSeen D) → Commit → CommitSeen → Step → Type 0
IsAdvanced d e old new k w Idle = ⊥
IsAdvanced d e old new k w More = IsWritten d e old new k w ⊎ IsFooted d e old new k w
IsAdvanced d e old new k w (Committed atom) = IsHeaded d e old new k w atom
IsAdvanced d e old new k w (Broken clock faults) = IsBroken d e old new clock faults

-- a core whose commit writes by a plan
abbrev pub IsAtPlan : {D : Type 0} → CoreSeen D → Type 0
IsAtPlan c = (k : Commit) × (w : CommitSeen) × Writes c k w

-- the commit of an atom without cells
pub record WritesNothing {D : Type 0} (c : CoreSeen D) (k : Commit) : Type 0 where
  pub sound : c.broken ≡ None
  pub commit : c.commit ≡ Some k
  pub nothing : k.work ≡ None

-- Its entry comes with this clock, and it is over; all else is as it was.
abbrev pub emptied : {D : Type 0} → CoreSeen D → Commit → (clock : ℕ) → CoreSeen D
emptied c k clock = record c {
  atoms = with_cleaned (with_committed c.atoms k.atom.0) k.atom.0;
  commit = None;
  trace = with_entry c.trace (TellsCommitted k.atom clock);
}

-- a core whose commit is that of an atom without cells
abbrev pub IsAtNothing : {D : Type 0} → CoreSeen D → Type 0
IsAtNothing c = (k : Commit) × WritesNothing c k

-- what a step of a commit does, by its plan
abbrev pub StepsBy :
    {D : Type 0} → (d e : State) → (old new : CoreSeen D) → Commit → Option CommitSeen → Step
    → Type 0
StepsBy d e old new k None step = (step ≡ Committed k.atom) × (new ≡ emptied old k d.clock)
StepsBy d e old new k (Some w) step = IsAdvanced d e old new k w step

-- and nothing where none is under way
abbrev pub TakesStep :
    {D : Type 0} → (d e : State) → (old new : CoreSeen D) → Option Commit → Step → Type 0
TakesStep d e old new None step = (step ≡ Idle) × (new ≡ old)
TakesStep d e old new (Some k) step = StepsBy d e old new k k.work step
