-- A script's next command, work, is served (docs/core.md, "Serving").
use Rattle.std.specs.Prelude.{◌≡◌, ◌+◌, Bool, true, false, Option, Some, None}
use Rattle.r4_base.specs.declared.things.ScriptNo.{ScriptNo}
use Rattle.r4_base.specs.declared.things.TxnNo.{TxnNo}
use Rattle.r4_take.specs.r4_build.declared.task.Task.{Task}
use Rattle.r4_content.specs.declared.command.Command.{Command}
use Rattle.r4_content.specs.declared.reply.Reply.{Reply}
use Rattle.r4_content.specs.declared.reply.Reply.TheVariants as replies
use Rattle.r4_take.specs.r4_history.declared.why.Why.TheVariants as why
use Rattle.r4_take.specs.r4_kept.Steps.{answered}
use Rattle.r4_take.specs.r4_kept.View.{CoreSeen}
use Rattle.r4_outside.specs.Device.{State}
use Rattle.r4_take.specs.r4_ready.Readiness.{parts_of}
use Rattle.r4_take.specs.r4_ready.Rooms.{HasMoreRoom}
use Rattle.r4_take.specs.r4_search.Pool.{LeavesDevice}
use Rattle.r4_take.specs.r4_serve.Serving.{Asks}
use Rattle.r4_take.specs.r4_serve.declared.asked.Asked.{Asked}
use Rattle.r4_take.specs.r4_serve.declared.asked.Asked.TheVariants as asked
use Rattle.r4_take.specs.r4_taking.Refusing.{refused_single}
use Rattle.r4_take.specs.Sending.{HasRoomier, IsNamed, IsSent, IsServable}
use Rattle.r4_take.specs.declared.drawing.Draws.{Draws}
use Rattle.r4_take.specs.r4_trace.declared.entry.Entry.TheVariants.{Refused}
use Rattle.r4_turns.specs.Turns.{answered_at, turn_at}
use Rattle.r4_turns.specs.declared.turn.Open.{Open}
use Rattle.r4_served.specs.declared.serving.Served.{Served}
use Rattle.r4_served.specs.declared.serving.Served.TheVariants as served

-- ---- its refusal

-- the entry of a refusal in this transaction, 0 where it is in none
abbrev pub refused_in : {D : Type 0} → CoreSeen D → ScriptNo → TxnNo → Reply → CoreSeen D
refused_in c s txn reply =
    answered c s.0 (Refused txn s (answered_at c.turns s.0 + 1) reply)

-- A single command's transaction ends with it; one that `begin` began stays open.
abbrev pub refused_within :
    {D : Type 0} → CoreSeen D → ScriptNo → TxnNo → (single : Bool) → Reply → CoreSeen D
refused_within c s txn true reply = refused_single c s txn reply
refused_within c s txn false reply = refused_in c s txn reply

-- by the open transaction of its script
abbrev pub refused_by :
    {D : Type 0} → CoreSeen D → ScriptNo → Option Open → Reply → CoreSeen D
refused_by c s None reply = refused_in c s (record { 0 = 0 }) reply
refused_by c s (Some o) reply = refused_within c s o.txn o.single reply

-- Room was made, and it is refused.
pub record IsRefused {D : Type 0} (old new : CoreSeen D) (s : ScriptNo) (reply : Reply) : Type 0
  where
    pub roomy : CoreSeen D
    pub room : HasMoreRoom old roomy
    pub same : new ≡ refused_by roomy s (turn_at roomy.turns s.0).transaction reply

-- ---- what becomes of it

-- The device was read, from d to e; all else is as it was.
pub record IsRead {D : Type 0} (d e : State) (old new : CoreSeen D) : Type 0 where
  pub device : LeavesDevice d e
  pub same : new ≡ record old { dev = new.dev }

-- what is not a command that may go out
abbrev pub IsNoTask : Asked → Type 0
IsNoTask (asked.Ready ready) = ⊥
IsNoTask told = Unit {0}

-- By what it was told, it was refused, or it waits.
abbrev pub IsAnswered :
    {D : Type 0} → (old new : CoreSeen D) → ScriptNo → Asked → Served → Type 0
IsAnswered old new s (asked.Refused reply) a = (a ≡ served.Refused) × IsRefused old new s reply
IsAnswered old new s (asked.Tall height) a =
    (a ≡ served.Refused) × IsRefused old new s (replies.Tall height)
IsAnswered old new s (asked.Sealed atom) a =
    (a ≡ served.Waits (why.Sealed atom)) × (new ≡ old)
IsAnswered old new s (asked.Busy node holder) a =
    (a ≡ served.Waits (why.Held node holder)) × (new ≡ old)
IsAnswered old new s (asked.Ready ready) a = ⊥

-- A ready one went out as a task.
abbrev pub IsServedBy :
    {D : Type 0} → (mid new : CoreSeen D) → ScriptNo → (named : Command) → Draws → Asked → Served
    → Type 0
IsServedBy mid new s named draws (asked.Ready ready) a =
    (task : Task) × (a ≡ served.Out task) × IsSent mid new s.0 named draws ready task
IsServedBy mid new s named draws told a = IsAnswered mid new s told a

-- The next command of a script got its numbers, and was asked under its id of the core as it stood,
-- whose device was read; by what it was told, it was served.
pub record IsServed
    {D : Type 0} (d e : State) (old new : CoreSeen D) (s : ScriptNo) (a : Served) : Type 0
  where
    pub command : Command
    pub servable : IsServable old s.0 command
    pub draws : Draws
    pub named : Command
    pub name : IsNamed old s.0 command draws named
    pub told : Asked
    pub asks : Asks d e (parts_of old) named told
    pub mid : CoreSeen D
    pub read : IsRead d e old mid
    pub device : new.dev ≡ mid.dev
    pub served : IsServedBy mid new s named draws told a

-- The device may have been read, and there may be more room; all else is as it was.
pub record IsLeft {D : Type 0} (d e : State) (old new : CoreSeen D) : Type 0 where
  pub mid : CoreSeen D
  pub read : IsRead d e old mid
  pub room : HasRoomier mid new
