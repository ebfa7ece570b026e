-- What the refusal of a single command changes of a core.
use Rattle.std.specs.Prelude.{◌≡◌, ◌+◌, ℕ, Some, None}
use Rattle.r4_base.specs.declared.things.ScriptNo.{ScriptNo}
use Rattle.r4_base.specs.declared.things.TxnNo.{TxnNo}
use Rattle.r4_content.specs.declared.command.Command.{Command}
use Rattle.r4_content.specs.declared.reply.Reply.{Reply}
use Rattle.r4_kept.specs.r4_history.Tables.{Stands, single, with_ended}
use Rattle.r4_kept.specs.r4_trace.Job.{IsWork}
use Rattle.r4_kept.specs.r4_trace.declared.entry.Entry.TheVariants.{Ended, Refused}
use Rattle.r4_kept.specs.r4_turns.Turns.{TurnsSeen, answered_at, answered_one, left, turn_at}
use Rattle.r4_kept.specs.Steps.{with_entry}
use Rattle.r4_kept.specs.View.{CoreSeen}

-- The next command of a script is a single one, work, in the transaction that was begun for it; and
-- no task of it is out.
pub record StandsSingle (t : TurnsSeen) (script : ℕ) (txn : TxnNo) : Type 0 where
  pub command : Command
  pub stands : Stands t script (Some (single txn)) (Some command)
  pub work : IsWork command
  pub free : (turn_at t script).out ≡ None

-- It is refused, and its transaction ends: two entries at once, since no other may come between.
abbrev pub refused_single : {D : Type 0} → CoreSeen D → ScriptNo → TxnNo → Reply → CoreSeen D
refused_single c script txn reply = record c {
  turns = left (answered_one c.turns script.0) script.0;
  atoms = with_ended c.atoms txn.0;
  trace = with_entry
      (with_entry c.trace (Refused txn script (answered_at c.turns script.0 + 1) reply))
      (Ended txn);
}
