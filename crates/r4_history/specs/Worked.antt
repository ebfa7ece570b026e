-- Worked examples (docs/histories.md): the run of one script, with a command that reads and a
-- `commit`; a command that reads what another open atom owns; and one that makes a file, as it goes
-- out.
use Rattle.std.specs.Prelude.{ℕ, ◌+◌, ◌^◌, List, [], ◌∷◌, Some, false, true}
use Rattle.std.specs.Global.{Global}
use Rattle.std.specs.declared.sync.Arc.{Arc}
use Rattle.r4_atoms.specs.Atoms.{AtomsSeen, new_atom, new_txn}
use Rattle.r4_base.specs.declared.things.AtomNo.{AtomNo}
use Rattle.r4_base.specs.declared.things.ScriptNo.{ScriptNo}
use Rattle.r4_base.specs.declared.things.TxnNo.{TxnNo}
use Rattle.r4_base.specs.declared.key.Key.{Key}
use Rattle.r4_content.specs.declared.command.Command.{Command}
use Rattle.r4_content.specs.declared.command.Command.TheVariants as commands
use Rattle.r4_content.specs.declared.reply.Reply.{Reply}
use Rattle.r4_content.specs.declared.seen.Seen.{Seen}
use Rattle.r4_locks.specs.Locks.{LocksSeen}
use Rattle.r4_locks.specs.declared.things.Mode.TheVariants.{Writes}
use Rattle.r4_turns.specs.r4_script.declared.job.Job.{Job}
use Rattle.r4_trace.specs.declared.entry.Entry.{Entry}
use Rattle.r4_trace.specs.declared.entry.Entry.TheVariants.{Acked, Begin, Committed, Done, Ended, Sealed}
use Rattle.r4_turns.specs.Turns.{gone_out}
use Rattle.r4_turns.specs.declared.out.Out.{Out}
use Rattle.r4_history.specs.Held.{Need}
use Rattle.r4_history.specs.Tables.{Tables, opened, with_single}

-- `stat /`
abbrev pub look : Command
look = commands.Stat []

abbrev pub one_job : Job
one_job = record { scripts = record { commands = look ∷ commands.Commit ∷ [] } ∷ [] }

abbrev pub first_script : ScriptNo
first_script = record { 0 = 1 }

abbrev pub first_txn : TxnNo
first_txn = record { 0 = 1 }

abbrev pub first_atom : AtomNo
first_atom = record { 0 = 1 }

-- its trace, the newest entry first, where the command has this reply: done, committed,
-- acknowledged
abbrev pub trace_begun : List Entry
trace_begun = Begin first_txn first_script ∷ []

abbrev pub trace_done : Reply → List Entry
trace_done r = Ended first_txn ∷ Done first_txn first_script 1 look r ∷ trace_begun

abbrev pub trace_committed : Reply → (clock : ℕ) → List Entry
trace_committed r clock = Committed first_atom clock ∷ Sealed first_atom ∷ trace_done r

abbrev pub one_trace : Reply → (clock : ℕ) → List Entry
one_trace r clock = Acked first_script first_txn clock ∷ trace_committed r clock

-- ---- two atoms

-- two open transactions, the second of which owns node 5
abbrev pub two_atoms : AtomsSeen
two_atoms = record {
  txns = new_txn 1 1 ∷ new_txn 2 2 ∷ [];
  atoms = new_atom ∷ new_atom ∷ [];
  captured = (5, 2) ∷ [];
  spare = 0;
  txn_spare = 0;
}

-- a command that reads it
abbrev pub reads_five : Need
reads_five = record { reads = record { 0 = 5 } ∷ []; writes = [] }

-- ---- a task

-- `create /a`
abbrev pub make : Command
make = commands.Create ((97 ∷ []) ∷ []) (record { 0 = 0 })

abbrev pub make_job : Job
make_job = record { scripts = record { commands = make ∷ commands.Commit ∷ [] } ∷ [] }

-- Its task has number 0; it writes one node, and makes the object 65536, whatever was seen.
abbrev pub make_task : Key → Arc Seen Global → Out
make_task k seen = record {
  task = record { 0 = 0 };
  txn = first_txn;
  reads = [];
  writes = record { id = 5; level = 1; lo = k; hi = k; block = [] } ∷ [];
  pins = [];
  seen = seen;
  scope = record {
    root = record { id = record { 0 = 22 }; height = 2 };
    in_leaves = true;
    in_extents = false;
    most = 1;
  };
  numbers = record {
    oid = record { 0 = 65536 };
    fresh = record { next = 2 ^ 63; end = 2 ^ 63 + 1 };
  };
  cells = 1;
  claims = 1;
}

-- the tables once it is out, and what it holds
abbrev pub make_tables : Key → Arc Seen Global → Tables
make_tables k seen =
    let begun = with_single (opened make_job 0 0) 1 first_txn (record {
      txns = new_txn 1 1 ∷ [];
      atoms = new_atom ∷ [];
      captured = [];
      spare = 0;
      txn_spare = 0;
    }) in
    record begun { turns = gone_out begun.turns 1 (make_task k seen) }

abbrev pub make_locks : LocksSeen
make_locks = record {
  tasks = Some (record { holds = (5, Writes) ∷ []; room = 0 }) ∷ [];
  spare = 0;
  lets_in = false;
}
