-- What changes of a core as a task is done.
use Rattle.std.specs.Prelude.{◌≡◌, ◌⊎◌, ◌+◌, ◌<◌, ◌≤◌, ◌||◌, ℕ, Contains, Some, None}
use Rattle.std.specs.Prelude.{if◌then◌else◌, length}
use Rattle.std.specs.Option.{unwrap_or}
use Rattle.r4_atoms.specs.Atoms.{AtomsSeen, IsOpenAtom, account_of, atom_of, owner_of, state_of}
use Rattle.r4_atoms.specs.Atoms.{with_state}
use Rattle.r4_atoms.specs.declared.things.Account.{Account}
use Rattle.r4_base.specs.declared.things.AtomNo.{AtomNo}
use Rattle.r4_base.specs.declared.things.ScriptNo.{ScriptNo}
use Rattle.r4_base.specs.declared.things.TxnNo.{TxnNo}
use Rattle.r4_taking.specs.r4_buffer.Changed.{has_name, in_turn, replaced, unused}
use Rattle.r4_taking.specs.r4_buffer.Seen.{IsLawful, buffered}
use Rattle.r4_taking.specs.r4_cell.Patch.{IsChange, by_name, root_of_pair}
use Rattle.r4_taking.specs.r4_cell.Seen.{CellSeen}
use Rattle.r4_taking.specs.r4_cell.declared.change.Change.{Change}
use Rattle.r4_content.specs.Meaning.{with_id}
use Rattle.r4_content.specs.declared.command.Command.{Command}
use Rattle.r4_content.specs.declared.reply.Reply.{Reply}
use Rattle.r4_taking.specs.r4_history.Held.{IsOut}
use Rattle.r4_taking.specs.r4_history.Tables.{Stands, with_ended}
use Rattle.r4_taking.specs.r4_locks.Locks.{AreHolds, OthersAsBefore, task_at}
use Rattle.r4_counted.specs.r4_patch.Joining.{ids_of, patch_of_change}
use Rattle.r4_counted.specs.r4_patch.Part.{MeetsPart}
use Rattle.r4_taking.specs.r4_trace.Job.{IsWork}
use Rattle.r4_taking.specs.r4_trace.declared.entry.Entry.TheVariants.{Done, Ended}
use Rattle.r4_taking.specs.r4_turns.Turns.{answered_at, answered_one, dropped, left}
use Rattle.r4_taking.specs.r4_turns.declared.out.Out.{Out}
use Rattle.r4_taking.specs.r4_turns.declared.turn.Open.{Open}
use Rattle.r4_taking.specs.r4_kept.Steps.{with_entry}
use Rattle.r4_taking.specs.r4_kept.TasksOut.{IsGiven}
use Rattle.r4_taking.specs.r4_kept.View.{CoreSeen}
use Rattle.r4_done.specs.Doing.{HasCharged, IsCount}

-- The change is one of cells that the task writes, with their names or the task's numbers. It meets
-- the part of a tree in which the task's command was given these, and has no more new cells than
-- the task was told.
pub record IsChangeOf
    {D : Type 0} (c : CoreSeen D) (out : Out) (x : Command) (change : Change) : Type 0
  where
    pub is : IsChange change.old change.new change.root
    pub reached : (y : CellSeen) → Contains change.old y → Contains out.writes y
    pub numbered : (y : CellSeen) → Contains change.new y → Contains (ids_of change.old) y.id
        ⊎ ((out.numbers.fresh.next ≤ y.id) × (y.id < out.numbers.fresh.end))
    pub meets : (g : IsGiven c.tree x out)
        → MeetsPart (patch_of_change change) (by_name g.met) (root_of_pair g.root)
    pub few : length change.new ≤ out.scope.most

-- The task is that of a script's next command, in its transaction of this atom, which is open.
pub record CanBeDone
    {D : Type 0} (c : CoreSeen D) (s : ScriptNo) (within : Open) (out : Out) (x : Command)
    (a : AtomNo) : Type 0
  where
    pub out_is : IsOut c.turns s.0 out
    pub sound : c.broken ≡ None
    pub command : Command
    pub work : IsWork command
    pub made : x ≡ with_id out.numbers.oid command
    pub stands : Stands c.turns s.0 (Some within) (Some command)
    pub own : atom_of c.atoms within.txn.0 ≡ a.0
    pub opened : IsOpenAtom c.atoms a.0
    pub holds : AreHolds c.locks
    pub lawful : IsLawful c.buffer

-- What locks, cells in memory, the space and this table of atoms have once the change is made: the
-- task holds nothing; and the atom has this account, with at most one object more and one that is
-- gone.
pub record HasPut
    {D : Type 0} (old new : CoreSeen D) (atoms : AtomsSeen) (out : Out) (change : Change)
    (a : AtomNo) (account : Account) : Type 0
  where
    pub gone : task_at new.locks out.task.0 ≡ None
    pub others : OthersAsBefore old.locks new.locks out.task.0
    pub txns : atoms.txns ≡ old.atoms.txns
    pub states : atoms.atoms
        ≡ (with_state old.atoms a.0 (record (state_of old.atoms a.0) { account = account })).atoms
    pub owners : (n : ℕ) → owner_of atoms n
        ≡ (if has_name change.old n || has_name change.new n then Some a.0
        else owner_of old.atoms n)
    pub captures : old.atoms.spare ≤ atoms.spare + out.cells
    pub cells : (i : ℕ) → buffered new.buffer i
        ≡ in_turn unused out.pins i (replaced change.old change.new i (buffered old.buffer i))
    pub places : old.buffer.spare ≤ new.buffer.spare + out.cells
    pub charged : HasCharged old.space new.space a account.cells account.fresh out.claims
    pub count : new.space.block_count ≡ old.space.block_count
    pub counts : IsCount old.buffer change.old change.new (account_of old.atoms a.0) account
    pub one_made : account.born ≤ (account_of old.atoms a.0).born + 1
    pub one_gone : account.gone ≤ (account_of old.atoms a.0).gone + 1

-- It is done by this change inside of a transaction, and the trace tells it. All else is as it was.
pub record HasDone
    {D : Type 0} (old new : CoreSeen D) (s : ScriptNo) (u : TxnNo) (out : Out) (x : Command)
    (reply : Reply) (change : Change) (a : AtomNo) (account : Account) : Type 0
  where
    pub put : HasPut old new new.atoms out change a account
    pub same : new ≡ record old {
      turns = answered_one (dropped old.turns s.0) s.0;
      locks = new.locks;
      atoms = new.atoms;
      buffer = new.buffer;
      space = new.space;
      tree = unwrap_or change.root old.tree;
      trace = with_entry old.trace (Done u s (answered_at old.turns s.0 + 1) x reply);
    }

-- So is a single command, and its transaction ends. All else is as it was.
pub record HasDoneSingle
    {D : Type 0} (old new : CoreSeen D) (s : ScriptNo) (u : TxnNo) (out : Out) (x : Command)
    (reply : Reply) (change : Change) (a : AtomNo) (account : Account) : Type 0
  where
    pub atoms : AtomsSeen
    pub put : HasPut old new atoms out change a account
    pub same : new ≡ record old {
      turns = left (answered_one (dropped old.turns s.0) s.0) s.0;
      locks = new.locks;
      atoms = with_ended atoms u.0;
      buffer = new.buffer;
      space = new.space;
      tree = unwrap_or change.root old.tree;
      trace = with_entry
          (with_entry old.trace (Done u s (answered_at old.turns s.0 + 1) x reply)) (Ended u);
    }
