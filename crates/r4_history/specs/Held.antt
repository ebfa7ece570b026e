-- Tasks that are out, and what they hold (docs/histories.md).
use Rattle.std.specs.Prelude.{◌≡◌, ℕ, Contains, List, map, ◌++◌, false, Some, None}
use Rattle.r4_atoms.specs.Atoms.{AtomsSeen, IsAtom, atom_of, is_cleaned, numbers, owner_of}
use Rattle.r4_base.specs.declared.things.NodeId.{NodeId}
use Rattle.r4_turns.specs.r4_cell.Seen.{CellSeen}
use Rattle.r4_content.specs.declared.command.Command.{Command}
use Rattle.r4_locks.specs.Locks.{IsTask, LocksSeen, OthersAsBefore, mode_of, mode_with, task_at}
use Rattle.r4_locks.specs.declared.things.Mode.TheVariants.{Reads, Writes}
use Rattle.r4_trace.specs.Job.{IsWork}
use Rattle.r4_turns.specs.Turns.{IsScript, TurnsSeen, turn_at}
use Rattle.r4_turns.specs.declared.out.Out.{Out}
use Rattle.r4_turns.specs.declared.turn.Open.{Open}
use Rattle.r4_history.specs.Tables.{Tables, next_at}

-- ---- what a command reaches

-- the nodes that it reads and those that it writes
pub record Need : Type 0 where
  pub reads : List NodeId
  pub writes : List NodeId

abbrev pub nodes_of : Need → List ℕ
nodes_of need = numbers need.reads ++ numbers need.writes

abbrev pub names_of : List CellSeen → List NodeId
names_of cells = map (λ (c : CellSeen). record { 0 = c.id }) cells

-- what the task of a command was given
abbrev pub need_of : Out → Need
need_of out = record { reads = names_of out.reads; writes = names_of out.writes }

-- ---- tasks and holds

-- this task of a script is out
pub record IsOut (t : TurnsSeen) (script : ℕ) (out : Out) : Type 0 where
  pub is_script : IsScript t script
  pub is_out : (turn_at t script).out ≡ Some out

-- It holds what it was given, each node in its mode, and nothing else.
pub record Holds (locks : LocksSeen) (out : Out) : Type 0 where
  pub stands : IsTask locks out.task.0
  pub modes : (node : ℕ) → mode_of locks out.task.0 node
      ≡ mode_with Reads (need_of out).reads node (mode_with Writes (need_of out).writes node None)

-- The tasks of the table of holds are those that are out, each of one script.
pub record AreHeld (t : TurnsSeen) (locks : LocksSeen) : Type 0 where
  pub holds : (s : ℕ) (out : Out) → IsOut t s out → Holds locks out
  pub tasks : (k : ℕ) → IsTask locks k → (s : ℕ) × (out : Out) × IsOut t s out × (out.task.0 ≡ k)
  pub apart : (s q : ℕ) (a b : Out) → IsOut t s a → IsOut t q b → a.task.0 ≡ b.task.0 → s ≡ q

-- A task that is out is of the transaction of its script, and of its next command; and no other
-- atom owns a node that it reaches.
pub record IsServed (t : Tables) (script : ℕ) (out : Out) : Type 0 where
  pub within : Open
  pub transaction : (turn_at t.turns script).transaction ≡ Some within
  pub txn : within.txn ≡ out.txn
  pub command : Command
  pub next : next_at t.turns script ≡ Some command
  pub work : IsWork command
  pub owners : (node a : ℕ) → Contains (nodes_of (need_of out)) node
      → owner_of t.atoms node ≡ Some a → a ≡ atom_of t.atoms out.txn.0

pub record TasksTell (t : Tables) (locks : LocksSeen) : Type 0 where
  pub held : AreHeld t.turns locks
  pub served : (s : ℕ) (out : Out) → IsOut t.turns s out → IsServed t s out

-- A new task holds what it was given, and the others hold what they held.
pub record HoldsNew (before after : LocksSeen) (out : Out) : Type 0 where
  pub unused : task_at before out.task.0 ≡ None
  pub holds : Holds after out
  pub others : OthersAsBefore before after out.task.0

-- Of what tasks reach that are out, each node that has an owner had one before, whose atom is now
-- that of the owner: of its transactions, as far as tasks go.
abbrev pub OwnersFollow : Tables → (after : AtomsSeen) → Type 0
OwnersFollow t after =
    (s : ℕ) (out : Out) (node a : ℕ) → IsOut t.turns s out → Contains (nodes_of (need_of out)) node
    → owner_of after node ≡ Some a
    → (b : ℕ) × (owner_of t.atoms node ≡ Some b)
    × (atom_of t.atoms out.txn.0 ≡ b → atom_of after out.txn.0 ≡ a)

-- what the table of atoms says of all owners
abbrev pub AreOwners : AtomsSeen → Type 0
AreOwners s = (node a : ℕ) → owner_of s node ≡ Some a → IsAtom s a × (is_cleaned s a ≡ false)
