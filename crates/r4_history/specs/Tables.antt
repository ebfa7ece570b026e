-- The tables of a run: what they say of its scripts, its transactions and its atoms
-- (docs/histories.md).
use Rattle.std.specs.Prelude.{◌≡◌, ℕ, zero, suc, ◌+◌, ◌-◌, ◌≤◌, List, [], ◌∷◌, ◌++◌, map, length, slice_get}
use Rattle.std.specs.Prelude.{slice_index_or, slice_set, Option, Some, None, true, false, if◌then◌else◌}
use Rattle.r4_atoms.specs.Atoms.{AtomsSeen, IsBegun as IsTxn, IsClosedAtom, joined, new_atom, new_txn, renamed_txn}
use Rattle.r4_atoms.specs.Atoms.{state_of, txn_of, with_state}
use Rattle.r4_base.specs.declared.things.TxnNo.{TxnNo}
use Rattle.r4_content.specs.declared.command.Command.{Command}
use Rattle.r4_turns.specs.r4_script.declared.job.Job.{Job}
use Rattle.r4_turns.specs.r4_script.declared.job.Script.{Script}
use Rattle.r4_trace.specs.Job.{Asked, Inside, Outside, Place, Single, Within, at_start}
use Rattle.r4_turns.specs.Turns.{IsScript, TurnsSeen, answered_at, answered_one, commands_at, entered, left, start}
use Rattle.r4_turns.specs.Turns.{started, turn_at}
use Rattle.r4_turns.specs.declared.turn.Open.{Open}
use Rattle.r4_turns.specs.declared.turn.Turn.{Turn}

-- the table of turns and that of atoms; the atom whose commit is under way; the clock of the call
-- of the device that failed
pub record Tables : Type 0 where
  pub turns : TurnsSeen
  pub atoms : AtomsSeen
  pub commit : Option ℕ
  pub broken : Option ℕ

-- ---- scripts

-- the commands of each script of a job
abbrev pub asked : Job → Asked
asked job = map (λ (s : Script). s.commands) job.scripts

-- the next command of a script
abbrev pub next_at : TurnsSeen → (script : ℕ) → Option Command
next_at t script = slice_get (commands_at t script) (answered_at t script)

abbrev pub within_of : Option Open → Within
within_of None = Outside
within_of (Some o) = if o.single then Single o.txn.0 else Inside o.txn.0

-- how far a script is by its turn
abbrev pub place_of : Turn → Place
place_of turn = record { answered = turn.answered; within = within_of turn.transaction }

-- Scripts are counted from 1; what is no script stands at the start.
abbrev pub place_at : List Turn → (script : ℕ) → Place
place_at turns zero = at_start
place_at turns (suc i) = place_of (slice_index_or turns i start)

-- a script with this open transaction, if it has one, and this next command
pub record Stands (t : TurnsSeen) (script : ℕ) (within : Option Open) (command : Option Command)
    : Type 0 where
  pub is_script : IsScript t script
  pub transaction : (turn_at t script).transaction ≡ within
  pub next : next_at t script ≡ command

-- its next command has this index, counted from 1
pub record IsNextCommand
    (t : TurnsSeen) (script : ℕ) (within : Option Open) (i : ℕ) (command : Command) : Type 0 where
  pub stands : Stands t script within (Some command)
  pub index : i ≡ answered_at t script + 1

-- a transaction that `begin` began, and that of a single command
abbrev pub inside : TxnNo → Open
inside txn = record { txn = txn; single = false }

abbrev pub single : TxnNo → Open
single txn = record { txn = txn; single = true }

-- a transaction ends
abbrev pub with_ended : AtomsSeen → (txn : ℕ) → AtomsSeen
with_ended s t =
    record s { txns = slice_set s.txns (t - 1) (record (txn_of s t) { is_open = false }) }

-- The next command of a script is answered. Where that ends its transaction, it leaves it.
abbrev pub with_answer : Tables → (script : ℕ) → Tables
with_answer t script = record t { turns = answered_one t.turns script }

abbrev pub with_last_answer : Tables → (script txn : ℕ) → Tables
with_last_answer t script txn = record t {
  turns = left (answered_one t.turns script) script;
  atoms = with_ended t.atoms txn;
}

-- A transaction begins by `begin`, or for a single command.
abbrev pub with_begin : Tables → (script : ℕ) → TxnNo → AtomsSeen → Tables
with_begin t script txn atoms = record t {
  turns = answered_one (entered t.turns script (inside txn)) script;
  atoms = atoms;
}

abbrev pub with_single : Tables → (script : ℕ) → TxnNo → AtomsSeen → Tables
with_single t script txn atoms = record t {
  turns = entered t.turns script (single txn);
  atoms = atoms;
}

-- It ends by `end`, or because nothing else follows in its script.
abbrev pub with_end : Tables → (script txn : ℕ) → Tables
with_end t script txn = record t {
  turns = answered_one (left t.turns script) script;
  atoms = with_ended t.atoms txn;
}

abbrev pub with_nothing_left : Tables → (script txn : ℕ) → Tables
with_nothing_left t script txn = record t {
  turns = left t.turns script;
  atoms = with_ended t.atoms txn;
}

-- ---- what becomes of transactions and atoms

-- a transaction begins, alone in its atom
pub record Begins (old new : AtomsSeen) (script : ℕ) : Type 0 where
  pub txns : new.txns ≡ old.txns ++ new_txn script (length old.txns + 1) ∷ []
  pub atoms : new.atoms ≡ old.atoms ++ new_atom ∷ []

-- two atoms become one
pub record Fuses (old new : AtomsSeen) (kept gone : ℕ) : Type 0 where
  pub txns : new.txns ≡ map (renamed_txn kept gone) old.txns
  pub atoms : new.atoms ≡ joined old.atoms (kept - 1) (gone - 1)

abbrev pub with_sealed : AtomsSeen → (atom : ℕ) → AtomsSeen
with_sealed s a = with_state s a (record (state_of s a) { sealed = true })

abbrev pub with_committed : AtomsSeen → (atom : ℕ) → AtomsSeen
with_committed s a = with_state s a (record (state_of s a) { committed = true })

abbrev pub with_cleaned : AtomsSeen → (atom : ℕ) → AtomsSeen
with_cleaned s a = with_state s a (record (state_of s a) { cleaned = true })

-- the transaction that a script began last, or 0 where it has begun none
pub record IsLastOf (s : AtomsSeen) (script txn : ℕ) : Type 0 where
  pub is_one : (txn ≡ 0 → ⊥) → IsTxn s txn × ((txn_of s txn).script ≡ script)
  pub no_later : (t : ℕ) → IsTxn s t → (txn_of s t).script ≡ script → t ≤ txn

-- ---- at the start and at the end

-- the tables of a run of a job that begins, with room for any number of captures and transactions
abbrev pub opened : Job → (spare txn_spare : ℕ) → Tables
opened job spare txn_spare = record {
  turns = started job;
  atoms = record { txns = []; atoms = []; captured = []; spare = spare; txn_spare = txn_spare };
  commit = None;
  broken = None;
}

-- Each command of a script is answered, and no transaction of it is open, unless a call of the
-- device failed.
pub record IsFinished (t : Tables) (script : ℕ) : Type 0 where
  pub answered : answered_at t.turns script ≡ length (commands_at t.turns script)
  pub closed : t.broken ≡ None → (turn_at t.turns script).transaction ≡ None

-- All scripts are finished, no commit is under way, no atom is left that could be sealed, and no
-- call of the device failed.
pub record IsOver (t : Tables) : Type 0 where
  pub finished : (s : ℕ) → IsScript t.turns s → IsFinished t s
  pub no_atom : (a : ℕ) → IsClosedAtom t.atoms a → ⊥
  pub no_commit : t.commit ≡ None
  pub sound : t.broken ≡ None
