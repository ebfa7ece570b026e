-- The tables of a run against its trace, the newest entry first (docs/histories.md).
use Rattle.std.specs.Prelude.{◌≡◌, ◌↔◌, ℕ, ◌+◌, ◌≤◌, if◌then◌else◌, List, length, Option, Some, None, true, false}
use Rattle.r4_atoms.specs.Atoms.{AtomsSeen, IsBegun as IsTxn, atom_of, is_cleaned, is_committed, is_sealed, txn_of}
use Rattle.r4_content.specs.Locality.{Meaning}
use Rattle.r4_content.specs.declared.command.Command.{Command}
use Rattle.r4_content.specs.declared.reply.Reply.{Reply}
use Rattle.r4_trace.specs.Folds.{content_of, everything}
use Rattle.r4_trace.specs.Ids.{IsNewId, Start, id_of}
use Rattle.r4_trace.specs.Job.{Asked, commands_of, place}
use Rattle.r4_trace.specs.Legal.{IsLegalSoFar}
use Rattle.r4_trace.specs.Traced.{IsBegun, IsCommitted, IsEnded, IsSealed, atom_in, begun_in, broken_at}
use Rattle.r4_trace.specs.Traced.{committed_in, last_sealed, latest, sealed_in}
use Rattle.r4_trace.specs.declared.entry.Entry.{Entry}
use Rattle.r4_history.specs.Tables.{Tables, asked, place_at}

-- The table of atoms has the transactions that the trace begins, each with its script and its atom;
-- and it knows which have ended, and which atoms are sealed and committed.
pub record AtomsTell (s : AtomsSeen) (trace : List Entry) : Type 0 where
  pub states : length s.atoms ≡ length s.txns
  pub begun : length s.txns ≡ begun_in trace
  pub script : (t : ℕ) → IsTxn s t → IsBegun trace t (txn_of s t).script
  pub atom : (t : ℕ) → IsTxn s t → atom_of s t ≡ atom_in trace t
  pub ended : (t : ℕ) → IsTxn s t → ((txn_of s t).is_open ≡ false) ↔ IsEnded trace t
  pub sealed : (a : ℕ) → IsTxn s a → (is_sealed s a ≡ true) ↔ IsSealed trace a
  pub committed : (a : ℕ) → IsTxn s a → (is_committed s a ≡ true) ↔ IsCommitted trace a

-- The commit of this atom is under way: it was sealed last, and is committed or is the one that is
-- not yet.
pub record IsUnderWay (s : AtomsSeen) (a : ℕ) (trace : List Entry) : Type 0 where
  pub atom : IsTxn s a
  pub last : last_sealed trace ≡ Some a
  pub counts : sealed_in trace ≡ committed_in trace + (if is_committed s a then 0 else 1)

abbrev pub IsCommitting : AtomsSeen → Option ℕ → List Entry → Type 0
IsCommitting s None trace = sealed_in trace ≡ committed_in trace
IsCommitting s (Some a) trace = IsUnderWay s a trace

-- Before a call of the device fails, the commit is that of the one atom which is sealed and not
-- clean yet; after it there is none.
pub record CommitTells (s : AtomsSeen) (commit broken : Option ℕ) (trace : List Entry)
    : Type 0 where
  pub under_way : broken ≡ None → IsCommitting s commit trace
  pub one : (a : ℕ) → broken ≡ None → IsTxn s a → is_sealed s a ≡ true
      → is_cleaned s a ≡ false → commit ≡ Some a
  pub none : (clock : ℕ) → broken ≡ Some clock → commit ≡ None

-- The trace is legal for the job, and tells what the tables say, up to the clock.
pub record IsTold
    (w : Meaning Command Reply) (start : Option Start) (clock : ℕ) (t : Tables) (trace : List Entry)
    : Type 0 where
  pub legal : IsLegalSoFar w start (Some (asked t.turns.job)) trace
  pub time : latest trace ≤ clock
  pub scripts : length t.turns.turns ≡ length t.turns.job.scripts
  pub places : (s : ℕ) →
      place_at t.turns.turns s ≡ place (commands_of (asked t.turns.job) s) trace s
  pub atoms : AtomsTell t.atoms trace
  pub commit : CommitTells t.atoms t.commit t.broken trace
  pub broken : t.broken ≡ broken_at trace

-- ---- what a Done entry asks for

-- the reply that the command has after all that was done before, where the start is named
abbrev pub HasReply :
    Meaning Command Reply → Option Start → List Entry → Command → Reply → Type 0
HasReply w start trace c r =
    (b : Start) → start ≡ Some b → r ≡ w.reply c (content_of w b.content everything trace)

-- what it makes has a new id
abbrev pub HasNewId : Option Start → Asked → List Entry → Command → Type 0
HasNewId start job trace c = (x : ℕ) → id_of c ≡ Some x → IsNewId start (Some job) trace x
