-- The scripts that wait at `commit` for an atom, and their refusal where there is no memory to flush
-- it (docs/core.md, "Flushing").
use Rattle.std.specs.Prelude.{◌≡◌, ◌⊎◌, ◌↔◌, ◌+◌, ◌<◌, ◌∷◌, [], ℕ, Contains, List, None, Some}
use Rattle.std.specs.List.{AllPairs}
use Rattle.r4_atoms.specs.Atoms.{AtomsSeen, IsBegun, atom_of, txn_of}
use Rattle.r4_base.specs.declared.things.ScriptNo.{ScriptNo}
use Rattle.r4_content.specs.declared.command.Command.TheVariants as asks
use Rattle.r4_content.specs.declared.reply.Reply.TheVariants.{Memory}
use Rattle.r4_core.specs.r4_history.Tables.{next_at}
use Rattle.r4_core.specs.r4_kept.Steps.{answered}
use Rattle.r4_core.specs.r4_kept.View.{CoreSeen}
use Rattle.r4_core.specs.r4_trace.declared.entry.Entry.TheVariants.{Refused}
use Rattle.r4_turns.specs.Turns.{IsScript, answered_at, turn_at}

-- a transaction of the script is in the atom
pub record HasTxnIn (s : AtomsSeen) (script atom : ℕ) : Type 0 where
  pub txn : ℕ
  pub begun : IsBegun s txn
  pub own : (txn_of s txn).script ≡ script
  pub among : atom_of s txn ≡ atom

-- It has no task out, its next command is `commit`, and a transaction of it is in the atom.
pub record WaitsAtCommit {D : Type 0} (c : CoreSeen D) (atom script : ℕ) : Type 0 where
  pub is_script : IsScript c.turns script
  pub free : (turn_at c.turns script).out ≡ None
  pub next : next_at c.turns script ≡ Some asks.Commit
  pub has : HasTxnIn c.atoms script atom

-- these scripts, in rising order
pub record AreWaiting {D : Type 0} (c : CoreSeen D) (atom : ℕ) (scripts : List ScriptNo) : Type 0
  where
    pub rise : AllPairs (λ (s q : ScriptNo). s.0 < q.0) scripts
    pub just : (s : ScriptNo) → Contains scripts s ↔ WaitsAtCommit c atom s.0

-- the `commit` that comes next in a script is refused for want of memory
abbrev pub refused_memory : {D : Type 0} → CoreSeen D → ScriptNo → CoreSeen D
refused_memory c s = answered c s.0
    (Refused (record { 0 = 0 }) s (answered_at c.turns s.0 + 1) Memory)

-- so it is of one script after the other
abbrev pub all_refused : {D : Type 0} → CoreSeen D → List ScriptNo → CoreSeen D
all_refused c [] = c
all_refused c (s ∷ scripts) = all_refused (refused_memory c s) scripts

-- it is refused exactly where the script waits for the atom
abbrev pub RefusesIfWaiting : {D : Type 0} → (old new : CoreSeen D) → (atom : ℕ) → ScriptNo → Type 0
RefusesIfWaiting old new atom s =
    (WaitsAtCommit old atom s.0 × (new ≡ refused_memory old s))
    ⊎ ((WaitsAtCommit old atom s.0 → ⊥) × (new ≡ old))
