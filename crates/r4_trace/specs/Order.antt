-- Which entry may follow which trace, whatever was asked, the newest entry first: transactions,
-- atoms, commits, clocks (docs/traces.md).
use Rattle.std.specs.Prelude.{◌≡◌, ◌⊎◌, ℕ, ◌+◌, ◌<◌, ◌≤◌, List, [], ◌∷◌, Option, Some, None}
use Rattle.r4_content.specs.declared.reply.Reply.TheVariants.{Reopen}
use Rattle.r4_trace.specs.declared.entry.Entry.{Entry}
use Rattle.r4_trace.specs.declared.entry.Entry.TheVariants.{Begin, Fuse, Done, Refused, Ended, Sealed, Committed, Acked, Broken}
use Rattle.r4_trace.specs.Traced.{begun_in, sealed_in, committed_in, latest, broken_at, IsBegun, IsOpen, IsCommitted, IsUnsealed, atom_in, last_of, last_sealed}

-- Transactions are numbered from 1, and a script has at most one that is open. What is done is done
-- in an open one, and what is refused in one or in none. Two unsealed atoms become one, which the
-- smaller names. An atom is sealed where none of its transactions is open and every earlier one is
-- committed. The last one that was sealed is committed, once. A script's last transaction is
-- acknowledged where all of its are in committed atoms. Clocks do not fall.
abbrev pub MayFollow : List Entry → Entry → Type 0
MayFollow older (Begin txn script) =
    (txn.0 ≡ begun_in older + 1) × ((t : ℕ) → IsOpen older t script.0 → ⊥)
MayFollow older (Fuse kept gone node) =
    (kept.0 < gone.0) × IsUnsealed older kept.0 × IsUnsealed older gone.0
MayFollow older (Done txn script index command reply) = IsOpen older txn.0 script.0
MayFollow older (Refused txn script index reply) = (txn.0 ≡ 0) ⊎ IsOpen older txn.0 script.0
MayFollow older (Ended txn) = (s : ℕ) × IsOpen older txn.0 s
MayFollow older (Sealed atom) =
    IsUnsealed older atom.0
    × ((t s : ℕ) → IsOpen older t s → atom_in older t ≡ atom.0 → ⊥)
    × (sealed_in older ≡ committed_in older)
MayFollow older (Committed atom clock) =
    (last_sealed older ≡ Some atom.0)
    × (sealed_in older ≡ committed_in older + 1)
    × (latest older ≤ clock)
MayFollow older (Acked script txn clock) =
    (txn.0 ≡ last_of older script.0)
    × ((t : ℕ) → IsBegun older t script.0 → IsCommitted older (atom_in older t))
    × (latest older ≤ clock)
MayFollow older (Broken clock faults) = latest older ≤ clock

-- a refusal with this clock, in no transaction
abbrev pub Reopens : (clock : ℕ) → Entry → Type 0
Reopens clock (Refused txn script index reply) = (txn.0 ≡ 0) × (reply ≡ Reopen clock)
Reopens clock e = ⊥

-- After a Broken entry there are such refusals alone.
abbrev pub MayComeNow : Option ℕ → Entry → Type 0
MayComeNow None e = Unit {0}
MayComeNow (Some clock) e = Reopens clock e

abbrev pub IsOrdered : List Entry → Type 0
IsOrdered [] = Unit {0}
IsOrdered (e ∷ older) = MayFollow older e × MayComeNow (broken_at older) e × IsOrdered older
