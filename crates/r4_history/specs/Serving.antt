-- Which script is served, why one waits, and which atoms fuse (docs/histories.md).
use Rattle.std.specs.Prelude.{◌≡◌, ◌⊎◌, ◌↔◌, ℕ, ◌<◌, ◌≤◌, min, max, Contains, List, [], ◌∷◌, Option, Some, None}
use Rattle.std.specs.Prelude.{IsSome, option_map, true, false}
use Rattle.r4_atoms.specs.Atoms.{AllCommitted, AtomsSeen, IsOtherOwner, IsUncommittedOf, is_sealed, owner_of}
use Rattle.r4_atoms.specs.Names.{renamed}
use Rattle.r4_atoms.specs.declared.things.Uncommitted.TheVariants as uncommitted
use Rattle.r4_base.specs.declared.things.AtomNo.{AtomNo}
use Rattle.r4_content.specs.declared.command.Command.{Command}
use Rattle.r4_content.specs.declared.command.Command.TheVariants as commands
use Rattle.r4_locks.specs.Locks.{LocksSeen, conflict_of}
use Rattle.r4_turns.specs.r4_script.Spelling.{AreInOrder}
use Rattle.r4_trace.specs.declared.entry.Entry.{Entry}
use Rattle.r4_trace.specs.declared.entry.Entry.TheVariants.{Fuse}
use Rattle.r4_turns.specs.Turns.{IsBefore, IsScript, TurnsSeen, commands_at, turn_at}
use Rattle.r4_turns.specs.declared.out.Out.{Out as Task}
use Rattle.r4_turns.specs.declared.turn.Open.{Open as OpenTxn}
use Rattle.r4_history.specs.declared.why.Why.{Why}
use Rattle.r4_history.specs.declared.why.Why.TheVariants.{Held, Open, Out, Sealed}
use Rattle.r4_history.specs.Held.{IsOut, Need, nodes_of}
use Rattle.r4_history.specs.Tables.{Fuses, IsFinished, Tables, next_at}

-- ---- what makes a command wait

-- a sealed atom owns a node that is reached
pub record IsSealedOwner (s : AtomsSeen) (need : Need) (a : ℕ) : Type 0 where
  pub node : ℕ
  pub reached : Contains (nodes_of need) node
  pub owner : owner_of s node ≡ Some a
  pub sealed : is_sealed s a ≡ true

-- What stands in the way of a command with this reach: a sealed atom that owns a node of it; else
-- the first hold that conflicts. What makes work wait stands here alone.
abbrev pub IsInTheWay : AtomsSeen → LocksSeen → Need → Why → Type 0
IsInTheWay s locks need (Sealed atom) = IsSealedOwner s need atom.0
IsInTheWay s locks need (Held node holder) =
    ((a : ℕ) → IsSealedOwner s need a → ⊥)
    × (conflict_of locks None need.reads need.writes ≡ Some (node, holder))
IsInTheWay s locks need why = ⊥

-- What stands in the way of `commit`: the atom whose commit is under way, whichever it is; else,
-- where each atom of the script that is not sealed has an open transaction, the smallest of them.
abbrev pub IsInTheWayOfCommit : Tables → (script : ℕ) → Why → Type 0
IsInTheWayOfCommit t script (Sealed atom) = t.commit ≡ Some atom.0
IsInTheWayOfCommit t script (Open atom txn) =
    (t.commit ≡ None) × IsUncommittedOf t.atoms script (uncommitted.Open atom txn)
IsInTheWayOfCommit t script why = ⊥

-- where its reading ended at a block a command is refused, and does not wait
abbrev pub IsInTheWayOf : AtomsSeen → LocksSeen → Option Need → Why → Type 0
IsInTheWayOf s locks None why = ⊥
IsInTheWayOf s locks (Some need) why = IsInTheWay s locks need why

-- why the next command cannot be taken; `begin` and `end` can, and so can the end of a script
abbrev pub IsHeldUp :
    Tables → LocksSeen → Option Need → (script : ℕ) → Option Command → Why → Type 0
IsHeldUp t locks need script None why = ⊥
IsHeldUp t locks need script (Some commands.Begin) why = ⊥
IsHeldUp t locks need script (Some commands.End) why = ⊥
IsHeldUp t locks need script (Some commands.Commit) why =
    (AllCommitted t.atoms script → ⊥) × IsInTheWayOfCommit t script why
IsHeldUp t locks need script (Some c) why = IsInTheWayOf t.atoms locks need why

-- A script waits: its next command reaches this, if it is read to its end. After a failed call of
-- the device none waits.
pub record WaitsFor (t : Tables) (locks : LocksSeen) (need : Option Need) (script : ℕ) (why : Why)
    : Type 0 where
  pub sound : t.broken ≡ None
  pub held_up : IsHeldUp t locks need script (next_at t.turns script) why

-- A `commit` asks for a flush of this atom: no commit is under way, and it is the smallest of the
-- script's atoms that are not sealed and have no open transaction.
pub record AsksForFlush (t : Tables) (script : ℕ) (atom : AtomNo) : Type 0 where
  pub sound : t.broken ≡ None
  pub waits : AllCommitted t.atoms script → ⊥
  pub rests : t.commit ≡ None
  pub smallest : IsUncommittedOf t.atoms script (uncommitted.Closed atom)

-- ---- which script is served

-- It is finished, or a task of it is out, or it waits.
abbrev pub IsPassedOver : Tables → LocksSeen → (needs : ℕ → Option Need) → (script : ℕ) → Type 0
IsPassedOver t locks needs s =
    IsFinished t s
    ⊎ (((out : Task) × IsOut t.turns s out) ⊎ ((why : Why) × WaitsFor t locks (needs s) s why))

-- The first script that is not passed over, in the order of fewest answered commands, then smallest
-- number; `needs` has what the next command of each reaches.
pub record IsServedNext (t : Tables) (locks : LocksSeen) (needs : ℕ → Option Need) (script : ℕ)
    : Type 0 where
  pub is_script : IsScript t.turns script
  pub goes_on : IsPassedOver t locks needs script → ⊥
  pub order : (q : ℕ) → IsScript t.turns q → IsBefore t.turns q script
      → IsPassedOver t locks needs q

-- why a script that is not finished is passed over
abbrev pub IsReason :
    Tables → LocksSeen → Option Need → (script : ℕ) → Option Task → Why → Type 0
IsReason t locks need s (Some out) why = why ≡ Out out.task
IsReason t locks need s None why = WaitsFor t locks need s why

-- Some script is not finished and none can be served; the reason is that of the first in the order
-- which is not finished.
pub record IsWaiting (t : Tables) (locks : LocksSeen) (needs : ℕ → Option Need) (why : Why) : Type 0
  where
    pub script : ℕ
    pub is_script : IsScript t.turns script
    pub unfinished : IsFinished t script → ⊥
    pub first : (q : ℕ) → IsScript t.turns q → IsBefore t.turns q script → IsFinished t q
    pub reason : IsReason t locks (needs script) script (turn_at t.turns script).out why
    pub all : (q : ℕ) → IsScript t.turns q → IsPassedOver t locks needs q

-- a task is out, or a commit is under way
abbrev pub IsAtWork : Tables → Type 0
IsAtWork t = ((s : ℕ) × (out : Task) × IsOut t.turns s out) ⊎ IsSome t.commit

-- the scripts are those of a text: no `commit` stands inside of a transaction
abbrev pub AreOrdered : TurnsSeen → Type 0
AreOrdered t = (s : ℕ) → IsScript t s → AreInOrder false (commands_at t s)

-- What may come next in a script with this open transaction, if it has one: `end` and the end of the
-- script in one that `begin` began, work in any and outside, `begin` and `commit` outside.
abbrev pub Suits : Option OpenTxn → Option Command → Type 0
Suits None (Some commands.End) = ⊥
Suits None c = Unit {0}
Suits (Some o) (Some commands.Begin) = ⊥
Suits (Some o) (Some commands.Commit) = ⊥
Suits (Some o) (Some commands.End) = o.single ≡ false
Suits (Some o) None = o.single ≡ false
Suits (Some o) (Some c) = Unit {0}

-- ---- which atoms fuse

-- another atom, which is not sealed, owns a node that is reached
pub record IsOwnerInReach (s : AtomsSeen) (own : ℕ) (need : Need) (a node : ℕ) : Type 0 where
  pub reached : Contains (nodes_of need) node
  pub owner : IsOtherOwner s own node (record { 0 = a })

-- the smallest such node of it
pub record IsLeastOwned (s : AtomsSeen) (own : ℕ) (need : Need) (a node : ℕ) : Type 0 where
  pub is_one : IsOwnerInReach s own need a node
  pub least : (n : ℕ) → IsOwnerInReach s own need a n → node ≤ n

abbrev pub Rise : List (ℕ × ℕ) → Type 0
Rise [] = Unit {0}
Rise (p ∷ rest) = ((q : ℕ × ℕ) → Contains rest q → p.0 < q.0) × Rise rest

-- The other open atoms that own a node of the reach, rising, each once and with the smallest such
-- node. With these the atom of the command fuses.
pub record AreOthers (s : AtomsSeen) (own : ℕ) (need : Need) (others : List (ℕ × ℕ)) : Type 0 where
  pub rise : Rise others
  pub each : (a node : ℕ) → Contains others (a, node) ↔ IsLeastOwned s own need a node

-- the entries that are written for them, one for each; the atom of the command is the smaller of
-- the two from there on
abbrev pub fused : (own : ℕ) → (others : List (ℕ × ℕ)) → List Entry → List Entry
fused own [] trace = trace
fused own (p ∷ rest) trace =
    fused (min own p.0) rest
    (Fuse (record { 0 = min own p.0 }) (record { 0 = max own p.0 }) (record { 0 = p.1 }) ∷ trace)

-- the table of atoms behind these fuses, one after the other
abbrev pub FusesAll : AtomsSeen → (own : ℕ) → (others : List (ℕ × ℕ)) → AtomsSeen → Type 0
FusesAll s own [] after = after ≡ s
FusesAll s own (p ∷ rest) after =
    (mid : AtomsSeen)
    × Fuses s mid (min own p.0) (max own p.0)
    × ((n : ℕ) → owner_of mid n ≡ option_map (renamed (min own p.0) (max own p.0)) (owner_of s n))
    × FusesAll mid (min own p.0) rest after

-- the atom of the command then
abbrev pub least_of : (own : ℕ) → (others : List (ℕ × ℕ)) → ℕ
least_of own [] = own
least_of own (p ∷ rest) = least_of (min own p.0) rest
