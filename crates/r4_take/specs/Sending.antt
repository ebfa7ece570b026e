-- A command that is ready goes out as a task (docs/core.md, "Going out").
use Rattle.std.specs.Prelude.{Bool, List, ◌≡◌, ◌+◌, ◌*◌, ◌^◌, ◌<◌, ◌≤◌, ℕ, true, false, None, Option, Some, length}
use Rattle.std.specs.Arc.{arc_value}
use Rattle.r4_atoms.specs.Atoms.{AtomsSeen, atom_of}
use Rattle.r4_seal.specs.r4_build.Built.{IsTaskIn, edits_for}
use Rattle.r4_seal.specs.r4_build.declared.task.Task.{Task}
use Rattle.r4_cell.specs.Patch.{by_name, root_of_pair}
use Rattle.r4_cell.specs.declared.change.Root.{Root}
use Rattle.r4_content.specs.Fields.{HasBytePaths}
use Rattle.r4_content.specs.Held.{pairs_of as seen_pairs}
use Rattle.r4_content.specs.Seen.{Rises}
use Rattle.r4_seal.specs.r4_leaf_edits.Suiting.{SuitLeaves}
use Rattle.r4_seal.specs.r4_suited.Suited.{AreLawfulSeen}
use Rattle.r4_seal.specs.r4_buffer.Seen.{cells_of}
use Rattle.r4_content.specs.Meaning.{makes_object, with_id}
use Rattle.r4_cell.specs.Seen.{CellSeen}
use Rattle.r4_content.specs.declared.command.Command.{Command}
use Rattle.r4_content.specs.declared.seen.Seen.{Seen}
use Rattle.r4_seal.specs.r4_core.Handing.{HasNoneOut, as_task}
use Rattle.r4_seal.specs.r4_core.declared.handing.Given.{Given}
use Rattle.r4_seal.specs.r4_history.Drawn.{numbers_of}
use Rattle.r4_seal.specs.r4_history.Held.{names_of}
use Rattle.r4_seal.specs.r4_history.Serving.{AreOthers}
use Rattle.r4_seal.specs.r4_history.Tables.{Stands}
use Rattle.r4_seal.specs.r4_kept.Steps.{HasBegunSingle}
use Rattle.r4_seal.specs.r4_kept.View.{CoreSeen}
use Rattle.r4_seal.specs.r4_others.Others.{pairs_of}
use Rattle.r4_outside.specs.Device.{State}
use Rattle.r4_seal.specs.r4_extent_reaching.declared.reached.Reach.{Reach}
use Rattle.r4_seal.specs.r4_ready.Readiness.{MayStart, scope_of}
use Rattle.r4_seal.specs.r4_ready.Rooms.{HasMoreRoom}
use Rattle.r4_seal.specs.r4_serve.declared.asked.Ready.{Ready}
use Rattle.r4_seal.specs.r4_taking.Fusing.{HasFusedAll}
use Rattle.r4_seal.specs.r4_taking.GoingOut.{HasGoneOut}
use Rattle.r4_take.specs.Drawing.{draws_for}
use Rattle.r4_take.specs.declared.drawing.Draws.{Draws}
use Rattle.r4_take.specs.declared.gathering.Gathered.{Gathered}
use Rattle.r4_take.specs.declared.gathering.Own.{Own}
use Rattle.r4_take.specs.declared.lending.Lent.{Lent}
use Rattle.r4_seal.specs.r4_trace.Job.{IsWork}
use Rattle.r4_turns.specs.Turns.{answered_at, turn_at}
use Rattle.r4_turns.specs.declared.out.TheConstants.{MOST_NEW}
use Rattle.r4_turns.specs.declared.turn.Open.{Open}

-- ---- what is gathered

-- the open transaction and its atom, or those that begin next
abbrev pub own_in : AtomsSeen → Option Open → Own
own_in s (Some o) = record {
  txn = o.txn;
  atom = record { 0 = atom_of s o.txn.0 };
  begins = false;
}
own_in s None = record {
  txn = record { 0 = length s.txns + 1 };
  atom = record { 0 = length s.txns + 1 };
  begins = true;
}

-- how many cells a command with this reach captures at most
abbrev pub cells_of_reach : Reach → ℕ
cells_of_reach r = length r.writes + r.most

-- the cells that a task is given, and what was seen for it
pub record HasSame (reads writes : List CellSeen) (seen : Seen) (lent : Lent) : Type 0 where
  pub reads_are : lent.reads ≡ reads
  pub writes_are : lent.writes ≡ writes
  pub seen_is : arc_value lent.seen ≡ seen

-- What was gathered of a ready command with these numbers: its task is given the reach and what was
-- seen, keeps the nodes that were met, and gets room for all that it may capture and claim.
pub record IsGathered (s : AtomsSeen) (tree : Root) (own : Own) (draws : Draws) (ready : Ready) (g : Gathered)
    : Type 0
  where
    pub seen : arc_value g.given.seen ≡ ready.reach.seen
    pub given : g.given ≡ record {
      txn = own.txn;
      reads = ready.reach.reads;
      writes = ready.reach.writes;
      pins = names_of ready.reach.met;
      seen = g.given.seen;
      scope = scope_of tree ready.reach;
      numbers = draws.own;
      cells = cells_of_reach ready.reach;
      claims = length ready.reach.writes + 1;
    }
    pub lent : HasSame ready.reach.reads ready.reach.writes ready.reach.seen g.lent
    pub need : g.need ≡ ready.need
    pub met : cells_of g.met.items ≡ ready.reach.met
    pub others : AreOthers s own.atom.0 ready.need (pairs_of g.others.items)
    pub wanted : g.wanted ≡ record {
      entries = length g.others.items + 3;
      cells = cells_of_reach ready.reach;
      met = length ready.reach.met;
      claims = length ready.reach.writes + 1;
    }
    pub names : g.names ≡ length ready.need.reads + length ready.need.writes
    pub few : ready.reach.most ≤ MOST_NEW
    pub least : 2 ^ 63 ≤ draws.own.fresh.next
    pub most : draws.own.fresh.end < 2 ^ 64
    pub numbers : draws.own.fresh.next + 64 * length ready.reach.writes ≤ draws.own.fresh.end

-- ---- what changes

-- There may be more room, for holds and for all else that tasks take; all else is as it was.
pub record HasRoomier {D : Type 0} (old new : CoreSeen D) : Type 0 where
  pub mid : CoreSeen D
  pub holds : HasNoneOut old mid
  pub more : HasMoreRoom mid new

-- the transaction of the command: its script's open one, or a single one that begins
abbrev pub HasOwn :
    {D : Type 0} → (old new : CoreSeen D) → (s : ℕ) → Own → (begins : Bool) → Type 0
HasOwn old new s own true = HasBegunSingle old new (record { 0 = s }) own.txn
HasOwn old new s own false = new ≡ old

-- The next command of a script is work, in no transaction or an open one; it is not out.
pub record IsServable {D : Type 0} (c : CoreSeen D) (s : ℕ) (x : Command) : Type 0 where
  pub stands : Stands c.turns s (turn_at c.turns s).transaction (Some x)
  pub work : IsWork x
  pub free : (turn_at c.turns s).out ≡ None

-- The numbers that a command gets are kept for its script or drawn now; this is the command under
-- its id.
pub record IsNamed
    {D : Type 0} (c : CoreSeen D) (s : ℕ) (x : Command) (draws : Draws) (named : Command) : Type 0
  where
    pub drawn : draws ≡ draws_for (numbers_of (turn_at c.turns s)) c.numbers (makes_object x)
    pub is : named ≡ with_id draws.own.oid x

-- The next command of a script may go out under its id: it is ready.
pub record MaySend
    {D : Type 0} (d : State) (c : CoreSeen D) (s : ℕ) (named : Command) (draws : Draws)
    (ready : Ready) : Type 0
  where
    pub command : Command
    pub servable : IsServable c s command
    pub name : IsNamed c s command draws named
    pub start : MayStart d c named ready

-- The task, for whoever works at it: the next command of its script, with what it was given.
pub record IsLent
    {D : Type 0} (c : CoreSeen D) (s : ℕ) (named : Command) (given : Given) (task : Task) : Type 0
  where
    pub script : task.script.0 ≡ s
    pub index : task.index ≡ answered_at c.turns s
    pub txn : task.txn ≡ given.txn
    pub command : task.command ≡ named
    pub cells : (task.reads ≡ given.reads) × (task.writes ≡ given.writes)
    pub seen : arc_value task.seen ≡ arc_value given.seen
    pub scope : task.scope ≡ given.scope
    pub fresh : task.fresh ≡ given.numbers.fresh

-- It can be built in a part of a tree, with the task's numbers: its paths are of bytes, and what was seen is lawful. Where
-- all that it changes lies in leaves, these can take its edits.
pub record CanBeBuilt (task : Task) : Type 0 where
  pub met : List CellSeen
  pub root : Root
  pub is_task : IsTaskIn (by_name met) (root_of_pair root) task
  pub rises : Rises (seen_pairs (arc_value task.seen))
  pub paths : HasBytePaths task.command
  pub lawful : AreLawfulSeen task.command (seen_pairs (arc_value task.seen))
  pub suits : task.scope.in_leaves ≡ true → SuitLeaves 16384 (edits_for task)

-- Room was made. A single command's transaction began. Its atom fused with each other open atom
-- that owns a node of its reach. Then it went out as this task, with all that it was given.
pub record IsSent
    {D : Type 0} (old new : CoreSeen D) (s : ℕ) (named : Command) (draws : Draws) (ready : Ready)
    (task : Task) : Type 0
  where
    pub gathered : Gathered
    pub is : IsGathered old.atoms old.tree (own_in old.atoms (turn_at old.turns s).transaction) draws ready
        gathered
    pub roomy : CoreSeen D
    pub begun : CoreSeen D
    pub fused : CoreSeen D
    pub room : HasRoomier old roomy
    pub begins : HasOwn roomy begun s (own_in old.atoms (turn_at old.turns s).transaction)
        (own_in old.atoms (turn_at old.turns s).transaction).begins
    pub fuses : HasFusedAll begun (own_in old.atoms (turn_at old.turns s).transaction).atom.0
        (pairs_of gathered.others.items) fused
    pub out : HasGoneOut fused new s (as_task gathered.given task.id)
        (cells_of gathered.met.items)
    pub numbers : new.numbers ≡ draws.next
    pub lent : IsLent old s named gathered.given task
    pub builds : CanBeBuilt task
