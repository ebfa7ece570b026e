-- What `ask` calls ready, and what its task is given of it (docs/core.md, "Asking").
use Rattle.std.specs.Prelude.{◌≡◌, ℕ, ◌+◌, ◌*◌, ◌^◌, ◌<◌, ◌≤◌, ◌++◌, length, Contains, Option, None, Some}
use Rattle.std.specs.Arc.{arc_value}
use Rattle.r4_serve.specs.r4_cell.Patch.{HaveNames, by_name, root_of_pair}
use Rattle.r4_serve.specs.r4_cell.Seen.{CellSeen}
use Rattle.r4_serve.specs.r4_cell.declared.change.Root.{Root}
use Rattle.r4_serve.specs.r4_commit.Planned.{CommitSeen}
use Rattle.r4_content.specs.declared.command.Command.{Command}
use Rattle.r4_serve.specs.r4_history.Drawn.{numbers_of}
use Rattle.r4_serve.specs.r4_history.Serving.{IsSealedOwner}
use Rattle.r4_locks.specs.Locks.{conflict_of}
use Rattle.r4_outside.specs.Device.{State}
use Rattle.r4_serve.specs.r4_patch.Part.{IsPart}
use Rattle.r4_serve.specs.r4_extent_reaching.declared.reached.Reach.{Reach}
use Rattle.r4_serve.specs.Serving.{Asks, PartsSeen, need_in}
use Rattle.r4_serve.specs.declared.asked.Asked.TheVariants as asked
use Rattle.r4_serve.specs.declared.asked.Ready.{Ready}
use Rattle.r4_taking.specs.GoingOut.{IsMet}
use Rattle.r4_serve.specs.r4_turns.Turns.{IsScript, turn_at}
use Rattle.r4_serve.specs.r4_turns.declared.out.Numbers.{Numbers}
use Rattle.r4_serve.specs.r4_turns.declared.out.Out.{Out}
use Rattle.r4_serve.specs.r4_turns.declared.out.Scope.{Scope}
use Rattle.r4_serve.specs.r4_turns.declared.out.TheConstants.{MOST_NEW}
use Rattle.r4_taking.specs.r4_kept.TasksOut.{IsGiven}
use Rattle.r4_taking.specs.r4_kept.View.{CoreSeen, blocks_of}
use Rattle.r4_taking.specs.r4_kept.declared.parts.Commit.{Commit}

-- what the commit under way writes
abbrev pub plan_of : Option Commit → Option CommitSeen
plan_of None = None
plan_of (Some k) = k.work

-- the parts of a core that decide what becomes of a command
abbrev pub parts_of : {D : Type 0} → CoreSeen D → PartsSeen
parts_of c = record {
  buffer = c.buffer;
  locks = c.locks;
  atoms = c.atoms;
  root = c.tree;
  blocks = blocks_of c;
  plan = plan_of c.commit;
}

-- The command was asked of the core, and is ready; the device was read on from d to e.
pub record IsReady
    {D : Type 0} (d e : State) (c : CoreSeen D) (x : Command) (ready : Ready) : Type 0
  where
    pub sound : c.broken ≡ None
    pub asks : Asks d e (parts_of c) x (asked.Ready ready)

-- They are numbers of the next command of a script that are kept, or new ones.
pub record AreGotten {D : Type 0} (c : CoreSeen D) (s : ℕ) (n : Numbers) : Type 0 where
  pub kept : (k : Numbers) → numbers_of (turn_at c.turns s) ≡ Some k → n ≡ k
  pub drawn : numbers_of (turn_at c.turns s) ≡ None → c.numbers.next_name ≤ n.fresh.next

-- what is known of a reach in this tree besides its cells
abbrev pub scope_of : Root → Reach → Scope
scope_of tree r = record {
  root = tree;
  in_leaves = r.in_leaves;
  in_extents = r.in_extents;
  most = r.most;
}

-- The task is given the reach and what was seen, with 64 numbers for each cell that it writes, and
-- room for the cells that it captures and that may come, of which there are few, for a charge and
-- its claims.
pub record IsOfReach (tree : Root) (r : Reach) (out : Out) : Type 0 where
  pub reads : out.reads ≡ r.reads
  pub writes : out.writes ≡ r.writes
  pub seen : arc_value out.seen ≡ r.seen
  pub scope : out.scope ≡ scope_of tree r
  pub few : r.most ≤ MOST_NEW
  pub least : 2 ^ 63 ≤ out.numbers.fresh.next
  pub most : out.numbers.fresh.end < 2 ^ 64
  pub numbers : out.numbers.fresh.next + 64 * length r.writes ≤ out.numbers.fresh.end
  pub cells : length r.writes + r.most ≤ out.cells
  pub claims : length r.writes + 1 ≤ out.claims

-- What has to hold for a ready command to go out, of the core whose device was read: its task is
-- given what it reaches; all that it reads and writes was met; what was met is what a task may keep,
-- and a part of the tree; no sealed atom owns a node that it needs, and no hold is in its way.
pub record MayStart
    {D : Type 0} (d : State) (c : CoreSeen D) (x : Command) (ready : Ready) : Type 0
  where
    pub sound : c.broken ≡ None
    pub given : (s : ℕ) → IsScript c.turns s → (out : Out) → IsOfReach c.tree ready.reach out
        → AreGotten c s out.numbers → IsGiven c.tree x out
    pub met : (y : CellSeen) → Contains ready.reach.met y → IsMet d c y
    pub among : (y : CellSeen) → Contains (ready.reach.reads ++ ready.reach.writes) y
        → Contains ready.reach.met y
    pub names : HaveNames ready.reach.met
    pub part : IsPart (by_name ready.reach.met) (root_of_pair c.tree)
    pub need : ready.need ≡ need_in ready.reach
    pub unsealed : (a : ℕ) → IsSealedOwner c.atoms (need_in ready.reach) a → ⊥
    pub clear : conflict_of c.locks None (need_in ready.reach).reads (need_in ready.reach).writes
        ≡ None
