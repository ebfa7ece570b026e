-- What a command is given that goes out as a task, and when it may go out.
use Rattle.std.specs.Prelude.{◌≡◌, ◌+◌, ℕ, None, length}
use Rattle.r4_base.specs.declared.things.TaskId.{TaskId}
use Rattle.r4_buffer.specs.Seen.{cells_of}
use Rattle.r4_cell.specs.Patch.{HaveNames, by_name, root_of_pair}
use Rattle.r4_core.specs.declared.handing.Given.{Given}
use Rattle.r4_core.specs.declared.handing.GoingOut.{GoingOut}
use Rattle.r4_others.specs.r4_history.Held.{names_of}
use Rattle.r4_ready.specs.r4_kept.View.{CoreSeen}
use Rattle.r4_locks.specs.Locks.{CanLetIn, SameTasks, conflict_of}
use Rattle.r4_outside.specs.Device.{State}
use Rattle.r4_ready.specs.r4_patch.Part.{IsPart}
use Rattle.r4_ready.specs.r4_taking.GoingOut.{CanGoOut}
use Rattle.r4_turns.specs.Turns.{IsScript}
use Rattle.r4_turns.specs.declared.out.Out.{Out}

-- the task that is given this, under its number
abbrev pub as_task : Given → TaskId → Out
as_task given task = record {
  task = task;
  txn = given.txn;
  reads = given.reads;
  writes = given.writes;
  pins = given.pins;
  seen = given.seen;
  scope = given.scope;
  numbers = given.numbers;
  cells = given.cells;
  claims = given.claims;
}

-- No task went out: all is as before, but that the table of holds may have places to spare.
pub record HasNoneOut {D : Type 0} (old new : CoreSeen D) : Type 0 where
  pub holds : SameTasks old.locks new.locks
  pub same : new ≡ record old { locks = new.locks }

-- The command may go out with what it is given, whatever number its task gets. The cells that were
-- met are cells by themselves, and a part of the tree. It needs the nodes of what it reads and
-- writes; no task is in its way, and there is room for its holds.
pub record CanHandOut {D : Type 0} (d : State) (c : CoreSeen D) (s : ℕ) (g : GoingOut) : Type 0
  where
    pub sound : c.broken ≡ None
    pub script : IsScript c.turns s
    pub can : (task : TaskId)
        → CanGoOut d c s (as_task g.given task) (cells_of g.met.items) g.next
    pub names : HaveNames (cells_of g.met.items)
    pub part : IsPart (by_name (cells_of g.met.items)) (root_of_pair c.tree)
    pub reads : g.need.reads ≡ names_of g.given.reads
    pub writes : g.need.writes ≡ names_of g.given.writes
    pub clear : conflict_of c.locks None g.need.reads g.need.writes ≡ None
    pub room : CanLetIn c.locks g.new (length g.need.reads + length g.need.writes)
