-- The table of holds changes, and each task holds what it held: what holds of a core holds still.
use Rattle.std.proofs.Common.{Option, sym, ◌∙◌, ap, subst}
use Rattle.std.specs.Prelude.{IsSome}
use Rattle.r4_ready.specs.r4_durable.Meaning.{Beginning, IsNamed}
use Rattle.r4_others.specs.r4_history.Held.{TasksTell}
use Rattle.r4_locks.specs.Locks.{LocksSeen, SameTasks, TaskSeen, mode_in}
use Rattle.r4_outside.specs.Device.{State}
use Rattle.r4_ready.specs.r4_kept.Accounts.{AreAccounts}
use Rattle.r4_ready.specs.r4_kept.Cells.{AreCells}
use Rattle.r4_ready.specs.r4_kept.History.{IsHistory}
use Rattle.r4_ready.specs.r4_kept.Kept.{HasStory, IsKept}
use Rattle.r4_ready.specs.r4_kept.Naming.{Naming, names_in}
use Rattle.r4_ready.specs.r4_kept.TasksOut.{AreOut}
use Rattle.r4_ready.specs.r4_kept.View.{CoreSeen, tables_of}

module _ {D : Type 0} (r : Naming) (d : State) (c : CoreSeen D) (k : IsKept r d c) (locks : LocksSeen)
    (same : SameTasks c.locks locks) where
  abbrev after : CoreSeen D
  after = record c { locks = locks }

  tasks_tell : TasksTell (tables_of c) locks
  tasks_tell =
      let held = k.tables.tasks.held in
      record {
        held = record {
          holds = λ s out is.
              (let h = held.holds s out is in
              record {
                stands = subst IsSome (sym (same out.task.0)) h.stands;
                modes = λ node. ap (λ (o : Option TaskSeen). mode_in o node) (same out.task.0) ∙ h.modes node;
              });
          tasks = λ n stands. held.tasks n (subst IsSome (same n) stands);
          apart = held.apart;
        };
        served = k.tables.tasks.served;
      }

  history_still : IsHistory r d after
  history_still =
      let g = k.history in
      record {
        told = g.told;
        job = g.job;
        first = g.first;
        drawn = g.drawn;
        begins = g.begins;
        committed = g.committed;
        room = g.room;
      }

  accounts_still : AreAccounts after
  accounts_still =
      let g = k.accounts in
      record {
        covered = g.covered;
        same = g.same;
        counted = g.counted;
        unknown = g.unknown;
        objects = g.objects;
        holds = g.holds;
        room_to_capture = g.room_to_capture;
        room_for_cells = g.room_for_cells;
        room_to_defer = g.room_to_defer;
      }

  cells_still : AreCells d after
  cells_still =
      let g = k.cells in
      record {
        super40 = g.super40;
        space = g.space;
        root = g.root;
        height = g.height;
        root_stands = g.root_stands;
        buffered_names = g.buffered_names;
        reached_names = g.reached_names;
        owned_names = g.owned_names;
        named = g.named;
        given_cells = g.given_cells;
        dirty = g.dirty;
        fresh = g.fresh;
        clean = g.clean;
        nodes = g.nodes;
        commit = g.commit;
      }

  tasks_still : AreOut after
  tasks_still =
      let g = k.tasks in
      record {
        uses = g.uses;
        drawn = g.drawn;
        apart = g.apart;
        unused = g.unused;
        unnamed = g.unnamed;
        unreached = g.unreached;
        unowned = g.unowned;
        given = g.given;
      }

  story_still : (b : Beginning) → IsNamed (names_in r) d.blocks b → HasStory r b d after
  story_still b named =
      let h = k.story b named in
      let m = h.means in
      record {
        story = h.story;
        means = record {
          reads = m.reads;
          session = m.session;
          trace = m.trace;
          owner = m.owner;
          root = m.root;
          cells = m.cells;
          clean = m.clean;
          reach = m.reach;
          owned = m.owned;
          born = m.born;
          gone = m.gone;
          at = m.at;
        };
        durable = λ t at tells. (let g = h.durable t at tells in record { each = g.each; now = g.now });
      }

  pub keeps_holds : IsKept r d after
  keeps_holds = record {
    history = history_still;
    tables = record { tasks = tasks_tell; ordered = k.tables.ordered };
    accounts = accounts_still;
    cells = cells_still;
    tasks = tasks_still;
    lender = k.lender;
    story = story_still;
  }
