-- What changes of a core as a command goes out as a task.
use Rattle.std.specs.Prelude.{◌≡◌, ◌+◌, ◌++◌, ◌^◌, ◌<◌, ◌≤◌, ℕ, false, true, length, Contains}
use Rattle.std.specs.Prelude.{List, Some, None}
use Rattle.r4_atoms.specs.Atoms.{owner_of}
use Rattle.r4_base.specs.Bitmap.{is_fixed}
use Rattle.r4_base.specs.Cell.{cell_fault}
use Rattle.r4_base.specs.Image.{block_at}
use Rattle.r4_base.specs.Key.{rank}
use Rattle.r4_kept.specs.r4_buffer.Changed.{in_turn, used}
use Rattle.r4_kept.specs.r4_buffer.Seen.{buffered, cell_at, is_captured}
use Rattle.r4_kept.specs.r4_cell.Seen.{CellSeen}
use Rattle.r4_content.specs.Meaning.{with_id}
use Rattle.r4_content.specs.declared.command.Command.{Command}
use Rattle.r4_kept.specs.r4_history.Drawn.{GetsNumbers, numbers_of}
use Rattle.r4_kept.specs.r4_history.Held.{HoldsNew, IsServed, names_of}
use Rattle.r4_kept.specs.r4_history.Tables.{next_at}
use Rattle.r4_outside.specs.Device.{State, TellsReads}
use Rattle.r4_kept.specs.r4_turns.Turns.{TurnsSeen, gone_out, turn_at}
use Rattle.r4_kept.specs.r4_turns.declared.out.Numbers.{Numbers}
use Rattle.r4_kept.specs.r4_turns.declared.out.Out.{Out}
use Rattle.r4_kept.specs.Accounts.{cells_owed, claims_owed}
use Rattle.r4_kept.specs.History.{owed, owed_for_commit}
use Rattle.r4_kept.specs.Meaning.{Spares}
use Rattle.r4_kept.specs.TasksOut.{IsGiven}
use Rattle.r4_kept.specs.View.{CoreSeen, blocks_of, tables_of}
use Rattle.r4_kept.specs.declared.parts.Numbers.{Numbers as Next}

-- ---- cells that a reading met

-- The cell was read from the device: it is a block of the volume, not a fixed one, accepted there;
-- and what the device reads there, where that is told. Nobody owns it, and no write of the commit
-- under way falls on it.
pub record IsOnDisk {D : Type 0} (d : State) (c : CoreSeen D) (x : CellSeen) : Type 0 where
  pub block : x.id < blocks_of c
  pub free : is_fixed (blocks_of c) x.id ≡ false
  pub accepted : cell_fault false (blocks_of c) x.level (rank x.lo) (rank x.hi) x.block ≡ None
  pub same : TellsReads d → x.block ≡ block_at d.seen x.id
  pub unowned : owner_of c.atoms x.id ≡ None
  pub spared : Spares x.id c.commit

-- One that is captured in memory is that one, and each other one was read from the device.
pub record IsMet {D : Type 0} (d : State) (c : CoreSeen D) (x : CellSeen) : Type 0 where
  pub captured : is_captured c.buffer x.id ≡ true → cell_at c.buffer x.id ≡ Some x
  pub on_disk : is_captured c.buffer x.id ≡ false → IsOnDisk d c x

-- ---- numbers

-- Names for new cells are drawn where none are kept, from 2^63 on; then the next one is behind
-- them.
pub record DrawsNames (t : TurnsSeen) (script next after : ℕ) (n : Numbers) : Type 0 where
  pub kept : (k : Numbers) → numbers_of (turn_at t script) ≡ Some k → after ≡ next
  pub drawn : numbers_of (turn_at t script) ≡ None
      → (2 ^ 63 ≤ n.fresh.next) × (next ≤ n.fresh.next) × (n.fresh.next ≤ n.fresh.end)
      × (n.fresh.end ≤ after)

-- ---- the step

-- The next command of a script may go out as this task, with these cells met and these numbers next
-- then: it is of its script's open transaction, and no other atom owns a node that it reaches. It
-- was given what it reaches. There is room for its entries, the cells that it may put into memory,
-- and the claims that it may make.
pub record CanGoOut
    {D : Type 0} (d : State) (c : CoreSeen D) (s : ℕ) (out : Out) (met : List CellSeen)
    (next : Next) : Type 0
  where
    pub free : (turn_at c.turns s).out ≡ None
    pub served : IsServed (tables_of c) s out
    pub given : (x : Command) → next_at c.turns s ≡ Some x
        → IsGiven c.tree (with_id out.numbers.oid x) out
    pub gets : (x : Command) → next_at c.turns s ≡ Some x
        → GetsNumbers c.turns s x c.numbers.next_oid next.next_oid out.numbers
    pub draws : DrawsNames c.turns s c.numbers.next_name next.next_name out.numbers
    pub met_are : (x : CellSeen) → Contains met x → IsMet d c x
    pub among : (x : CellSeen) → Contains (out.reads ++ out.writes) x → Contains met x
    pub pins : out.pins ≡ names_of met
    pub entries : owed c.turns + owed_for_commit c.commit + 2 ≤ c.trace.spare
    pub captures : cells_owed c.turns.turns + out.cells ≤ c.atoms.spare
    pub cells : cells_owed c.turns.turns + out.cells + length met ≤ c.buffer.spare
    pub claims : claims_owed c.turns.turns + out.claims ≤ c.space.spare

-- It goes out: it holds what it was given, and keeps the cells that were met in memory. All else is
-- as it was.
pub record HasGoneOut
    {D : Type 0} (old new : CoreSeen D) (s : ℕ) (out : Out) (met : List CellSeen) : Type 0
  where
    pub holds : HoldsNew old.locks new.locks out
    pub cells : (i : ℕ) → buffered new.buffer i ≡ in_turn used met i (buffered old.buffer i)
    pub room : new.buffer.spare + length met ≡ old.buffer.spare
    pub same : new ≡ record old {
      turns = gone_out old.turns s out;
      locks = new.locks;
      buffer = new.buffer;
      numbers = new.numbers;
    }
