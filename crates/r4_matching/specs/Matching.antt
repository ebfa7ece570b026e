-- Whether a task that comes back is the one that is out (docs/core.md, "Matching").
use Rattle.std.specs.Prelude.{◌≡◌, ◌≢◌, ◌⊎◌, ℕ, ◌<◌, ◌==◌, List, take, slice_get}
use Rattle.std.specs.Prelude.{Option, Some, None}
use Rattle.std.specs.Arc.{arc_value}
use Rattle.std.specs.List.{find}
use Rattle.r4_base.specs.declared.things.ScriptNo.{ScriptNo}
use Rattle.r4_build.specs.declared.task.Task.{Task}
use Rattle.r4_cell.specs.Seen.{CellSeen}
use Rattle.r4_content.specs.Meaning.{with_id}
use Rattle.r4_content.specs.declared.command.Command.{Command}
use Rattle.r4_matching.specs.declared.cells.Differs.{Differs}
use Rattle.r4_matching.specs.declared.cells.Differs.TheVariants.{Missing, Level, Range, Byte}
use Rattle.r4_matching.specs.declared.matching.Mismatch.{Mismatch}
use Rattle.r4_matching.specs.declared.matching.Mismatch.TheVariants.{Gone, Stale}
use Rattle.r4_turns.specs.declared.out.Out.{Out}

-- ---- how a cell differs from the kept one

-- the first byte that differs: those before it are alike
pub record IsFirstByte (had has : List ℕ) (at x y : ℕ) : Type 0 where
  pub before : take at had ≡ take at has
  pub had_is : slice_get had at ≡ Some x
  pub has_is : slice_get has at ≡ Some y
  pub differ : x ≢ y

-- How a task's cell differs from the kept one, by the first of these: level, range, a byte.
abbrev pub IsDifference : (had has : CellSeen) → Differs → Type 0
IsDifference had has Missing = ⊥
IsDifference had has (Level x y) = (x ≡ had.level) × (y ≡ has.level) × (x ≢ y)
IsDifference had has (Range x y) =
    (had.level ≡ has.level) × (x ≡ (had.lo, had.hi)) × (y ≡ (has.lo, has.hi)) × (x ≢ y)
IsDifference had has (Byte at x y) =
    (had.level ≡ has.level) × (had.lo ≡ has.lo) × (had.hi ≡ has.hi)
    × IsFirstByte had.block has.block at x y

-- ---- how lists of cells differ

-- what a list has of a node, the first cell of its name
abbrev pub cell_named : (node : ℕ) → List CellSeen → Option CellSeen
cell_named node cells = find (λ (c : CellSeen). c.id == node) cells

-- how what two lists have of a node differs
abbrev pub DifferBy : (had has : Option CellSeen) → Differs → Type 0
DifferBy None None d = ⊥
DifferBy None (Some has) d = d ≡ Missing
DifferBy (Some had) None d = d ≡ Missing
DifferBy (Some had) (Some has) d = IsDifference had has d

-- the lists differ at no node
abbrev pub DifferNowhere : (had has : List CellSeen) → Type 0
DifferNowhere had has = (n : ℕ) → cell_named n had ≡ cell_named n has

-- It is the smallest node at which the lists differ, and they differ so there.
pub record IsFirstDifference (had has : List CellSeen) (node : ℕ) (d : Differs) : Type 0 where
  pub below : (n : ℕ) → n < node → cell_named n had ≡ cell_named n has
  pub there : DifferBy (cell_named node had) (cell_named node has) d

-- ---- whether it is the task that is out

-- It is the task that is out, of the command at this place of the script, but for its cells: with
-- the numbers that were drawn for it, its scope, and with what was seen for it.
pub record IsTaskOut (out : Out) (script : ScriptNo) (index : ℕ) (command : Command) (task : Task)
    : Type 0
  where
    pub id : task.id ≡ out.task
    pub txn : task.txn ≡ out.txn
    pub script_is : task.script ≡ script
    pub index_is : task.index ≡ index
    pub command_is : task.command ≡ with_id out.numbers.oid command
    pub fresh : task.fresh ≡ out.numbers.fresh
    pub scope : task.scope ≡ out.scope
    pub seen : (arc_value task.seen).parts.items ≡ (arc_value out.seen).parts.items

-- it is that task, with the cells that it was given
pub record IsSameTask (out : Out) (script : ScriptNo) (index : ℕ) (command : Command) (task : Task)
    : Type 0
  where
    pub is_out : IsTaskOut out script index command task
    pub writes : task.writes ≡ out.writes
    pub reads : task.reads ≡ out.reads

-- the task's cells are at each node those that were kept for it
abbrev pub HasKeptCells : Out → Task → Type 0
HasKeptCells out task =
    DifferNowhere task.writes out.writes × DifferNowhere task.reads out.reads

-- The task's cells differ first at this node, and so, from those that were kept for it: those that
-- it writes, and where these differ at no node, those that it reads.
abbrev pub DifferFirst : Out → Task → (node : ℕ) → Differs → Type 0
DifferFirst out task node d =
    IsFirstDifference task.writes out.writes node d
    ⊎ (DifferNowhere task.writes out.writes × IsFirstDifference task.reads out.reads node d)

-- Why it is not that task: it is not out, or its lists differ though at no node; or it is out, and
-- they differ first at this node.
abbrev pub IsMismatch : Out → ScriptNo → ℕ → Command → Task → Mismatch → Type 0
IsMismatch out script index command task Gone =
    (IsTaskOut out script index command task → ⊥)
    ⊎ (HasKeptCells out task × (IsSameTask out script index command task → ⊥))
IsMismatch out script index command task (Stale node d) =
    IsTaskOut out script index command task × DifferFirst out task node.0 d
