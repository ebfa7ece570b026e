-- What a walk looks at below a cell that was met, and below a unit of an extent (docs/check.md).
use Rattle.std.specs.Prelude.{ℕ, List, [], ◌∷◌, Option, Some, None, if◌then◌else◌}
use Rattle.std.specs.Arc.{arc_value}
use Rattle.std.specs.declared.sync.Arc as arc_declared
use Rattle.std.specs.Global.{Global}
use Rattle.r4_base.specs.Cell.{run_names}
use Rattle.r4_base.specs.Extents.{is_hole}
use Rattle.r4_base.specs.Tree.{Name}
use Rattle.r4_base.specs.declared.items.Unit.{Unit as ExtentUnit}
use Rattle.r4_cell.specs.Seen.{CellSeen, node_of}
use Rattle.r4_check.specs.Looking.{name_of}
use Rattle.r4_check.specs.declared.reading.Named.{Named}

-- what the cell names, where there is one
abbrev pub below_of : Option (arc_declared.Arc CellSeen Global) → List Name
below_of None = []
below_of (Some c) = (node_of (arc_value c)).names

-- the blocks of a unit, its first byte at the key
abbrev pub unit_names : (key : ℕ) → ExtentUnit → List Name
unit_names key u = if is_hole u then [] else run_names key u.start u.width

-- the node that is named, where there is one
abbrev pub names_of : Option Named → List Name
names_of None = []
names_of (Some n) = name_of n ∷ []
