-- How many cells may still come in the place of each cell of a task, as a table (docs/volume.md,
-- "What may still come").
use Rattle.std.specs.Prelude.{◌==◌, ◌&&◌, if◌then◌else◌, List, [], ◌∷◌}
use Rattle.r4_extent_put.specs.r4_extent_change.r4_measure.Budget.{Budget}
use Rattle.r4_allowed.specs.declared.table.Allowance.{Allowance}

-- what the first entry for a level and a number has, else nothing
abbrev pub budget_of : List Allowance → Budget
budget_of [] level id = 0
budget_of (a ∷ table) level id =
    if (a.level == level) && (a.id.0 == id) then a.most else budget_of table level id
