use Rattle.std.proofs.Common.{◌≡◌, ◌++◌, map, take}
use Rattle.std.specs.Arc.{arc_value}
use Rattle.std.specs.Ordering.{nat_cmp}
use Rattle.std.specs.BTreeMap.{get}
use Rattle.r4_place.specs.r4_cell.Seen.{CellSeen}
use Rattle.r4_commit.specs.Places.{overwritten}
use Rattle.r4_commit.proofs.homes.add_cells.Given as goal

abbrev pub invariant-loop-cell : goal.invariant-loop-cell
invariant-loop-cell l = l.homes.items ≡ l.fn.homes.items ++ map (λ (c : CellSeen). (c.id, c.block)) (overwritten (get nat_cmp l.places) (map (λ cell. arc_value cell) (take l.cell-index l.cells)))
