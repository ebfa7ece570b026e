use Rattle.std.proofs.Common.{◌≡◌, map, take}
use Rattle.std.specs.Arc.{arc_value}
use Rattle.std.specs.Ordering.{nat_cmp}
use Rattle.std.specs.BTreeMap.{get}
use Rattle.r4_commit.specs.Places.{placed_cells}
use Rattle.r4_commit.proofs.places.place_cells.Given as goal

abbrev pub invariant-loop-cell : goal.invariant-loop-cell
invariant-loop-cell l = l.made.items ≡ placed_cells (get nat_cmp l.places) (map (λ cell. arc_value cell) (take l.cell-index l.cells))
