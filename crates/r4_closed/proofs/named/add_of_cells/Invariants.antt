use Rattle.std.proofs.Common.{◌≡◌, ◌++◌, take}
use Rattle.std.specs.Prelude.{All, flat_map}
use Rattle.std.specs.Arc.{arc_value}
use Rattle.r4_cell.specs.Seen.{node_of}
use Rattle.r4_closed.specs.Named.{CellStands, new_ids}
use Rattle.r4_closed.proofs.named.add_of_cells.Given as goal

abbrev pub invariant-loop-cell : goal.invariant-loop-cell
invariant-loop-cell l = record {
  stand : All (λ c. CellStands (arc_value c)) (take l.cell-index l.cells);
  named : l.named.items ≡ l.initial.named.items
      ++ flat_map (λ c. new_ids (node_of (arc_value c)).names) (take l.cell-index l.cells);
}
