use Rattle.std.proofs.Common.{map, take}
use Rattle.std.specs.Arc.{arc_value}
use Rattle.std.specs.Ordering.{nat_cmp}
use Rattle.std.specs.BTreeMap.{get}
use Rattle.r4_flush.specs.Anew.{AreMade, new_name}
use Rattle.r4_flush.specs.Prepared.{WasCell}
use Rattle.r4_flush.proofs.cells.rename_cells.Given as goal

abbrev pub invariant-loop-cell : goal.invariant-loop-cell
invariant-loop-cell l = AreMade (WasCell (new_name (get nat_cmp l.names))) (map (λ c. arc_value c) (take l.cell-index l.cells))
    l.renamed.items
