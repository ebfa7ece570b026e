use Rattle.std.proofs.Common.{map, take}
use Rattle.std.specs.Arc.{arc_value}
use Rattle.std.specs.Prelude.{All}
use Rattle.r4_extent_put.specs.r4_extent_change.r4_measure.r4_cell.Patch.{root_of_pair}
use Rattle.r4_allowed.specs.Allowing.{IsEntry}
use Rattle.r4_allowed.proofs.checking.are_entries.Given as goal

abbrev pub invariant-loop-entry : goal.invariant-loop-entry
invariant-loop-entry l = All (IsEntry (root_of_pair l.root) (map (λ c. arc_value c) l.cells)) (take l.entry-index l.entries)
