use Rattle.std.proofs.Common.{◌≡◌, map, take}
use Rattle.std.specs.Prelude.{sum_by}
use Rattle.std.specs.Arc.{arc_value}
use Rattle.std.specs.Option.{option_copied}
use Rattle.r4_content.specs.Held.{edits_of}
use Rattle.r4_extent_counts.specs.Coming.{twig_cells}
use Rattle.r4_extent_counts.proofs.coming.cells_coming.Given as goal

abbrev pub invariant-loop-cell : goal.invariant-loop-cell
invariant-loop-cell l =
    l.come ≡ sum_by (twig_cells (option_copied l.fn.body) (edits_of l.fn.edits))
    (map (λ c. arc_value c) (take l.cell-index l.fn.writes))
