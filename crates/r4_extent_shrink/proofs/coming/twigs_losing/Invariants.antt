use Rattle.std.proofs.Common.{◌≡◌, map, take}
use Rattle.std.specs.Arc.{arc_value}
use Rattle.r4_content.specs.Held.{edits_of}
use Rattle.r4_extent_growth.specs.Coming.{count_of}
use Rattle.r4_extent_shrink.specs.Shrinking.{twigs_losing}
use Rattle.r4_extent_shrink.proofs.coming.twigs_losing.Given as goal

abbrev pub invariant-loop-cell : goal.invariant-loop-cell
invariant-loop-cell l = map count_of l.twigs.items
    ≡ twigs_losing l.fn.body (edits_of l.fn.edits) (map (λ c. arc_value c) (take l.cell-index l.fn.cells))
