use Rattle.std.proofs.Common.{◌≡◌, drop, map}
use Rattle.std.specs.Arc.{arc_value}
use Rattle.r4_content.specs.Held.{edits_of}
use Rattle.r4_extent_growth.specs.Lying.{have_room}
use Rattle.r4_extent_growth.proofs.lying.have_room.Given as goal

abbrev pub invariant-loop-cell : goal.invariant-loop-cell
invariant-loop-cell l = have_room (edits_of l.fn.edits) (map (λ c. arc_value c) l.fn.cells)
    ≡ have_room (edits_of l.fn.edits) (map (λ c. arc_value c) (drop l.cell-index l.fn.cells))
