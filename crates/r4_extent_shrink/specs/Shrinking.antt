-- How many twigs may come beside those that lose blocks (docs/volume.md, "Bodies in extents").
use Rattle.std.specs.Prelude.{ℕ, List, map}
use Rattle.r4_content.specs.Edited.{Edits}
use Rattle.r4_extent_growth.specs.r4_measure.r4_cell.Seen.{CellSeen}
use Rattle.r4_extent_growth.specs.r4_measure.r4_reach.Touched.{Body}
use Rattle.r4_extent_growth.specs.r4_extent_change.Among.{losing_twigs}
use Rattle.r4_extent_growth.specs.Coming.{coming_beside}

-- each twig among the cells that loses blocks, in their order, and how many may come beside it
abbrev pub twigs_losing : Body → Edits → List CellSeen → List (ℕ × ℕ)
twigs_losing b e cells = map (coming_beside b e) (losing_twigs b cells)
