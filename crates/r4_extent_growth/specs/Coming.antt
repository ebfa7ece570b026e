-- How many twigs may come beside those whose pieces change (docs/volume.md, "Bodies in extents").
use Rattle.std.specs.Prelude.{ℕ, ◌≤◌, List, [], map, Contains, Some}
use Rattle.r4_base.specs.declared.things.NodeId.{NodeId}
use Rattle.r4_content.specs.Edited.{Edits}
use Rattle.r4_extent_change.specs.r4_measure.Budget.{Budget}
use Rattle.r4_extent_change.specs.r4_measure.r4_cell.Seen.{CellSeen, node_of}
use Rattle.r4_extent_change.specs.r4_measure.r4_path.Grafts.{extra_twigs}
use Rattle.r4_extent_change.specs.r4_measure.r4_reach.Needs.{pieces_after}
use Rattle.r4_extent_change.specs.r4_measure.r4_reach.Touched.{Body}
use Rattle.r4_extent_change.specs.Beside.{turning_among}

-- a twig's number, and how many twigs may come beside it once it has the pieces that it is to have
abbrev pub coming_beside : Body → Edits → (twig : CellSeen) → ℕ × ℕ
coming_beside b e c = (c.id, extra_twigs (pieces_after (Some b) e (node_of c) []))

-- each twig among the cells whose pieces change, in their order
abbrev pub twigs_coming : Body → Edits → List CellSeen → List (ℕ × ℕ)
twigs_coming b e cells = map (coming_beside b e) (turning_among b e cells)

-- a number and a count, as they are held
abbrev pub count_of : NodeId × ℕ → ℕ × ℕ
count_of x = (x.0.0, x.1)

-- In the budget is what may come beside each of these twigs.
abbrev pub SufficesFor : Budget → List (ℕ × ℕ) → Type 0
SufficesFor u twigs = (x : ℕ × ℕ) → Contains twigs x → x.1 ≤ u 2 x.0
