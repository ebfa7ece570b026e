-- Which of a command's edits lie in leaves, and which twigs they change, where its body stands in extents
-- (docs/volume.md, "Bodies in extents"). A key is its rank.
use Rattle.std.specs.Prelude.{[], List, Bool, not, ◌==◌, ◌&&◌, Some}
use Rattle.std.specs.List.{filter}
use Rattle.r4_content.specs.Edited.{Edits}
use Rattle.r4_build.specs.r4_leaf_edits.Suiting.{is_byte}
use Rattle.r4_build.specs.r4_measure.r4_cell.Seen.{CellSeen, node_of}
use Rattle.r4_build.specs.r4_measure.r4_reach.Needs.{changes_pieces}
use Rattle.r4_build.specs.r4_measure.r4_reach.Reach.{is_body}
use Rattle.r4_build.specs.r4_measure.r4_reach.Touched.{Body}

-- the edits that put no byte, and take none of a body: those that lie in leaves, where the body stands in extents
abbrev pub without_bytes : Edits → Edits
without_bytes e = record {
  cuts = filter (λ r. not (is_body r.0)) e.cuts;
  zeros = [];
  puts = filter (λ p. not (is_byte p.1)) e.puts;
}

-- the cell is a twig whose pieces change
abbrev pub is_turning : Body → Edits → CellSeen → Bool
is_turning b e c = (c.level == 2) && changes_pieces (Some b) e (node_of c)

-- those twigs among the cells, in their order
abbrev pub turning_among : Body → Edits → List CellSeen → List CellSeen
turning_among b e cells = filter (is_turning b e) cells
