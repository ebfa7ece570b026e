-- A command's change of the cells of its task, where values come among the extents of its twigs,
-- and its body, if it has one, does not stand in extents (docs/volume.md, "Bodies in extents"). A
-- key is its rank.
use Rattle.std.specs.Prelude.{ℕ, ◌||◌, ◌&&◌, ◌==◌, nat_lt, Bool, List, Option}
use Rattle.std.specs.List.{filter}
use Rattle.r4_content.specs.Edited.{Edits}
use Rattle.r4_extent_among.specs.AmongEach.{is_put_in_each}
use Rattle.r4_extent_turned.specs.r4_extent_growth.r4_build.Making.{changed_among}
use Rattle.r4_extent_turned.specs.r4_extent_growth.r4_build.r4_reach.Needs.{put_among}
use Rattle.r4_extent_turned.specs.r4_extent_growth.r4_build.r4_reach.Touched.{Body}
use Rattle.r4_extent_turned.specs.r4_extent_growth.r4_measure.r4_cell.Seen.{CellSeen, node_of}

-- the cell is a twig among whose extents values come
abbrev pub is_putting : Option Body → Edits → CellSeen → Bool
is_putting b e c = (c.level == 2) && nat_lt 0 (put_among b e (node_of c))

-- those among the cells, in their order
abbrev pub putting_among : Option Body → Edits → List CellSeen → List CellSeen
putting_among b e cells = filter (is_putting b e) cells

-- the keys that change: those of leaves among the cells, and those at which values come among the
-- extents of their twigs
abbrev pub put_keys : Option Body → Edits → List CellSeen → (key : ℕ) → Bool
put_keys b e cells k = changed_among e cells k || is_put_in_each b e (putting_among b e cells) k
