-- The twig among a task's cells that a body comes out to, and its leaves there (docs/volume.md,
-- "Bodies in extents"). A key is its rank.
use Rattle.std.specs.Prelude.{◌==◌, ◌&&◌, Bool, List, [], ◌∷◌, Option, None, Some, find}
use Rattle.std.specs.List.{filter}
use Rattle.r4_base.specs.Key.{rank}
use Rattle.r4_extent_shrink.specs.r4_extent_growth.r4_extent_build.Growing.{end_after}
use Rattle.r4_extent_shrink.specs.r4_extent_growth.r4_measure.r4_cell.Seen.{CellSeen}
use Rattle.r4_extent_shrink.specs.r4_extent_growth.r4_measure.r4_leaf.Units.{is_between}
use Rattle.r4_extent_shrink.specs.r4_extent_growth.r4_measure.r4_reach.Needs.{meets}
use Rattle.r4_extent_shrink.specs.r4_extent_growth.r4_measure.r4_reach.Touched.{Body, first_byte}
use Rattle.r4_extent_turn.specs.Turning.{Turn}

-- the cell is a twig in whose range the first of the blocks that come lies
abbrev pub is_twig_of : Body → CellSeen → Bool
is_twig_of b c = (c.level == 2) && is_between (rank c.lo) (rank c.hi) (first_byte b)

-- the cell is a leaf that has a key of these blocks
abbrev pub is_leaf_of : Body → CellSeen → Bool
is_leaf_of b c = (c.level == 1) && meets (rank c.lo) (rank c.hi) (first_byte b, end_after b)

-- a twig and its leaves, if there is one, and some of these
abbrev pub turn_with : Option CellSeen → (leaves : List CellSeen) → Option Turn
turn_with None cs = None
turn_with (Some twig) [] = None
turn_with (Some twig) (c ∷ cs) = Some (record { twig = twig; leaf = c; more = cs })

-- the first such twig, and these leaves, in the cells' order
abbrev pub turn_among : Body → List CellSeen → Option Turn
turn_among b cells = turn_with (find (is_twig_of b) cells) (filter (is_leaf_of b) cells)
