-- Which twigs among a task's cells lose blocks of a body in extents, and what goes of each (docs/volume.md, "Bodies in
-- extents"). A key is its rank.
use Rattle.std.specs.Prelude.{◌≡◌, ◌<◌, ◌≤◌, ◌==◌, ◌&&◌, ℕ, Bool, List, [], ◌∷◌, map, nat_le, nat_lt, Contains}
use Rattle.std.specs.Prelude.{Option, None, Some, if◌then◌else◌}
use Rattle.std.specs.List.{filter, list_any}
use Rattle.r4_base.specs.Key.{rank}
use Rattle.r4_extent_loss.specs.r4_extent_build.Growing.{end_after, end_before}
use Rattle.r4_extent_loss.specs.Losing.{Loss, gone_from, gone_to, in_gone}
use Rattle.r4_build.specs.r4_measure.r4_cell.Seen.{CellSeen}
use Rattle.r4_build.specs.r4_measure.r4_reach.Touched.{Body}
use Rattle.r4_build.specs.r4_measure.r4_work.Order.{HasKey}

-- the cell is a twig, and keys of its range go
abbrev pub is_losing : Body → CellSeen → Bool
is_losing b c = (c.level == 2) && nat_lt (gone_from b c) (gone_to b c)

abbrev pub losing_twigs : Body → List CellSeen → List CellSeen
losing_twigs b cells = filter (is_losing b) cells

-- the cell is a data block that goes of the twig: it begins at a key that goes
abbrev pub is_block_of : Body → (twig c : CellSeen) → Bool
is_block_of b twig c = (c.level == 0) && in_gone b twig (rank c.lo)

-- the cell is the leaf below the twig that ends where the first of these keys is
abbrev pub is_left_of : Body → (twig c : CellSeen) → Bool
is_left_of b twig c =
    (c.level == 1) && (nat_le (rank twig.lo) (rank c.lo) && (rank c.hi == gone_from b twig))

abbrev pub left_among : Body → (twig : CellSeen) → List CellSeen → Option CellSeen
left_among b twig [] = None
left_among b twig (c ∷ cells) = if is_left_of b twig c then Some c else left_among b twig cells

-- what goes of the twig
abbrev pub loss_among : Body → List CellSeen → (twig : CellSeen) → Loss
loss_among b cells twig = record {
  twig = twig;
  leaf = left_among b twig cells;
  blocks = filter (is_block_of b twig) cells;
}

-- each twig that loses blocks, in their order, with what goes of it
abbrev pub losses_among : Body → List CellSeen → List Loss
losses_among b cells = map (loss_among b cells) (losing_twigs b cells)

-- the keys that go of all of them
abbrev pub gone_among : Body → List CellSeen → (key : ℕ) → Bool
gone_among b cells k = list_any (λ (c : CellSeen). in_gone b c k) (losing_twigs b cells)

-- The key is one of the body's blocks that go, and lies in the range of a twig among the cells.
abbrev pub GoesAt : Body → List CellSeen → (key : ℕ) → Type 0
GoesAt b cells k = (end_after b ≤ k) × (k < end_before b)
    × ((c : CellSeen) × Contains cells c × (c.level ≡ 2) × HasKey c k)
