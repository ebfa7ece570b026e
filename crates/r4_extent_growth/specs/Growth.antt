-- When a command's whole change may be made of the cells of its task, where its body stands in
-- extents and loses no blocks, as far as these cells tell it (docs/volume.md, "Bodies in extents").
-- A key is its rank.
use Rattle.std.specs.Prelude.{◌≡◌, ℕ, ◌+◌, ◌-◌, ◌*◌, ◌^◌, ◌<◌, ◌≤◌, ◌&&◌, nat_le, Bool, true, List}
use Rattle.std.specs.Prelude.{Contains, None}
use Rattle.std.specs.Prelude.{length}
use Rattle.std.specs.List.{list_all}
use Rattle.r4_base.specs.Key.{offset_of, rank}
use Rattle.r4_base.specs.declared.items.Unit.{Unit as ExtentUnit}
use Rattle.r4_base.specs.declared.key.Key.{Key}
use Rattle.r4_extent_change.specs.r4_build.Building.{LiesInLeaf}
use Rattle.r4_content.specs.Edited.{Edits, changed, is_in}
use Rattle.r4_extent_change.specs.r4_measure.r4_branch.declared.piece.TwigPart.TheVariants.{Blocks}
use Rattle.r4_extent_change.specs.r4_measure.r4_branch.declared.piece.TwigPiece.{TwigPiece}
use Rattle.r4_extent_change.specs.r4_measure.r4_cell.Seen.{CellSeen, node_of}
use Rattle.r4_extent_change.specs.r4_measure.r4_cell.declared.change.Fresh.{Fresh}
use Rattle.r4_extent_change.specs.r4_measure.r4_leaf.Units.{leaf_bytes}
use Rattle.r4_extent_change.specs.r4_measure.r4_path.TwigPieces.{twig_pieces}
use Rattle.r4_extent_change.specs.r4_measure.r4_reach.Needs.{is_met, units_after}
use Rattle.r4_extent_change.specs.r4_measure.r4_reach.Touched.{Body}
use Rattle.r4_extent_change.specs.r4_extent_build.Growing.{IsGrowing}
use Rattle.r4_extent_change.specs.Beside.{turning_among, without_bytes}
use Rattle.r4_extent_change.specs.Changing.{numbers_needed}
use Rattle.r4_extent_growth.specs.Lying.{have_room, is_whole, lie_in_leaves}
use Rattle.r4_extent_growth.specs.Turning.{HasTurn, does_grow, may_turn_all}

-- The body grows, and data blocks are of 4096 bytes and keys. What is no byte lies in leaves, which
-- have room for it. Each twig whose pieces change may have its turn, and there are numbers enough.
abbrev pub may_grow : Body → Edits → Fresh → List CellSeen → Bool
may_grow b e f cells =
    (does_grow b && (list_all is_whole cells && lie_in_leaves cells e))
    && (have_room (without_bytes e) cells
    && (nat_le f.next f.end && may_turn_all b e cells (f.end - f.next)))

-- The same, in the words of `CanGrow`: all that it asks, but for what is known of the part of a
-- tree in which the cells stand, and of the budget.
pub record MayGrow (b : Body) (e : Edits) (f : Fresh) (cells : List CellSeen) : Type 0 where
  pub first : Key
  pub growing : IsGrowing b first
  pub blocks : (c : CellSeen) → Contains cells c → c.level ≡ 0
      → (rank c.hi ≡ rank c.lo + 4096) × (length c.block ≡ 4096)
  pub twigs : (c : CellSeen) → Contains (turning_among b e cells) c → HasTurn b e c
  pub lie : (k : ℕ) → is_in (changed (without_bytes e)) k ≡ true → LiesInLeaf cells k
  pub room : (c : CellSeen) → Contains cells c → c.level ≡ 1
      → is_met (changed (without_bytes e)) (rank c.lo) (rank c.hi) ≡ true
      → leaf_bytes (units_after None (without_bytes e) (node_of c)) ≤ 4068
  pub numbers : f.next + numbers_needed b e cells ≤ f.end

-- No data block among the cells, and no unit of a twig whose pieces change, reaches the end of its
-- object.
pub record EndInObjects (b : Body) (e : Edits) (cells : List CellSeen) : Type 0 where
  pub blocks : (c : CellSeen) → Contains cells c → c.level ≡ 0 → offset_of c.lo + 4096 < 2 ^ 64
  pub units : (c : CellSeen) → Contains (turning_among b e cells) c
      → (p : TwigPiece) → Contains (twig_pieces c) p → (u : ExtentUnit) → p.part ≡ Blocks u
      → offset_of p.key + 4096 * u.width < 2 ^ 64
