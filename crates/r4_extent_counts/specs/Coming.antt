-- How many cells come to twigs besides the pointers that are asked for (docs/volume.md, "Reach"). A key is its rank.
use Rattle.std.specs.Prelude.{ℕ, zero, suc, ◌+◌, ◌-◌, ◌/◌, ◌^◌, ◌&&◌, ◌==◌, List, length, sum_by, take, drop}
use Rattle.std.specs.Prelude.{Bool, if◌then◌else◌, Option, None, Some}
use Rattle.r4_base.specs.Extents.{is_hole}
use Rattle.r4_base.specs.Key.{rank}
use Rattle.r4_base.specs.Node.{items_of}
use Rattle.r4_base.specs.Tree.{Node, Root, Store}
use Rattle.r4_base.specs.Value.{Value}
use Rattle.r4_extent_demands.specs.r4_branch.Pieces.{pieces_in}
use Rattle.r4_extent_demands.specs.r4_branch.declared.piece.TwigPart.{TwigPart}
use Rattle.r4_extent_demands.specs.r4_branch.declared.piece.TwigPart.TheVariants.{Blocks, Pointer}
use Rattle.r4_extent_demands.specs.r4_branch.declared.piece.TwigPiece.{TwigPiece}
use Rattle.r4_extent_demands.specs.r4_cell.Seen.{CellSeen, node_of}
use Rattle.r4_content.specs.Edited.{Edits}
use Rattle.r4_extent_demands.specs.r4_graft.Splices.{parted, place}
use Rattle.r4_extent_demands.specs.r4_leaf.Units.{is_between}
use Rattle.r4_extent_demands.specs.r4_reach.Demand.{Demand}
use Rattle.r4_extent_demands.specs.r4_reach.Leaves.{most_of}
use Rattle.r4_extent_demands.specs.r4_reach.Needs.{Ask, cut_pieces, gets_bytes, put_among, taken_up}
use Rattle.r4_extent_demands.specs.r4_reach.Touched.{Body, coming, first_byte, going}

-- so many of some blocks, from a key on, get bytes
abbrev pub gaining : (gets : ℕ → Bool) → (key blocks : ℕ) → ℕ
gaining gets k zero = 0
gaining gets k (suc n) = (if gets k then 1 else 0) + gaining gets (k + 4096) n

-- blocks that come into a hole of the body
abbrev pub filled_in : Body → Edits → TwigPiece → ℕ
filled_in b e p = by_part p.part
  where
    by_part : TwigPart → ℕ
    by_part (Pointer to) = 0
    by_part (Blocks u) = if is_hole u && is_between (first_byte b) (first_byte b + 2 ^ 64) (rank p.key)
        then gaining (gets_bytes b e) (rank p.key) u.width else 0

-- blocks that come where no extent was, to the twig in whose range the first of these keys lies
abbrev pub come_to : Body → Edits → Node Value → ℕ
come_to b e c = if is_between c.lo c.hi (coming b).0
    then gaining (gets_bytes b e) (coming b).0 (((coming b).1 - (coming b).0) / 4096) else 0

-- a leaf that takes up the range of the blocks that go, where nothing left of them does
abbrev pub leaf_taking_up : Body → Node Value → ℕ
leaf_taking_up b c = by_parted (parted (going b).1 (parted (going b).0 (pieces_in (items_of c.block))))
  where
    by_parted : List TwigPiece → ℕ
    by_parted qs = length (taken_up c (take (place (going b).0 qs) qs)
        (take (place (going b).1 qs - place (going b).0 qs) (drop (place (going b).0 qs) qs)))

-- all of a body's, and the leaves of values that are put among the extents
abbrev pub body_cells : Option Body → Edits → Node Value → ℕ
body_cells None e c = 0
body_cells (Some b) e c =
    sum_by (filled_in b e) (cut_pieces (going b) c (pieces_in (items_of c.block)))
    + (come_to b e c + leaf_taking_up b c)

abbrev pub twig_cells : Option Body → Edits → CellSeen → ℕ
twig_cells b e x = if x.level == 2 then put_among b e (node_of x) + body_cells b e (node_of x) else 0

-- How many new cells come at most where these cells are written: what `most_of` counts, and what comes to the twigs.
abbrev pub most_with : Option Body → Edits → Demand Ask → Store Value → Root → (writes : List CellSeen) → ℕ
most_with b e d t root writes = most_of d t root writes + sum_by (twig_cells b e) writes
