-- Whether what is no byte lies in leaves among the cells of a task, and these have room for it; and
-- which data blocks may be renewed (docs/volume.md, "Bodies in extents"). A key is its rank.
use Rattle.std.specs.Prelude.{◌≡◌, ℕ, ◌+◌, ◌^◌, ◌≤◌, ◌==◌, ◌&&◌, ◌||◌, nat_le, nat_lt, not, Bool}
use Rattle.std.specs.Prelude.{List, None}
use Rattle.std.specs.Prelude.{Contains, false, length}
use Rattle.std.specs.List.{list_all, list_any}
use Rattle.r4_base.specs.Key.{offset_of, rank}
use Rattle.r4_base.specs.Value.{Value}
use Rattle.r4_content.specs.Edited.{Edits, changed, is_between}
use Rattle.r4_twig_asks.specs.r4_leaf_edits.Suiting.{is_byte}
use Rattle.r4_extent_change.specs.r4_measure.r4_cell.Seen.{CellSeen, node_of}
use Rattle.r4_extent_change.specs.r4_measure.r4_leaf.Units.{leaf_bytes}
use Rattle.r4_extent_change.specs.r4_measure.r4_reach.Needs.{is_met, units_after}
use Rattle.r4_extent_change.specs.r4_measure.r4_reach.Reach.{is_body}

-- the cell is a data block of 4096 bytes and keys, and there is a key behind these; or it is a node
abbrev pub is_whole : CellSeen → Bool
is_whole c =
    not (c.level == 0)
    || ((length c.block == 4096)
    && (nat_lt (offset_of c.lo + 4096) (2 ^ 64) && (rank c.hi == rank c.lo + 4096)))

-- the cell is a leaf that has all keys of an interval
abbrev pub has_all : ℕ × ℕ → CellSeen → Bool
has_all r c = (c.level == 1) && (nat_le (rank c.lo) r.0 && nat_le r.1 (rank c.hi))

-- the cell is a leaf that has a key
abbrev pub has_one : ℕ → CellSeen → Bool
has_one k c = (c.level == 1) && is_between (rank c.lo) (rank c.hi) k

-- what is cut is of a body, or has no keys, or one leaf has them all
abbrev pub cut_lies : List CellSeen → ℕ × ℕ → Bool
cut_lies cells r = is_body r.0 || (nat_le r.1 r.0 || list_any (has_all r) cells)

-- what is put is a byte, or a leaf has its key
abbrev pub put_lies : List CellSeen → ℕ × Value → Bool
put_lies cells p = is_byte p.1 || list_any (has_one p.0) cells

-- Each interval that is cut, and is of no body, has one key at most.
abbrev pub CutsOneByOne : Edits → Type 0
CutsOneByOne e = (r : ℕ × ℕ) → Contains e.cuts r → is_body r.0 ≡ false → r.1 ≤ r.0 + 1

-- all that the edits cut and put lies so
abbrev pub lie_in_leaves : List CellSeen → Edits → Bool
lie_in_leaves cells e = list_all (cut_lies cells) e.cuts && list_all (put_lies cells) e.puts

-- the cell is no leaf, or the edits change none of its keys, or its units fit into it afterwards
abbrev pub has_room : Edits → CellSeen → Bool
has_room e c =
    not (c.level == 1)
    || (not (is_met (changed e) (rank c.lo) (rank c.hi))
    || nat_le (leaf_bytes (units_after None e (node_of c))) 4068)

abbrev pub have_room : Edits → List CellSeen → Bool
have_room e cells = list_all (has_room e) cells
