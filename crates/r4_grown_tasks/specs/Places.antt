-- Where the bytes get that edits set, among the cells of a task whose body stands in extents and
-- loses no blocks (docs/volume.md, "Bodies in extents"). A key is its rank.
use Rattle.std.specs.Prelude.{◌≡◌, ◌⊎◌, ℕ, zero, suc, ◌+◌, ◌-◌, ◌<◌, ◌==◌, ◌&&◌, ◌||◌, not, nat_lt, if◌then◌else◌}
use Rattle.std.specs.Prelude.{Bool, true, List, [], ◌∷◌, ◌++◌, Contains, Option, None, Some}
use Rattle.std.specs.List.{flat_map, list_all, list_any}
use Rattle.r4_base.specs.Key.{rank}
use Rattle.r4_base.specs.Value.{Value}
use Rattle.r4_content.specs.Edited.{Edits, Intervals, is_between, is_in}
use Rattle.r4_lost_tasks.specs.r4_extent_growth.r4_extent_build.Setting.{is_hole_of}
use Rattle.r4_lost_tasks.specs.r4_extent_growth.r4_extent_change.Beside.{is_turning}
use Rattle.r4_lost_tasks.specs.r4_extent_growth.r4_extent_change.r4_extent_blocks.Setting.{byte_set}
use Rattle.r4_lost_tasks.specs.r4_extent_growth.r4_leaf_edits.Suiting.{is_byte}
use Rattle.r4_lost_tasks.specs.r4_extent_growth.r4_measure.r4_branch.Pieces.{open_end}
use Rattle.r4_lost_tasks.specs.r4_extent_growth.r4_measure.r4_branch.declared.piece.TwigPiece.{TwigPiece}
use Rattle.r4_lost_tasks.specs.r4_extent_growth.r4_measure.r4_cell.Seen.{CellSeen}
use Rattle.r4_lost_tasks.specs.r4_extent_growth.r4_measure.r4_path.TwigPieces.{ArePiecesOf, twig_pieces}
use Rattle.r4_lost_tasks.specs.r4_extent_growth.r4_measure.r4_reach.Touched.{Body, coming}

-- ---- the ranges in which bytes get their places

-- up to an end, if it is known
abbrev pub up_to : (from : ℕ) → Option ℕ → Intervals
up_to k None = []
up_to k (Some end) = (k, end) ∷ []

-- a hole of the body that ends before the end of its object
abbrev pub hole_range : Body → TwigPiece → Intervals
hole_range b p = if is_hole_of b p then up_to (rank p.key) (open_end p) else []

-- the blocks that come, where the twig has the first key of them
abbrev pub coming_range : Body → CellSeen → Intervals
coming_range b c = if is_between (rank c.lo) (rank c.hi) (coming b).0 then coming b ∷ [] else []

-- the holes of a twig, and the blocks that come into it
abbrev pub twig_ranges : Body → CellSeen → Intervals
twig_ranges b c = flat_map (hole_range b) (twig_pieces c) ++ coming_range b c

-- a data block; or what a twig has whose pieces change
abbrev pub cell_ranges : Body → Edits → CellSeen → Intervals
cell_ranges b e c =
    if c.level == 0 then (rank c.lo, rank c.hi) ∷ []
    else (if is_turning b e c then twig_ranges b c else [])

abbrev pub places : Body → Edits → List CellSeen → Intervals
places b e cells = flat_map (cell_ranges b e) cells

-- ---- where a 0 stands already

-- the holes of a twig
abbrev pub still_ranges : Body → CellSeen → Intervals
still_ranges b c = if c.level == 2 then flat_map (hole_range b) (twig_pieces c) else []

-- those of the twigs that are only read
abbrev pub still : Body → (reads : List CellSeen) → Intervals
still b reads = flat_map (still_ranges b) reads

-- of each of these twigs it is known that its pieces are what it has
abbrev pub AreRead : (reads : List CellSeen) → Type 0
AreRead reads = (c : CellSeen) → Contains reads c → c.level ≡ 2 → ArePiecesOf c (twig_pieces c)

-- ---- whether all bytes lie there

-- each of so many keys from one on
abbrev pub each_key : (ℕ → Bool) → (from count : ℕ) → Bool
each_key f k zero = true
each_key f k (suc n) = f k && each_key f (k + 1) n

-- how far intervals go on from a key, each that has the key at which those before it end
abbrev pub goes_on : Intervals → (key : ℕ) → ℕ
goes_on [] k = k
goes_on (r ∷ rs) k = goes_on rs (if is_between r.0 r.1 k then r.1 else k)

-- each key of an interval lies in one of these
abbrev pub lies : Intervals → ℕ × ℕ → Bool
lies rs r = each_key (is_in rs) r.0 (r.1 - r.0)

-- what is put is no byte, or its key lies there
abbrev pub put_lies : Intervals → ℕ × Value → Bool
put_lies rs p = not (is_byte p.1) || is_in rs p.0

-- each byte that edits put lies in the first, and all that they zero in one of both
abbrev pub bytes_lie : (places still : Intervals) → Edits → Bool
bytes_lie rs ss e = list_all (put_lies rs) e.puts && list_all (lies (rs ++ ss)) e.zeros

-- ---- whether blocks come into a twig

-- the cell is a twig whose pieces change, and has the first key of the blocks that come
abbrev pub has_first : Body → Edits → CellSeen → Bool
has_first b e c = is_turning b e c && is_between (rank c.lo) (rank c.hi) (coming b).0

-- no blocks come, or such a twig is among the cells
abbrev pub have_first : Body → Edits → List CellSeen → Bool
have_first b e cells = not (nat_lt (coming b).0 (coming b).1) || list_any (has_first b e) cells

-- ---- both

abbrev pub have_places : Body → Edits → (reads cells : List CellSeen) → Bool
have_places b e reads cells = have_first b e cells && bytes_lie (places b e cells) (still b reads) e

-- The same, in words: each key at which a byte is set lies in one of the ranges, or the byte is a 0
-- in a hole of a twig that is only read, of which its pieces are known; and where blocks come, a twig
-- whose pieces change has the first key of them.
pub record HavePlaces (b : Body) (e : Edits) (reads cells : List CellSeen) : Type 0 where
  pub bytes : (k x : ℕ) → byte_set e k ≡ Some x
      → (is_in (places b e cells) k ≡ true) ⊎ ((x ≡ 0) × (is_in (still b reads) k ≡ true))
  pub read : AreRead reads
  pub first : (coming b).0 < (coming b).1
      → (c : CellSeen) × Contains cells c × (has_first b e c ≡ true)
