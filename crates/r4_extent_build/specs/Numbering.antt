-- The pieces of a twig with the numbers of the data blocks that come (docs/volume.md, "Bodies in extents"). A key is its
-- rank.
use Rattle.std.specs.Prelude.{◌≡◌, ℕ, ◌+◌, ◌^◌, ◌<◌, ◌≤◌, ◌==◌, ◌&&◌, not, if◌then◌else◌, List, [], ◌∷◌}
use Rattle.std.specs.Prelude.{Bool, true, false, Contains}
use Rattle.std.specs.List.{list_any}
use Rattle.r4_base.specs.Key.{offset_of, rank}
use Rattle.r4_base.specs.Tree.{Name}
use Rattle.r4_base.specs.declared.key.Key.{Key}
use Rattle.r4_extent_demands.specs.r4_branch.declared.piece.TwigPart.{TwigPart}
use Rattle.r4_extent_demands.specs.r4_branch.declared.piece.TwigPart.TheVariants.{Blocks, Pointer}
use Rattle.r4_extent_demands.specs.r4_branch.declared.piece.TwigPiece.{TwigPiece}
use Rattle.r4_extent_demands.specs.r4_cell.Seen.{CellSeen}
use Rattle.r4_extent_demands.specs.r4_cell.declared.change.Fresh.{Fresh}
use Rattle.r4_content.specs.Edited.{Edits}
use Rattle.r4_extent_blocks.specs.Setting.{new_cell}

-- one block, of the number by which `pieces_after` tells the room of a block that comes
abbrev pub is_told_block : TwigPart → Bool
is_told_block (Pointer to) = false
is_told_block (Blocks u) = (u.start == 2 ^ 63) && (u.width == 1)

-- one of the pieces is such a block, at a key
abbrev pub has_block_at : (key : ℕ) → List TwigPiece → Bool
has_block_at k old = list_any (λ (q : TwigPiece). (rank q.key == k) && is_told_block q.part) old

-- The piece stands for a block that comes: the twig, whose old pieces are given, has none of that number there. (A block
-- that stands may have the number too.)
abbrev pub is_coming : (old : List TwigPiece) → TwigPiece → Bool
is_coming old p = is_told_block p.part && not (has_block_at (rank p.key) old)

-- the piece of one block
abbrev pub block_of : Key → (id : ℕ) → TwigPiece
block_of k id = record { key = k; part = Blocks (record { start = id; width = 1 }) }

-- the pieces in which the blocks that come have the numbers from the next one on, in their order
unfoldable pub with_numbers : (old : List TwigPiece) → (next : ℕ) → List TwigPiece → List TwigPiece
with_numbers old next [] = []
with_numbers old next (p ∷ ps) =
    if is_coming old p then block_of p.key next ∷ with_numbers old (next + 1) ps
    else p ∷ with_numbers old next ps

-- how many blocks come, and their names
unfoldable pub coming_count : (old ps : List TwigPiece) → ℕ
coming_count old [] = 0
coming_count old (p ∷ ps) = if is_coming old p then 1 + coming_count old ps else coming_count old ps

abbrev pub block_name : (key id : ℕ) → Name
block_name k id = record { id = id; level = 0; lo = k; hi = k + 4096 }

unfoldable pub names_coming : (old : List TwigPiece) → (next : ℕ) → List TwigPiece → List Name
names_coming old next [] = []
names_coming old next (p ∷ ps) =
    if is_coming old p then block_name (rank p.key) next ∷ names_coming old (next + 1) ps
    else names_coming old next ps

-- ---- their cells

-- the data blocks that come, each of the bytes that edits set, and of zeros
unfoldable pub cells_coming : Edits → (old : List TwigPiece) → (next : ℕ) → List TwigPiece
    → List CellSeen
cells_coming e old next [] = []
cells_coming e old next (p ∷ ps) =
    if is_coming old p then new_cell e next p.key ∷ cells_coming e old (next + 1) ps
    else cells_coming e old next ps

-- There are numbers enough for the blocks that come, and there is a key behind each of them.
pub record CanNumber (old ps : List TwigPiece) (f : Fresh) : Type 0 where
  pub numbers : f.next + coming_count old ps ≤ f.end
  pub near : (p : TwigPiece) → Contains ps p → is_coming old p ≡ true
      → offset_of p.key + 4096 < 2 ^ 64

-- The pieces with numbers, the cells of the blocks that come, and the numbers that are left.
pub record IsNumbered (old ps : List TwigPiece) (e : Edits) (before after : Fresh)
    (made : List TwigPiece) (blocks : List CellSeen) : Type 0 where
  pub pieces : made ≡ with_numbers old before.next ps
  pub cells : blocks ≡ cells_coming e old before.next ps
  pub left : after ≡ record before { next = before.next + coming_count old ps }
