-- The cells of a tree as a commit leaves them: those that it writes, and those that stay (docs/durable.md).
use Rattle.std.specs.Prelude.{◌≡◌, ◌⊎◌, ℕ, ◌<◌, Contains, true, false, Some, None, slice_index_or}
use Rattle.r4_base.specs.Bitmap.{is_fixed, is_marked}
use Rattle.r4_base.specs.Cell.{IsCellOf}
use Rattle.r4_base.specs.Image.{Image, block_at}
use Rattle.r4_base.specs.Tree.{Node, Store}
use Rattle.r4_base.specs.Value.{Content, Value}
use Rattle.r4_base.specs.Volume.{HasContent, IsPlace}
use Rattle.r4_commit.specs.r4_cell.Seen.{CellSeen}
use Rattle.r4_commit.specs.r4_space.Space.{Space}
use Rattle.r4_commit.specs.Places.{overwritten_blocks}
use Rattle.r4_commit.specs.Plannable.{is_marked_in}
use Rattle.r4_sealed.specs.Commits.{Commit, image_before, is_freed, spot}

-- the commit overwrites the cell of this block
abbrev pub IsOverwritten : Commit → ℕ → Type 0
IsOverwritten work b = Contains (overwritten_blocks work.answers work.cells) b

-- The cell i is one of the atom's: its block is written at i.
abbrev pub IsWrittenAt : Commit → ℕ → Node Value → Type 0
IsWrittenAt work i c =
    (x : CellSeen) × Contains work.cells x × (spot work.answers x ≡ i) × IsCellOf work.space.block_count x.block c

-- The cell i stays: it stands in its block of the image before, which is marked and not fixed, and which the commit
-- does not overwrite.
pub record Stays (work : Commit) (i : ℕ) (c : Node Value) : Type 0 where
  pub cell : IsCellOf work.space.block_count (block_at (image_before work) i) c
  pub marked : is_marked_in work.space i ≡ true
  pub not_fixed : is_fixed work.space.block_count i ≡ false
  pub kept : IsOverwritten work i → ⊥

-- Each cell of the tree is written by the commit or stays, and its block is not freed.
pub record AreWritten (work : Commit) (t : Store Value) : Type 0 where
  pub each : (i : ℕ) (c : Node Value) → t i ≡ Some c → IsWrittenAt work i c ⊎ Stays work i c
  pub kept : (i : ℕ) (c : Node Value) → t i ≡ Some c → is_freed work.space work.atom i ≡ false

-- The cell stands in its block of the image, and that is a block that a volume may use and does.
abbrev pub StandsAt : (blocks : ℕ) → Image → ℕ → Node Value → Type 0
StandsAt blocks image i c = IsCellOf blocks (block_at image i) c × IsPlace blocks image i

-- ---- trees that come from a content

-- The space has the blocks of a content's image: as many, and those marked that its bitmaps mark.
pub record IsSpaceOf {n : ℕ} {image : Image} {m : Content} (c : HasContent n image m) (s : Space) : Type 0 where
  pub count : c.super.block_count ≡ s.block_count
  pub marks : (b : ℕ) → b < s.block_count → is_marked_in s b ≡ is_marked image b

-- Each cell of the tree is one of the atom's, which is written, or one of the content's, which the commit does not
-- overwrite; and its block is not freed.
pub record ComesFrom {n : ℕ} {image : Image} {m : Content} (c : HasContent n image m) (work : Commit)
    (t : Store Value)
    : Type 0 where
  pub each : (i : ℕ) (d : Node Value) → t i ≡ Some d
      → IsWrittenAt work i d ⊎ ((c.store i ≡ Some d) × (IsOverwritten work i → ⊥))
  pub kept : (i : ℕ) (d : Node Value) → t i ≡ Some d → is_freed work.space work.atom i ≡ false

-- Exactly those blocks are freed that had a cell and have none any more; each placed block has one now; and a cell on
-- a block that was marked stands where one stood before.
pub record Frees {n : ℕ} {image : Image} {m : Content} (c : HasContent n image m) (work : Commit) (t : Store Value)
    : Type 0 where
  pub freed : (b : ℕ) → is_freed work.space work.atom b ≡ true → (d : Node Value) × (c.store b ≡ Some d)
  pub gone : (b : ℕ) (d : Node Value) → c.store b ≡ Some d → t b ≡ None → is_freed work.space work.atom b ≡ true
  pub placed : (b : ℕ) → slice_index_or work.space.placed b false ≡ true → (d : Node Value) × (t b ≡ Some d)
  pub over : (b : ℕ) (d : Node Value) → t b ≡ Some d → is_marked_in work.space b ≡ true
      → (e : Node Value) × (c.store b ≡ Some e)
