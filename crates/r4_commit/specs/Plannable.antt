-- The images on which a plan is safe (docs/commit.md, "Plans").
use Rattle.std.specs.Prelude.{◌≡◌, ℕ, ◌<◌, ◌≤◌, List, length, map, Contains, All, Bool, true, false, slice_index_or, ◌||◌}
use Rattle.r4_base.specs.Image.{AreDifferent, Image, IsImage}
use Rattle.r4_base.specs.Bitmap.{is_fixed}
use Rattle.r4_base.specs.Chain.{Txn, HasLog, committed, kept_blocks, originals}
use Rattle.r4_base.specs.declared.superblock.Super40.{Super40}
use Rattle.r4_base.specs.declared.things.BlockNo.{BlockNo}
use Rattle.r4_place.specs.r4_cell.Seen.{CellSeen}
use Rattle.r4_space.specs.Lawful.{IsLawful}
use Rattle.r4_space.specs.Space.{Space, is_claimed}
use Rattle.r4_place.specs.Chosen.{fresh_blocks}
use Rattle.r4_place.specs.declared.placed.Placed.{Placed}
use Rattle.r4_commit.specs.Places.{overwritten_blocks}

abbrev pub is_marked_in : Space → ℕ → Bool
is_marked_in s b = slice_index_or s.marked b false

-- whether a block is marked, held or deferred
abbrev pub is_spoken_for : Space → ℕ → Bool
is_spoken_for s b = is_marked_in s b || (is_claimed s.held b || is_claimed s.deferred b)

-- An image of n blocks with unflushed transactions, and a space, on which the plan for these cells is safe.
pub record IsPlannable (n : ℕ) (base : Image) (chain : List Txn) (s : Space) (cells : List CellSeen) (answers : List Placed) (next : Super40) (last : BlockNo) : Type 0 where
  pub image : IsImage n base
  pub log : HasLog n base chain
  -- at most seven transactions are unflushed, and the journal header names `last`
  pub few : length chain < 8
  pub prev : last.0 ≡ committed base
  -- the volume lies on the device, and `next` counts its blocks
  pub lawful : IsLawful s
  pub within : s.block_count ≤ n
  pub blocks : next.block_count ≡ s.block_count
  -- no two cells have one name
  pub names : AreDifferent (map (λ c. c.id) cells)
  -- a block that is overwritten is marked and not fixed
  pub overwritten : All (λ b. (is_marked_in s b ≡ true) × (is_fixed s.block_count b ≡ false)) (overwritten_blocks answers cells)
  -- the blocks that cells get are different and placed, and none of them is marked, held or deferred
  pub different : AreDifferent (fresh_blocks answers)
  pub placed : All (λ b. (slice_index_or s.placed b false ≡ true) × (is_spoken_for s b ≡ false)) (fresh_blocks answers)
  -- a block that the unflushed transactions keep is marked, held or deferred, and neither fixed nor overwritten
  pub kept : (b : ℕ) → Contains (kept_blocks chain) b → (is_spoken_for s b ≡ true) × (is_fixed s.block_count b ≡ false) × (Contains (overwritten_blocks answers cells) b → ⊥)
  -- and so is a block that they put in place, which may be overwritten again
  pub in_place : (b : ℕ) → Contains (originals chain) b → is_spoken_for s b ≡ true
