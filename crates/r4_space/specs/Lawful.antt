-- What holds of every space, and what its changes make of the unused blocks (docs/space.md, "Blocks").
use Rattle.std.specs.Prelude.{◌≡◌, ℕ, ◌<◌, ◌≤◌, length, slice_index_or, true, false}
use Rattle.r4_base.specs.Bitmap.{is_fixed, bitmap_count}
use Rattle.r4_space.specs.Accounts.{dues, EachOnce}
use Rattle.r4_space.specs.Kept.{AreWithin}
use Rattle.r4_space.specs.Space.{Space}

-- There are 64 to 1,048,576 blocks, and for each of them it is told whether it is marked and placed; the fixed ones are
-- marked; held and deferred blocks are blocks of the volume; each open atom has one account; and what all open atoms take
-- up is at most 1,048,576.
pub record IsLawful (s : Space) : Type 0 where
  pub least : 64 ≤ s.block_count
  pub most : s.block_count ≤ 1048576
  pub marked_size : length s.marked ≡ s.block_count
  pub placed_size : length s.placed ≡ s.block_count
  pub fixed : (b : ℕ) → b < s.block_count → is_fixed s.block_count b ≡ true → slice_index_or s.marked b false ≡ true
  pub held_within : AreWithin s.block_count s.held
  pub deferred_within : AreWithin s.block_count s.deferred
  pub once : EachOnce s.atoms
  pub dues_small : dues (bitmap_count s.block_count) s.atoms ≤ 1048576
