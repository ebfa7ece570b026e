-- What holds of the rows that keep the blocks of a space.
use Rattle.std.specs.Prelude.{◌≡◌, ℕ, ◌+◌, ◌<◌, ◌≤◌, List, All, length, count_by, slice_index_or, Bool, true, false, ◌||◌}
use Rattle.r4_base.specs.Bitmap.{is_fixed, bitmap_count}
use Rattle.r4_space.specs.declared.things.Claim.{Claim}
use Rattle.r4_space.specs.Space.{is_block, is_claimed, is_taken_by}

-- Each claim is on a block of the volume.
abbrev pub AreWithin : ℕ → List Claim → Type 0
AreWithin n claims = All (λ c. c.block.0 < n) claims

-- There are n blocks, the fixed ones are marked, and `taken` has exactly those that are used.
pub record AreBlocks (n : ℕ) (marked placed : List Bool) (held deferred : List Claim) (taken : List Bool) : Type 0 where
  pub least : 64 ≤ n
  pub most : n ≤ 1048576
  pub marked_size : length marked ≡ n
  pub placed_size : length placed ≡ n
  pub taken_size : length taken ≡ n
  pub fixed : (b : ℕ) → b < n → is_fixed n b ≡ true → slice_index_or marked b false ≡ true
  pub tells : (b : ℕ) → b < n → slice_index_or taken b true ≡ is_taken_by marked placed held deferred b
  pub held_within : AreWithin n held
  pub deferred_within : AreWithin n deferred

-- how many of the claims are on a block
abbrev pub claims_on : List Claim → ℕ → ℕ
claims_on claims b = count_by (is_block b) claims

-- `claimed` has exactly the blocks that are held or deferred, and `twice` each of them on which there is more than one claim.
pub record AreClaimed (n : ℕ) (held deferred : List Claim) (claimed twice : List Bool) : Type 0 where
  pub claimed_size : length claimed ≡ n
  pub twice_size : length twice ≡ n
  pub tells : (b : ℕ) → b < n → slice_index_or claimed b false ≡ (is_claimed held b || is_claimed deferred b)
  pub once : (b : ℕ) → b < n → slice_index_or twice b false ≡ false → claims_on held b + claims_on deferred b ≤ 1

-- The blocks, what the open atoms take up, and room for the claims of so many calls.
pub record IsSpace (n : ℕ) (marked placed : List Bool) (held deferred : List Claim) (claimed twice taken : List Bool) (bitmaps spare room_held room_deferred : ℕ) : Type 0 where
  pub blocks : AreBlocks n marked placed held deferred taken
  pub claims : AreClaimed n held deferred claimed twice
  pub bitmaps_are : bitmaps ≡ bitmap_count n
  pub enough_held : length held + spare ≤ room_held
  pub enough_deferred : length deferred + spare ≤ room_deferred
