-- Sets of blocks, kept as bitmaps.
use Rattle.std.specs.Prelude.{◌≡◌, ℕ, ◌<◌, List, length, ◌==◌, ◌||◌}
use Rattle.r4_space.specs.Bitmaps.{marks}

-- The bitmaps mark the same blocks as before, and one more.
pub record MarksOneMore (blocks b : ℕ) (old new : List (List ℕ)) : Type 0 where
  pub size : length new ≡ length old
  pub each : (i : ℕ) → i < blocks → marks new i ≡ (b == i || marks old i)
