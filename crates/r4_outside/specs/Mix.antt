-- Blocks of two contents, sector by sector.
use Rattle.std.specs.Prelude.{◌≡◌, ◌≢◌, ℕ, ◌<◌, Bool, ◌==◌, if◌then◌else◌, List, length}
use Rattle.std.specs.Int.{bit_at}
use Rattle.r4_base.specs.Image.{sector}

-- whether the bit of a sector is set in a mask
abbrev pub is_marked : (mask s : ℕ) → Bool
is_marked mask s = bit_at mask s == 1

-- Each sector of a block whose bit is set in the mask is that of the one, and each other is that of the other.
pub record IsMix (mask : ℕ) (x y new : List ℕ) : Type 0 where
  pub each : (s : ℕ) → s < 8 → sector new s ≡ (if is_marked mask s then sector x s else sector y s)

-- Sector s is that of x, and all others are as they were.
pub record CopiesSector (s : ℕ) (x old new : List ℕ) : Type 0 where
  pub long : length new ≡ length old
  pub same : sector new s ≡ sector x s
  pub others : (k : ℕ) → k < 8 → k ≢ s → sector new k ≡ sector old k
