-- What a record of calls, the newest first, says of the image now and of what a crash may leave.
use Rattle.std.specs.Prelude.{◌≡◌, ◌⊎◌, ℕ, ◌<◌, ◌≤◌, Bool, true, ◌&&◌, nat_le, List, [], ◌∷◌, length, slice_set}
use Rattle.r4_base.specs.Image.{Image, IsBlock, block_at, sector}
use Rattle.r4_outside.specs.Device.{Sectors, only}
use Rattle.r4_outside.specs.declared.memory.Call.{Call}
use Rattle.r4_outside.specs.declared.memory.Call.TheVariants.{Wrote, Synced}

-- Each block has its 4096 bytes.
pub record IsWhole (image : Image) : Type 0 where
  pub each : (b : ℕ) → b < length image → IsBlock (block_at image b)

-- the image after the calls
abbrev pub image_after : Image → List Call → Image
image_after start [] = start
image_after start (Wrote moment at block ∷ older) = slice_set (image_after start older) at block
image_after start (Synced moment ∷ older) = image_after start older

-- the clock after a call
abbrev pub moment_of : Call → ℕ
moment_of (Wrote moment at block) = moment
moment_of (Synced moment) = moment

-- no call is later than this moment
abbrev pub is_till : ℕ → List Call → Bool
is_till m [] = true
is_till m (call ∷ older) = nat_le (moment_of call) m && is_till m older

-- After a crash at moment m a sector holds the content of its last write before the last good sync up to m, or of a
-- later write up to and including the call of that moment.
abbrev pub may : Image → List Call → ℕ → Sectors
may start [] m b s x = only start b s x
may start (Wrote moment at block ∷ older) m b s x = ((moment ≤ m) × (b ≡ at) × (x ≡ sector block s)) ⊎ may start older m b s x
may start (Synced moment ∷ older) m b s x = ((moment ≤ m) × only (image_after start older) b s x) ⊎ ((m < moment) × may start older m b s x)
