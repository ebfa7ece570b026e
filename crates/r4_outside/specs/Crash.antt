-- Which image a crash leaves after calls, the newest first, by a number that is picked.
use Rattle.std.specs.Prelude.{◌≡◌, ℕ, zero, suc, ◌+◌, ◌*◌, ◌/◌, ◌%◌, ◌^◌, ◌==◌, ◌&&◌, nat_le, if◌then◌else◌, List, [], ◌∷◌, length}
use Rattle.r4_base.specs.Image.{Image, block_at, sector}
use Rattle.r4_outside.specs.Device.{HasSectors}
use Rattle.r4_outside.specs.Mix.{is_marked}
use Rattle.r4_outside.specs.Record.{IsWhole, image_after}
use Rattle.r4_outside.specs.declared.memory.Call.{Call}
use Rattle.r4_outside.specs.declared.memory.Call.TheVariants.{Wrote, Synced}

-- the number behind a number
abbrev pub next_number : ℕ → ℕ
next_number x = (x * 6364136223846793005 + 1442695040888963407) % 2 ^ 64

-- the n-th number behind the one that is picked
unfoldable pub number_after : (pick n : ℕ) → ℕ
number_after pick zero = pick
number_after pick (suc n) = next_number (number_after pick n)

-- Which sectors of the k-th call are left, counted from 0: the upper eight bits of the call's number, which is the one behind
-- the number of the call before it.
abbrev pub mask_of : (pick k : ℕ) → ℕ
mask_of pick k = number_after pick (k + 1) / 2 ^ 56

-- What a sector holds after a crash at moment m: the content of its last write up to then that is left, but what reading
-- gave where a good sync came behind it.
unfoldable pub picked : (start : Image) → List Call → (m pick b s : ℕ) → List ℕ
picked start [] m pick b s = sector (block_at start b) s
picked start (Wrote moment at block ∷ older) m pick b s =
    if nat_le moment m && b == at && is_marked (mask_of pick (length older)) s then sector block s else
    picked start older m pick b s
picked start (Synced moment ∷ older) m pick b s =
    if nat_le moment m then sector (block_at (image_after start older) b) s else
    picked start older m pick b s

-- The image that is picked of those that a crash at moment m may leave.
abbrev pub IsPicked : Image → List Call → (m pick : ℕ) → Image → Type 0
IsPicked start calls m pick image = HasSectors (length start) (λ b s x. x ≡ picked start calls m pick b s) image

-- What a loop over the calls keeps: the image, and the one that is picked.
pub record IsRedone (start : Image) (calls : List Call) (m pick : ℕ) (full left : Image) : Type 0 where
  pub full_is : full ≡ image_after start calls
  pub long : length full ≡ length start
  pub whole : IsWhole full
  pub left_is : IsPicked start calls m pick left
