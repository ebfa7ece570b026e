-- Writes of blocks, and the images that a crash leaves of them (docs/crash-model.md).
use Rattle.std.specs.Prelude.{◌≡◌, ◌⊎◌, ℕ, ◌<◌, List, [], ◌∷◌, length, map, slice_set, Contains}
use Rattle.r4_base.specs.Image.{Image, IsBlock, block_at, sector}

-- a write: the block, and what is written
abbrev pub Write : Type 0
Write = ℕ × List ℕ

-- the image after these writes, one after the other
abbrev pub put_writes : List Write → Image → Image
put_writes [] image = image
put_writes (w ∷ ws) image = put_writes ws (slice_set image w.0 w.1)

-- the blocks that are written
abbrev pub targets : List Write → List ℕ
targets ws = map (λ w. w.0) ws

-- a block is one of those that are written
abbrev pub IsTarget : List Write → ℕ → Type 0
IsTarget ws b = Contains (targets ws) b

-- A content of a sector is that of one of the writes.
abbrev pub IsWritten : List Write → ℕ → ℕ → List ℕ → Type 0
IsWritten ws b s x = (w : Write) × Contains ws w × (b ≡ w.0) × (x ≡ sector w.1 s)

-- Each sector for itself is that of the image or that of one of the writes.
pub record IsTornBy (ws : List Write) (base image : Image) : Type 0 where
  pub blocks : length image ≡ length base
  pub whole : (b : ℕ) → b < length base → IsBlock (block_at image b)
  pub sectors : (b s : ℕ) → b < length base → s < 8 → (sector (block_at image b) s ≡ sector (block_at base b) s) ⊎ IsWritten ws b s (sector (block_at image b) s)
