-- What the stop's call leaves of the blocks, sector by sector.
use Rattle.std.specs.Prelude.{◌≡◌, ◌⊎◌, ℕ, zero, suc, ◌+◌, ◌^◌, ◌<◌, ◌≤◌, Bool, false, not, ◌&&◌, ◌==◌, nat_lt, if◌then◌else◌, List, [], ◌∷◌, Option, None, Some}
use Rattle.r4_base.specs.Image.{Image, block_at, sector}
use Rattle.r4_outside.specs.Crash.{number_after}
use Rattle.r4_outside.specs.Device.{State, HasSectors, Rose}
use Rattle.r4_outside.specs.Mix.{is_marked}
use Rattle.r4_devices.specs.declared.torn.Held.{Held}

-- At a block and a sector: the content there.
abbrev pub Parts : Type 0
Parts = ℕ → ℕ → List ℕ

-- the sectors of an image
abbrev pub parts_of : Image → Parts
parts_of image b s = sector (block_at image b) s

-- The marked sectors of block `at` are those of x, and every other sector is as it was.
abbrev pub put_over : (marks : ℕ → Bool) (at : ℕ) → List ℕ → Parts → Parts
put_over marks at x parts b s = if b == at && marks s then sector x s else parts b s

-- the sectors of a block that are not looked at: those that the torn write wrote
abbrev pub skipped : (at tear b : ℕ) → ℕ
skipped at tear b = if b == at then tear else 0

-- how many sectors of a block are looked at before sector s
unfoldable pub looked : (skip s : ℕ) → ℕ
looked skip zero = 0
looked skip (suc s) = looked skip s + (if is_marked skip s then 0 else 1)

-- Does sector s of a block go back? It is looked at, and the highest bit of its number is 0. The numbers follow one another, and
-- x is the one before the block's first.
abbrev pub goes_back : (skip x s : ℕ) → Bool
goes_back skip x s = not (is_marked skip s) && nat_lt (number_after x (looked skip s + 1)) (2 ^ 63)

-- The blocks that are held back, one after the other: the sectors that go back are those that were held.
unfoldable pub put_back : (at tear x : ℕ) → List Held → Parts → Parts
put_back at tear x [] parts = parts
put_back at tear x (h ∷ hs) parts =
    let skip = skipped at tear h.at in
    put_back at tear (number_after x (looked skip 8)) hs (put_over (goes_back skip x) h.at h.block parts)

-- What the stop's call leaves: of its write the sectors whose bits are set in `tear`, and with a pick some of the earlier ones
-- are as they were held.
abbrev pub left_by : (at : ℕ) (block : List ℕ) (tear : ℕ) → Option ℕ → List Held → Parts → Parts
left_by at block tear None held parts = put_over (is_marked tear) at block parts
left_by at block tear (Some pick) held parts = put_back at tear pick held (put_over (is_marked tear) at block parts)

-- An image of n blocks with these sectors.
abbrev pub HasParts : (n : ℕ) → Parts → Image → Type 0
HasParts n parts image = HasSectors n (λ b s x. x ≡ parts b s) image

-- What reading gives is changed so, or a call failed.
pub record Changes (change : Parts → Parts) (old new : State) : Type 0 where
  pub each : (parts : Parts) → HasParts old.blocks parts old.seen → Rose old.faults new.faults ⊎ HasParts old.blocks (change parts) new.seen

-- What a loop over the sectors of a block keeps: those below n are picked.
pub record IsPickedTo (n skip first mask x : ℕ) : Type 0 where
  pub before : (s : ℕ) → s < n → is_marked mask s ≡ goes_back skip first s
  pub behind : (s : ℕ) → n ≤ s → is_marked mask s ≡ false
  pub number : x ≡ number_after first (looked skip n)
