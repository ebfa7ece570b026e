-- Units that a command moves, and what is visible of them: beside the content there are bytes past
-- the sizes of files (docs/volume.md, "Files").
use Rattle.std.specs.Prelude.{◌≡◌, ◌⊎◌, ℕ, true, false, Some, None}
use Rattle.r4_base.specs.Key.{key_of_rank, minor_of}
use Rattle.r4_base.specs.Value.{Byte, Content, at_key}
use Rattle.r4_base.specs.Volume.{HasStat, IsVisible, is_directory, object_of}
use Rattle.r4_base.specs.declared.items.Attr.{Attr}
use Rattle.r4_content.specs.Edited.{Edits, Intervals, changed, edited, is_in}

-- the key is that of a byte of a file
abbrev pub IsOfFile : Content → ℕ → Type 0
IsOfFile m k = (minor_of (key_of_rank k) ≡ 4)
    × ((a : Attr) × HasStat m (object_of (key_of_rank k)) a × (is_directory a ≡ false))

-- at the key stands what the content has there; or it has nothing, and a byte of one of its files
-- stands there
abbrev pub IsOrPads : (units m : Content) → ℕ → Type 0
IsOrPads units m k = (at_key units k ≡ at_key m k)
    ⊎ ((at_key m k ≡ None) × ((x : ℕ) × (at_key units k ≡ Some (Byte x))) × IsOfFile m k)

-- Units of which the content m is visible are changed at the moved keys, so that edits are made in
-- the content.
pub record MovesUnits (e : Edits) (m raw after : Content) (moved : Intervals) : Type 0 where
  pub visible : IsVisible raw m
  -- all others stay
  pub kept : (k : ℕ) → is_in moved k ≡ false → at_key after k ≡ at_key raw k
  -- those that are moved are as the edits say, but for bytes that fill a last block
  pub made : (k : ℕ) → is_in moved k ≡ true → IsOrPads after (edited e m) k
  -- where the edits change a key that is not moved, its unit is as they say already, or a byte
  -- that stays in a last block
  pub spared : (k : ℕ) → is_in moved k ≡ false → is_in (changed e) k ≡ true
      → IsOrPads raw (edited e m) k
  -- a byte past a file's size that is not moved is of a file that stays
  pub padding : (k x : ℕ) → is_in moved k ≡ false → is_in (changed e) k ≡ false → at_key raw k
      ≡ Some (Byte x)
      → at_key m k ≡ None → IsOfFile (edited e m) k
