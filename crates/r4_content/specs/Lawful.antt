-- What is asked of a content, wherever its bytes stand (docs/volume.md, "The content of an image").
use Rattle.std.specs.Prelude.{◌≡◌, ◌↔◌, ℕ, ◌+◌, ◌-◌, ◌^◌, ◌<◌, ◌≤◌, true, false, Some}
use Rattle.r4_base.specs.Key.{key_of_rank}
use Rattle.r4_base.specs.Value.{Value, Byte, Content, at_key}
use Rattle.r4_base.specs.Volume.{HasObjects, HasStat, KeyFits, byte_rank, is_directory}
use Rattle.r4_base.specs.declared.items.Attr.{Attr}
use Rattle.r4_base.specs.declared.items.Target.{Target}

-- an object has a byte at an offset
abbrev pub HasByte : Content → Target → (offset : ℕ) → Type 0
HasByte m o offset = (x : ℕ) × (at_key m (byte_rank o offset) ≡ Some (Byte x))

-- Keys fit what stands at them; a file has at most `limit` bytes, just those at the offsets below
-- its size; `bytes` is the size for every object.
pub record HasBodies (limit : ℕ) (m : Content) : Type 0 where
  pub keys : (k : ℕ) (v : Value) → at_key m k ≡ Some v → KeyFits m (key_of_rank k) v
  pub small : (o : Target) (a : Attr) → HasStat m o a → is_directory a ≡ false → a.size ≤ limit
  pub offsets : (o : Target) (a : Attr) → HasStat m o a → is_directory a ≡ false → (offset : ℕ)
      → offset < 2 ^ 64 → HasByte m o offset ↔ (offset < a.size)
  pub bytes : (o : Target) (a : Attr) → HasStat m o a → a.bytes ≡ a.size

-- Of a content that a volume has, whose links are numbers of their field, and in which each
-- directory can count another entry.
pub record IsLawful (limit : ℕ) (m : Content) : Type 0 where
  pub objects : HasObjects m
  pub bodies : HasBodies limit m
  pub room : (o : Target) (a : Attr) → HasStat m o a → is_directory a ≡ true → a.size < 2 ^ 64 - 1
  pub links : (o : Target) (a : Attr) → HasStat m o a → a.nlink < 2 ^ 32

-- each directory can count so many entries more
abbrev pub RoomFor : ℕ → Content → Type 0
RoomFor n m = (o : Target) (a : Attr) → HasStat m o a → is_directory a ≡ true → a.size + n < 2 ^ 64
