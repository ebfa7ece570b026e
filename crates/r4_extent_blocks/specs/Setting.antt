-- Bytes that edits set, and data blocks after them (docs/volume.md, "Data blocks"). A key is its rank.
use Rattle.std.specs.Prelude.{◌≡◌, ℕ, zero, suc, ◌+◌, ◌<◌, ◌≤◌, ◌==◌, if◌then◌else◌, Bool, true, false, List, [], ◌∷◌}
use Rattle.std.specs.Prelude.{length, slice_index, unwrap_or, IsSome, Option, None, Some}
use Rattle.std.specs.Option.{option_or}
use Rattle.r4_base.specs.Key.{later, rank}
use Rattle.r4_base.specs.Value.{Byte, Entry, Stat, Value}
use Rattle.r4_base.specs.declared.key.Key.{Key}
use Rattle.r4_cell.specs.Seen.{CellSeen}
use Rattle.r4_content.specs.Edited.{Edits, Intervals, Pairs, is_in}

abbrev pub byte_of : Value → Option ℕ
byte_of (Stat a) = None
byte_of (Entry n t) = None
byte_of (Byte x) = Some x

-- the last byte that pairs put at a key
abbrev pub last_put : Pairs → (key : ℕ) → Option ℕ
last_put [] k = None
last_put (p ∷ ps) k = option_or (last_put ps k) (if p.0 == k then byte_of p.1 else None)

-- 0 at the keys of intervals
abbrev pub zero_in : Intervals → (key : ℕ) → Option ℕ
zero_in rs k = if is_in rs k then Some 0 else None

-- The byte that edits set at a key: the last one that is put there, else 0 where the key is zeroed. A cut sets none.
abbrev pub byte_set : Edits → (key : ℕ) → Option ℕ
byte_set e k = option_or (last_put e.puts k) (zero_in e.zeros k)

-- The bytes from a key on, with those of a function in their place: each is the one that the function has for its key,
-- else the one that was there.
pub record AreSet (f : ℕ → Option ℕ) (lo : ℕ) (old new : List ℕ) : Type 0 where
  pub long : length new ≡ length old
  pub each : (i : ℕ) → i < length old
      → slice_index new i ≡ unwrap_or (f (lo + i)) (slice_index old i)

-- ---- blocks

-- The data block after edits: it has the same name and range, and each byte that is set.
pub record IsOverwritten (e : Edits) (old new : CellSeen) : Type 0 where
  pub number : new.id ≡ old.id
  pub level : new.level ≡ 0
  pub lo : new.lo ≡ old.lo
  pub hi : new.hi ≡ old.hi
  pub whole : length new.block ≡ 4096
  pub bytes : AreSet (byte_set e) (rank old.lo) old.block new.block

-- so many bytes from a key on: those that edits set, and zeros
unfoldable pub new_bytes : Edits → (key count : ℕ) → List ℕ
new_bytes e k zero = []
new_bytes e k (suc n) = unwrap_or (byte_set e k) 0 ∷ new_bytes e (k + 1) n

-- the data block of this name that is made of them, for the 4096 keys from one on
abbrev pub new_cell : Edits → (id : ℕ) → (lo : Key) → CellSeen
new_cell e id lo = record {
  id = id;
  level = 0;
  lo = lo;
  hi = later lo 4096;
  block = new_bytes e (rank lo) 4096;
}

-- ---- whether a block gets bytes

-- The function has a byte for one of the 4096 keys from one on.
abbrev pub SetsSome : (ℕ → Option ℕ) → (lo : ℕ) → Type 0
SetsSome f lo = (k : ℕ) × (lo ≤ k) × (k < lo + 4096) × IsSome (f k)

-- It has one for none of them, and for all of them.
abbrev pub SetsNone : (ℕ → Option ℕ) → (lo : ℕ) → Type 0
SetsNone f lo = (k : ℕ) → lo ≤ k → k < lo + 4096 → f k ≡ None

abbrev pub SetsAll : (ℕ → Option ℕ) → (lo : ℕ) → Type 0
SetsAll f lo = (k : ℕ) → lo ≤ k → k < lo + 4096 → IsSome (f k)

-- The answer tells whether it has one.
pub record TellsSets (answer : Bool) (f : ℕ → Option ℕ) (lo : ℕ) : Type 0 where
  pub some : answer ≡ true → SetsSome f lo
  pub none : answer ≡ false → SetsNone f lo
