-- Names, and the keys of the entries that have them (docs/layout.md, "Names").
use Rattle.std.specs.Prelude.{◌≡◌, ℕ, zero, suc, ◌+◌, ◌*◌, ◌/◌, ◌%◌, ◌^◌, ◌≤◌, List, [], ◌∷◌, ◌++◌, length, drop, slice_index, Bool, false, not, ◌&&◌, Option, Some, None, nat_lt, ◌==◌, if◌then◌else◌}
use Rattle.std.specs.Option.{option_map, option_or}
use Rattle.std.specs.List.{take_while}
use Rattle.r4_base.specs.declared.key.Key.{Key}
use Rattle.r4_base.specs.declared.items.NameFault.{NameFault}
use Rattle.r4_base.specs.declared.items.NameFault.TheVariants.{Empty, Long, Byte, Dot}

-- ---- which bytes are a name: 1 to 255, none of them 0 or a slash, and neither "." nor ".."

abbrev pub is_name_byte : ℕ → Bool
is_name_byte x = not (x == 0) && not (x == 47)

-- the place of the first byte that no name has, where the first byte has place i
unfoldable pub bad_byte : (i : ℕ) → List ℕ → Option ℕ
bad_byte i [] = None
bad_byte i (x ∷ s) = if is_name_byte x then bad_byte (i + 1) s else Some i

-- "." and ".."
abbrev pub is_dots : List ℕ → Bool
is_dots [] = false
is_dots (x ∷ []) = x == 46
is_dots (x ∷ (y ∷ [])) = x == 46 && y == 46
is_dots (x ∷ (y ∷ (z ∷ s))) = false

-- the first fault of bytes that are no name
unfoldable pub name_fault : List ℕ → Option NameFault
name_fault s =
    if length s == 0 then Some Empty else
    if nat_lt 255 (length s) then Some (Long (length s)) else
    option_or (option_map Byte (bad_byte 0 s)) (if is_dots s then Some Dot else None)

-- ---- the key of a name in a directory

-- the first n bytes as a number, the first one the highest; where bytes are missing, zeros
unfoldable pub packed : ℕ → List ℕ → ℕ
packed zero s = 0
packed (suc n) [] = 0
packed (suc n) (x ∷ s) = x * 256 ^ n + packed n s

-- the hash of bytes, begun with a
unfoldable pub r5_from : ℕ → List ℕ → ℕ
r5_from a [] = a
r5_from a (x ∷ s) = r5_from ((a + 16 * x + x / 16) * 11 % 2 ^ 64) s

abbrev pub r5_of : List ℕ → ℕ
r5_of s = r5_from 0 s

-- a name of more than 23 bytes is long: its key has bit 56 of the ordering set, and a hash for the bytes after the 15th
abbrev pub is_long_name : List ℕ → Bool
is_long_name s = nat_lt 23 (length s)

-- The key of a name in a directory: the directory's id with minor type 0, then the name's bytes.
unfoldable pub key_of_name : (dir : ℕ) → List ℕ → Key
key_of_name dir s = record {
  el =
      dir * 16
      ∷ (if is_long_name s then 2 ^ 56 + packed 7 s else packed 7 s)
      ∷ packed 8 (drop 7 s)
      ∷ (if is_long_name s then r5_of (drop 15 s) else packed 8 (drop 15 s))
      ∷ [];
}

-- the directory whose entry has this key
abbrev pub dir_of_key : Key → ℕ
dir_of_key k = slice_index k.el 0 / 16

-- The key is that of this short name, in a directory.
pub record IsShortNameKey (k : Key) (s : List ℕ) : Type 0 where
  pub legal : name_fault s ≡ None
  pub short : length s ≤ 23
  pub key : key_of_name (dir_of_key k) s ≡ k

-- ---- the name that a key spells

abbrev pub is_long_key : Key → Bool
is_long_key k = slice_index k.el 1 / 2 ^ 56 == 1

-- the n lowest bytes of a number, the highest first
unfoldable pub unpacked : ℕ → ℕ → List ℕ
unpacked zero v = []
unpacked (suc n) v = v / 256 ^ n % 256 ∷ unpacked n v

-- the bytes of a key's ordering, object id and offset up to the first zero
unfoldable pub short_name_in : Key → List ℕ
short_name_in k = take_while (λ x. not (x == 0)) (unpacked 7 (slice_index k.el 1) ++ (unpacked 8 (slice_index k.el 2) ++ unpacked 8 (slice_index k.el 3)))
