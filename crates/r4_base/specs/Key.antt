-- Keys, and their order (docs/layout.md, "Keys").
use Rattle.std.specs.Prelude.{◌≡◌, ℕ, ◌+◌, ◌-◌, ◌*◌, ◌/◌, ◌%◌, ◌^◌, ◌<◌, [], ◌∷◌, length, slice_index}
use Rattle.r4_base.specs.declared.key.Key.{Key}
use Rattle.r4_base.specs.declared.things.Oid.{Oid}

-- the key of the stat data of an object, and of its body from a byte on
abbrev pub stat_key : ℕ → ℕ → Oid → Key
stat_key locality ordering oid = record { el = (locality * 16 + 1) ∷ ordering ∷ oid.0 ∷ 0 ∷ [] }

abbrev pub body_key : ℕ → ℕ → Oid → ℕ → Key
body_key locality ordering oid offset = record { el = (locality * 16 + 4) ∷ ordering ∷ oid.0 ∷ offset ∷ [] }

-- A key of four numbers of 64 bits.
pub record IsKey (k : Key) : Type 0 where
  pub four : length k.el ≡ 4
  pub small : (i : ℕ) → slice_index k.el i < 2 ^ 64

-- the four numbers as one, the first the highest
unfoldable pub rank : Key → ℕ
rank k = slice_index k.el 0 * 2 ^ 192 + (slice_index k.el 1 * 2 ^ 128 + (slice_index k.el 2 * 2 ^ 64 + slice_index k.el 3))

abbrev pub IsBelow : Key → Key → Type 0
IsBelow a b = rank a < rank b

-- the key of a rank, and what it says
unfoldable pub key_of_rank : ℕ → Key
key_of_rank r = record { el = r / 2 ^ 192 ∷ r / 2 ^ 128 % 2 ^ 64 ∷ r / 2 ^ 64 % 2 ^ 64 ∷ r % 2 ^ 64 ∷ [] }

-- the minor type: 0 a name, 1 stat data, 4 a body
abbrev pub minor_of : Key → ℕ
minor_of k = slice_index k.el 0 % 16

abbrev pub offset_of : Key → ℕ
offset_of k = slice_index k.el 3

-- the key with another offset, and the key so many bytes behind it
abbrev pub with_offset : Key → (offset : ℕ) → Key
with_offset k offset = record { el = slice_index k.el 0 ∷ slice_index k.el 1 ∷ slice_index k.el 2 ∷ offset ∷ [] }

abbrev pub later : Key → (bytes : ℕ) → Key
later k bytes = with_offset k (offset_of k + bytes)

-- the rank of the least key of all, (657, 0, 42, 0), and that of the four greatest numbers, which no item has
unfoldable pub least : ℕ
least = 657 * 2 ^ 192 + 42 * 2 ^ 64

unfoldable pub top : ℕ
top = 2 ^ 256 - 1
