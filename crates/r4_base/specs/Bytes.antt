-- Numbers in bytes, the lowest byte first, and a write over a part of a list.
use Rattle.std.specs.Prelude.{◌≡◌, ℕ, zero, suc, ◌+◌, ◌*◌, ◌%◌, ◌^◌, ◌<◌, List, [], ◌∷◌, ◌++◌, length, take, drop, slice_index}
use Rattle.byteorder.specs.Endian.{little_bytes}

-- The number in the n bytes from a place on, the lowest first. Each item counts modulo 256, so that it is below 256 ^ n
-- for every list.
unfoldable pub number_at : ℕ → ℕ → List ℕ → ℕ
number_at zero at xs = 0
number_at (suc n) at xs = slice_index xs at % 256 + 256 * number_at n (suc at) xs

-- the n bytes of a number, the lowest first
unfoldable pub number_bytes : ℕ → ℕ → List ℕ
number_bytes n v = little_bytes n v

-- xs with ys written over it from place `at` on
unfoldable pub overwrite : {X : Type 0} → ℕ → List X → List X → List X
overwrite at ys xs = take at xs ++ (ys ++ drop (at + length ys) xs)

-- Fields that stand one after the other, each with its width and its number.
abbrev pub fields_bytes : List (ℕ × ℕ) → List ℕ
fields_bytes [] = []
fields_bytes (f ∷ fs) = number_bytes f.0 f.1 ++ fields_bytes fs

-- how many bytes the fields have
abbrev pub width_of : List (ℕ × ℕ) → ℕ
width_of [] = 0
width_of (f ∷ fs) = f.0 + width_of fs

-- each number fits its width
abbrev pub FieldsFit : List (ℕ × ℕ) → Type 0
FieldsFit [] = Unit {0}
FieldsFit (f ∷ fs) = (f.1 < 256 ^ f.0) × FieldsFit fs

-- the fields from a place on have these numbers
abbrev pub HasFields : List (ℕ × ℕ) → ℕ → List ℕ → Type 0
HasFields [] at xs = Unit {0}
HasFields (f ∷ fs) at xs = (number_at f.0 at xs ≡ f.1) × HasFields fs (at + f.0) xs

-- xs with the fields written over it, one after the other, from a place on
abbrev pub put_all : List (ℕ × ℕ) → ℕ → List ℕ → List ℕ
put_all [] at xs = xs
put_all (f ∷ fs) at xs = put_all fs (at + f.0) (overwrite at (number_bytes f.0 f.1) xs)
