-- The fields of a line (docs/scripts.md, "Fields").
use Rattle.std.specs.Prelude.{◌≡◌, ℕ, ◌+◌, ◌-◌, ◌*◌, nat_eq, nat_lt, nat_le, Bool, not, ◌&&◌, if◌then◌else◌, List, [], ◌∷◌, length, drop, Option, Some, None, option_map, Result, Ok, Err}
use Rattle.std.specs.List.{list_all}
use Rattle.r4_script.specs.declared.fault.What.{What}
use Rattle.r4_script.specs.declared.fault.What.TheVariants.{Field, Number, Path, Text}
use Rattle.r4_script.specs.declared.fault.Spot.{Spot}
use Rattle.r4_script.specs.declared.fault.Stop.{Stop}
use Rattle.r4_script.specs.declared.fault.Stop.TheVariants as stops
use Rattle.r4_script.specs.Split.{until, split}

-- reading goes on behind what was read, up to the first fault
infixl 10 ◌>>=◌
abbrev pub ◌>>=◌ : {A B : Type 0} → Result A Spot → (A → Result B Spot) → Result B Spot
(Ok x) >>= f = f x
(Err e) >>= f = Err e

-- what stopped a reader is this fault, unless memory ran out
abbrev pub Fails : {Y : Type 0} → Stop → Result Y Spot → Type 0
Fails stops.Memory read = Unit {0}
Fails (stops.Spot spot) read = read ≡ Err spot

-- what a reader answered, seen by view, is what reading gives, unless memory ran out
abbrev pub Gives : {X Y : Type 0} → (X → Y) → Result X Stop → Result Y Spot → Type 0
Gives view (Ok x) read = read ≡ Ok (view x)
Gives view (Err e) read = Fails e read

-- a fault at a place of the line, counted from 0
abbrev pub at_place : {A : Type 0} → ℕ → What → Result A Spot
at_place i what = Err (record { column = i + 1; what = what })

-- the value, or else a fault at this place
abbrev pub or_at : {A : Type 0} → ℕ → What → Option A → Result A Spot
or_at i what None = at_place i what
or_at i what (Some x) = Ok x

-- The field that begins at this place, up to the next blank, and where the one behind it begins: one past the end and one
-- more where there is none. A field that is missing is missed at the end.
unfoldable pub field_at : List ℕ → ℕ → Result (List ℕ × ℕ) Spot
field_at line i =
    if nat_lt (length line) i then at_place (length line) Field else
    Ok (until 32 (drop i line), i + length (until 32 (drop i line)) + 1)

-- no field begins at this place
unfoldable pub ends_at : List ℕ → ℕ → Result (Unit {0}) Spot
ends_at line i = if nat_lt (length line) i then Ok tt else at_place i Field

-- the number that these digits go on to, behind those that make so much; none where one is no digit of the base
abbrev pub digits_from : (base so_far : ℕ) → List ℕ → Option ℕ
digits_from base so_far [] = Some so_far
digits_from base so_far (d ∷ digits) = if nat_le 48 d && nat_lt d (48 + base) then digits_from base (so_far * base + (d - 48)) digits else None

-- nothing above a number
abbrev pub up_to : ℕ → Option ℕ → Option ℕ
up_to most None = None
up_to most (Some n) = if nat_le n most then Some n else None

-- the number of 1 to so many digits of a base that is at most so large
unfoldable pub number_of : (base count most : ℕ) → List ℕ → Option ℕ
number_of base count most digits = if nat_lt 0 (length digits) && nat_le (length digits) count then up_to most (digits_from base 0 digits) else None

-- a field that is a number of 1 to 20 decimal digits, at most so large
unfoldable pub number_at : (most : ℕ) → List ℕ → ℕ → Result (ℕ × ℕ) Spot
number_at most line i = do
  f ← field_at line i
  n ← or_at i Number (number_of 10 20 most f.0)
  Ok (n, f.1)

-- a field that is a mode of one to four octal digits
unfoldable pub mode_at : List ℕ → ℕ → Result (ℕ × ℕ) Spot
mode_at line i = do
  f ← field_at line i
  n ← or_at i Number (number_of 8 4 4095 f.0)
  Ok (n, f.1)

-- a byte of a path is above the blank and is not 127
abbrev pub is_path_byte : ℕ → Bool
is_path_byte b = nat_lt 32 b && not (nat_eq b 127)

-- what stands between the slashes behind the first one; the slash alone has none
abbrev pub components : List ℕ → List (List ℕ)
components [] = []
components (b ∷ bytes) = split 47 (b ∷ bytes)

-- what stands behind the slash with which a path begins
abbrev pub behind_root : List ℕ → Option (List ℕ)
behind_root [] = None
behind_root (b ∷ bytes) = if nat_eq b 47 && list_all is_path_byte bytes then Some bytes else None

-- the names of a path
unfoldable pub path_of : List ℕ → Option (List (List ℕ))
path_of bytes = option_map components (behind_root bytes)

-- a field that is a path
unfoldable pub path_at : List ℕ → ℕ → Result (List (List ℕ) × ℕ) Spot
path_at line i = do
  f ← field_at line i
  p ← or_at i Path (path_of f.0)
  Ok (p, f.1)

-- the rest of the line, blanks and all, which is there once a blank stands before it; at most 4096 bytes
unfoldable pub text_at : List ℕ → ℕ → Result (List ℕ) Spot
text_at line i =
    if nat_lt (length line) i then at_place (length line) Field else
    if nat_lt 4096 (length (drop i line)) then at_place (i + 4096) Text else
    Ok (drop i line)
