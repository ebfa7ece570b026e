-- Extents and node pointers (docs/layout.md, "Items").
use Rattle.std.specs.Prelude.{◌≡◌, ℕ, zero, suc, ◌+◌, ◌-◌, ◌*◌, ◌/◌, ◌%◌, ◌^◌, ◌<◌, ◌≤◌, ◌⊎◌, ◌==◌, ◌&&◌, ◌||◌, not, nat_le, nat_lt, Bool, true, false, if◌then◌else◌, List, [], ◌∷◌, length, Option, Some, None}
use Rattle.std.specs.Option.{option_or}
use Rattle.r4_base.specs.Bytes.{number_at}
use Rattle.r4_base.specs.Bitmap.{is_fixed}
use Rattle.r4_base.specs.declared.items.Unit.{Unit as ExtentUnit}
use Rattle.r4_base.specs.declared.items.ExtentFault.{ExtentFault}
use Rattle.r4_base.specs.declared.items.ExtentFault.TheVariants.{Length, Start, Width, Range}
use Rattle.r4_base.specs.declared.limits.TheConstants.{FIRST_PLACE, UNPLACED}

-- ---- the units of a body: 16 bytes each, the start and the width

abbrev pub unit_at : List ℕ → ℕ → ExtentUnit
unit_at b i = record { start = number_at 8 (16 * i) b; width = number_at 8 (16 * i + 8) b }

-- n units from the i-th on
unfoldable pub units_from : ℕ → ℕ → List ℕ → List ExtentUnit
units_from zero i b = []
units_from (suc n) i b = unit_at b i ∷ units_from n (i + 1) b

-- the units that a body spells; bytes behind the last whole unit are not read
unfoldable pub units_of : List ℕ → List ExtentUnit
units_of b = units_from (length b / 16) 0 b

-- a unit as two fields, each with its width
abbrev pub unit_fields : ExtentUnit → List (ℕ × ℕ)
unit_fields u = (8, u.start) ∷ (8, u.width) ∷ []

-- ---- what a unit is: a hole, a run of blocks, or a block that is not placed yet

abbrev pub is_hole : ExtentUnit → Bool
is_hole u = u.start == 0

-- a start that stands for a block that is not placed yet
abbrev pub is_unplaced : ExtentUnit → Bool
is_unplaced u = nat_le UNPLACED u.start

-- whether one of the blocks of a run is fixed
unfoldable pub holds_fixed : (blocks start width : ℕ) → Bool
holds_fixed blocks start zero = false
holds_fixed blocks start (suc width) = is_fixed blocks start || holds_fixed blocks (start + 1) width

-- a run that goes past the block count, or that holds a fixed block
abbrev pub is_out_of_range : (blocks : ℕ) → ExtentUnit → Bool
is_out_of_range blocks u = nat_lt blocks (u.start + u.width) || holds_fixed blocks u.start u.width

-- ---- what is wrong with an extent; in memory a unit of one block that is not placed yet is accepted too

-- the first fault of unit i
unfoldable pub unit_fault : (in_memory : Bool) → (blocks i : ℕ) → ExtentUnit → Option ExtentFault
unit_fault in_memory blocks i u =
    if in_memory && is_unplaced u && u.width == 1 then None else
    if not (is_hole u) && nat_lt u.start FIRST_PLACE then Some (Start i) else
    if u.width == 0 then Some (Width i) else
    if not (is_hole u) && is_out_of_range blocks u then Some (Range i) else
    None

-- the first fault of units, of which the first is unit i
unfoldable pub units_fault : (in_memory : Bool) → (blocks i : ℕ) → List ExtentUnit → Option ExtentFault
units_fault in_memory blocks i [] = None
units_fault in_memory blocks i (u ∷ us) = option_or (unit_fault in_memory blocks i u) (units_fault in_memory blocks (i + 1) us)

unfoldable pub body_fault : (in_memory : Bool) → (blocks : ℕ) → List ℕ → Option ExtentFault
body_fault in_memory blocks b = if length b == 0 || not (length b % 16 == 0) then Some Length else units_fault in_memory blocks 0 (units_of b)

-- the first fault of a body on a volume of so many blocks
abbrev pub extent_fault : (blocks : ℕ) → List ℕ → Option ExtentFault
extent_fault blocks b = body_fault false blocks b

-- the first fault of a body in memory
abbrev pub memory_fault : (blocks : ℕ) → List ℕ → Option ExtentFault
memory_fault blocks b = body_fault true blocks b

-- A unit that has no fault: a block that is not placed yet, in memory only; a hole; or a run.
abbrev pub IsUnplaced : (in_memory : Bool) → ExtentUnit → Type 0
IsUnplaced in_memory u = (in_memory ≡ true) × (UNPLACED ≤ u.start) × (u.width ≡ 1)

abbrev pub IsHole : ExtentUnit → Type 0
IsHole u = (u.start ≡ 0) × (0 < u.width)

pub record IsRun (blocks : ℕ) (u : ExtentUnit) : Type 0 where
  pub start : FIRST_PLACE ≤ u.start
  pub width : 0 < u.width
  pub within : u.start + u.width ≤ blocks
  pub spares_fixed : holds_fixed blocks u.start u.width ≡ false

abbrev pub IsLawfulUnit : (in_memory : Bool) → (blocks : ℕ) → ExtentUnit → Type 0
IsLawfulUnit in_memory blocks u = IsUnplaced in_memory u ⊎ (IsHole u ⊎ IsRun blocks u)

abbrev pub AreLawfulUnits : (in_memory : Bool) → (blocks : ℕ) → List ExtentUnit → Type 0
AreLawfulUnits in_memory blocks [] = Unit {0}
AreLawfulUnits in_memory blocks (u ∷ us) = IsLawfulUnit in_memory blocks u × AreLawfulUnits in_memory blocks us

-- ---- the blocks that units have, in order

-- how many there are, with those of holes
abbrev pub blocks_in : List ExtentUnit → ℕ
blocks_in [] = 0
blocks_in (u ∷ us) = u.width + blocks_in us

-- the k-th of them: none in a hole, and none past the end
unfoldable pub block_of : List ExtentUnit → ℕ → Option ℕ
block_of [] k = None
block_of (u ∷ us) k =
    if nat_lt k u.width then (if is_hole u then None else Some (u.start + k)) else
    block_of us (k - u.width)

-- the block that holds a byte, counted from the extent's first on
abbrev pub block_of_byte : List ExtentUnit → ℕ → Option ℕ
block_of_byte us b = block_of us (b / 4096)

-- ---- a unit cut in two

-- a unit's blocks from the k-th on; what is left of a hole is a hole
abbrev pub unit_past : ℕ → ExtentUnit → ExtentUnit
unit_past k u = record { start = if is_hole u then 0 else (u.start + k); width = u.width - k }

-- unit i cut in two, the first of which has k blocks
abbrev pub cut_at : (i k : ℕ) → List ExtentUnit → List ExtentUnit
cut_at i k [] = []
cut_at zero k (u ∷ us) = record u { width = k } ∷ (unit_past k u ∷ us)
cut_at (suc i) k (u ∷ us) = u ∷ cut_at i k us

-- ---- units made one

-- whether the second unit goes on where the first one ends: two holes, or two runs; blocks that are not placed yet never do
abbrev pub continues : ExtentUnit → ExtentUnit → Bool
continues u v = if is_hole u then is_hole v else (not (is_unplaced u) && not (is_unplaced v) && v.start == u.start + u.width)

-- a unit and those behind it, with each that goes on where the one before it ends made one with it
abbrev pub joined_to : ExtentUnit → List ExtentUnit → List ExtentUnit
joined_to u [] = u ∷ []
joined_to u (v ∷ us) = if continues u v then joined_to (record u { width = u.width + v.width }) us else (u ∷ joined_to v us)

abbrev pub joined : List ExtentUnit → List ExtentUnit
joined [] = []
joined (u ∷ us) = joined_to u us

-- No unit goes on where the one before it ends.
abbrev pub AreApart : List ExtentUnit → Type 0
AreApart [] = Unit {0}
AreApart (u ∷ []) = Unit {0}
AreApart (u ∷ (v ∷ us)) = (continues u v ≡ false) × AreApart (v ∷ us)

-- Each width can be written.
abbrev pub WidthsFit : List ExtentUnit → Type 0
WidthsFit [] = Unit {0}
WidthsFit (u ∷ us) = (u.width < 2 ^ 64) × WidthsFit us

-- ---- node pointers

-- the block that a pointer names: none where the body has not 8 bytes, or names one of blocks 0 to 21
unfoldable pub pointer_of : List ℕ → Option ℕ
pointer_of b = if length b == 8 && nat_le FIRST_PLACE (number_at 8 0 b) then Some (number_at 8 0 b) else None
