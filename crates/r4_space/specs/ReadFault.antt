-- Why no space is read.
use Rattle.std.specs.Prelude.{◌≡◌, ℕ, Option, Some}
use Rattle.r4_space.specs.declared.things.SpaceFault.{SpaceFault}
use Rattle.r4_space.specs.declared.things.SpaceFault.TheVariants.{Bitmap, Memory}

-- The first fault of the bitmaps, or want of memory.
abbrev pub IsReadFault : Option ℕ → SpaceFault → Type 0
IsReadFault fault (Bitmap block) = fault ≡ Some block.0
IsReadFault fault Memory = Unit {0}
