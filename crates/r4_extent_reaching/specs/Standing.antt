-- The sizes of a body that changes, and where it stood (docs/volume.md, "Reach").
use Rattle.std.specs.Prelude.{◌^◌, ◌<◌, ◌≤◌, Option, None, Some}
use Rattle.r4_reaching.specs.r4_reach.Touched.{Body}

-- It has no more bytes, before and after, than a file may have.
abbrev pub HasFileSizes : Option Body → Type 0
HasFileSizes None = Unit {0}
HasFileSizes (Some b) = (b.was ≤ 2 ^ 30) × (b.now ≤ 2 ^ 30)

-- It had more: no volume has such a file.
abbrev pub IsTooLong : Option Body → Type 0
IsTooLong None = ⊥
IsTooLong (Some b) = 2 ^ 30 < b.was
