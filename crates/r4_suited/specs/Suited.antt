-- What was seen in cells that were accepted, and where bytes end (docs/volume.md, "Which edits a leaf gets").
use Rattle.std.specs.Prelude.{◌≡◌, ℕ, ◌^◌, ◌<◌, true, if◌then◌else◌, Option, Some, None}
use Rattle.std.specs.FinMap.{find}
use Rattle.std.specs.Ordering.{nat_cmp}
use Rattle.r4_base.specs.Cell.{cell_fault}
use Rattle.r4_base.specs.Key.{rank}
use Rattle.r4_base.specs.Stat.{kind_is_good}
use Rattle.r4_base.specs.Value.{Byte, Entry, Stat, Value}
use Rattle.r4_leaf_edits.specs.r4_cell.Seen.{CellSeen}
use Rattle.r4_content.specs.Course.{asked}
use Rattle.r4_content.specs.Edited.{Pairs, is_in}
use Rattle.r4_content.specs.Meaning.{course, greatest_size}
use Rattle.r4_content.specs.Seen.{of_seen}
use Rattle.r4_content.specs.declared.command.Command.{Command}
use Rattle.r4_leaf_edits.specs.r4_reach.Touched.{Body, is_spread}

-- Attributes are a directory's or a file's, and what an entry names has an ordering of 64 bits.
abbrev pub IsLawfulSeen : ℕ × Value → Type 0
IsLawfulSeen (k, Stat a) = kind_is_good a.mode ≡ true
IsLawfulSeen (k, Entry n t) = t.ordering < 2 ^ 64
IsLawfulSeen (k, Byte x) = Unit {0}

-- So it is at each key that the command asks for.
abbrev pub AreLawfulSeen : Command → Pairs → Type 0
AreLawfulSeen c s = (k : ℕ) (v : Value)
    → is_in (asked (course greatest_size c) (of_seen s)) k ≡ true
    → find nat_cmp k s ≡ Some v → IsLawfulSeen (k, v)

-- The cell may stand as it is, in memory.
abbrev pub IsAccepted : CellSeen → Type 0
IsAccepted x = cell_fault true (2 ^ 64) x.level (rank x.lo) (rank x.hi) x.block ≡ None

-- Bytes that are set stand before this one of their file; anywhere where its body stands in extents afterwards.
abbrev pub end_of_bytes : Option Body → ℕ
end_of_bytes None = 16384
end_of_bytes (Some b) = if is_spread b then 2 ^ 64 else 16384
