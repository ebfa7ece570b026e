-- Where the units of an item end (docs/volume.md, "Cells").
use Rattle.std.specs.Prelude.{◌≡◌, ℕ, ◌+◌, ◌^◌, ◌<◌, ◌≤◌, ◌&&◌, Bool, true, false, nat_lt, Option, Some, None, Result, Ok, Err}
use Rattle.r4_base.specs.Cell.{item_body_fault, item_end, offsets_fit}
use Rattle.r4_base.specs.Key.{offset_of, rank}
use Rattle.r4_base.specs.Node.{Item}
use Rattle.r4_base.specs.declared.key.Key.{Key}
use Rattle.r4_base.specs.declared.items.CellFault.{CellFault}
use Rattle.r4_cell.specs.declared.refused.CellRefused.{CellRefused}
use Rattle.r4_cell.specs.declared.refused.CellRefused.TheVariants.{Fault, Memory}

-- The key of an item's last unit; there is none where its offset is 2^64 or more.
abbrev pub EndsAt : Item → Option Key → Type 0
EndsAt it (Some k) = (offsets_fit it ≡ true) × (rank k + 1 ≡ item_end it)
EndsAt it None = offsets_fit it ≡ false

-- The end of an item whose body is accepted on a volume of so many blocks, or its fault.
abbrev pub FindsEnd : (blocks : ℕ) → Item → Result (Option Key) CellFault → Type 0
FindsEnd blocks it (Ok last) = (item_body_fault false blocks it ≡ None) × EndsAt it last
FindsEnd blocks it (Err fault) = item_body_fault false blocks it ≡ Some fault

-- The key of the last of so many bytes, of which the first has this key.
abbrev pub IsLastByte : Key → (bytes : ℕ) → Option Key → Type 0
IsLastByte key bytes (Some k) = (offset_of key + bytes ≤ 2 ^ 64) × (rank k + 1 ≡ rank key + bytes)
IsLastByte key bytes None = 2 ^ 64 < offset_of key + bytes

-- whether there is a last key, and it is below both
abbrev pub is_last_below : (hi next : ℕ) → Option Key → Bool
is_last_below hi next (Some k) = nat_lt (rank k) hi && nat_lt (rank k) next
is_last_below hi next None = false

-- A refusal names the first fault; want of memory is no fault of the block.
abbrev pub RefusedAs : {T : Type 0} → Option CellFault → Result T CellRefused → Type 0
RefusedAs fault (Ok cell) = Unit {0}
RefusedAs fault (Err (Fault f)) = fault ≡ Some f
RefusedAs fault (Err Memory) = Unit {0}
