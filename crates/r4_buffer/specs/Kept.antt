-- How the cells in memory are kept.
use Rattle.std.specs.Prelude.{◌≡◌, ℕ, ◌≤◌, List, Some, nat_eq}
use Rattle.std.specs.List.{IsDistinct}
use Rattle.std.specs.Map.{keys_of, lookup}
use Rattle.r4_buffer.specs.Seen.{EntrySeen}

-- The table has a place for each cell for which there is room.
pub record IsKept (entries : List (ℕ × EntrySeen)) (places spare : ℕ) : Type 0 where
  pub unique : IsDistinct nat_eq (keys_of entries)
  pub named : (i : ℕ) (e : EntrySeen) → lookup (nat_eq i) entries ≡ Some e → e.cell.id ≡ i
  pub room : spare ≤ places
