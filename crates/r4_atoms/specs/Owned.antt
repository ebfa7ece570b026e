-- Labels of nodes.
use Rattle.std.specs.Prelude.{ℕ, ◌+◌, ◌≤◌, List, length, map, Bool, ◌==◌, Option}
use Rattle.std.specs.Map.{lookup}
use Rattle.r4_atoms.specs.declared.owners.Label.{Label}

-- nodes with their labels, of which the first one of a node counts, and for how many more nodes there is room
pub record Owned : Type 0 where
  pub entries : List (ℕ × ℕ)
  pub spare : ℕ

abbrev pub label_of : ℕ → List (ℕ × ℕ) → Option ℕ
label_of node entries = lookup (λ n. node == n) entries

abbrev pub pair_of : Label → ℕ × ℕ
pair_of l = (l.node, l.label)

abbrev pub pairs_of : List Label → List (ℕ × ℕ)
pairs_of row = map pair_of row

abbrev pub is_of : ℕ → Label → Bool
is_of node l = l.node == node

-- The table has places for `spare` more nodes, and each entry of the table has a place in the row as well.
pub record HasPlaces (in_table places : ℕ) (row : List Label) (spare capacity : ℕ) : Type 0 where
  pub table : spare ≤ places
  pub moves : in_table + length row + spare ≤ capacity
