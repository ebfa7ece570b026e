-- The smallest node at which two lists of cells differ, as far as it is known.
use Rattle.std.specs.Prelude.{◌≡◌, ◌⊎◌, ℕ, ◌≤◌, List, Option, Some, None}
use Rattle.r4_base.specs.declared.things.NodeId.{NodeId}
use Rattle.r4_cell.specs.Seen.{CellSeen}
use Rattle.r4_matching.specs.Matching.{DifferBy, cell_named}
use Rattle.r4_matching.specs.declared.cells.Differs.{Differs}

-- the lists differ so at the node
abbrev pub IsFound : (had has : List CellSeen) → Option (NodeId × Differs) → Type 0
IsFound had has None = Unit {0}
IsFound had has (Some (node, d)) =
    DifferBy (cell_named node.0 had) (cell_named node.0 has) d

-- this node or a smaller one was found
abbrev pub IsUpTo : Option (NodeId × Differs) → ℕ → Type 0
IsUpTo None n = ⊥
IsUpTo (Some found) n = found.0.0 ≤ n

-- the lists do not differ at the node, or it was found, or a smaller one
abbrev pub IsSettled : (had has : List CellSeen) → Option (NodeId × Differs) → ℕ → Type 0
IsSettled had has first n = (cell_named n had ≡ cell_named n has) ⊎ IsUpTo first n

-- it is as near, and a difference if the earlier one was
pub record IsNearer (had has : List CellSeen) (earlier first : Option (NodeId × Differs)) : Type 0
  where
    pub found : IsFound had has earlier → IsFound had has first
    pub near : (n : ℕ) → IsUpTo earlier n → IsUpTo first n

-- each node is settled of which what is left of the lists has the same
abbrev pub IsMerged
    : (had has : List CellSeen) → Option (NodeId × Differs) → (mine kept : List CellSeen) → Type 0
IsMerged had has first mine kept =
    (n : ℕ) → cell_named n mine ≡ cell_named n kept → IsSettled had has first n
