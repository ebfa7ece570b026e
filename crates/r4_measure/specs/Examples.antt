-- The cells of a fresh volume, whose root gets attributes: what the laws ask for can be met (docs/volume.md, "What may
-- still come").
use Rattle.std.specs.Prelude.{ℕ, ◌+◌, ◌-◌, ◌^◌, List, [], ◌∷◌}
use Rattle.r4_base.specs.Fresh.{root_key}
use Rattle.r4_base.specs.Key.{key_of_rank, least}
use Rattle.r4_base.specs.Tree.{Root}
use Rattle.r4_base.specs.Value.{Stat}
use Rattle.r4_base.specs.declared.items.Attr.{Attr}
use Rattle.r4_reach.specs.r4_cell.Seen.{CellSeen}
use Rattle.r4_reach.specs.r4_cell.declared.change.Fresh.{Fresh}
use Rattle.r4_content.specs.Edited.{Edits}

-- the root, a twig, and its one leaf
abbrev pub fresh_cells : (twig leaf : List ℕ) → List CellSeen
fresh_cells twig leaf =
    record { id = 22; level = 2; lo = root_key; hi = key_of_rank (2 ^ 256 - 1); block = twig }
    ∷ record { id = 23; level = 1; lo = root_key; hi = key_of_rank (2 ^ 256 - 1); block = leaf }
    ∷ []

abbrev pub fresh_root : Root
fresh_root = record { id = 22; height = 2 }

abbrev pub some_numbers : Fresh
some_numbers = record { next = 2 ^ 63; end = 2 ^ 63 + 1000 }

-- the root directory gets these attributes
abbrev pub set_root : Attr → Edits
set_root a = record { cuts = []; zeros = []; puts = (least, Stat a) ∷ [] }
