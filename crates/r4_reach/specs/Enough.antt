-- The cells above one that asks for room (docs/volume.md, "Reach").
use Rattle.std.specs.Prelude.{◌≡◌, ◌⊎◌, ℕ, ◌+◌, ◌*◌, ◌<◌, ◌≤◌, List, [], ◌∷◌, Contains, Some}
use Rattle.r4_base.specs.Node.{items_of}
use Rattle.r4_base.specs.Tree.{Name, Node, Root, Store}
use Rattle.r4_base.specs.Value.{Value}
use Rattle.r4_path.specs.Nodes.{weight}

-- a cell with its number
abbrev pub Numbered : Type 0
Numbered = ℕ × Node Value

-- Each names the one before it, up to the root.
abbrev pub LeadsUp : Store Value → Root → Numbered → List Numbered → Type 0
LeadsUp t r c [] = c.0 ≡ r.id
LeadsUp t r c (d ∷ cells) = (t d.0 ≡ Some d.1) × ((n : Name) × Contains d.1.names n × (n.id ≡ c.0))
    × LeadsUp t r d cells

-- So many cells come beside the one; the next one has room for pointers to them, or is parted in two; the last one is
-- the root, below
-- level 8, unless one before it has room. (As in r4_edit, over nodes.)
abbrev pub IsLongEnough : Root → (come : ℕ) → Numbered → List Numbered → Type 0
IsLongEnough r come c [] = (c.0 ≡ r.id) × (c.1.level < 8)
IsLongEnough r come c (d ∷ cells) = (weight (items_of d.1.block) + 46 * come ≤ 4068) ⊎ IsLongEnough r 1 d cells
