-- Bytes of tails that come to stand in an extent, in one twig or in several (docs/volume.md,
-- "Edits").
use Rattle.std.specs.Prelude.{◌≡◌, ◌↔◌, ◌⊎◌, ℕ, List, ◌++◌, true, false, Contains, Option, Some}
use Rattle.r4_base.specs.Tree.{InNode}
use Rattle.r4_base.specs.Value.{Value}
use Rattle.r4_cell.specs.Seen.{CellSeen, node_of}
use Rattle.r4_path.specs.Levels.{units_of_cells}
use Rattle.r4_leaf.specs.Units.{is_between}
use Rattle.r4_rows.specs.Rows.{Row}

-- Leaves that go have all keys of a range. Leaves that come have their other units; data blocks
-- that come and the twigs have these values besides the units that the twigs had, which have no key
-- of the range.
pub record IsTurn (b s : Row) (from to : ℕ) (values : ℕ → Option Value) : Type 0 where
  pub parts : List CellSeen
  pub blocks : List CellSeen
  pub new : b.new ≡ parts ++ blocks
  pub leaves : (c : CellSeen) → Contains b.old c → c.level ≡ 1
  pub leaf_parts : (c : CellSeen) → Contains parts c → c.level ≡ 1
  pub data_blocks : (c : CellSeen) → Contains blocks c → c.level ≡ 0
  pub covers : (k : ℕ) → is_between from to k ≡ true
      → (c : CellSeen) × Contains b.old c × InNode (node_of c) k
  pub rest : (k : ℕ) (v : Value) → Contains (units_of_cells parts) (k, v)
      ↔ (Contains (units_of_cells b.old) (k, v) × (is_between from to k ≡ false))
  pub come : (k : ℕ) (v : Value)
      → (Contains (units_of_cells s.new) (k, v) ⊎ Contains (units_of_cells blocks) (k, v))
      ↔ (Contains (units_of_cells s.old) (k, v) ⊎ (values k ≡ Some v))
  pub apart : (k : ℕ) (v : Value) → Contains (units_of_cells s.old) (k, v)
      → is_between from to k ≡ false
  pub within : (k : ℕ) (v : Value) → values k ≡ Some v → is_between from to k ≡ true
