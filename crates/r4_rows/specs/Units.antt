-- Units of cells that give way to others (docs/volume.md, "Edits").
use Rattle.std.specs.Prelude.{◌≡◌, ◌↔◌, ◌==◌, ℕ, List, [], ◌∷◌, Bool, true, false, Contains, Option}
use Rattle.std.specs.Prelude.{Some}
use Rattle.r4_base.specs.Tree.{Holds}
use Rattle.r4_base.specs.Value.{Value}
use Rattle.r4_patch.specs.Effect.{Placed}
use Rattle.r4_cell.specs.Seen.{CellSeen, node_of}
use Rattle.r4_path.specs.Levels.{units_of_cells}
use Rattle.r4_rows.specs.Rows.{Row}

-- one of the cells has the unit, a leaf or another one
abbrev pub UnitOf : List CellSeen → ℕ → Placed Value → Type 0
UnitOf cells k u = (c : CellSeen) × Contains cells c × Contains (node_of c).units (k, u.0)
    × ((c.level == 1) ≡ u.1)

-- one of the cells holds the key
abbrev pub HoldIn : List CellSeen → ℕ → Type 0
HoldIn cells k = (c : CellSeen) × Contains cells c × Holds (node_of c) k

-- What the cells that come have at the keys of a set is what a function says; elsewhere they have
-- what those had that go.
pub record TakeEffect (old new : List CellSeen) (at : ℕ → Bool)
    (to : ℕ → Option (Placed Value)) : Type 0 where
  pub held : (k : ℕ) → at k ≡ true → HoldIn old k
  pub there : (k : ℕ) (u : Placed Value) → at k ≡ true → UnitOf new k u ↔ (to k ≡ Some u)
  pub others : (k : ℕ) (u : Placed Value) → at k ≡ false → UnitOf new k u ↔ UnitOf old k u

-- the cells of each row have the same units in the same order
abbrev pub KeepUnits : List Row → Type 0
KeepUnits [] = Unit {0}
KeepUnits (s ∷ rows) = (units_of_cells s.new ≡ units_of_cells s.old) × KeepUnits rows
