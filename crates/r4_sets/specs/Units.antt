-- Which kind of cell has the unit of a key (docs/sets.md).
use Rattle.std.specs.Prelude.{◌↔◌, ℕ}
use Rattle.r4_base.specs.Tree.{Store}
use Rattle.r4_base.specs.Value.{Value}
use Rattle.r4_patch.specs.Effect.{Placed, UnitIn}

-- the key has the same unit in both stores, in the same kind of cell, or none in both
abbrev pub SameUnit : (t u : Store Value) → ℕ → Type 0
SameUnit t u k = (v : Placed Value) → UnitIn t k v ↔ UnitIn u k v
