-- The units of cells, by their items.
use Rattle.std.proofs.Common.{◌≡◌, ℕ, zero, suc, ◌≤◌, List, [], ◌∷◌, ◌++◌, refl, sym, ◌∙◌, arith}
use Rattle.r4_base.specs.Cell.{units_in}
use Rattle.r4_base.specs.Key.{rank}
use Rattle.r4_base.specs.Node.{items_of}
use Rattle.r4_patch.specs.r4_cell.Seen.{CellSeen, node_of}
use Rattle.r4_path.specs.Levels.{units_of_cells}
use Rattle.r4_path.specs.Sharing.{items_of_cells}
use Rattle.r4_path.specs.Steps.{Follow}
use Rattle.r4_path.proofs.CellNodes.{units_are}
use Rattle.r4_path.proofs.Rows.{units_append}

units_none : units_in [] ≡ []
unfolding units_in
units_none = refl

pub units_parts : (level lo hi : ℕ) (cells : List CellSeen) → 1 ≤ level → Follow level lo hi cells → units_of_cells cells
    ≡ units_in (items_of_cells cells)
units_parts level lo hi [] one follow = sym units_none
units_parts zero lo hi (c ∷ cells) one follow = absurd (omega (arith, one))
units_parts (suc l) lo hi (c ∷ cells) one follow =
    (λ i. units_are c l follow.0 i ++ units_parts (suc l) (rank c.hi) hi cells one follow.3 i)
    ∙ sym (units_append (items_of c.block) (items_of_cells cells))

pub own_units : (c : CellSeen) → 1 ≤ c.level → (node_of c).units ≡ units_in (items_of c.block)
own_units c one = by_level c.level refl one
  where
    by_level : (k : ℕ) → c.level ≡ k → 1 ≤ k → (node_of c).units ≡ units_in (items_of c.block)
    by_level zero e some = absurd (omega (arith, some))
    by_level (suc l) e some = units_are c l e
