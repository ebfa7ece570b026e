-- The cells that a pool has met, as a list (docs/volume.md, "Reach").
use Rattle.std.specs.Prelude.{◌≡◌, ◌↔◌, ℕ, List, All, Contains, Option, Some}
use Rattle.r4_cell.specs.Patch.{HaveNames, by_name, root_of_pair}
use Rattle.r4_cell.specs.Seen.{CellSeen}
use Rattle.r4_cell.specs.declared.change.Root.{Root as RootPair}
use Rattle.r4_judging.specs.Judging.{IsRefusal, IsSound}
use Rattle.r4_judging.specs.r4_marking.Marks.{AreMet}
use Rattle.r4_search.specs.Pool.{PoolState}
use Rattle.r4_search.specs.declared.pool.FetchFault.{FetchFault}
use Rattle.r4_search.specs.declared.pool.FetchFault.TheVariants.{Damaged, Memory, Read}
use Rattle.r4_touching.specs.r4_seeing.Looking.{met_cells}
use Rattle.r4_spared.specs.r4_work.Order.{AreInOrder}

-- A cell that was met under a number has that number.
abbrev pub HaveNumbers : (met : ℕ → Option CellSeen) → Type 0
HaveNumbers met = (i : ℕ) (c : CellSeen) → met i ≡ Some c → c.id ≡ i

-- They are the cells that were met, each once.
pub record AreAllMet (met : ℕ → Option CellSeen) (cells : List CellSeen) : Type 0 where
  pub names : HaveNames cells
  pub are : (c : CellSeen) → Contains cells c ↔ (met c.id ≡ Some c)

abbrev pub IsOneMet : PoolState → Type 0
IsOneMet p = (i : ℕ) × (c : CellSeen) × (p.met i ≡ Some c)

-- They are the cells that were met, each once and in order, and a part of a tree; each is a cell by itself.
pub record IsPartMet (p : PoolState) (root : RootPair) (cells : List CellSeen) : Type 0 where
  pub all : AreAllMet p.met cells
  pub store : (i : ℕ) → by_name cells i ≡ met_cells p i
  pub order : AreInOrder cells
  pub met : AreMet cells (root_of_pair root)
  pub sound : All IsSound cells

-- The fault is that of the first of the cells that were met which is misnamed, with its block.
abbrev pub IsRefusedFor : PoolState → FetchFault → Type 0
IsRefusedFor p (Read at faults) = ⊥
IsRefusedFor p (Damaged at fault) =
    (cells : List CellSeen) × AreAllMet p.met cells × IsRefusal cells (Damaged at fault)
IsRefusedFor p Memory = Unit {0}
