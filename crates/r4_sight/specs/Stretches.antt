-- What stands at keys from one on, as far as the cell goes that holds them (docs/volume.md, "Sight"). A key is its
-- rank.
use Rattle.std.specs.Prelude.{◌≡◌, ◌⊎◌, ℕ, ◌+◌, ◌*◌, ◌^◌, ◌<◌, ◌≤◌, Contains, Some, None, slice_get}
use Rattle.r4_base.specs.Extents.{units_of}
use Rattle.r4_base.specs.Key.{offset_of, rank}
use Rattle.r4_base.specs.Node.{Item, items_of}
use Rattle.r4_base.specs.Tree.{Holds, InName, Name, Node}
use Rattle.r4_base.specs.Value.{Value}
use Rattle.r4_units.specs.r4_cell.Seen.{CellSeen, node_of}
use Rattle.r4_units.specs.r4_cell.declared.change.Root.{Root}
use Rattle.r4_content.specs.Seen.{Rises, pairs_in}
use Rattle.r4_units.specs.r4_search.Path.{EndsAt, MeetsOn}
use Rattle.r4_units.specs.r4_search.Pool.{Goes, IsKnown, IsMet, IsNamed, IsOf, IsRefused, KnowsNames, PoolState, StandsInMemory}
use Rattle.r4_units.specs.r4_search.declared.pool.FetchFault.{FetchFault}
use Rattle.r4_units.specs.r4_search.declared.pool.FetchFault.TheVariants.{Read, Damaged, Memory}
use Rattle.r4_sight.specs.Parts.{AreFull, all_pairs}
use Rattle.r4_sight.specs.declared.stretch.DataBlock.{DataBlock}
use Rattle.r4_sight.specs.declared.stretch.Stretch.{Stretch}
use Rattle.r4_units.specs.Extent.{IsUnitAt}

-- The cell holds the keys up to the end, and these are its units there.
pub record IsStretchOf (cell : Node Value) (from to : ℕ) (s : Stretch) : Type 0 where
  pub onward : from < rank s.to
  pub within : rank s.to ≤ to
  pub holds : (k : ℕ) → from ≤ k → k < rank s.to → Holds cell k
  pub pairs : all_pairs s.parts.items ≡ pairs_in cell.units from (rank s.to)
  pub rises : Rises (all_pairs s.parts.items)
  pub full : AreFull s.parts.items

-- The cell's keys end there, or, above the leaves, one of its items or a block of an extent begins there.
abbrev pub IsBorder : CellSeen → ℕ → Type 0
IsBorder c k = (k ≡ rank c.hi)
    ⊎ ((2 ≤ c.level) × (x : Item) × Contains (items_of c.block) x × (n : ℕ) × (k ≡ rank x.key + 4096 * n))

-- A cell of this kind does, up to the end or a border of it, and was met if cells of its level are kept.
pub record IsStretch (Kind : CellSeen → Type 0) (new : PoolState) (from to : ℕ) (s : Stretch) : Type 0 where
  pub cell : CellSeen
  pub is : Kind cell
  pub stands : StandsInMemory cell
  pub met : IsMet new cell
  pub of : IsStretchOf (node_of cell) from to s
  pub far : (rank s.to ≡ to) ⊎ IsBorder cell (rank s.to)

-- it is this cell, or one of the pool
abbrev pub IsItOrOf : PoolState → (here : CellSeen) → CellSeen → Type 0
IsItOrOf p here c = (c ≡ here) ⊎ IsOf p c

-- The way down to a key ends at the cell, and what it names can be asked for.
pub record IsWaysEnd (p : PoolState) (key : ℕ) (c : CellSeen) : Type 0 where
  pub level : 1 ≤ c.level
  pub from : rank c.lo ≤ key
  pub below : key < rank c.hi
  pub ends : EndsAt c key
  pub knows : KnowsNames p c
  pub met : IsMet p c

-- The cell is the block that a cell names which was met, and has the key.
pub record IsNamedBlock (p : PoolState) (key : ℕ) (c : CellSeen) : Type 0 where
  pub twig : CellSeen
  pub met : IsMet p twig
  pub name : Name
  pub named : Contains (node_of twig).names name
  pub within : InName name key
  pub is : IsNamed name c

-- Nothing was met from then on but a block with the key that such a cell names.
abbrev pub MeetsBlock : (key : ℕ) → (old new : PoolState) → Type 0
MeetsBlock key old new =
    (i : ℕ) (c : CellSeen) → new.met i ≡ Some c → old.met i ≡ None → IsNamedBlock new key c

-- Nothing was met from then on but cells that lead down from the root to the key, and a block with it.
pub record Looks (root : Root) (key : ℕ) (old new : PoolState) : Type 0 where
  pub mid : PoolState
  pub way : MeetsOn root key old mid
  pub goes : Goes mid new
  pub block : MeetsBlock key mid new

-- A cell that has the key is refused as it is asked for.
pub record IsRefusedAt (key : ℕ) (old : PoolState) (e : FetchFault) (new : PoolState) : Type 0 where
  pub at : Name
  pub within : InName at key
  pub known : IsKnown new at
  pub mid : PoolState
  pub goes : Goes old mid
  pub refused : IsRefused at mid e new

-- why nothing was seen
abbrev pub StopsAt : (key : ℕ) → (old : PoolState) → FetchFault → (new : PoolState) → Type 0
StopsAt key old (Read at faults) new = IsRefusedAt key old (Read at faults) new
StopsAt key old (Damaged at fault) new = IsRefusedAt key old (Damaged at fault) new
StopsAt key old Memory new = Unit {0}

-- The block of an extent that has a key, and the key of its first byte.
pub record IsBlockAt (it : Item) (key : ℕ) (found : DataBlock) : Type 0 where
  pub block : ℕ
  pub unit : IsUnitAt (units_of it.body) block found.unit
  pub lo : rank found.lo ≡ rank it.key + 4096 * block
  pub fits : offset_of found.lo + 4096 ≤ 2 ^ 64
  pub from : rank found.lo ≤ key
  pub below : key < rank found.lo + 4096

-- It stands in an extent of the cell.
pub record IsBlockOf (twig : CellSeen) (key : ℕ) (found : DataBlock) : Type 0 where
  pub place : ℕ
  pub item : Item
  pub is : slice_get (items_of twig.block) place ≡ Some item
  pub extent : item.plugin ≡ 5
  pub at : IsBlockAt item key found
