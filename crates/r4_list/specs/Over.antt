-- A pool that reads the tree of a content (docs/volume.md, "The content of an image").
use Rattle.std.specs.Prelude.{◌≡◌, ℕ, Some, Result, IfOk, IfErr}
use Rattle.r4_base.specs.Image.{Image, block_at}
use Rattle.r4_base.specs.Tree.{Node}
use Rattle.r4_base.specs.Value.{Content, Value}
use Rattle.r4_base.specs.Volume.{HasContent, root_of}
use Rattle.r4_cell.specs.Patch.{root_of_pair}
use Rattle.r4_cell.specs.Seen.{CellSeen, node_of}
use Rattle.r4_cell.specs.declared.change.Root.{Root}
use Rattle.r4_search.specs.Pool.{PoolState}
use Rattle.r4_search.specs.declared.pool.FetchFault.{FetchFault}
use Rattle.r4_search.specs.declared.pool.FetchFault.TheVariants.{Read, Damaged, Memory}

-- Each reached block is what its name means, and each cell that is kept is the one of its name.
pub record IsOver {n : ℕ} {image : Image} {m : Content} (c : HasContent n image m) (root : Root) (p : PoolState) : Type 0 where
  pub blocks : p.blocks ≡ c.super.block_count
  pub root_is : root_of_pair root ≡ root_of c.super
  pub meant : (i : ℕ) (d : Node Value) → c.store i ≡ Some d → p.meant i ≡ Some (block_at image i)
  pub kept : (i : ℕ) (k : CellSeen) → p.kept i ≡ Some k → (k.id ≡ i) × (c.store i ≡ Some (node_of k))

-- no block is refused
abbrev pub IsUndamaged : FetchFault → Type 0
IsUndamaged (Read at faults) = Unit {0}
IsUndamaged (Damaged at fault) = ⊥
IsUndamaged Memory = Unit {0}

-- What a call finds in a content whose tree the pool reads: it has P of it, and no block is refused.
pub record FindsOver {T : Type 0} {n : ℕ} {image : Image} {m : Content} (c : HasContent n image m) (root : Root) (result : Result T FetchFault) (new : PoolState) (P : T → Type 0) : Type 0 where
  pub over : IsOver c root new
  pub found : IfOk result P
  pub undamaged : IfErr result IsUndamaged
