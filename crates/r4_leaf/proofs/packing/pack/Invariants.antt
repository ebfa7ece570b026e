use Rattle.std.proofs.Common.{length}
use Rattle.std.specs.Prelude.{reverse}
use Rattle.r4_base.specs.Key.{rank}
use Rattle.r4_leaf.specs.Leaves.{HaveMkfsId}
use Rattle.r4_leaf.specs.Pieces.{units_of}
use Rattle.r4_leaf.proofs.Packed.{Packing}
use Rattle.r4_leaf.proofs.packing.pack.Given as goal

abbrev pub invariant-loop-leaves : goal.invariant-loop-leaves
invariant-loop-leaves l = record {
  packing : Packing (rank l.fn.lo) l.fn.pieces.items (rank l.from) l.pieces.items l.leaves.items;
  mkfs_id : HaveMkfsId l.fn.mkfs_id l.leaves.items;
}

abbrev pub decreases-loop-leaves : goal.decreases-loop-leaves
decreases-loop-leaves l = length (units_of (reverse l.pieces.items))
