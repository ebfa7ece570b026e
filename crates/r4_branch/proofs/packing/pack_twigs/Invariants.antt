use Rattle.std.proofs.Common.{◌≡◌, length}
use Rattle.std.specs.Prelude.{Contains}
use Rattle.r4_base.specs.Key.{rank}
use Rattle.r4_base.specs.Node.{mkfs_id_of}
use Rattle.r4_branch.specs.declared.twig.Twig.{Twig}
use Rattle.r4_branch.proofs.Packed.{Packing}
use Rattle.r4_branch.proofs.packing.pack_twigs.Given as goal

abbrev pub invariant-loop-twigs : goal.invariant-loop-twigs
invariant-loop-twigs l = record {
  packing : Packing (rank l.fn.lo) l.fn.pieces (rank l.from) l.rest l.twigs.items;
  id : (x : Twig) → Contains l.twigs.items x → mkfs_id_of x.block ≡ l.fn.mkfs_id;
}

abbrev pub decreases-loop-twigs : goal.decreases-loop-twigs
decreases-loop-twigs l = length l.rest
