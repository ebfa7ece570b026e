use Rattle.std.proofs.Common.{◌≡◌, ℕ, length}
use Rattle.std.specs.Prelude.{reverse}
use Rattle.r4_base.specs.Node.{mkfs_id_of}
use Rattle.r4_node40.specs.Loan.{bytes_of, with_bytes}
use Rattle.r4_leaf.specs.Packing.{Fills}
use Rattle.r4_leaf.specs.Pieces.{Follow}
use Rattle.r4_leaf.proofs.packing.fill.Given as goal

abbrev pub invariant-loop-piece : goal.invariant-loop-piece
invariant-loop-piece l = record {
  block : l.node ≡ with_bytes l.fn.node (bytes_of l.node);
  fills : (lo hi : ℕ) → Follow lo hi (reverse l.fn.pieces.items) → Fills lo hi l.fn.pieces.items l.pieces.items (bytes_of l.node);
  mkfs_id : mkfs_id_of (bytes_of l.node) ≡ mkfs_id_of (bytes_of l.fn.node);
}

abbrev pub decreases-loop-piece : goal.decreases-loop-piece
decreases-loop-piece l = length l.pieces.items
