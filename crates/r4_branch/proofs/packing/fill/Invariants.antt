use Rattle.std.proofs.Common.{◌≡◌, ℕ}
use Rattle.r4_base.specs.Node.{mkfs_id_of}
use Rattle.r4_node40.specs.Loan.{bytes_of, with_bytes}
use Rattle.r4_branch.specs.Packing.{Fills}
use Rattle.r4_branch.specs.Pieces.{Follow}
use Rattle.r4_branch.proofs.packing.fill.Given as goal

abbrev pub invariant-loop-i : goal.invariant-loop-i
invariant-loop-i l = record {
  block : l.node ≡ with_bytes l.fn.node (bytes_of l.node);
  id : mkfs_id_of (bytes_of l.node) ≡ mkfs_id_of (bytes_of l.fn.node);
  fills : (lo hi : ℕ) → Follow lo hi l.fn.pieces → Fills lo hi l.fn.pieces l.i (bytes_of l.node);
}
