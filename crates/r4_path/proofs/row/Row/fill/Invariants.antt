use Rattle.std.proofs.Common.{◌≡◌}
use Rattle.r4_base.specs.Node.{mkfs_id_of}
use Rattle.r4_leaf.specs.r4_node40.Loan.{bytes_of, with_bytes}
use Rattle.r4_path.specs.Nodes.{IsNodeOf}
use Rattle.r4_path.specs.Rows.{row_level, row_part}
use Rattle.r4_path.proofs.row.Row.fill.Given as goal

abbrev pub invariant-loop-i : goal.invariant-loop-i
invariant-loop-i l = (l.node ≡ with_bytes l.initial.node (bytes_of l.node))
    × IsNodeOf (row_level l.self) (row_part l.self l.from l.i) (bytes_of l.node)
    × (mkfs_id_of (bytes_of l.node) ≡ l.self.mkfs_id)
