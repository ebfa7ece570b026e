use Rattle.std.proofs.Common.{◌≡◌, take}
use Rattle.r4_base.specs.Node.{mkfs_id_of}
use Rattle.r4_node40.specs.Loan.{bytes_of, with_bytes}
use Rattle.r4_path.specs.Nodes.{IsNodeOf}
use Rattle.r4_squeeze.specs.Items.{items_meant}
use Rattle.r4_squeeze.proofs.items.fill.Given as goal

abbrev pub invariant-loop-i : goal.invariant-loop-i
invariant-loop-i l = (l.node ≡ with_bytes l.initial.node (bytes_of l.node))
    × IsNodeOf l.level (take l.i (items_meant l.items)) (bytes_of l.node)
    × (mkfs_id_of (bytes_of l.node) ≡ l.mkfs_id)
