use Rattle.std.proofs.Common.{◌≡◌, map, take}
use Rattle.std.specs.Arc.{arc_value}
use Rattle.r4_base.specs.Node.{mkfs_id_of}
use Rattle.r4_leaf.specs.r4_node40.Loan.{bytes_of, with_bytes}
use Rattle.r4_path.specs.Nodes.{IsNodeOf, pointer_item}
use Rattle.r4_path.proofs.pointing.fill_pointers.Given as goal

abbrev pub invariant-loop-i : goal.invariant-loop-i
invariant-loop-i l = (l.node ≡ with_bytes l.initial.node (bytes_of l.node))
    × IsNodeOf l.level (take l.i (map (λ c. pointer_item (arc_value c)) l.cells)) (bytes_of l.node)
    × (mkfs_id_of (bytes_of l.node) ≡ l.mkfs_id)
