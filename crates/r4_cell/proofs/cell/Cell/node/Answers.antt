use Rattle.std.proofs.Common.{◌≡◌, ◌≤◌, ◌^◌, ap, sym, subst, ◌∙◌, true}
use Rattle.std.specs.Prelude.{None}
use Rattle.r4_base.specs.Cell.{cell_fault}
use Rattle.r4_base.specs.Key.{rank}
use Rattle.r4_base.specs.Node.{node_fault}
use Rattle.r4_cell.specs.Seen.{CellSeen}
use Rattle.r4_cell.proofs.NodesAt.{no_fault, node_at}
use Rattle.r4_cell.proofs.cell.Cell.node.Goals as goal

pub of_node-requires-clause-good : goal.of_node-requires-clause-good
of_node-requires-clause-good c =
    let some = subst (λ (v : CellSeen). 1 ≤ v.level) (sym c.self.view_is) c.requires in
    let at = node_at true (2 ^ 64) c.self.inside.level (rank c.self.inside.lo) (rank c.self.inside.hi) c.self.inside.block some (no_fault _ c.self.invariant) in
    ap node_fault c.bytes.ensures.value ∙ at.accepted

pub returns-clause-stands : goal.returns-clause-stands
returns-clause-stands c = subst (λ (v : CellSeen). cell_fault true (2 ^ 64) v.level (rank v.lo) (rank v.hi) v.block ≡ None) c.self.view_is (no_fault _ c.self.invariant)
