use Rattle.std.proofs.Common.{ap, ◌∙◌, ◌++◌, get_or, List, sym}
use Rattle.r4_buffer.specs.Seen.{cell_at}
use Rattle.r4_cell.specs.Seen.{CellSeen}
use Rattle.r4_seal.specs.Cells.{one_cell}
use Rattle.r4_seal.proofs.Gathered.{cells_more}
use Rattle.r4_seal.proofs.gathering.cells_under.Goals as goal

pub loop-node-preserved : goal.loop-node-preserved
loop-node-preserved c =
    c.in_ok-add_under.ensures
    ∙ ap (λ (l : List CellSeen). l ++ one_cell (cell_at c.args.buffer.now (get_or c.args.nodes.now c.loop-node.node-index (record { 0 = 0 })).0)) c.loop-node.invariant
    ∙ sym (cells_more c.args.buffer.now c.args.nodes.now c.loop-node.node-index (record { 0 = 0 }) c.loop-node-test.true)
