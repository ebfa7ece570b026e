use Rattle.std.proofs.Common.{sym, ap, List, ℕ, Bor}
use Rattle.r4_cell.proofs.Faults.{no_level, no_node, node_says}
use Rattle.r4_cell.proofs.reading.fault_of_block.Goals as goal

pub returns-then-place-eq0 : goal.returns-then-place-eq0
returns-then-place-eq0 c = sym (no_level _ _ _ c.args.place.now.level c.args.b.now c.if-place-eq0.true)

pub returns-in-Ok : goal.returns-in-Ok
returns-in-Ok c = node_says _ _ _ c.args.place.now.level _ c.args.b.now _ c.if-place-eq0.false c.in-Ok.ensures.ok.0 (ap (λ (v : Bor (List ℕ)). v.now) c.in-Ok.ensures.ok.1) c.fault_of_node.ensures

pub returns-in-Err : goal.returns-in-Err
returns-in-Err c = sym (no_node _ _ _ c.args.place.now.level c.args.b.now c.in-Err.fault c.if-place-eq0.false c.in-Err.ensures.err)
