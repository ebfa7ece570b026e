use Rattle.std.proofs.Common.{arith}
use Rattle.r4_node40.proofs.Laid.{edge_next, edges_apart}
use Rattle.r4_node40.proofs.node_mut.span_of.Goals as goal

pub returns-clause-order : goal.returns-clause-order
returns-clause-order c =
    let up = edges_apart c.args.b.now c.get16-count.result c.args.i c.args.j c.requires.laid c.get16-count.ensures c.requires.order (omega (arith, c.get16-count.ensures, c.requires.within)) in
    let here = edge_next c.get16-count.result c.args.i c.args.b.now (omega (arith, c.get16-count.ensures, c.requires.within)) in
    let there = edge_next c.get16-count.result c.args.j c.args.b.now (omega (arith, c.get16-count.ensures, c.requires.within)) in
    omega (arith, c.place_of-from.ensures.from, c.place_of-to.ensures.from, c.place_of-to.ensures.order)
