use Rattle.std.proofs.Common.{arith, rules, ◌+◌}
use Rattle.r4_node40.proofs.Laid.{edge_next, edge_step, edge_stands}
use Rattle.r4_node40.proofs.view.place_of.Goals as goal

pub offset_of-requires-clause-within : goal.offset_of-requires-clause-within
offset_of-requires-clause-within c =
    let s = edge_stands c.args.b.now c.args.count c.args.i c.requires.laid c.requires.counted (omega arith) in omega (arith, s.room)

pub edge_of-requires-clause-room : goal.edge_of-requires-clause-room
edge_of-requires-clause-room c =
    let s = edge_stands c.args.b.now c.args.count c.args.i c.requires.laid c.requires.counted (omega arith) in omega (arith, s.room)

pub returns : goal.returns
returns c =
    let s = edge_stands c.args.b.now c.args.count c.args.i c.requires.laid c.requires.counted (omega arith) in
    let e = edge_stands c.args.b.now c.args.count (c.args.i + 1) c.requires.laid c.requires.counted (omega arith) in
    let here = edge_next c.args.count c.args.i c.args.b.now c.requires.within in
    let step = edge_step c.args.b.now c.args.count c.args.i c.requires.laid c.requires.counted c.requires.within in
    record { from = search rules; to = search rules; order = omega (arith, c.offset_of.ensures, c.edge_of.ensures); low = omega (arith, s.low, c.offset_of.ensures); inside = omega (arith, e.high, e.start, c.edge_of.ensures) }
