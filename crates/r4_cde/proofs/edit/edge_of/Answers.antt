use Rattle.std.proofs.Common.{take, arith}
use Rattle.r4_base.proofs.Dirs.{edge_stands}
use Rattle.r4_cde.proofs.edit.edge_of.Goals as goal

pub edge_in-requires-clause-room : goal.edge_in-requires-clause-room
edge_in-requires-clause-room c =
    let s = edge_stands (take c.args.used c.args.body.now) 0 c.requires.laid (omega arith) in
    let low = s.low in
    let high = s.high in
    omega arith
