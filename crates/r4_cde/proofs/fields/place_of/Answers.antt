use Rattle.std.proofs.Common.{◌+◌, arith}
use Rattle.r4_base.proofs.Dirs.{edge_next, edge_stands}
use Rattle.r4_cde.proofs.fields.place_of.Goals as goal

pub offset_in-requires : goal.offset_in-requires
offset_in-requires c = let s = edge_stands c.args.body.now 0 c.requires.laid (omega arith) in let within = c.requires.within in let counted = c.requires.counted in omega arith

pub edge_in-requires-clause-room : goal.edge_in-requires-clause-room
edge_in-requires-clause-room c = let s = edge_stands c.args.body.now 0 c.requires.laid (omega arith) in let counted = c.requires.counted in omega arith

pub returns-clause-room : goal.returns-clause-room
returns-clause-room c =
    let step = c.requires.laid.steps c.args.i (omega arith) in
    let here = edge_next c.args.body.now c.args.i (omega arith) in
    omega arith

pub returns-clause-inside : goal.returns-clause-inside
returns-clause-inside c = let s = edge_stands c.args.body.now (c.args.i + 1) c.requires.laid (omega arith) in omega arith
