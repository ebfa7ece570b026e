use Rattle.std.proofs.Common.{subst}
use Rattle.r4_base.specs.Key.{offset_of}
use Rattle.r4_extent_demands.specs.Pieces.{PartHasRoom}
use Rattle.r4_extent_demands.proofs.piecing.hole_of.Goals as goal

pub returns-clause-fits : goal.returns-clause-fits
returns-clause-fits c =
    let p = c.args.piece.now in
    let room = subst (PartHasRoom (offset_of p.key)) c.in-Blocks.is c.requires.room.part in
    (c.has.ensures.body c.if-not-has.false, room.bytes)
