use Rattle.r4_base.specs.Key.{rank}
use Rattle.r4_content.specs.Held.{edits_of}
use Rattle.r4_extent_demands.proofs.Changes.{refill_is}
use Rattle.r4_extent_demands.proofs.changing.refills.Goals as goal

pub returns-in-Some : goal.returns-in-Some
returns-in-Some c =
    let e = edits_of c.args.edits.now in
    refill_is c.args.body.now e c.args.piece.now (rank c.args.piece.now.key) c.in-Some.width c.blocks_before.result
    c.blocks_before.ensures.within c.blocks_before.ensures.none c.blocks_before.ensures.next c.in-Some.ensures.is
    (c.in-Some.ensures.hole e)
