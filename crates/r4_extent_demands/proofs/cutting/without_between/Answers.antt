use Rattle.std.proofs.Common.{List, arith, subst, sym}
use Rattle.std.specs.Prelude.{All}
use Rattle.r4_base.specs.Key.{rank}
use Rattle.r4_graft.specs.r4_branch.declared.piece.TwigPiece.{TwigPiece}
use Rattle.r4_graft.proofs.Placed.{place_within}
use Rattle.r4_extent_demands.specs.Pieces.{HasRoom}
use Rattle.r4_extent_demands.proofs.Rooms.{spliced_room}
use Rattle.r4_extent_demands.proofs.cutting.without_between.Goals as goal

pub taken_up-requires-clause-within : goal.taken_up-requires-clause-within
taken_up-requires-clause-within c =
    let within = place_within (rank c.args.range.now.to) c.args.pieces.now in
    let at = c.place_of-to.ensures in
    omega (arith, within, at)

pub splice-requires-clause-from : goal.splice-requires-clause-from
splice-requires-clause-from c =
    let within = place_within (rank c.args.range.now.from) c.args.pieces.now in
    let at = c.place_of-from.ensures in
    omega (arith, within, at)

pub splice-requires-clause-to : goal.splice-requires-clause-to
splice-requires-clause-to c =
    let within = place_within (rank c.args.range.now.to) c.args.pieces.now in
    let at = c.place_of-to.ensures in
    omega (arith, within, at)

pub returns-clause-room : goal.returns-clause-room
returns-clause-room c =
    let middle = subst (λ (ps : List TwigPiece). All HasRoom ps) (sym c.as_slice.ensures.value) c.in_ok-middle.ensures.room in
    subst (λ (ps : List TwigPiece). All HasRoom ps) (sym c.in_ok-left.ensures)
    (spliced_room c.place_of-from.result c.place_of-to.result c.as_slice.result.now c.args.pieces.now middle c.requires.room)
