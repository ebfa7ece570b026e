use Rattle.std.proofs.Common.{[], ◌++◌, get_or, sym, ap, subst, ◌∙◌, arith, List}
use Rattle.std.specs.Prelude.{All}
use Rattle.std.proofs.lemmas.List.{take_all}
use Rattle.r4_base.specs.Key.{rank}
use Rattle.r4_graft.specs.r4_branch.declared.piece.TwigPart.TheVariants.{Pointer}
use Rattle.r4_graft.specs.r4_branch.declared.piece.TwigPiece.{TwigPiece}
use Rattle.r4_graft.specs.Splices.{parted, parted_piece}
use Rattle.r4_graft.proofs.Parts.{parted_more}
use Rattle.r4_extent_demands.specs.Pieces.{HasRoom}
use Rattle.r4_extent_demands.proofs.Rooms.{parted_room}
use Rattle.r4_extent_demands.proofs.parting.part_each.Goals as goal

-- what stands for no piece
abbrev nothing : TwigPiece
nothing = record { key = record { el = [] }; part = Pointer (record { 0 = 0 }) }

pub loop-piece-preserved : goal.loop-piece-preserved
loop-piece-preserved c =
    let lt = c.loop-piece-test.true in
    c.in_ok-add_parts.ensures
    ∙ (ap (λ ps. ps ++ parted_piece (rank c.args.key.now)
    (get_or c.args.pieces.now c.loop-piece.piece-index nothing)) c.loop-piece.invariant
    ∙ sym (parted_more (rank c.args.key.now) c.args.pieces.now c.loop-piece.piece-index nothing (omega (arith, lt))))

pub returns-clause-room : goal.returns-clause-room
returns-clause-room c =
    let ps = c.args.pieces.now in
    let k = rank c.args.key.now in
    let past = c.loop-piece-test.false in
    let all = take_all c.loop-piece.piece-index ps (omega (arith, past)) in
    subst (λ (qs : List TwigPiece). All HasRoom qs) (sym (c.loop-piece.invariant ∙ ap (parted k) all))
    (parted_room k ps c.requires)
