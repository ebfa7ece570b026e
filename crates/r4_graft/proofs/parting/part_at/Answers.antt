use Rattle.std.proofs.Common.{[], get_or, ◌++◌, sym, ap, ◌∙◌, arith}
use Rattle.r4_base.specs.Key.{rank}
use Rattle.r4_branch.specs.declared.piece.TwigPart.TheVariants.{Pointer}
use Rattle.r4_branch.specs.declared.piece.TwigPiece.{TwigPiece}
use Rattle.r4_graft.specs.Splices.{parted_piece}
use Rattle.r4_graft.proofs.Parts.{parted_more, sound_at}
use Rattle.r4_graft.proofs.parting.part_at.Goals as goal

-- what stands for no piece
abbrev nothing : TwigPiece
nothing = record { key = record { el = [] }; part = Pointer (record { 0 = 0 }) }

pub add_parts-requires : goal.add_parts-requires
add_parts-requires c = sound_at c.requires.0 c.requires.1 c.args.pieces.now c.loop-piece.piece-index _ c.requires.2 (let lt = c.loop-piece-test.true in omega (arith, lt))

pub loop-piece-preserved : goal.loop-piece-preserved
loop-piece-preserved c =
    let lt = c.loop-piece-test.true in
    c.in_ok-add_parts.ensures ∙ (ap (λ ps. ps ++ parted_piece (rank c.args.key.now) (get_or c.args.pieces.now c.loop-piece.piece-index nothing)) c.loop-piece.invariant ∙ sym (parted_more (rank c.args.key.now) c.args.pieces.now c.loop-piece.piece-index nothing (omega (arith, lt))))
