use Rattle.std.proofs.Common.{sym, ap, subst, ◌∙◌}
use Rattle.r4_base.specs.Key.{rank}
use Rattle.r4_path.specs.r4_branch.Pieces.{Follow}
use Rattle.r4_path.specs.r4_graft.Splices.{parted}
use Rattle.r4_path.proofs.r4_graft.Parted.{parted_follow}
use Rattle.r4_path.specs.TwigPieces.{twig_pieces}
use Rattle.r4_edit.proofs.cutting.pieces_parted.Goals as goal

pub part_at-requires-2 : goal.part_at-requires-2
part_at-requires-2 c =
    let are = c.in_ok-pieces.ensures in
    let lo = rank c.args.twig.now.lo in
    let hi = rank c.args.twig.now.hi in
    let once = c.as_slice-2.ensures.value ∙ (c.in_ok-once.ensures ∙ ap (parted (rank c.args.from.now)) (c.as_slice.ensures.value ∙ are.is)) in
    (lo, hi, subst (Follow lo hi) (sym once) (parted_follow (rank c.args.from.now) lo hi (twig_pieces c.args.twig.now) (subst (Follow lo hi) are.is are.pieces.follow) c.requires.border))
