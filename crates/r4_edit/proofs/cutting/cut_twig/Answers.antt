use Rattle.std.proofs.Common.{◌≤◌, sym, subst, ◌∙◌}
use Rattle.r4_base.specs.Key.{rank}
use Rattle.r4_edit.specs.CutBlocks.{next_key, pieces_behind}
use Rattle.r4_edit.proofs.cutting.cut_twig.Goals as goal

pub cut_parted-requires-clause-leaf : goal.cut_parted-requires-clause-leaf
cut_parted-requires-clause-leaf c d is =
    let h = c.requires.leaf d is in
    let same = c.as_slice.ensures.value ∙ c.in_ok-pieces.ensures.parted in
    (h.0, subst (λ ps. rank d.hi ≤ rank (next_key c.args.twig.now.hi (pieces_behind (rank c.args.to.now) ps))) (sym same) (h.1 c.in_ok-pieces.ensures.are))
