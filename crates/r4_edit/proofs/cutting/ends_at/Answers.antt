use Rattle.std.proofs.Common.{◌*◌, ◌∙◌, sym, ap, arith}
use Rattle.std.specs.Prelude.{◌==◌}
use Rattle.r4_base.specs.Key.{rank}
use Rattle.r4_path.specs.r4_branch.Pieces.{is_at}
use Rattle.r4_path.proofs.r4_branch.UnitPieces.{rank_later}
use Rattle.r4_path.proofs.CutEnds.{open_within}
use Rattle.r4_edit.proofs.cutting.ends_at.Goals as goal

pub returns : goal.returns
returns c =
    let p = c.args.piece.now in
    let w = c.in-Blocks.unit.width in
    let ends = open_within p c.in-Blocks.unit c.in-Blocks.is (omega arith) in
    c.is_same.ensures.ranks ∙ (ap (λ k. k == rank c.args.key.now) (rank_later p.key (4096 * w)) ∙ ap (λ o. is_at o (rank c.args.key.now)) (sym ends))
